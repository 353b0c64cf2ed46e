use Rattle.cr_pieces.proofs.Quoted.{string_piece}
use Rattle.cr_pieces.proofs.laws.strings_are_pieces.Goals as goal

pub returns : goal.returns
returns c = string_piece
