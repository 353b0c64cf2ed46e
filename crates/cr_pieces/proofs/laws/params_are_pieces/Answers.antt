use Rattle.cr_pieces.proofs.Digits.{param_piece}
use Rattle.cr_pieces.proofs.laws.params_are_pieces.Goals as goal

pub returns : goal.returns
returns c = param_piece
