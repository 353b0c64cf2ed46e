use Rattle.cr_pieces.proofs.Words.{word_piece}
use Rattle.cr_pieces.proofs.laws.words_are_pieces.Goals as goal

pub returns : goal.returns
returns c = word_piece
