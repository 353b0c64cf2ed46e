use Rattle.cr_pieces.proofs.Blobs.{blob_piece}
use Rattle.cr_pieces.proofs.laws.blobs_are_pieces.Goals as goal

pub returns : goal.returns
returns c = blob_piece
