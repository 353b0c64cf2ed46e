use Rattle.cr_cells.proofs.CommitLemmas.{changes_of-cells_after}
use Rattle.cr_cells.proofs.LawLemmas.{stays-after, comes-after}
use Rattle.cr_cells.proofs.laws.cells_keep_their_stamps.Goals as goal

pub returns : goal.returns
returns c = record { kept = changes_of-cells_after; stays = stays-after; comes = comes-after }
