use Rattle.cr_cells.proofs.LawLemmas.{kept-after_all, kept-from_empty}
use Rattle.cr_cells.proofs.laws.cells_are_what_is_kept.Goals as goal

pub returns : goal.returns
returns c = record { from_any = kept-after_all; from_empty = kept-from_empty }
