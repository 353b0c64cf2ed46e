use Rattle.cr_cells.proofs.LawLemmas.{has_cell-since, changes-since, since-all}
use Rattle.cr_cells.proofs.laws.since_lists_the_cells_above.Goals as goal

pub returns : goal.returns
returns c = record { cell = has_cell-since; changes = changes-since; all = since-all }
