use Rattle.cr_cells.proofs.CommitLemmas.{none_is_new}
use Rattle.cr_cells.proofs.cells.comes_in.Goals as goal

pub returns : goal.returns
returns c = none_is_new c.args.cells.now c.args.change.now c.cell_with.result c.is_none.result c.cell_with.ensures c.is_none.ensures
