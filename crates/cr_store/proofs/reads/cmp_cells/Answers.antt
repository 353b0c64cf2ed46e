use Rattle.std.proofs.Common.{refl}
use Rattle.cr_cells.specs.Holding.{cell_cmp}
use Rattle.cr_cells.proofs.SortLemmas.{then_assoc}
use Rattle.cr_store.proofs.reads.cmp_cells.Goals as goal

pub returns : goal.returns
unfolding cell_cmp
returns c = rw (c.then-2.ensures, c.then.ensures, c.cmp_changes.ensures, c.cmp.ensures, c.cmp-2.ensures, then_assoc) refl
