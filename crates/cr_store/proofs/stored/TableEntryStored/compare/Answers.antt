use Rattle.std.proofs.Common.{rules}
use Rattle.cr_store.specs.Stored.{table_cmp}
use Rattle.cr_cells.proofs.SortLemmas.{then_assoc}
use Rattle.cr_store.proofs.stored.TableEntryStored.compare.Goals as goal

pub returns : goal.returns
unfolding table_cmp
returns c = rw (← then_assoc, ← then_assoc) (search rules)
