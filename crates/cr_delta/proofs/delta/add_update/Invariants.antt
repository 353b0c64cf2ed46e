use Rattle.cr_delta.specs.Key.{cells_of}
use Rattle.cr_delta.specs.Steps.{changed_cell}
use Rattle.cr_delta.proofs.Remains.{Remains}
use Rattle.cr_delta.proofs.Zips.{left_of}
use Rattle.cr_delta.proofs.delta.add_update.Given as goal

abbrev pub invariant-loop-column : goal.invariant-loop-column
invariant-loop-column l = Remains (changed_cell l.def l.site l.kept l.pk) l.out.items (left_of l.column-iterator) l.fn.out.items (cells_of l.def l.row)
