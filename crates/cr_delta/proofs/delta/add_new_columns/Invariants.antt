use Rattle.std.proofs.Common.{◌≡◌, ◌++◌}
use Rattle.std.specs.List.{flat_map}
use Rattle.cr_delta.specs.Key.{cells_of}
use Rattle.cr_delta.specs.Steps.{new_cell}
use Rattle.cr_delta.proofs.Zips.{left_of}
use Rattle.cr_delta.proofs.delta.add_new_columns.Given as goal

abbrev pub invariant-loop-column : goal.invariant-loop-column
invariant-loop-column l =
    l.out.items ++ flat_map (new_cell l.def l.site l.pk l.cl) (left_of l.column-iterator)
    ≡ l.fn.out.items ++ flat_map (new_cell l.def l.site l.pk l.cl) (cells_of l.def l.row)
