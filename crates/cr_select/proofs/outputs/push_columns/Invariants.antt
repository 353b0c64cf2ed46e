use Rattle.std.proofs.Common.{◌≡◌, ◌++◌, ◌+◌, [], map, drop}
use Rattle.cr_resolve.specs.Scope.{columns_from}
use Rattle.cr_select.specs.Outputs.{shown_column}
use Rattle.cr_select.proofs.outputs.push_columns.Given as goal

abbrev pub invariant-loop-place : goal.invariant-loop-place
invariant-loop-place l =
    l.outputs ++ map shown_column (columns_from [] l.source l.place (l.from + l.place) (drop l.place l.columns)) ≡ l.fn.outputs ++ map shown_column (columns_from [] l.source 0 l.from l.columns)
