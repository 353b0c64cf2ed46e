use Rattle.std.proofs.Common.{◌≡◌, ◌++◌, take, All}
use Rattle.std.specs.List.{flat_map}
use Rattle.cr_layout.specs.Definition.{column_bytes}
use Rattle.cr_layout.specs.Written.{FitsColumn}
use Rattle.cr_layout.proofs.definition.push_columns.Given as goal

abbrev pub invariant-loop-column : goal.invariant-loop-column
invariant-loop-column l = record {
  spelled : l.out.items ≡ l.fn.out.items ++ flat_map column_bytes (take l.column-index l.columns);
  fits : All FitsColumn (take l.column-index l.columns);
}
