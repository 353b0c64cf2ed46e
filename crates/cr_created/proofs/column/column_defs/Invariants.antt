use Rattle.std.proofs.Common.{◌≡◌, drop}
use Rattle.cr_created.specs.Drafts.{columns_read}
use Rattle.cr_created.proofs.Drafted.{behind}
use Rattle.cr_created.proofs.column.column_defs.Given as goal

abbrev pub invariant-loop-column : goal.invariant-loop-column
invariant-loop-column l = behind l.key l.definitions.items (drop l.column-index l.columns) ≡ columns_read l.key l.columns
