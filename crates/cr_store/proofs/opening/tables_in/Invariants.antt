use Rattle.std.proofs.Common.{◌≡◌, take}
use Rattle.std.specs.List.{AllByRecursion}
use Rattle.cr_store.specs.Stored.{table_entries}
use Rattle.cr_store.specs.Opening.{IsReadableTable}
use Rattle.cr_store.proofs.opening.tables_in.Given as goal

abbrev pub invariant-loop-entry : goal.invariant-loop-entry
invariant-loop-entry l = (take l.entry-index l.entries ≡ table_entries 1 l.tables.items) × AllByRecursion IsReadableTable l.tables.items
