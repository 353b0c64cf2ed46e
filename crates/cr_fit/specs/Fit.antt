-- Tables that CREATE TABLE defines, and what a store asks of a table. Source: this project's own profile.
use Rattle.std.specs.Prelude.{◌≡◌, true, false, []}
use Rattle.cr_tree.specs.declared.statement.Create.{Create}
use Rattle.cr_cells.specs.Tables.{IsNewTable, has_folded_names}
use Rattle.cr_resolve.specs.Known.{Known}
use Rattle.cr_resolve.specs.Creates.{create, definition, is_taken}

-- where nothing stands against a CREATE TABLE with folded names, and its name is new, a store takes its table
abbrev pub CreatedAreNew : Type 0
CreatedAreNew = (known : Known) (c : Create) → has_folded_names (definition c) ≡ true → (create known c).bad ≡ [] → is_taken known c ≡ false
    → IsNewTable known.catalog.tables (definition c)
