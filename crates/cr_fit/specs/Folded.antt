-- Names without ASCII capital letters in the definitions that statements make. Source: SQLite's "SQL As Understood By
-- SQLite", where names are the same whatever the case of their letters.
use Rattle.std.specs.Prelude.{◌≡◌, ℕ, true, ◌&&◌, List, Some, None, Ok}
use Rattle.cr_lex.specs.declared.token.Token.{Token}
use Rattle.cr_lattice.specs.declared.table.ColumnDef.{ColumnDef}
use Rattle.cr_tree.specs.declared.statement.Statement.{Statement}
use Rattle.cr_tree.specs.declared.statement.Statement.TheVariants as s
use Rattle.cr_cells.specs.Tables.{is_folded, has_folded_names}
use Rattle.cr_resolve.specs.Creates.{definition, column_def}
use Rattle.cr_statement.specs.Scripts.{next}

-- a column's name and that of its collation
abbrev pub IsFoldedColumn : ColumnDef → Type 0
IsFoldedColumn c = (is_folded c.name && is_folded c.collation) ≡ true

-- what the statement defines
abbrev pub DefinesFolded : Statement → Type 0
DefinesFolded (s.Create c) = has_folded_names (definition c) ≡ true
DefinesFolded (s.Alter a) = IsFoldedColumn (column_def None a.column)
DefinesFolded (s.Select q) = Unit {0}
DefinesFolded (s.Insert i) = Unit {0}
DefinesFolded (s.Update u) = Unit {0}
DefinesFolded (s.Delete d) = Unit {0}
DefinesFolded (s.Begin mode) = Unit {0}
DefinesFolded s.Commit = Unit {0}
DefinesFolded s.Rollback = Unit {0}

-- each statement of a script
abbrev pub NamesAreFolded : Type 0
NamesAreFolded = (source : List ℕ) (tokens : List Token) (x : Statement) (n : ℕ) → next source tokens ≡ Ok (Some (x, n)) → DefinesFolded x
