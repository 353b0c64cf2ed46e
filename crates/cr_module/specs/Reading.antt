-- What a reading of tables answers. Source: "The Virtual Table Mechanism Of SQLite"; that a failure is remembered is this
-- project's own.
use Rattle.std.specs.Prelude.{ℕ, zero, suc, Bool, true, false, get_or, List, [], ◌∷◌, Result, Ok, Err}
use Rattle.cr_query.specs.Query.{Row}
use Rattle.cr_module.specs.declared.source.ReadFault.{ReadFault}
use Rattle.cr_module.specs.declared.source.ReadFault.TheVariants.{Memory, Store}

-- what the rows stand in failed
abbrev pub is_failure : {X : Type 0} → Result X ReadFault → Bool
is_failure (Ok x) = false
is_failure (Err Memory) = false
is_failure (Err Store) = true

-- the table of a number among lists of rows
abbrev pub table_at : ℕ → List (List Row) → List Row
table_at n tables = get_or tables n []

-- the rows of so many tables, from the one of a number on
abbrev pub tables_between : (ℕ → List Row) → ℕ → ℕ → List (List Row)
tables_between rows n zero = []
tables_between rows n (suc count) = rows n ∷ tables_between rows (suc n) count
