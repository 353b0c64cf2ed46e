-- The changes of an open transaction. Source: this project's own.
use Rattle.std.specs.Prelude.{◌≡◌, ◌⊎◌, List, [], ◌++◌, Some, None, Result, Ok, Err}
use Rattle.cr_lattice.specs.declared.change.Change.{Change}
use Rattle.cr_lattice.specs.declared.table.Table.{Table}
use Rattle.cr_cells.specs.Tables.{first_fault}
use Rattle.cr_pending.specs.declared.pending.PendingError.{PendingError}
use Rattle.cr_pending.specs.declared.pending.PendingError.TheVariants.{Memory, OtherTables, Bad}

-- the tables that changes were added with, and the changes, in the order in which they were made
abbrev pub PendingOf : Type 0
PendingOf = List Table × List Change

-- the changes are of these tables: there is none, or these are the tables that they were added with
abbrev pub IsOf : List Table → PendingOf → Type 0
IsOf tables p = (p.1 ≡ []) ⊎ (p.0 ≡ tables)

-- why changes are not added: want of memory, other tables, or the first that is not well formed
abbrev pub IsNotAdded : PendingOf → List Table → List Change → PendingError → Type 0
IsNotAdded p tables more Memory = Unit {0}
IsNotAdded p tables more OtherTables = IsOf tables p → ⊥
IsNotAdded p tables more (Bad b) = IsOf tables p × (first_fault tables more ≡ Some b)

-- all are added behind the others, or none is and nothing is changed
abbrev pub Adds : PendingOf → List Table → List Change → Result (Unit {0}) PendingError → PendingOf → Type 0
Adds old tables more (Ok u) new = IsOf tables old × (first_fault tables more ≡ None) × (new ≡ (tables, old.1 ++ more))
Adds old tables more (Err e) new = (new ≡ old) × IsNotAdded old tables more e
