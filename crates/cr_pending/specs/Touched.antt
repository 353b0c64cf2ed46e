-- The keys that the changes of a transaction are under. Source: this project's own.
use Rattle.std.specs.Prelude.{◌≡◌, ℕ, true, List}
use Rattle.std.specs.List.{AllByRecursion}
use Rattle.cr_lattice.specs.declared.change.Change.{Change}
use Rattle.cr_lattice.specs.declared.table.Table.{Table}
use Rattle.cr_cells.specs.Tables.{AreWellFormed}
use Rattle.cr_touched.specs.Parts.{is_key_of}

-- each change is under one of the keys
abbrev pub AreUnder : List (List ℕ) → List Change → Type 0
AreUnder keys changes = AllByRecursion (λ c. is_key_of keys c.pk ≡ true) changes

-- changes of a transaction: each is well formed for one of the tables, and under one of the keys
pub record AreChanges (tables : List Table) (keys : List (List ℕ)) (changes : List Change) : Type 0 where
  pub well_formed : AreWellFormed tables changes
  pub under : AreUnder keys changes
