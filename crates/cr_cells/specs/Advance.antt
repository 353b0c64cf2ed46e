-- What changes make of the cells of the plain store.
use Rattle.std.specs.Prelude.{◌≡◌, ℤ, pos, ◌+ℤ◌, true, false, List, Option, Some, None, Result, Ok, Err}
use Rattle.std.specs.Ordering.{int_eq}
use Rattle.cr_lattice.specs.declared.change.Change.{Change}
use Rattle.cr_lattice.specs.declared.stamped.Stamped.{Stamped}
use Rattle.cr_cells.specs.declared.store.CellsError.{CellsError}
use Rattle.cr_cells.specs.declared.store.CellsError.TheVariants as error
use Rattle.cr_cells.specs.declared.cells.Advance.{Advance}
use Rattle.cr_cells.specs.Holding.{changes_of}
use Rattle.cr_cells.specs.Commit.{is_changed, greatest_version, cells_after}

-- the cells and the version after changes of which some come in
pub record IsAdvance (cells : List Stamped) (from : ℤ) (more : List Change) (a : Advance) : Type 0 where
  pub changed : is_changed (changes_of cells) more ≡ true
  pub room : int_eq from greatest_version ≡ false
  pub version : a.version ≡ from +ℤ pos 1
  pub after : a.cells.items ≡ cells_after cells more (from +ℤ pos 1)

-- the version after a version, unless that is the greatest: this takes no memory and no store
abbrev pub IsNext : ℤ → Result ℤ CellsError → Type 0
IsNext version (Ok next) = (int_eq version greatest_version ≡ false) × (next ≡ version +ℤ pos 1)
IsNext version (Err error.Memory) = ⊥
IsNext version (Err (error.Store f)) = ⊥
IsNext version (Err error.VersionLimit) = int_eq version greatest_version ≡ true

-- there is an advance where some change comes in, unless memory or versions run out
abbrev pub Advances : List Stamped → ℤ → List Change → Result (Option Advance) CellsError → Type 0
Advances cells version more (Ok None) = is_changed (changes_of cells) more ≡ false
Advances cells version more (Ok (Some a)) = IsAdvance cells version more a
Advances cells version more (Err error.Memory) = Unit {0}
Advances cells version more (Err (error.Store f)) = ⊥
Advances cells version more (Err error.VersionLimit) = (is_changed (changes_of cells) more ≡ true) × (int_eq version greatest_version ≡ true)
