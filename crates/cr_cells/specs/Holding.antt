-- What a store of cells holds. A cell is a kept change with its stamp. Source: this project's own.
use Rattle.std.specs.Prelude.{◌≡◌, ℕ, ℤ, pos, ◌≤ℤ◌, int_lt, Bool, ◌&&◌, List, [], filter}
use Rattle.std.specs.List.{list_any, AllByRecursion, IsDistinct}
use Rattle.std.specs.declared.cmp.Ordering.{Ordering}
use Rattle.std.specs.Ordering.{int_cmp, int_eq, eq_by_cmp, on, then_cmp}
use Rattle.cr_lattice.specs.declared.change.Change.{Change}
use Rattle.cr_lattice.specs.declared.stamped.Stamped.{Stamped}
use Rattle.cr_lattice.specs.declared.table.Table.{Table}
use Rattle.cr_lattice.specs.Change.{change_cmp}
use Rattle.cr_lattice.specs.Check.{same_bytes}
use Rattle.cr_lattice.specs.Keep.{keep}
use Rattle.cr_lattice.specs.Rows.{is_of_row}
use Rattle.cr_lattice.specs.Sets.{set_of}
pub use Rattle.cr_lattice.specs.Sync.{changes_of}
use Rattle.cr_cells.specs.Tables.{same_name, IsStored, AreWellFormed}
use Rattle.cr_cells.specs.Marks.{Mark, AreMarks}

-- the tables in the order in which they came, the store's site, the version of its last commit that changed a cell,
-- the cells in the order of changes, and the marks of its peers by their sites
pub record Holding : Type 0 where
  pub tables : List Table
  pub site : List ℕ
  pub version : ℤ
  pub cells : List Stamped
  pub marks : List Mark

-- the kept changes, in the order of changes
abbrev pub kept_of : Holding → List Change
kept_of h = changes_of h.cells

-- ---- orders of cells

-- by change, then by stamp
unfoldable pub cell_cmp : Stamped → Stamped → Ordering
cell_cmp = then_cmp (on (λ s. s.change) change_cmp) (then_cmp (on (λ s. s.version) int_cmp) (on (λ s. s.seq) int_cmp))

-- by stamp, that is by version, then by place, then by change
unfoldable pub stamp_cmp : Stamped → Stamped → Ordering
stamp_cmp = then_cmp (on (λ s. s.version) int_cmp) (then_cmp (on (λ s. s.seq) int_cmp) (on (λ s. s.change) change_cmp))

abbrev pub same_stamp : Stamped → Stamped → Bool
same_stamp s t = int_eq s.version t.version && int_eq s.seq t.seq

-- the cell is there, with this stamp
unfoldable pub has_cell : List Stamped → Stamped → Bool
has_cell cells s = list_any (eq_by_cmp cell_cmp s) cells

-- ---- what is read

-- the cells that are stamped above a version, by their stamps
unfoldable pub since : List Stamped → ℤ → List Stamped
since cells version = set_of stamp_cmp (filter (λ s. int_lt version s.version) cells)

-- the cells of one row, in the order of changes
unfoldable pub cells_of : List Stamped → List ℕ → List ℕ → List Stamped
cells_of cells table pk = filter (λ s. is_of_row table pk s.change) cells

-- c is of the table
abbrev pub is_of_table : List ℕ → Change → Bool
is_of_table table c = same_bytes c.table table

-- the cells of one table, in the order of changes
unfoldable pub cells_of_table : List Stamped → List ℕ → List Stamped
cells_of_table cells table = filter (λ s. is_of_table table s.change) cells

-- ---- what every store meets

-- stamped by one of the commits up to a version
pub record IsStampedTo (version : ℤ) (s : Stamped) : Type 0 where
  pub from_1 : pos 1 ≤ℤ s.version
  pub past : s.version ≤ℤ version
  pub place : pos 0 ≤ℤ s.seq

-- What a store holds is sound: tables of distinct names and fit definitions; kept changes that none of them beats, each
-- once, well formed for a replicated table, with distinct stamps from 1 up to the version; one mark per site.
pub record IsSound (h : Holding) : Type 0 where
  pub names : IsDistinct same_name h.tables
  pub stored : AllByRecursion IsStored h.tables
  pub from_0 : pos 0 ≤ℤ h.version
  pub kept : keep (kept_of h) ≡ kept_of h
  pub stamped : AllByRecursion (IsStampedTo h.version) h.cells
  pub stamps : IsDistinct same_stamp h.cells
  pub well_formed : AreWellFormed h.tables (kept_of h)
  pub marks : AreMarks h.marks

-- a new store
abbrev pub empty_holding : List ℕ → Holding
empty_holding site = record { tables = []; site = site; version = pos 0; cells = []; marks = [] }
