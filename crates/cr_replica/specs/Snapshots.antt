-- What a replica holds at a moment. Source: this project's own.
use Rattle.std.specs.Prelude.{◌≡◌, ◌≤◌, ℕ, pos, Bool, true, ◌&&◌, List, [], length, map, filter, Option}
use Rattle.std.specs.Option.{ForSome, is_none}
use Rattle.std.specs.List.{list_all, flat_map}
use Rattle.cr_lattice.specs.declared.change.Change.{Change}
use Rattle.cr_lattice.specs.declared.table.Table.{Table}
use Rattle.cr_lattice.specs.Keep.{keep}
use Rattle.cr_lattice.specs.Check.{same_bytes}
use Rattle.cr_lattice.specs.Profile.{profile_fault}
use Rattle.cr_lattice.specs.Rows.{keys_in_order}
use Rattle.cr_cells.specs.Holding.{Holding, changes_of, kept_of, cells_of, cells_of_table, since}
use Rattle.cr_cells.specs.Pages.{between}
use Rattle.cr_replica.specs.declared.page.KeptPage.{KeptPage}
use Rattle.cr_replica.specs.declared.snapshot.Snapshot.{Snapshot}

-- the tables, the site and the version that the replica holds, and no modules: those are a host's
pub record HasNamesOf (h : Holding) (s : Snapshot) : Type 0 where
  pub tables : s.tables ≡ h.tables
  pub site : s.site ≡ h.site
  pub version : s.version ≡ h.version
  pub no_modules : s.modules ≡ []

-- the cells that it holds, and the changes that it keeps
pub record HasCellsOf (h : Holding) (s : Snapshot) : Type 0 where
  pub cells : s.cells ≡ since h.cells (pos 0)
  pub kept : s.kept ≡ kept_of h

-- the tables, the site, the version and the modules of another snapshot
pub record IsOfNames (names s : Snapshot) : Type 0 where
  pub tables : s.tables ≡ names.tables
  pub site : s.site ≡ names.site
  pub version : s.version ≡ names.version
  pub modules : s.modules ≡ names.modules

-- ---- some keys of a table

-- the kept changes of each key, one key after the other
abbrev pub changes_of_keys : Holding → List ℕ → List (List ℕ) → List Change
changes_of_keys h table keys = flat_map (λ pk. changes_of (cells_of h.cells table pk)) keys

-- the same in the order of changes, each once
abbrev pub kept_of_keys : Holding → List ℕ → List (List ℕ) → List Change
kept_of_keys h table keys = keep (changes_of_keys h table keys)

-- ---- some tables

-- the kept changes of each table, one table after the other
abbrev pub changes_of_tables : Holding → List (List ℕ) → List Change
changes_of_tables h tables = flat_map (λ table. changes_of (cells_of_table h.cells table)) tables

-- the same in the order of changes, each once
abbrev pub kept_of_tables : Holding → List (List ℕ) → List Change
kept_of_tables h tables = keep (changes_of_tables h tables)

-- ---- a page of a table

-- a change of the table whose key lies above the one key, up to the other
abbrev pub is_between : List ℕ → Option (List ℕ) → Option (List ℕ) → Change → Bool
is_between table after bound c = same_bytes c.table table && between after bound c.pk

-- the keys of changes, by their bytes, each once
abbrev pub keys_of : List Change → List (List ℕ)
keys_of cs = keys_in_order (map (λ c. c.pk) cs)

-- What is kept of the first keys of a table above a key, at least as many as are asked for, and a key up to which that is; without
-- such a key it is all that is left.
pub record IsKeptPage (h : Holding) (table : List ℕ) (after : Option (List ℕ)) (limit : ℕ) (page : KeptPage) : Type 0 where
  pub kept : page.kept.items ≡ filter (is_between table after page.bound) (kept_of h)
  pub keys : ForSome page.bound (λ bound. limit ≤ length (keys_of page.kept.items))

-- ---- whatever a store gave

abbrev pub is_in_profile : Table → Bool
is_in_profile t = is_none (profile_fault t.definition)

-- its tables are in the profile, no change is kept that another beats, and it lists no module
pub record IsWhole (s : Snapshot) : Type 0 where
  pub tables : list_all is_in_profile s.tables ≡ true
  pub kept : keep s.kept ≡ s.kept
  pub no_modules : s.modules ≡ []
