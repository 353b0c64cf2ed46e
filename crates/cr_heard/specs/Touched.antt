-- The keys that changes touch, and what a listener hears of them. Source: this project's own.
use Rattle.std.specs.Prelude.{◌≡◌, ℕ, true, List, [], ◌∷◌, map, filter, find, Option, Some, None, if◌then◌else◌}
use Rattle.std.specs.List.{flat_map, filter_map}
use Rattle.cr_lattice.specs.declared.change.Change.{Change}
use Rattle.cr_lattice.specs.declared.table.Table.{Table}
use Rattle.cr_lattice.specs.declared.table.TableDef.{TableDef}
use Rattle.cr_lattice.specs.Keep.{join}
use Rattle.cr_lattice.specs.Profile.{has_key}
use Rattle.cr_lattice.specs.Rows.{keys_in_order, rows}
use Rattle.cr_cells.specs.Holding.{is_of_table}
use Rattle.cr_cells.specs.Tables.{has_defaults, is_named}
use Rattle.cr_guard.specs.declared.event.Event.{Event}
use Rattle.cr_guard.specs.Heard.{AreByKey, heard}
use Rattle.cr_touched.specs.Parts.{is_key_of, part}
use Rattle.cr_touched.specs.Shown.{AreKeptOf}
use Rattle.cr_world.specs.State.{by_name}
use Rattle.cr_heard.specs.declared.touched.Touched.{Touched}

-- the keys under which changes of the table stand, by their bytes, each once
unfoldable pub touched_keys : List ℕ → List Change → List (List ℕ)
touched_keys table cs = keys_in_order (map (λ c. c.pk) (filter (is_of_table table) cs))

-- the table with these keys, if there are any
abbrev pub some_keys : TableDef → List (List ℕ) → Option Touched
some_keys def [] = None
some_keys def (k ∷ ks) = Some (record { definition = def; keys = k ∷ ks })

-- of a replicated table, the keys under which some of the changes stand, if there are any
unfoldable pub touched_of : List Change → Table → Option Touched
touched_of cs t = if t.is_replicated then some_keys t.definition (touched_keys t.definition.name cs) else None

-- of each replicated table, by its name, the keys under which some of the changes stand; tables without any are left out
unfoldable pub touched : List Table → List Change → List Touched
touched tables cs = filter_map (touched_of cs) (by_name tables)

-- ---- the table of a name

abbrev pub touched_there : List Change → Option Table → Option Touched
touched_there cs None = None
touched_there cs (Some t) = touched_of cs t

-- of the table of a name, if it is there and replicated, the keys under which some of the changes stand, if there are any
unfoldable pub touched_named : List Table → List Change → List ℕ → Option Touched
touched_named tables cs name = touched_there cs (find (is_named name) (by_name tables))

-- ---- what is heard

-- what is heard of these keys, where that is kept of them and these changes come in
abbrev pub heard_of_keys : List Change → List Change → Touched → List Event
heard_of_keys kept more t = heard t.definition (rows kept t.definition) (rows (join kept more) t.definition)

-- the same of each of them, from all that is kept
abbrev pub heard_of_touched : List Change → List Change → List Touched → List Event
heard_of_touched kept more ts = flat_map (λ t. heard_of_keys (part t.definition.name (is_key_of t.keys) kept) more t) ts

-- the rows that are shown before and after stand by their keys
abbrev pub AreShownByKey : List Change → List Change → Touched → Type 0
AreShownByKey kept more t = AreByKey t.definition (rows kept t.definition) × AreByKey t.definition (rows (join kept more) t.definition)

-- the table has a key and its defaults, and what is kept of it is as a store keeps it
pub record IsSoundOf (def : TableDef) (kept : List Change) : Type 0 where
  pub key : has_key def ≡ true
  pub defaults : has_defaults def ≡ true
  pub are : AreKeptOf def kept

-- so it is before the changes come in, and after
abbrev pub AreSound : List Change → List Change → Touched → Type 0
AreSound kept more t = IsSoundOf t.definition kept × IsSoundOf t.definition (join kept more)
