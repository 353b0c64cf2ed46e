-- What a listener hears of the rows of a table, as they were and as they are.
-- Source: "Data Change Notification Callbacks" of SQLite's C interface tells of inserted, deleted and updated rows; that a
-- row is told by its key, and only where what it shows changed, is this project's own.
use Rattle.std.specs.Prelude.{ℕ, Bool, true, ◌&&◌, List, [], ◌∷◌, ◌++◌, map, find, Option, Some, None, if◌then◌else◌}
use Rattle.std.specs.List.{filter_map, AllByRecursion}
use Rattle.std.specs.List.Sorted.{IsStrictlySortedBy}
use Rattle.std.specs.Option.{option_map}
use Rattle.std.specs.Ordering.{is_eq, is_lt}
use Rattle.std.specs.Cmp.Lexicographic.{slice_cmp}
use Rattle.cr_value.specs.declared.value.Value.{Value}
use Rattle.cr_value.specs.Order.{bytes_cmp, value_cmp}
use Rattle.cr_lattice.specs.declared.table.TableDef.{TableDef}
use Rattle.cr_lattice.specs.Check.{same_bytes}
use Rattle.cr_lattice.specs.Rows.{keys_in_order}
use Rattle.cr_delta.specs.Key.{key_of, HasKey}
use Rattle.cr_guard.specs.declared.event.EventKind.{EventKind}
use Rattle.cr_guard.specs.declared.event.EventKind.TheVariants.{Appeared, Gone, Changed}
use Rattle.cr_guard.specs.declared.event.Event.{Event}
use Rattle.cr_guard.specs.declared.heard.TableRows.{TableRows}

-- rows that have keys, by the bytes of their packed keys
pub record AreByKey (def : TableDef) (rows : List (List Value)) : Type 0 where
  pub keys : AllByRecursion (HasKey def) rows
  pub in_order : IsStrictlySortedBy bytes_cmp (map (key_of def) rows)

-- each key is below the next
abbrev pub are_rising : List (List ℕ) → Bool
are_rising [] = true
are_rising (k ∷ []) = true
are_rising (k ∷ l ∷ ks) = is_lt (bytes_cmp k l) && are_rising (l ∷ ks)

-- the row under a key
abbrev pub row_at : TableDef → List (List Value) → List ℕ → Option (List Value)
row_at def rows pk = find (λ row. same_bytes (key_of def row) pk) rows

-- two rows show the same values
abbrev pub same_row : List Value → List Value → Bool
same_row a b = is_eq (slice_cmp value_cmp a b)

-- what became of the row under a key: it appeared, it went, or it shows other values
abbrev pub became : Option (List Value) → Option (List Value) → Option EventKind
became None None = None
became None (Some after) = Some Appeared
became (Some before) None = Some Gone
became (Some before) (Some after) = if same_row before after then None else Some Changed

abbrev pub event : List ℕ → List ℕ → EventKind → Event
event table pk kind = record { kind = kind; table = table; pk = pk }

-- what is heard of a key
abbrev pub event_at : TableDef → List (List Value) → List (List Value) → List ℕ → Option Event
event_at def before after pk = option_map (event def.name pk) (became (row_at def before pk) (row_at def after pk))

-- the keys of the rows before and after, by their bytes, each once
abbrev pub keys_of_both : TableDef → List (List Value) → List (List Value) → List (List ℕ)
keys_of_both def before after = keys_in_order (map (key_of def) before ++ map (key_of def) after)

-- what is heard of a table, key by key
unfoldable pub heard : TableDef → List (List Value) → List (List Value) → List Event
heard def before after = filter_map (event_at def before after) (keys_of_both def before after)

-- ---- several tables

abbrev pub heard_of : TableRows → List Event
heard_of t = heard t.definition t.before t.after

abbrev pub HasRowsByKey : TableRows → Type 0
HasRowsByKey t = AreByKey t.definition t.before × AreByKey t.definition t.after
