-- What is kept of some keys of a table, and the rows that it shows. Source: this project's own.
use Rattle.std.specs.Prelude.{◌≡◌, ℕ, Bool, ◌&&◌, List, map, filter}
use Rattle.std.specs.List.{list_any, flat_map}
use Rattle.cr_lattice.specs.declared.change.Change.{Change}
use Rattle.cr_lattice.specs.declared.table.TableDef.{TableDef}
use Rattle.cr_lattice.specs.Check.{same_bytes}
use Rattle.cr_lattice.specs.Keep.{keep, join}
use Rattle.cr_lattice.specs.Rows.{is_of_row, alive_keys, row, rows}
use Rattle.cr_delta.specs.Key.{key_of}
use Rattle.cr_query.specs.Query.{Row}

-- a change of the table whose key passes
abbrev pub is_at : List ℕ → (List ℕ → Bool) → Change → Bool
is_at table p c = same_bytes c.table table && p c.pk

-- the changes of the table whose keys pass
unfoldable pub part : List ℕ → (List ℕ → Bool) → List Change → List Change
part table p cs = filter (is_at table p) cs

abbrev pub keys_of : TableDef → List Row → List (List ℕ)
keys_of def rows = map (key_of def) rows

-- it is one of the keys
abbrev pub is_key_of : List (List ℕ) → List ℕ → Bool
is_key_of keys pk = list_any (same_bytes pk) keys

-- the changes of the table under the keys of these rows
abbrev pub under_keys : TableDef → List Row → List Change → List Change
under_keys def more cs = part def.name (is_key_of (keys_of def more)) cs

-- Of a part is kept what is kept and of the part.
abbrev pub PartsAreKept : Type 0
PartsAreKept = (table : List ℕ) (p : List ℕ → Bool) (s : List Change) → keep (part table p s) ≡ part table p (keep s)

abbrev pub PartsAreJoined : Type 0
PartsAreJoined = (table : List ℕ) (p : List ℕ → Bool) (xs ys : List Change) → join (part table p xs) (part table p ys) ≡ part table p (join xs ys)

-- The changes of each key, put together, are those of the part of these keys.
abbrev pub KeysMakeTheirPart : Type 0
KeysMakeTheirPart =
    (table : List ℕ) (keys : List (List ℕ)) (s : List Change)
    → keep (flat_map (λ pk. filter (is_of_row table pk) s) keys) ≡ part table (is_key_of keys) (keep s)

-- A part shows the rows of its keys, as the whole does.
abbrev pub PartsShowTheirRows : Type 0
PartsShowTheirRows =
    (def : TableDef) (p : List ℕ → Bool) (kept : List Change)
    → rows (part def.name p kept) def ≡ map (row kept def) (filter p (alive_keys kept def.name))
