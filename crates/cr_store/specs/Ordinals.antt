-- The ordinals of tables: their places in the list, counted from 1.
use Rattle.std.specs.Prelude.{◌≡◌, ℕ, zero, suc, ℤ, pos, negsuc, Bool, true, List, Option, Some, None, slice_get}
use Rattle.std.specs.List.{list_any, position_or_len}
use Rattle.std.specs.Option.{option_map, option_and_then}
use Rattle.cr_lattice.specs.declared.table.Table.{Table}
use Rattle.cr_lattice.specs.declared.stamped.Stamped.{Stamped}
use Rattle.cr_cells.specs.Tables.{is_named}

-- the place of the table of a name, counted from 1; a name that no table has gets the place behind the last
abbrev pub ordinal : List Table → List ℕ → ℤ
ordinal ts name = pos (suc (position_or_len (is_named name) ts))

-- the place from 0 that an ordinal stands for
abbrev pub place_of : ℤ → Option ℕ
place_of (pos zero) = None
place_of (pos (suc n)) = Some n
place_of (negsuc n) = None

-- the name of the table of an ordinal, if it is one's
abbrev pub name_at : List Table → ℤ → Option (List ℕ)
name_at ts n = option_and_then (λ place. option_map (λ t. t.definition.name) (slice_get ts place)) (place_of n)

-- a table of that name is there
abbrev pub has_table : List Table → List ℕ → Bool
has_table ts name = list_any (is_named name) ts

-- the cell's table is there
abbrev pub IsNamed : List Table → Stamped → Type 0
IsNamed ts s = has_table ts s.change.table ≡ true
