-- The rows that commits touched, and what of a store's cells they tell. Source: this project's own.
use Rattle.std.specs.Prelude.{◌≡◌, ◌+◌, ℤ, Bool, true, not, ◌&&◌, nat_lt, int_lt, List, [], ◌++◌, length, map, filter, Option, Some, None, ◌⊎◌}
use Rattle.std.specs.List.{list_any, flat_map, AllByRecursion}
use Rattle.std.specs.declared.vec.Vec.{Vec}
use Rattle.std.specs.declared.alloc.Global.{Global}
use Rattle.std.specs.declared.cmp.Ordering.{Ordering}
use Rattle.std.specs.Ordering.{int_eq, on, then_cmp}
use Rattle.cr_value.specs.Order.{bytes_cmp}
use Rattle.cr_lattice.specs.declared.change.Change.{Change}
use Rattle.cr_lattice.specs.declared.stamped.Stamped.{Stamped}
use Rattle.cr_lattice.specs.Rows.{is_of_row}
use Rattle.cr_lattice.specs.Sets.{set_of}
use Rattle.cr_cells.specs.Holding.{cells_of}
use Rattle.cr_recent.specs.declared.keys.Key.{Key}
use Rattle.cr_recent.specs.declared.notes.Note.{Note}
use Rattle.cr_recent.specs.declared.notes.TheConstants.{ROWS}

-- ---- keys

-- by table, then by packed key
abbrev pub key_cmp : Key → Key → Ordering
key_cmp = then_cmp (on (λ k. k.table) bytes_cmp) (on (λ k. k.pk) bytes_cmp)

-- the key of a change's row
abbrev pub key_of : Change → Key
key_of c = record { table = c.table; pk = c.pk }

-- the keys of the rows that changes touch, in order, each once
unfoldable pub touched : List Change → List Key
touched changes = set_of key_cmp (map key_of changes)

-- the cells of some rows that are stamped above a version, row by row
unfoldable pub cells_above : List Stamped → List Key → ℤ → List Stamped
cells_above cells keys version = flat_map (λ k. filter (λ s. int_lt version s.version) (cells_of cells k.table k.pk)) keys

-- ---- notes

-- the version above which each commit is noted, and the notes
pub record Noted : Type 0 where
  pub from : ℤ
  pub notes : List Note

abbrev pub notes_in : Option (Vec Note Global) → List Note
notes_in None = []
notes_in (Some v) = v.items

-- a note of each row that a commit touched
unfoldable pub notes_at : ℤ → List Key → List Note
notes_at version keys = map (λ k. record { key = k; version = version }) keys

-- the keys of the rows that are noted above a version, in order, each once
unfoldable pub noted_above : List Note → ℤ → List Key
noted_above notes version = set_of key_cmp (map (λ n. n.key) (filter (λ n. int_lt version n.version) notes))

-- the rows of the changes may be noted beside the others, even where each change is of another row
abbrev pub has_room : List Note → List Change → Bool
has_room notes changes = not (nat_lt ROWS (length notes + length changes))

-- A commit is noted beside the others where there is room. All is forgotten where there is none, and may be where there is,
-- for want of memory.
abbrev pub Remembers : Noted → Noted → List Change → ℤ → Type 0
Remembers old new changes version =
    ((has_room old.notes changes ≡ true) × (new ≡ record old { notes = old.notes ++ notes_at version (touched changes) }))
    ⊎ (new ≡ record { from = version; notes = [] })

-- ---- what they tell

-- the note is of the cell's row, at the version of its stamp
abbrev pub is_note_of : Stamped → Note → Bool
is_note_of s n = is_of_row n.key.table n.key.pk s.change && int_eq n.version s.version

-- each cell that is stamped above a version has its note
unfoldable pub AreNoted : Noted → List Stamped → Type 0
AreNoted noted cells = AllByRecursion (λ s. int_lt noted.from s.version ≡ true → list_any (is_note_of s) noted.notes ≡ true) cells
