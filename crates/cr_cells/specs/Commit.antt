-- What a commit leaves. Source: this project's own; the kept changes are what no committed change beats.
use Rattle.std.specs.Prelude.{◌^◌, ◌-◌, ℤ, pos, ◌+ℤ◌, Bool, true, false, not, ◌&&◌, List, [], ◌∷◌, ◌++◌, filter, Option, if◌then◌else◌}
use Rattle.std.specs.List.{list_any, flat_map}
use Rattle.std.specs.Ordering.{eq_by_cmp}
use Rattle.cr_lattice.specs.declared.change.Change.{Change}
use Rattle.cr_lattice.specs.declared.stamped.Stamped.{Stamped}
use Rattle.cr_lattice.specs.Change.{change_cmp, beats}
use Rattle.cr_lattice.specs.Keep.{has, is_beaten, join}
use Rattle.cr_lattice.specs.Sets.{set_of}
use Rattle.cr_cells.specs.Marks.{Mark, marks_after}
use Rattle.cr_cells.specs.Holding.{Holding, changes_of, kept_of, cell_cmp}

-- the changes that come in: kept with the others, and not kept before, in the order of changes
unfoldable pub newly_kept : List Change → List Change → List Change
newly_kept kept more = filter (λ c. not (has kept c)) (join kept more)

-- there is none
abbrev pub is_none : {X : Type 0} → List X → Bool
is_none [] = true
is_none (x ∷ xs) = false

-- the change is not kept, and no kept change beats it
abbrev pub is_new : List Change → Change → Bool
is_new kept c = not (has kept c) && not (is_beaten kept c)

-- the same by the cells of its row, which are all that it takes
abbrev pub is_new_in : List Stamped → Change → Bool
is_new_in row c = not (list_any (λ s. eq_by_cmp change_cmp c s.change) row) && not (list_any (λ s. beats s.change c) row)

-- some change comes in: then, and only then, the kept changes are others than before
unfoldable pub is_changed : List Change → List Change → Bool
is_changed kept more = list_any (λ c. not (has kept c)) (join kept more)

-- changes that come in at a version, with their places from seq on
abbrev pub stamped : ℤ → ℤ → List Change → List Stamped
stamped version seq [] = []
stamped version seq (c ∷ cs) = record { change = c; version = version; seq = seq } ∷ stamped version (seq +ℤ pos 1) cs

-- the cells whose changes are still kept, as they are
abbrev pub still_kept : List Stamped → List Change → List Stamped
still_kept cells more = filter (λ s. has (join (changes_of cells) more) s.change) cells

-- the cells that are still kept, and those that come in at the version, from place 0 on, in the order of changes
unfoldable pub cells_after : List Stamped → List Change → ℤ → List Stamped
cells_after cells more version = set_of cell_cmp (still_kept cells more ++ stamped version (pos 0) (newly_kept (changes_of cells) more))

-- the greatest version
abbrev pub greatest_version : ℤ
greatest_version = pos (2 ^ 63 - 1)

-- what a store holds after a commit: it is one version on where the kept changes are others than before,
-- and keeps the peer's mark in either case
abbrev pub committed : Holding → List Change → Option Mark → Holding
committed h more peer = record h {
  version = (if is_changed (kept_of h) more then h.version +ℤ pos 1 else h.version);
  cells = cells_after h.cells more (h.version +ℤ pos 1);
  marks = marks_after h.marks peer;
}

-- a commit's changes and mark
abbrev pub Batch : Type 0
Batch = List Change × Option Mark

-- what a store holds after commits, one after another
abbrev pub after_all : Holding → List Batch → Holding
after_all h [] = h
after_all h (b ∷ bs) = after_all (committed h b.0 b.1) bs

-- all that was committed
abbrev pub all_changes : List Batch → List Change
all_changes bs = flat_map (λ b. b.0) bs
