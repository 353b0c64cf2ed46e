-- That the notes of commits tell which cells came in. Source: this project's own.
use Rattle.std.specs.Prelude.{◌≡◌, ◌≤ℤ◌, ◌+ℤ◌, ℤ, pos, true, List, [], Option}
use Rattle.cr_lattice.specs.declared.change.Change.{Change}
use Rattle.cr_lattice.specs.declared.stamped.Stamped.{Stamped}
use Rattle.cr_lattice.specs.Sets.{set_of}
use Rattle.cr_cells.specs.Holding.{Holding, kept_of, stamp_cmp, since, IsSound}
use Rattle.cr_cells.specs.Marks.{Mark}
use Rattle.cr_cells.specs.Commit.{is_changed, committed}
use Rattle.cr_recent.specs.Notes.{Noted, AreNoted, Remembers, noted_above, cells_above}

-- The cells of the rows that are noted above a version are, by their stamps, all cells that are stamped above it.
abbrev pub NotesTellTheCells : Type 0
NotesTellTheCells =
    (noted : Noted) (cells : List Stamped) (version : ℤ) → AreNoted noted cells → noted.from ≤ℤ version
    → set_of stamp_cmp (cells_above cells (noted_above noted.notes version) version) ≡ since cells version

-- Where nothing is remembered from the store's version on, that is all.
abbrev pub NothingIsAbove : Type 0
NothingIsAbove = (h : Holding) → IsSound h → AreNoted (record { from = h.version; notes = [] }) h.cells

-- A commit that changes a kept change is noted, or all is forgotten up to it.
abbrev pub CommitsAreNoted : Type 0
CommitsAreNoted =
    (h : Holding) (more : List Change) (peer : Option Mark) (old new : Noted) → IsSound (committed h more peer) → is_changed (kept_of h) more ≡ true
    → AreNoted old h.cells → Remembers old new more (h.version +ℤ pos 1) → AreNoted new (committed h more peer).cells
