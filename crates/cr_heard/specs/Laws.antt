-- Laws of what is heard of changes. Source: this project's own.
use Rattle.std.specs.Prelude.{◌≡◌, List, []}
use Rattle.std.specs.List.{flat_map, AllByRecursion, IsDistinct}
use Rattle.cr_lattice.specs.declared.change.Change.{Change}
use Rattle.cr_lattice.specs.declared.table.Table.{Table}
use Rattle.cr_lattice.specs.Keep.{keep, join}
use Rattle.cr_cells.specs.Tables.{IsStored, AreWellFormed, same_name}
use Rattle.cr_touched.specs.Parts.{is_key_of, part}
use Rattle.cr_world.specs.State.{by_name, heard_of_table}
use Rattle.cr_heard.specs.Touched.{AreSound, touched, heard_of_touched}

-- What is heard of changes that come in is what is heard of the keys that they touch, from what is kept of these.
abbrev pub TouchedKeysTellAll : Type 0
TouchedKeysTellAll =
    (tables : List Table) (kept more : List Change)
    → IsDistinct same_name tables → AllByRecursion IsStored tables
    → keep kept ≡ kept → AreWellFormed tables kept → AreWellFormed tables more
    → heard_of_touched kept more (touched tables more) ≡ flat_map (heard_of_table kept (join kept more)) (by_name tables)

-- What is kept of them is sound, before and after.
abbrev pub TouchedKeysAreSound : Type 0
TouchedKeysAreSound =
    (tables : List Table) (kept more : List Change)
    → IsDistinct same_name tables → AllByRecursion IsStored tables
    → keep kept ≡ kept → AreWellFormed tables kept → AreWellFormed tables more
    → AllByRecursion (λ t. AreSound (part t.definition.name (is_key_of t.keys) kept) more t) (touched tables more)

-- Where what is kept stays as it was, nothing is heard.
abbrev pub StayingSaysNothing : Type 0
StayingSaysNothing = (tables : List Table) (kept : List Change) → flat_map (heard_of_table kept kept) (by_name tables) ≡ []
