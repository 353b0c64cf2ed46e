-- The rows that a table shows of what is kept, and that nothing stands against them. Source: this project's own.
use Rattle.std.specs.Prelude.{◌≡◌, true, false, List}
use Rattle.cr_lattice.specs.declared.change.Change.{Change}
use Rattle.cr_lattice.specs.declared.table.TableDef.{TableDef}
use Rattle.cr_lattice.specs.Keep.{keep}
use Rattle.cr_lattice.specs.Profile.{has_key}
use Rattle.cr_lattice.specs.Rows.{alive_keys, rows}
use Rattle.cr_cells.specs.Tables.{has_defaults}
use Rattle.cr_delta.specs.Wanted.{AreWellFormed}
use Rattle.cr_query.specs.Writes.{has_twice, has_long_key, lacks_value}
use Rattle.cr_touched.specs.Parts.{keys_of}

-- What is kept of a table as a store keeps it: changes that none of them beats, each well formed for the table or of another
-- table.
pub record AreKeptOf (def : TableDef) (kept : List Change) : Type 0 where
  pub unbeaten : keep kept ≡ kept
  pub well_formed : AreWellFormed def kept

-- each shown row has the key that it is kept under, and nothing stands against them
pub record AreSoundlyShown (def : TableDef) (kept : List Change) : Type 0 where
  pub keys : keys_of def (rows kept def) ≡ alive_keys kept def.name
  pub short : has_long_key def (rows kept def) ≡ false
  pub whole : lacks_value def (rows kept def) ≡ false
  pub once : has_twice def (rows kept def) ≡ false

abbrev pub ShownRowsAreSound : Type 0
ShownRowsAreSound = (def : TableDef) (kept : List Change) → has_key def ≡ true → has_defaults def ≡ true → AreKeptOf def kept → AreSoundlyShown def kept
