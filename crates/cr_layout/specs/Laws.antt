-- What holds of all definitions and the bytes that spell them. Source: this project's own format 1.
use Rattle.std.specs.Prelude.{◌≡◌, ℕ, List, Some}
use Rattle.cr_lattice.specs.declared.table.TableDef.{TableDef}
use Rattle.cr_layout.specs.Definition.{definition}
use Rattle.cr_layout.specs.Written.{IsWritten, Spells}
use Rattle.cr_layout.specs.Reading.{definition_of}

-- for a table of one name bytes spell at most one definition
abbrev pub OneDefinition : Type 0
OneDefinition = (bytes table : List ℕ) (d e : TableDef) → Spells bytes table d → Spells bytes table e → d ≡ e

-- what is written is read back
abbrev pub AreReadBack : Type 0
AreReadBack = (d : TableDef) → IsWritten d → definition_of d.name (definition d) ≡ Some d
