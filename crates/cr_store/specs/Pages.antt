-- What a page's keys are compared with. Source: SQLite's "Datatypes In SQLite", section 4.1.
use Rattle.std.specs.Prelude.{ℕ, pos, List, Option, Some, None}
use Rattle.sqlite.specs.declared.types.Value.{Value}
use Rattle.sqlite.specs.declared.types.Value.TheVariants.{Int, Blob}

-- the key; where none is given a number, which every key is above
abbrev pub below : Option (List ℕ) → Value
below None = Int (pos 0)
below (Some key) = Blob key
