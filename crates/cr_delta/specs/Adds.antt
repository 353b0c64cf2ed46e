-- What a step of a write adds to the changes before it.
use Rattle.std.specs.Prelude.{◌≡◌, true, false, ℤ, pos, ◌+ℤ◌, List, ◌++◌, Result, Ok, Err}
use Rattle.cr_lattice.specs.declared.change.Change.{Change}
use Rattle.cr_delta.specs.Delta.{is_past_limit, passes_limit}
use Rattle.cr_delta.specs.declared.error.DeltaError.{DeltaError}
use Rattle.cr_delta.specs.declared.error.DeltaError.TheVariants.{Memory, VersionLimit}

-- one more, where the limit is not passed; it takes no memory
abbrev pub IsNext : Result ℤ DeltaError → ℤ → Type 0
IsNext (Ok m) n = (m ≡ n +ℤ pos 1) × (is_past_limit m ≡ false)
IsNext (Err Memory) n = ⊥
IsNext (Err VersionLimit) n = is_past_limit (n +ℤ pos 1) ≡ true

-- more stands behind what was there, where it passes no limit
abbrev pub Adds : Result (Unit {0}) DeltaError → List Change → List Change → List Change → Type 0
Adds (Ok u) old new more = (new ≡ old ++ more) × (passes_limit more ≡ false)
Adds (Err Memory) old new more = Unit {0}
Adds (Err VersionLimit) old new more = passes_limit more ≡ true
