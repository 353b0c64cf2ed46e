-- The first reason in a list of tests. Source: this project's own.
use Rattle.std.specs.Prelude.{Bool, List, [], ◌∷◌, Option, Some, None, if◌then◌else◌}

-- the reason beside the first test that fails
abbrev pub first_failed : {F : Type 0} → List (Bool × F) → Option F
first_failed [] = None
first_failed (t ∷ ts) = if t.0 then first_failed ts else Some t.1
