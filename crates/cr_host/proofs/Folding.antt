-- A fold of an aggregate by its steps.
use Rattle.std.proofs.Common.{◌≡◌, ℕ, List, Option, Some, None, Result}
use Rattle.cr_value.specs.declared.value.Value.{Value}
use Rattle.cr_value.specs.declared.value.Value.TheVariants.{Null}
use Rattle.cr_host.specs.declared.function.Definition.{Definition}
use Rattle.cr_host.specs.declared.function.Definition.TheVariants.{Scalar, Aggregate}
use Rattle.cr_host.specs.Meets.{held_after}

-- where there is an aggregate, that holds of its number
abbrev pub OfAggregate : Option Definition → (ℕ → Type 0) → Type 0
OfAggregate (Some (Aggregate n)) P = P n
OfAggregate (Some (Scalar n)) P = Unit {0}
OfAggregate None P = Unit {0}

-- what is held, and the rows that are left, lead to what all rows lead to
abbrev pub HoldsSoFar : (ℕ → Value → List Value → Result Value (List ℕ)) → List (List Value) → Value → List (List Value) → ℕ → Type 0
HoldsSoFar step rows held left n = held_after (step n) Null rows ≡ held_after (step n) held left
