-- What a call answers under every regard of expressions: without a limit on values and with it, and where some faults pass for
-- values. Source: this project's own.
use Rattle.std.specs.Prelude.{◌≡◌, List, ◌++◌, Option, Some, None, option_map, Result, Ok, Err}
use Rattle.cr_value.specs.declared.value.Value.{Value}
use Rattle.cr_scalar.specs.Host.{Host}
use Rattle.cr_scalar.specs.declared.fault.EvalFault.{EvalFault}
use Rattle.cr_scalar.specs.declared.fault.EvalFault.TheVariants.{Overflow, NotANumber, NotUtf8, Host as Said, TooBig, Memory}
use Rattle.cr_query.specs.Query.{Meaning}
use Rattle.cr_meaning.specs.View.{Ordered}
use Rattle.cr_meaning.specs.Meaning.{Regard, IsLimit, Counts, regarded}

-- what something is under a meaning; None is a fault
abbrev pub Stage : Type 0 → Type 0
Stage Y = Meaning Ordered → Option Y

-- it is this, whatever counts as a fault
pub record IsMeant {Y : Type 0} (host : Host) (params : List Value) (f : Stage Y) (y : Y) : Type 0 where
  pub under : (g : Regard) → IsLimit g.most → f (regarded g host params) ≡ Some y

-- there is no answer where this fault counts, whatever stands for others
pub record Misses {Y : Type 0} (host : Host) (params : List Value) (f : Stage Y) (e : EvalFault) : Type 0 where
  pub under : (g : Regard) → Counts g e → f (regarded g host params) ≡ None

-- The fault that is told is one, and none of the others is needed for it. An evaluation fault is one with a limit on values and
-- without; a value over its limit is a fault with it.
abbrev pub Faults : {Y : Type 0} → Host → List Value → Stage Y → EvalFault → Type 0
Faults host params f Overflow = Misses host params f Overflow
Faults host params f NotANumber = Misses host params f NotANumber
Faults host params f NotUtf8 = Misses host params f NotUtf8
Faults host params f (Said text) = Misses host params f (Said text)
Faults host params f TooBig = Misses host params f TooBig
Faults host params f Memory = Unit {0}

abbrev pub Answers : {X Y : Type 0} → Host → List Value → Result X EvalFault → (X → Y) → Stage Y → Type 0
Answers host params (Ok x) view f = IsMeant host params f (view x)
Answers host params (Err e) view f = Faults host params f e

-- what there is more stands behind what there was
abbrev pub behind : {X : Type 0} → List X → Option (List X) → Option (List X)
behind old o = option_map (λ more. old ++ more) o

-- what f gives stands behind what there was
abbrev pub Adds : {X : Type 0} → Host → List Value → Stage (List X) → List X → List X → Result (Unit {0}) EvalFault → Type 0
Adds host params f old new (Ok u) = IsMeant host params (λ m. behind old (f m)) new
Adds host params f old new (Err e) = Faults host params f e
