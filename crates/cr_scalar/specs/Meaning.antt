-- What an expression means: a value or a fault. Want of memory is no part of it. Source: this project's own.
use Rattle.std.specs.Prelude.{◌≡◌, ℕ, nat_le, List, Option, Some, None, Result, Ok, Err, if◌then◌else◌}
use Rattle.cr_value.specs.declared.value.Value.{Value}
use Rattle.cr_value.specs.Size.{value_len}
use Rattle.cr_scalar.specs.declared.fault.EvalFault.{EvalFault}
use Rattle.cr_scalar.specs.declared.fault.EvalFault.TheVariants.{Overflow, NotANumber, NotUtf8, Host, TooBig, Memory}

abbrev pub Outcome : Type 0 → Type 0
Outcome A = Result A EvalFault

abbrev pub Meant : Type 0
Meant = Outcome Value

-- the fault is what is meant, or there was no memory
abbrev pub FaultsAs : {A : Type 0} → Outcome A → EvalFault → Type 0
FaultsAs meaning Memory = Unit {0}
FaultsAs meaning Overflow = meaning ≡ Err Overflow
FaultsAs meaning NotANumber = meaning ≡ Err NotANumber
FaultsAs meaning NotUtf8 = meaning ≡ Err NotUtf8
FaultsAs meaning (Host text) = meaning ≡ Err (Host text)
FaultsAs meaning TooBig = meaning ≡ Err TooBig

-- an answer is exactly what is meant, or there was no memory
abbrev pub Evaluates : {A : Type 0} → Outcome A → Outcome A → Type 0
Evaluates meaning (Ok a) = meaning ≡ Ok a
Evaluates meaning (Err fault) = FaultsAs meaning fault

-- what is made of the value, or its fault
abbrev pub and_then : {A B : Type 0} → Outcome A → (A → Outcome B) → Outcome B
and_then (Ok a) f = f a
and_then (Err e) f = Err e

-- the greatest size of a value
abbrev pub byte_limit : Option ℕ
byte_limit = Some 1000000

-- a value within the limit, if there is one
abbrev pub bounded : Option ℕ → Value → Meant
bounded None v = Ok v
bounded (Some most) v = if nat_le (value_len v) most then Ok v else Err TooBig

-- what a host's function gives
abbrev pub of_host : Result Value (List ℕ) → Meant
of_host (Ok v) = Ok v
of_host (Err text) = Err (Host text)
