-- Why a statement is refused: of the parts in which causes are looked for, the first in which one holds. Source: this
-- project's own.
use Rattle.std.specs.Prelude.{◌≡◌, ◌⊎◌, Bool, true, false, List, [], ◌∷◌, Option, Some, None, Result, Ok, Err}
use Rattle.cr_cells.specs.declared.store.StoreFault.TheVariants as store
use Rattle.cr_world.specs.declared.refusal.Refusal.{Refusal}
use Rattle.cr_world.specs.declared.refusal.Refusal.TheVariants as refusal
use Rattle.cr_world.specs.declared.refusal.EvalFault.{EvalFault}

-- what holds in a part: nothing; this; an evaluation, which faults without a limit on values too, or for the limit alone
pub data Cause : Type 0 where
  Free : Cause
  Is : Refusal → Cause
  Evaluation : Bool → Cause

abbrev pub or_else : Cause → Cause → Cause
or_else Free later = later
or_else (Is r) later = Is r
or_else (Evaluation b) later = Evaluation b

abbrev pub first_cause : List Cause → Cause
first_cause [] = Free
first_cause (c ∷ cs) = or_else c (first_cause cs)

abbrev pub of_option : Option Refusal → Cause
of_option None = Free
of_option (Some r) = Is r

abbrev pub of_result : {X : Type 0} → Result X Refusal → Cause
of_result (Ok x) = Free
of_result (Err r) = Is r

-- r, where b holds
abbrev pub where_true : Bool → Refusal → Cause
where_true true r = Is r
where_true false r = Free

-- memory or the store does not suffice
abbrev pub IsWant : Refusal → Type 0
IsWant r = (r ≡ refusal.Memory) ⊎ (r ≡ refusal.Store store.Refused)

-- which of several is open
abbrev pub IsFault : Bool → Refusal → Type 0
IsFault true r = ((e : EvalFault) × (r ≡ refusal.Eval e)) ⊎ (r ≡ refusal.TooBig)
IsFault false r = r ≡ refusal.TooBig

-- r may be told for the cause
abbrev pub Tells : Cause → Refusal → Type 0
Tells Free r = ⊥
Tells (Is c) r = r ≡ c
Tells (Evaluation b) r = IsFault b r
