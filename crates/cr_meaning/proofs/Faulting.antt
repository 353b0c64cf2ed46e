-- Where a fault alone counts, what has no answer has that fault.
use Rattle.std.proofs.Common.{◌≡◌, inl, inr, Bool, true, false, cond, List, Option, Some, None, Ok, Err, refl, sym, ap}
use Rattle.std.specs.Option.{option_and_then}
use Rattle.std.proofs.lemmas.Slice.Eq.{bytes_eq-Decides}
use Rattle.cr_value.specs.declared.value.Value.{Value}
use Rattle.cr_value.specs.declared.value.Value.TheVariants.{Null}
use Rattle.cr_scalar.specs.declared.fault.EvalFault.{EvalFault}
use Rattle.cr_scalar.specs.declared.fault.EvalFault.TheVariants.{Overflow, NotANumber, NotUtf8, Host as Said, TooBig, Memory}
use Rattle.cr_scalar.specs.Meaning.{Outcome, byte_limit}
use Rattle.cr_scalar.specs.Numbers.{truth}
use Rattle.cr_scalar.specs.Host.{Host}
use Rattle.cr_expr.specs.Eval.{eval_of}
use Rattle.cr_query.specs.Query.{Row, Group, Meaning}
use Rattle.cr_query.specs.Faults.{Valueless, ValuelessOver, Truthless, TruthlessOver}
use Rattle.cr_meaning.specs.View.{Ordered}
use Rattle.cr_meaning.specs.Meaning.{taken, so_taken, at_row, at_group, limit_of, regarded}
use Rattle.cr_meaning.specs.Faults.{same_fault, alone, HasInTruth, OnRow, Over, TrueOnRow, TrueOver}

same_is : (f h : EvalFault) → same_fault f h ≡ true → h ≡ f
same_is Overflow Overflow e = refl
same_is Overflow NotANumber e = absurd (let z : ⊥ = cc in z)
same_is Overflow NotUtf8 e = absurd (let z : ⊥ = cc in z)
same_is Overflow (Said t) e = absurd (let z : ⊥ = cc in z)
same_is Overflow TooBig e = absurd (let z : ⊥ = cc in z)
same_is Overflow Memory e = absurd (let z : ⊥ = cc in z)
same_is NotANumber Overflow e = absurd (let z : ⊥ = cc in z)
same_is NotANumber NotANumber e = refl
same_is NotANumber NotUtf8 e = absurd (let z : ⊥ = cc in z)
same_is NotANumber (Said t) e = absurd (let z : ⊥ = cc in z)
same_is NotANumber TooBig e = absurd (let z : ⊥ = cc in z)
same_is NotANumber Memory e = absurd (let z : ⊥ = cc in z)
same_is NotUtf8 Overflow e = absurd (let z : ⊥ = cc in z)
same_is NotUtf8 NotANumber e = absurd (let z : ⊥ = cc in z)
same_is NotUtf8 NotUtf8 e = refl
same_is NotUtf8 (Said t) e = absurd (let z : ⊥ = cc in z)
same_is NotUtf8 TooBig e = absurd (let z : ⊥ = cc in z)
same_is NotUtf8 Memory e = absurd (let z : ⊥ = cc in z)
same_is (Said s) Overflow e = absurd (let z : ⊥ = cc in z)
same_is (Said s) NotANumber e = absurd (let z : ⊥ = cc in z)
same_is (Said s) NotUtf8 e = absurd (let z : ⊥ = cc in z)
same_is (Said s) (Said t) e = ap Said (sym ((bytes_eq-Decides s t).0 e))
same_is (Said s) TooBig e = absurd (let z : ⊥ = cc in z)
same_is (Said s) Memory e = absurd (let z : ⊥ = cc in z)
same_is TooBig Overflow e = absurd (let z : ⊥ = cc in z)
same_is TooBig NotANumber e = absurd (let z : ⊥ = cc in z)
same_is TooBig NotUtf8 e = absurd (let z : ⊥ = cc in z)
same_is TooBig (Said t) e = absurd (let z : ⊥ = cc in z)
same_is TooBig TooBig e = refl
same_is TooBig Memory e = absurd (let z : ⊥ = cc in z)
same_is Memory Overflow e = absurd (let z : ⊥ = cc in z)
same_is Memory NotANumber e = absurd (let z : ⊥ = cc in z)
same_is Memory NotUtf8 e = absurd (let z : ⊥ = cc in z)
same_is Memory (Said t) e = absurd (let z : ⊥ = cc in z)
same_is Memory TooBig e = absurd (let z : ⊥ = cc in z)
same_is Memory Memory e = refl

-- for any other something stands
none_is : {A : Type 0} (f h : EvalFault) (a : A) → cond (same_fault f h) None (Some a) ≡ None → h ≡ f
none_is {A} f h a e = same_is f h (by (same_fault f h) e) where
  by : (b : Bool) → cond b None (Some a) ≡ None → b ≡ true
  by true k = refl
  by false k = absurd (let z : ⊥ = cc in z)

value_none : (f : EvalFault) (o : Outcome Value) → taken (alone f).value o ≡ None → o ≡ Err f
value_none f (Ok v) e = absurd (let z : ⊥ = cc in z)
value_none f (Err h) e = ap Err (none_is f h Null e)

so_none : (f : EvalFault) (o : Outcome (Option Bool)) → so_taken (alone f).truth o ≡ None → o ≡ Err f
so_none f (Ok (Some b)) e = absurd (let z : ⊥ = cc in z)
so_none f (Ok None) e = absurd (let z : ⊥ = cc in z)
so_none f (Err h) e = ap Err (none_is f h false e)

truth_none : (f : EvalFault) (o : Outcome Value) → option_and_then (λ v. so_taken (alone f).truth (truth v)) (taken (alone f).value o) ≡ None → HasInTruth f o
truth_none f (Ok v) e = inr (v, (refl, so_none f (truth v) e))
truth_none f (Err h) e = inl (ap Err (same_is f h (by (same_fault f h) e))) where
  by : (b : Bool) → option_and_then (λ v. so_taken (alone f).truth (truth v)) (cond b None (Some Null)) ≡ None → b ≡ true
  by true k = refl
  by false k = absurd (let z : ⊥ = cc in z)

module _ (host : Host) (params : List Value) (f : EvalFault) where
  abbrev pub m : Meaning Ordered
  m = regarded (alone f) host params

  pub on_row : (e : Ordered) (c : Row) → Valueless m e c → OnRow host params f e c
  on_row e c h = value_none f (eval_of (at_row (limit_of byte_limit e.expr) host params c) e.expr) h

  pub over : (e : Ordered) (k : Group) → ValuelessOver m e k → Over host params f e k
  over e k h = value_none f (eval_of (at_group byte_limit host params k) e.expr) h

  pub true_on_row : (e : Ordered) (c : Row) → Truthless m e c → TrueOnRow host params f e c
  true_on_row e c h = truth_none f (eval_of (at_row (limit_of byte_limit e.expr) host params c) e.expr) h

  pub true_over : (e : Ordered) (k : Group) → TruthlessOver m e k → TrueOver host params f e k
  true_over e k h = truth_none f (eval_of (at_group byte_limit host params k) e.expr) h
