-- What has a value with a limit has it without, and quiet terms have one in either case.
use Rattle.std.proofs.Common.{◌≡◌, inl, inr, ℕ, Bool, true, false, cond, List, Option, Some, None, Ok, Err, refl, sym, ap, ◌∙◌}
use Rattle.std.specs.Option.{option_and_then}
use Rattle.cr_value.specs.declared.value.Value.{Value}
use Rattle.cr_term.specs.declared.expr.Expr.{Expr}
use Rattle.cr_term.specs.Terms.{quiet}
use Rattle.cr_scalar.specs.declared.fault.EvalFault.{EvalFault}
use Rattle.cr_scalar.specs.declared.fault.EvalFault.TheVariants.{TooBig}
use Rattle.cr_scalar.specs.Meaning.{Outcome, Meant, and_then, byte_limit}
use Rattle.cr_scalar.specs.Numbers.{truth}
use Rattle.cr_scalar.specs.Host.{Host}
use Rattle.cr_expr.specs.Laws.{HasValue, unlimited}
use Rattle.cr_expr.specs.Setting.{Setting}
use Rattle.cr_expr.specs.Eval.{eval_of}
use Rattle.cr_expr.proofs.LimitLaw.{limit_law}
use Rattle.cr_expr.proofs.QuietLaw.{quiet_law}
use Rattle.cr_query.specs.Query.{Row, Refines}
use Rattle.cr_query.specs.Plans.{QuietIsSafe}
use Rattle.cr_meaning.specs.Meaning.{Regard, IsLimit, taken, so_taken, value_of, is_so, at_row, at_group, regarded, sized}

has_none : (v : Value) → value_of (Err TooBig) ≡ Some v → ⊥
has_none v e = cc

-- a value with a limit is the value without
pub keeps : (e : Expr) (s : Setting) (v : Value) → value_of (eval_of s e) ≡ Some v → value_of (eval_of (unlimited s) e) ≡ Some v
keeps e s v h = ap value_of (limit_law e s (λ t. has_none v (sym (ap value_of t) ∙ h))) ∙ h

-- and so it is where faults pass for values
taken_of : {A : Type 0} (g : EvalFault → Option A) (o : Outcome A) (v : A) → value_of o ≡ Some v → taken g o ≡ Some v
taken_of g (Ok w) v h = h
taken_of g (Err f) v h = absurd cc

-- a value under the limit is one under another
pub stays : (e : Expr) (s : Setting) (most : Option ℕ) (v : Value) → s.most ≡ byte_limit → IsLimit most → value_of (eval_of s e) ≡ Some v → value_of (eval_of (record s { most = most }) e) ≡ Some v
stays e s most v is (inl none) h = ap (λ (n : Option ℕ). value_of (eval_of (record s { most = n }) e)) none ∙ keeps e s v h
stays e s most v is (inr big) h = ap (λ (n : Option ℕ). value_of (eval_of (record s { most = n }) e)) (big ∙ sym is) ∙ h

row_stays : (b : Bool) (most : Option ℕ) (host : Host) (params : List Value) (e : Expr) (row : Row) (v : Value) → IsLimit most
    → value_of (eval_of (at_row (cond b None byte_limit) host params row) e) ≡ Some v → value_of (eval_of (at_row (cond b None most) host params row) e) ≡ Some v
row_stays true most host params e row v limit h = h
row_stays false most host params e row v limit h = stays e (at_row byte_limit host params row) most v refl limit h

so_of : (g : EvalFault → Option Bool) (o : Outcome (Option Bool)) (b : Bool) → is_so o ≡ Some b → so_taken g o ≡ Some b
so_of g (Ok (Some c)) b h = h
so_of g (Ok None) b h = h
so_of g (Err f) b h = absurd cc

-- what is known to be true or not is known to be so under each regard
pub known_so : (g : Regard) (m : Meant) (b : Bool) → option_and_then (λ v. is_so (truth v)) (value_of m) ≡ Some b → option_and_then (λ v. so_taken g.truth (truth v)) (taken g.value m) ≡ Some b
known_so g (Ok v) b h = so_of g.truth (truth v) b h
known_so g (Err f) b h = absurd cc

-- what has a value with the limit has it under each regard, and what is known to be true or not is known to be so
pub refines : (host : Host) (params : List Value) (g : Regard) → IsLimit g.most → Refines (sized host params) (regarded g host params)
refines host params g limit = record {
  value = λ e row v h. taken_of g.value _ v (row_stays (quiet e.expr) g.most host params e.expr row v limit h);
  over = λ e k v h. taken_of g.value _ v (stays e.expr (at_group byte_limit host params k) g.most v refl limit h);
  truth = λ v b h. so_of g.truth (truth v) b h;
  quiet = refl;
  order = refl;
}

-- ---- quiet terms

module _ (value : EvalFault → Option Value) (so : EvalFault → Option Bool) where
  truth_is : (o : Outcome (Option Bool)) → HasValue o → so_taken so o ≡ None → ⊥
  truth_is (Ok None) v e = absurd cc
  truth_is (Ok (Some b)) v e = absurd cc
  truth_is (Err f) v e = v

  value_is : (o : Meant) → HasValue (and_then o truth) → option_and_then (λ v. so_taken so (truth v)) (taken value o) ≡ None → ⊥
  value_is (Ok w) v e = truth_is (truth w) v e
  value_is (Err f) v e = v

pub safe : (g : Regard) (host : Host) (params : List Value) → QuietIsSafe (regarded g host params)
safe g host params e c q none =
    value_is g.value g.truth (eval_of (at_row None host params c) e.expr) (quiet_law e.expr (at_row None host params c) q)
    (ap (λ b. option_and_then (λ v. so_taken g.truth (truth v)) (taken g.value (eval_of (at_row (cond b None g.most) host params c) e.expr))) (sym q) ∙ none)
