-- A quiet expression has a value.
use Rattle.std.proofs.Common.{◌∙◌, Bool, true, false, not, ◌&&◌, Option, Some, None, Ok, Err, refl, ap, sym, subst}
use Rattle.std.specs.Bool.{IsTrue}
use Rattle.cr_value.specs.declared.value.Value.{Value}
use Rattle.cr_term.specs.declared.expr.When.{When}
use Rattle.cr_term.specs.declared.operator.Unary.TheVariants as unary
use Rattle.cr_term.specs.declared.expr.Expr.{Expr, out-Expr, roll-Expr, map-Expr}
use Rattle.cr_term.specs.declared.expr.Expr.TheOpen.{Expr-F, When-F, Literal, Param, Column, Shown, Unary, Arithmetic, Join, Like, Logic, Compare, Collate, Cast, In, Between, Case, BuiltIn, Host, Aggregate, SiteId, DbVersion}
use Rattle.cr_term.specs.declared.expr.Expr.TheFolds.{fold-When, fold-roll-Expr, ind-Expr}
use Rattle.cr_term.specs.Terms.{plain, plain_layer, plain_arm, quiet_layer}
use Rattle.cr_scalar.specs.Meaning.{Meant, and_then, bounded}
use Rattle.cr_scalar.specs.Numbers.{truth, truth_value, is_null}
use Rattle.cr_scalar.specs.Compare.{compared}
use Rattle.cr_expr.specs.Setting.{Setting}
use Rattle.cr_expr.specs.Eval.{Meaning, Arm, node, arm, layer, meaning, arm_of, eval_of}
use Rattle.cr_expr.proofs.Nodes.{one_node}
use Rattle.cr_expr.specs.Laws.{unlimited, HasValue, QuietNeverFaults}

-- ---- columns, literals and parameters

abbrev PlainHas : Expr → Type 0
PlainHas e = (s : Setting) → IsTrue (plain e) → HasValue (eval_of (unlimited s) e)

abbrev Any : When → Type 0
Any w = Unit {0}

-- the same of a node
abbrev PlainSays : Expr-F Expr When → Type 0
PlainSays x = (s : Setting) → IsTrue (plain_layer (map-Expr Expr When Bool (Unit {0}) plain (fold-When Bool (Unit {0}) plain_layer plain_arm) x))
    → HasValue (node (map-Expr Expr When Meaning Arm meaning arm_of x) (unlimited s))

plain_rolls : (x : Expr-F Expr When) → PlainSays x → PlainHas (roll-Expr x)
plain_rolls x f s h = subst (λ m. HasValue m) (sym (ap (λ (m : Meaning). m (unlimited s)) (fold-roll-Expr Meaning Arm node arm x))) (f s (sym (fold-roll-Expr Bool (Unit {0}) plain_layer plain_arm x) ∙ h))

bounded_has : (m : Meant) → HasValue m → HasValue (and_then m (bounded None))
bounded_has (Ok v) h = tt
bounded_has (Err e) h = h

plain_step : (y : Expr-F ((e : Expr) × PlainHas e) ((w : When) × Any w)) → PlainSays (map-Expr ((e : Expr) × PlainHas e) ((w : When) × Any w) Expr When (λ e. e.0) (λ w. w.0) y)
plain_step (Literal v) s h = tt
plain_step (Param n) s h = tt
plain_step (Column c) s h = tt
plain_step (Shown n x) s h = absurd (cc)
plain_step (Unary op x) s h = absurd (cc)
plain_step (Arithmetic op x y) s h = absurd (cc)
plain_step (Join x y) s h = absurd (cc)
plain_step (Like n x y) s h = absurd (cc)
plain_step (Logic op x y) s h = absurd (cc)
plain_step (Compare op m x y) s h = absurd (cc)
plain_step (Collate x name) s h = bounded_has (meaning x.0 (unlimited s)) (x.1 s h)
plain_step (Cast to x) s h = absurd (cc)
plain_step (In n m x items) s h = absurd (cc)
plain_step (Between n m l x low high) s h = absurd (cc)
plain_step (Case x arms other) s h = absurd (cc)
plain_step (BuiltIn f args) s h = absurd (cc)
plain_step (Host name args) s h = absurd (cc)
plain_step (Aggregate kind args) s h = absurd (cc)
plain_step (SiteId b) s h = absurd (cc)
plain_step (DbVersion n) s h = absurd (cc)

plain_has : (e : Expr) → PlainHas e
plain_has = ind-Expr PlainHas Any (λ x y is. plain_rolls x (subst PlainSays is (plain_step y))) (λ w v is. tt)

-- ---- comparisons and null tests of them

truth_has : (t : Option Bool) → HasValue (truth (truth_value t))
truth_has (Some true) = tt
truth_has (Some false) = tt
truth_has None = tt

-- a truth value of two values
two_have : (m n : Meant) (f : Value → Value → Option Bool) → HasValue m → HasValue n → HasValue (and_then (and_then (and_then m (λ v. and_then n (λ w. Ok (truth_value (f v w))))) (bounded None)) truth)
two_have (Ok v) (Ok w) f h k = truth_has (f v w)
two_have (Ok v) (Err e) f h k = k
two_have (Err e) n f h k = h

-- a truth value of one
one_has : (m : Meant) (f : Value → Option Bool) → HasValue m → HasValue (and_then (and_then (and_then m (λ v. Ok (truth_value (f v)))) (bounded None)) truth)
one_has (Ok v) f h = truth_has (f v)
one_has (Err e) f h = h

left_true : (a b : Bool) → IsTrue (a && b) → IsTrue a
left_true true b h = refl
left_true false b h = h

right_true : (a b : Bool) → IsTrue (a && b) → IsTrue b
right_true true b h = h
right_true false b h = absurd (cc)

abbrev QuietSays : Expr-F Expr (When-F Expr (Unit {0})) → Type 0
QuietSays y = (s : Setting) → IsTrue (quiet_layer y) → HasValue (and_then (and_then (layer (map-Expr Expr (When-F Expr (Unit {0})) Meaning Arm meaning arm_of y) (unlimited s)) (bounded None)) truth)

quiet_says : (y : Expr-F Expr (When-F Expr (Unit {0}))) → QuietSays y
quiet_says (Literal v) s h = absurd (cc)
quiet_says (Param n) s h = absurd (cc)
quiet_says (Column c) s h = absurd (cc)
quiet_says (Shown n x) s h = absurd (cc)
quiet_says (Unary unary.Not x) s h = absurd (cc)
quiet_says (Unary unary.Plus x) s h = absurd (cc)
quiet_says (Unary unary.Minus x) s h = absurd (cc)
quiet_says (Unary unary.IsNull x) s h = one_has (meaning x (unlimited s)) (λ v. Some (is_null v)) (plain_has x s h)
quiet_says (Unary unary.NotNull x) s h = one_has (meaning x (unlimited s)) (λ v. Some (not (is_null v))) (plain_has x s h)
quiet_says (Arithmetic op x y) s h = absurd (cc)
quiet_says (Join x y) s h = absurd (cc)
quiet_says (Like n x y) s h = absurd (cc)
quiet_says (Logic op x y) s h = absurd (cc)
quiet_says (Compare op m x y) s h = two_have (meaning x (unlimited s)) (meaning y (unlimited s)) (λ v w. compared s.host.order op m v w) (plain_has x s (left_true (plain x) (plain y) h)) (plain_has y s (right_true (plain x) (plain y) h))
quiet_says (Collate x name) s h = absurd (cc)
quiet_says (Cast to x) s h = absurd (cc)
quiet_says (In n m x items) s h = absurd (cc)
quiet_says (Between n m l x low high) s h = absurd (cc)
quiet_says (Case x arms other) s h = absurd (cc)
quiet_says (BuiltIn f args) s h = absurd (cc)
quiet_says (Host name args) s h = absurd (cc)
quiet_says (Aggregate kind args) s h = absurd (cc)
quiet_says (SiteId b) s h = absurd (cc)
quiet_says (DbVersion n) s h = absurd (cc)

pub quiet_law : QuietNeverFaults
quiet_law e s h = subst (λ (m : Meant). HasValue (and_then m truth)) (sym (one_node (unlimited s) e)) (quiet_says (out-Expr e) s h)
