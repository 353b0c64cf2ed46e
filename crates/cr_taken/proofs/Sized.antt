-- The values of expressions are small under a limit on them: a quiet expression, on which there is none, tells a truth value.
use Rattle.std.proofs.Common.{◌≡◌, ◌∙◌, ◌≤◌, Bool, true, false, not, cond, List, Option, Some, None, Ok, Err, if◌then◌else◌, nat_le, refl, sym, subst, arith}
use Rattle.std.proofs.lemmas.Bool.{leb-true}
use Rattle.cr_value.specs.declared.value.Value.{Value}
use Rattle.cr_value.specs.Packing.{size_limit}
use Rattle.cr_value.specs.Size.{value_len}
use Rattle.cr_term.specs.declared.operator.Unary.TheVariants as unary
use Rattle.cr_term.specs.declared.expr.Expr.{Expr, out-Expr, map-Expr}
use Rattle.cr_term.specs.declared.expr.Expr.TheOpen.{When-F, Literal, Param, Column, Shown, Unary, Arithmetic, Join, Like, Logic, Compare, Collate, Cast, In, Between, Case, BuiltIn, Host, Aggregate, SiteId, DbVersion}
use Rattle.cr_term.specs.Same.{Layer}
use Rattle.cr_term.specs.Terms.{quiet, quiet_layer}
use Rattle.cr_scalar.specs.declared.fault.EvalFault.TheVariants.{TooBig}
use Rattle.cr_scalar.specs.Meaning.{Meant, and_then, bounded, byte_limit}
use Rattle.cr_scalar.specs.Numbers.{truth_value, is_null}
use Rattle.cr_scalar.specs.Compare.{compared}
use Rattle.cr_scalar.specs.Host as host
use Rattle.cr_expr.specs.Setting.{Setting}
use Rattle.cr_expr.specs.Eval.{Meaning, Arm, layer, meaning, arm_of, eval_of, of_node}
use Rattle.cr_expr.proofs.Nodes.{one_node}
use Rattle.cr_query.specs.Query.{Row}
use Rattle.cr_meaning.specs.View.{Ordered}
use Rattle.cr_meaning.specs.Meaning.{value_of, at_row, sized}

abbrev IsSmall : Value → Type 0
IsSmall v = value_len v ≤ size_limit

-- a value within the limit, if there is one
abbrev GivesSmall : Meant → Type 0
GivesSmall m = (v : Value) → m ≡ Ok v → IsSmall v

truth_small : (t : Option Bool) → IsSmall (truth_value t)
truth_small (Some true) = omega arith
truth_small (Some false) = omega arith
truth_small None = omega arith

abbrev given : Value → Meant
given v = Ok v

ok_is : (v w : Value) → given v ≡ given w → v ≡ w
ok_is v w e = cc

-- ---- truth values

one_small : (m : Meant) (f : Value → Option Bool) → GivesSmall (and_then m (λ a. Ok (truth_value (f a))))
one_small (Ok a) f v e = subst IsSmall (ok_is _ v e) (truth_small (f a))
one_small (Err x) f v e = absurd cc

two_small : (m n : Meant) (f : Value → Value → Option Bool) → GivesSmall (and_then m (λ a. and_then n (λ b. Ok (truth_value (f a b)))))
two_small (Ok a) n f v e = one_small n (f a) v e
two_small (Err x) n f v e = absurd cc

quiet_small : (x : Layer) (s : Setting) → quiet_layer x ≡ true → GivesSmall (layer (map-Expr Expr (When-F Expr (Unit {0})) Meaning Arm meaning arm_of x) s)
quiet_small (Literal v) s h = absurd cc
quiet_small (Param n) s h = absurd cc
quiet_small (Column c) s h = absurd cc
quiet_small (Shown n x) s h = absurd cc
quiet_small (Unary unary.Plus x) s h = absurd cc
quiet_small (Unary unary.Minus x) s h = absurd cc
quiet_small (Unary unary.Not x) s h = absurd cc
quiet_small (Unary unary.IsNull x) s h = one_small (meaning x s) (λ v. Some (is_null v))
quiet_small (Unary unary.NotNull x) s h = one_small (meaning x s) (λ v. Some (not (is_null v)))
quiet_small (Arithmetic op x y) s h = absurd cc
quiet_small (Join x y) s h = absurd cc
quiet_small (Like n x y) s h = absurd cc
quiet_small (Logic op x y) s h = absurd cc
quiet_small (Compare op m x y) s h = two_small (meaning x s) (meaning y s) (λ v w. compared s.host.order op m v w)
quiet_small (Collate x name) s h = absurd cc
quiet_small (Cast to x) s h = absurd cc
quiet_small (In n m x items) s h = absurd cc
quiet_small (Between n m l x low high) s h = absurd cc
quiet_small (Case x arms other) s h = absurd cc
quiet_small (BuiltIn f args) s h = absurd cc
quiet_small (Host name args) s h = absurd cc
quiet_small (Aggregate kind args) s h = absurd cc
quiet_small (SiteId b) s h = absurd cc
quiet_small (DbVersion n) s h = absurd cc

-- ---- expressions

free_small : (m : Meant) → GivesSmall m → GivesSmall (and_then m (bounded None))
free_small (Ok v) f w e = f w e
free_small (Err x) f w e = absurd cc

abbrev chosen : Bool → Value → Meant
chosen b v = if b then Ok v else Err TooBig

within : (v w : Value) (b : Bool) → nat_le (value_len v) 1000000 ≡ b → chosen b v ≡ Ok w → IsSmall w
within v w true h e = subst IsSmall (ok_is v w e) (leb-true _ _ h)
within v w false h e = absurd cc

bounded_small : (m : Meant) → GivesSmall (and_then m (bounded byte_limit))
bounded_small (Ok v) w e = within v w (nat_le (value_len v) 1000000) refl e
bounded_small (Err x) w e = absurd cc

eval_small : (s : Setting) (e : Expr) → GivesSmall (and_then (of_node s e) (bounded s.most)) → GivesSmall (eval_of s e)
eval_small s e f v h = f v (sym (one_node s e) ∙ h)

has_value : (o : Meant) (v : Value) → value_of o ≡ Some v → o ≡ Ok v
has_value (Ok w) v e = cc
has_value (Err x) v e = absurd cc

module _ (host : host.Host) (params : List Value) where
  under_limit : (e : Expr) (row : Row) (b : Bool) → quiet e ≡ b → GivesSmall (eval_of (at_row (cond b None byte_limit) host params row) e)
  under_limit e row true q = eval_small (at_row None host params row) e (free_small (of_node (at_row None host params row) e) (quiet_small (out-Expr e) (at_row None host params row) q))
  under_limit e row false q = eval_small (at_row byte_limit host params row) e (bounded_small (of_node (at_row byte_limit host params row) e))

  pub sized_small : (e : Ordered) (row : Row) (v : Value) → (sized host params).value e row ≡ Some v → value_len v ≤ size_limit
  sized_small e row v h = under_limit e.expr row (quiet e.expr) refl v (has_value _ v h)
