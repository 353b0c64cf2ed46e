-- One step of the meaning of an expression.
use Rattle.std.proofs.Common.{◌≡◌, ◌∙◌, ℕ, Bool, false, List, length, map, Option, Some, None, Ok, refl, ap, sym}
use Rattle.std.specs.Option.{option_map}
use Rattle.std.proofs.lemmas.List.{length-map}
use Rattle.cr_term.specs.declared.operator.Meeting.{Meeting}
use Rattle.cr_term.specs.declared.operator.BuiltIn.{BuiltIn as Own}
use Rattle.cr_term.specs.declared.operator.Aggregate.{Aggregate as Kind}
use Rattle.cr_term.specs.declared.expr.When.{When}
use Rattle.cr_term.specs.declared.expr.Expr.{Expr, out-Expr, map-Expr, out-roll-Expr}
use Rattle.cr_term.specs.declared.expr.Expr as e
use Rattle.cr_term.specs.declared.expr.Expr.TheVariants.{rolls-In, rolls-Case, rolls-BuiltIn, rolls-Host, rolls-Aggregate, rolls-Between}
use Rattle.cr_term.specs.declared.expr.Expr.TheOpen.{Expr-F, When-F, In, Between, Case, BuiltIn, Host, Aggregate}
use Rattle.cr_term.specs.declared.expr.Expr.TheFolds.{fold_out-Expr}
use Rattle.cr_scalar.specs.declared.fault.EvalFault.{EvalFault}
use Rattle.cr_scalar.specs.declared.fault.EvalFault.TheVariants.{Overflow, NotANumber, NotUtf8, Host as Said, TooBig, Memory}
use Rattle.cr_scalar.specs.Meaning.{Outcome, Meant, Evaluates, FaultsAs, and_then, bounded, of_host}
use Rattle.cr_expr.specs.Setting.{Setting}
use Rattle.cr_expr.specs.Eval.{Meaning, Arm, node, arm, layer, meaning, arm_of, eval_of, of_node, between_of, turned, equals, in_of, each, if_any, or_null, taken, value_or, argument_rows}
use Rattle.cr_scalar.specs.Aggregates.{aggregate_of}
use Rattle.cr_scalar.specs.Functions.{all_of, call_of}
use Rattle.cr_value.specs.declared.value.Value.{Value}
use Rattle.cr_scalar.specs.Numbers.{truth_value}

pub one_node : (s : Setting) (e : Expr) → eval_of s e ≡ and_then (of_node s e) (bounded s.most)
one_node s e = ap (λ (f : Meaning). f s) (fold_out-Expr Meaning Arm node arm e)

pub fault_through : {A B : Type 0} (m : Outcome A) (f : A → Outcome B) (e : EvalFault) → FaultsAs m e → FaultsAs (and_then m f) e
fault_through m f Memory h = tt
fault_through m f Overflow h = rw h refl
fault_through m f NotANumber h = rw h refl
fault_through m f NotUtf8 h = rw h refl
fault_through m f (Said text) h = rw h refl
fault_through m f TooBig h = rw h refl

-- a layer, with what its parts mean
abbrev over_layer : Setting → Expr-F Expr (When-F Expr (Unit {0})) → Meant
over_layer s y = layer (map-Expr Expr (When-F Expr (Unit {0})) Meaning Arm meaning arm_of y) s

pub in_node : (s : Setting) (n : Bool) (m : Meeting) (x : Expr) (items : List Expr) → of_node s (e.In n m x items) ≡ layer (In n m (meaning x) (map meaning items)) s
in_node s n m x items = ap (over_layer s) (ap out-Expr (sym (rolls-In n m x items)) ∙ out-roll-Expr (In n m x items))

pub case_node : (s : Setting) (x : Option Expr) (arms : List When) (other : Option Expr) → of_node s (e.Case x arms other) ≡ layer (Case (option_map meaning x) (map arm_of arms) (option_map meaning other)) s
case_node s None arms None = ap (over_layer s) (ap out-Expr (sym (rolls-Case None arms None)) ∙ out-roll-Expr (Case None arms None))
case_node s None arms (Some other) = ap (over_layer s) (ap out-Expr (sym (rolls-Case None arms (Some other))) ∙ out-roll-Expr (Case None arms (Some other)))
case_node s (Some x) arms None = ap (over_layer s) (ap out-Expr (sym (rolls-Case (Some x) arms None)) ∙ out-roll-Expr (Case (Some x) arms None))
case_node s (Some x) arms (Some other) = ap (over_layer s) (ap out-Expr (sym (rolls-Case (Some x) arms (Some other))) ∙ out-roll-Expr (Case (Some x) arms (Some other)))

pub built_in_node : (s : Setting) (f : Own) (args : List Expr) → of_node s (e.BuiltIn f args) ≡ layer (BuiltIn f (map meaning args)) s
built_in_node s f args = ap (over_layer s) (ap out-Expr (sym (rolls-BuiltIn f args)) ∙ out-roll-Expr (BuiltIn f args))

pub host_node : (s : Setting) (name : List ℕ) (args : List Expr) → of_node s (e.Host name args) ≡ layer (Host name (map meaning args)) s
host_node s name args = ap (over_layer s) (ap out-Expr (sym (rolls-Host name args)) ∙ out-roll-Expr (Host name args))

pub aggregate_node : (s : Setting) (kind : Kind) (args : List Expr) → of_node s (e.Aggregate kind args) ≡ layer (Aggregate kind (map meaning args)) s
aggregate_node s kind args = ap (over_layer s) (ap out-Expr (sym (rolls-Aggregate kind args)) ∙ out-roll-Expr (Aggregate kind args))

pub between_node : (s : Setting) (n : Bool) (m l : Meeting) (x low high : Expr) → of_node s (e.Between n m l x low high) ≡ layer (Between n m l (meaning x) (meaning low) (meaning high)) s
between_node s n m l x low high = ap (over_layer s) (ap out-Expr (sym (rolls-Between n m l x low high)) ∙ out-roll-Expr (Between n m l x low high))

-- BETWEEN of an operand and a first bound that have values
pub between_from : (s : Setting) (x : Expr) (n : Bool) (m l : Meeting) (y low high y' low' high' : Expr) (v w v' w' : Value) (r : Meant)
    → x ≡ e.Between n m l y low high → y' ≡ y → low' ≡ low → high' ≡ high → v' ≡ v → w' ≡ w → eval_of s y' ≡ Ok v → eval_of s low' ≡ Ok w
    → Evaluates (and_then (between_of s.host.order m l v' (Ok w') (eval_of s high')) (λ t. Ok (truth_value (turned n t)))) r → Evaluates (of_node s x) r
between_from s x n m l y low high y' low' high' v w v' w' r is a b d p q h k f = rw (is, between_node s n m l y low high, sym a, h, sym b, k, sym d, sym p, sym q) f

-- IN of an operand that has a value
pub in_from : (s : Setting) (x : Expr) (n : Bool) (m : Meeting) (y y' : Expr) (items items' : List Expr) (v v' : Value) (r : Meant)
    → x ≡ e.In n m y items → y' ≡ y → items' ≡ items → v' ≡ v → eval_of s y' ≡ Ok v
    → Evaluates (and_then (in_of (equals s.host.order v' m) (Some false) (each (map meaning items') s)) (λ t. Ok (truth_value (turned n t)))) r → Evaluates (of_node s x) r
in_from s x n m y y' items items' v v' r is a b d h f = rw (is, in_node s n m y items, sym a, h, sym b, sym d) f

pub call_from : (s : Setting) (x : Expr) (g : Own) (args args' : List Expr) (r : Meant) → x ≡ e.BuiltIn g args → args' ≡ args
    → Evaluates (call_of s.host.order g (each (map meaning args') s)) r → Evaluates (of_node s x) r
call_from s x g args args' r is a f = rw (is, built_in_node s g args, sym a) f

pub host_from : (s : Setting) (x : Expr) (name : List ℕ) (args args' : List Expr) (r : Meant) → x ≡ e.Host name args → args' ≡ args
    → Evaluates (and_then (all_of (each (map meaning args') s)) (λ vs. of_host (s.host.scalar name vs))) r → Evaluates (of_node s x) r
host_from s x name args args' r is a f = rw (is, host_node s name args, sym a) f

-- CASE of an operand that has a value, if there is one: a fault of an arm, the arm that is taken, and what stands in its place
pub case_fails : (s : Setting) (x : Expr) (y : Option Expr) (arms arms' : List When) (other : Option Expr) (v : Option Value) (f : EvalFault)
    → x ≡ e.Case y arms other → arms' ≡ arms → if_any s (option_map meaning y) ≡ Ok v → FaultsAs (taken s v (map arm_of arms')) f → FaultsAs (of_node s x) f
case_fails s x y arms arms' other v f is b h k = rw (is, case_node s y arms other, h, sym b) (fault_through (taken s v (map arm_of arms')) (value_or (or_null s (option_map meaning other))) f k)

pub case_found : (s : Setting) (x : Expr) (y : Option Expr) (arms arms' : List When) (other : Option Expr) (v t : Option Value) (w : Value)
    → x ≡ e.Case y arms other → arms' ≡ arms → if_any s (option_map meaning y) ≡ Ok v → taken s v (map arm_of arms') ≡ Ok t → t ≡ Some w → of_node s x ≡ Ok w
case_found s x y arms arms' other v t w is b h k f = rw (is, case_node s y arms other, h, sym b, k, f) refl

pub case_else : (s : Setting) (x : Expr) (y : Option Expr) (arms arms' : List When) (other : Option Expr) (v t : Option Value) (r : Meant)
    → x ≡ e.Case y arms other → arms' ≡ arms → if_any s (option_map meaning y) ≡ Ok v → taken s v (map arm_of arms') ≡ Ok t → t ≡ None
    → Evaluates (or_null s (option_map meaning other)) r → Evaluates (of_node s x) r
case_else s x y arms arms' other v t r is b h k f q = rw (is, case_node s y arms other, h, sym b, k, f) q

pub aggregate_from : (s : Setting) (x : Expr) (kind : Kind) (args args' : List Expr) (r : Meant) → x ≡ e.Aggregate kind args → args' ≡ args
    → Evaluates (and_then (argument_rows (map meaning args') s) (aggregate_of s.host.order (λ name. s.host.aggregate name (length args')) kind)) r → Evaluates (of_node s x) r
aggregate_from s x kind args args' r is a f = rw (is, aggregate_node s kind args, sym a, length-map args' meaning) f
