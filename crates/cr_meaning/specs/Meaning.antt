-- What expressions mean to queries: without a limit on values, and with it, and where some faults pass for values. The limit
-- passes over quiet terms: a row that a constraint rejects would else be a fault of the limit alone. Source: this project's own.
use Rattle.std.specs.Prelude.{◌≡◌, ◌⊎◌, ℕ, Bool, false, cond, List, [], Option, Some, None, Ok, Err}
use Rattle.cr_value.specs.declared.value.Value.{Value}
use Rattle.cr_term.specs.declared.expr.Expr.{Expr}
use Rattle.cr_term.specs.Terms.{quiet}
use Rattle.cr_scalar.specs.declared.fault.EvalFault.{EvalFault}
use Rattle.cr_scalar.specs.declared.fault.EvalFault.TheVariants.{Overflow, NotANumber, NotUtf8, Host as Said, TooBig, Memory}
use Rattle.cr_scalar.specs.Meaning.{Outcome, byte_limit}
use Rattle.cr_scalar.specs.Numbers.{truth}
use Rattle.cr_scalar.specs.Compare.{value_cmp_by}
use Rattle.cr_scalar.specs.Host.{Host}
use Rattle.cr_expr.specs.Setting.{Setting}
use Rattle.cr_expr.specs.Eval.{eval_of}
use Rattle.cr_query.specs.Query.{Row, Group, Meaning}
use Rattle.cr_meaning.specs.View.{Ordered}

-- how evaluations are regarded: the greatest size of a value, if there is one, and for each fault the value or the truth that
-- stands for it; where none does, it is a fault
pub record Regard : Type 0 where
  pub most : Option ℕ
  pub value : EvalFault → Option Value
  pub truth : EvalFault → Option Bool

-- a value, or what stands for a fault
abbrev pub taken : {A : Type 0} → (EvalFault → Option A) → Outcome A → Option A
taken g (Ok v) = Some v
taken g (Err f) = g f

-- only what is true is true
abbrev pub so_taken : (EvalFault → Option Bool) → Outcome (Option Bool) → Option Bool
so_taken g (Ok (Some b)) = Some b
so_taken g (Ok None) = Some false
so_taken g (Err f) = g f

-- each fault is one
abbrev pub strict : Option ℕ → Regard
strict most = record { most = most; value = λ f. None; truth = λ f. None }

-- a fault is no value; which it is is open
abbrev pub value_of : {A : Type 0} → Outcome A → Option A
value_of o = taken (λ f. None) o

abbrev pub is_so : Outcome (Option Bool) → Option Bool
is_so o = so_taken (λ f. None) o

-- over a combination
abbrev pub at_row : Option ℕ → Host → List Value → Row → Setting
at_row most host params row = record { most = most; row = row; params = params; group = []; shown = []; host = host }

-- over a group
abbrev pub at_group : Option ℕ → Host → List Value → Group → Setting
at_group most host params g = record { most = most; row = []; params = params; group = g.members; shown = g.shown; host = host }

-- the limit on an expression's values
abbrev pub limit_of : Option ℕ → Expr → Option ℕ
limit_of most e = cond (quiet e) None most

abbrev pub regarded : Regard → Host → List Value → Meaning Ordered
regarded g host params = record {
  value = λ e row. taken g.value (eval_of (at_row (limit_of g.most e.expr) host params row) e.expr);
  over = λ e k. taken g.value (eval_of (at_group g.most host params k) e.expr);
  truth = λ v. so_taken g.truth (truth v);
  quiet = λ e. quiet e.expr;
  order = λ e. value_cmp_by (host.order e.collation);
}

abbrev pub meaning : Option ℕ → Host → List Value → Meaning Ordered
meaning most host params = regarded (strict most) host params

abbrev pub exact : Host → List Value → Meaning Ordered
exact host params = meaning None host params

abbrev pub sized : Host → List Value → Meaning Ordered
sized host params = meaning byte_limit host params

-- the limits under which a query is answered: none, and that on every value
abbrev pub IsLimit : Option ℕ → Type 0
IsLimit most = (most ≡ None) ⊎ (most ≡ byte_limit)

-- nothing stands for the fault
abbrev pub StandsAlone : Regard → EvalFault → Type 0
StandsAlone g f = (g.value f ≡ None) × (g.truth f ≡ None)

-- The fault is one under this regard, with a limit on values and without; a value over the limit is one with it alone. Want of
-- memory is none of what an expression means.
abbrev pub Counts : Regard → EvalFault → Type 0
Counts g Overflow = IsLimit g.most × StandsAlone g Overflow
Counts g NotANumber = IsLimit g.most × StandsAlone g NotANumber
Counts g NotUtf8 = IsLimit g.most × StandsAlone g NotUtf8
Counts g (Said text) = IsLimit g.most × StandsAlone g (Said text)
Counts g TooBig = (g.most ≡ byte_limit) × StandsAlone g TooBig
Counts g Memory = ⊥
