-- Whether some aggregate is among those that stand somewhere.
use Rattle.std.specs.Prelude.{Bool, not, ◌||◌, List, [], ◌∷◌, ◌++◌, length, nat_le}
use Rattle.cr_term.specs.declared.operator.Aggregate.{Aggregate as Kind}
use Rattle.cr_term.specs.declared.expr.When.{When}
use Rattle.cr_term.specs.declared.expr.Expr.TheOpen.{Expr-F, Aggregate}
use Rattle.cr_term.specs.Parts.{aggregates}

abbrev pub any : List Kind → Bool
any ks = not (nat_le (length ks) 0)

-- found already, or there is one
unfoldable pub or_any : Bool → List Kind → Bool
or_any found ks = found || any ks

-- the aggregate that an expression is
abbrev pub own_kinds : {A C : Type 0} → Expr-F A C → List Kind
own_kinds (Aggregate kind args) = kind ∷ []
own_kinds _ = []

abbrev pub arm_aggregates : When → List Kind
arm_aggregates w = aggregates w.when ++ aggregates w.then
