-- What an expression is evaluated over in a query: a combination or a group.
use Rattle.std.specs.Prelude.{Bool, Option}
use Rattle.std.specs.Option.{option_and_then}
use Rattle.std.specs.Borrow.{Bor}
use Rattle.cr_value.specs.declared.value.Value.{Value}
use Rattle.cr_term.specs.declared.expr.Expr.{Expr}
use Rattle.cr_query.specs.Query.{Meaning}
use Rattle.cr_meaning.specs.View.{Ordered, plain}
use Rattle.cr_exec.specs.declared.value.Scope.{Scope}
use Rattle.cr_exec.specs.declared.value.Scope.TheVariants as scope

abbrev pub in_scope : Meaning Ordered → Scope → Ordered → Option Value
in_scope m (scope.Row c) e = m.value e c.now
in_scope m (scope.Group shown members) e = m.over e (record { shown = shown.now; members = members.now })

abbrev pub is_so_in : Meaning Ordered → Scope → Ordered → Option Bool
is_so_in m s e = option_and_then m.truth (in_scope m s e)

-- an expression that is referred to
abbrev pub there : Bor Expr → Ordered
there e = plain e.now
