-- A table of FROM by what its JOIN says.
use Rattle.std.specs.Prelude.{ℕ, suc, Bool, false, List, take, Option, if◌then◌else◌}
use Rattle.std.specs.Option.{option_map}
use Rattle.cr_tree.specs.declared.expr.Expr.{Expr as Tree}
use Rattle.cr_term.specs.declared.query.Joined.{Joined}
use Rattle.cr_term.specs.Terms.{terms_of}
use Rattle.cr_resolve.specs.Reading.{Read, with, if_any}
use Rattle.cr_resolve.specs.Known.{Known}
use Rattle.cr_resolve.specs.declared.scope.Source.{Source}
use Rattle.cr_resolve.specs.Expressions.{expr}

-- `joined`, of the two things that it takes from what is written
abbrev pub joined_by : Known → List Source → ℕ → Bool → Option Tree → Source → Read Joined
joined_by known sources at left on s =
    with (λ x. record { relation = s.relation; is_left = left; on = terms_of x })
    (if_any (option_map (expr known (if left then take (suc at) sources else sources) false) on))
