-- One assignment of an UPDATE.
use Rattle.std.specs.Prelude.{Bool, false, [], ◌∷◌}
use Rattle.cr_tree.specs.declared.statement.Assignment.{Assignment as AssignmentTree}
use Rattle.cr_term.specs.declared.query.Assignment.{Assignment}
use Rattle.cr_resolve.specs.declared.scope.Source.{Source}
use Rattle.cr_resolve.specs.Reading.{Read, with_both}
use Rattle.cr_resolve.specs.Known.{Known}
use Rattle.cr_resolve.specs.Expressions.{expr}
use Rattle.cr_written.specs.Targets.{target_once}

-- the column, which may have got a value before, and its value
abbrev pub assignment : Known → Source → Bool → AssignmentTree → Read Assignment
assignment known s repeated a =
    with_both (λ at value. record { column = at; value = value }) (target_once s.relation.definition repeated a.column) (expr known (s ∷ []) false a.value)
