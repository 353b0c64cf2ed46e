use Rattle.std.proofs.Common.{◌≡◌, ◌-◌, []}
use Rattle.cr_tree.specs.declared.limits.TheConstants.{LIMITS}
use Rattle.cr_statement.proofs.Turns.{more_joins}
use Rattle.cr_statement.proofs.query.joins.Given as goal

abbrev pub invariant-loop-turn : goal.invariant-loop-turn
invariant-loop-turn l = more_joins (LIMITS.joins - l._turn) l.all l.tokens ≡ more_joins LIMITS.joins [] l.fn.tokens
