use Rattle.std.proofs.Common.{◌+◌}
use Rattle.cr_parse.proofs.level.+expr.Given as goal

-- each call that comes back opens a parenthesis or goes down the tree
abbrev pub decreases-expr : goal.decreases-expr
decreases-expr l = l.limits.opens + l.limits.room
