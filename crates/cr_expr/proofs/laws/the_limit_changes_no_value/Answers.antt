use Rattle.cr_expr.proofs.LimitLaw.{limit_law}
use Rattle.cr_expr.proofs.laws.the_limit_changes_no_value.Goals as goal

pub returns : goal.returns
returns c = limit_law
