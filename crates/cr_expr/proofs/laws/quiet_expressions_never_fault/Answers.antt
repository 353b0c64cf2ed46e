use Rattle.cr_expr.proofs.QuietLaw.{quiet_law}
use Rattle.cr_expr.proofs.laws.quiet_expressions_never_fault.Goals as goal

pub returns : goal.returns
returns c = quiet_law
