use Rattle.cr_fit.proofs.Suiting.{resolved_suit}
use Rattle.cr_fit.proofs.laws.resolved_statements_suit.Goals as goal

pub returns : goal.returns
returns c = resolved_suit
