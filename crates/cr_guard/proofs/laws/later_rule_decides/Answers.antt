use Rattle.cr_guard.proofs.PolicyLaws as lemmas
use Rattle.cr_guard.proofs.laws.later_rule_decides.Goals as goal

pub returns : goal.returns
returns c = lemmas.later_rule_decides
