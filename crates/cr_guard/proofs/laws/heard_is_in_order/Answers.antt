use Rattle.cr_guard.proofs.HeardLaws as lemmas
use Rattle.cr_guard.proofs.laws.heard_is_in_order.Goals as goal

pub returns : goal.returns
returns c = lemmas.heard_is_in_order
