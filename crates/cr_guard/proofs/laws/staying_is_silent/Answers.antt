use Rattle.cr_guard.proofs.HeardLaws as lemmas
use Rattle.cr_guard.proofs.laws.staying_is_silent.Goals as goal

pub returns : goal.returns
returns c = lemmas.staying_is_silent
