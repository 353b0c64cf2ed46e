use Rattle.cr_delta.proofs.Once as lemmas
use Rattle.cr_delta.proofs.laws.delta_is_once.Goals as goal

pub returns : goal.returns
returns c = lemmas.delta_is_once
