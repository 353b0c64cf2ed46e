use Rattle.cr_delta.proofs.Others as lemmas
use Rattle.cr_delta.proofs.laws.delta_leaves_others.Goals as goal

pub returns : goal.returns
returns c = lemmas.delta_leaves_others
