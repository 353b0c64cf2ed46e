use Rattle.cr_delta.proofs.Shows as lemmas
use Rattle.cr_delta.proofs.laws.delta_shows_wanted.Goals as goal

pub returns : goal.returns
returns c = lemmas.delta_shows_wanted
