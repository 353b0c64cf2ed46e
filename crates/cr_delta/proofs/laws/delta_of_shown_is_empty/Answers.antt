use Rattle.cr_delta.proofs.Unchanged as lemmas
use Rattle.cr_delta.proofs.laws.delta_of_shown_is_empty.Goals as goal

pub returns : goal.returns
returns c = lemmas.delta_of_shown_is_empty
