use Rattle.cr_delta.proofs.WellFormed as lemmas
use Rattle.cr_delta.proofs.laws.delta_is_well_formed.Goals as goal

pub returns : goal.returns
returns c = lemmas.delta_is_well_formed
