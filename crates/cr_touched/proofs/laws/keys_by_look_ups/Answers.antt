use Rattle.cr_touched.proofs.Twice as lemmas
use Rattle.cr_touched.proofs.laws.keys_by_look_ups.Goals as goal

pub returns : goal.returns
returns g = lemmas.keys_by_look_ups
