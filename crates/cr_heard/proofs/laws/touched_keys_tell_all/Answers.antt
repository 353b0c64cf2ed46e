use Rattle.cr_heard.proofs.Telling as lemmas
use Rattle.cr_heard.proofs.laws.touched_keys_tell_all.Goals as goal

pub returns : goal.returns
returns c = lemmas.touched_keys_tell_all
