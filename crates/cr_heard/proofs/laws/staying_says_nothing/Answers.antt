use Rattle.cr_heard.proofs.Telling as lemmas
use Rattle.cr_heard.proofs.laws.staying_says_nothing.Goals as goal

pub returns : goal.returns
returns c = lemmas.staying_says_nothing
