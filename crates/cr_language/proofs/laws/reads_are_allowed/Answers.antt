use Rattle.cr_language.proofs.Allowing.{reads_allowed}
use Rattle.cr_language.proofs.laws.reads_are_allowed.Goals as goal

pub returns : goal.returns
returns c = reads_allowed
