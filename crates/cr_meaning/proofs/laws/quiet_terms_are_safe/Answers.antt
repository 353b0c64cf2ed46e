use Rattle.cr_meaning.proofs.Limits.{safe}
use Rattle.cr_meaning.proofs.laws.quiet_terms_are_safe.Goals as goal

pub returns : goal.returns
returns c = safe
