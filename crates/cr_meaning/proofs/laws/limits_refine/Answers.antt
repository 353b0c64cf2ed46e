use Rattle.cr_meaning.proofs.Limits.{refines}
use Rattle.cr_meaning.proofs.laws.limits_refine.Goals as goal

pub returns : goal.returns
returns c = refines
