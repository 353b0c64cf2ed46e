use Rattle.cr_plan.proofs.Plans.{answers_by_plan}
use Rattle.cr_plan.proofs.laws.answers_by_plan.Goals as goal

pub returns : goal.returns
returns c = answers_by_plan
