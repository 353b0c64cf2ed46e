use Rattle.cr_language.proofs.Faulting.{told_faults}
use Rattle.cr_language.proofs.laws.told_faults_are_had.Goals as goal

pub returns : goal.returns
returns c = λ e. told_faults e
