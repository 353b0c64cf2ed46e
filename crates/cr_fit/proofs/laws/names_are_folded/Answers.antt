use Rattle.cr_fit.proofs.Folding.{are_names_folded}
use Rattle.cr_fit.proofs.laws.names_are_folded.Goals as goal

pub returns : goal.returns
returns c = are_names_folded
