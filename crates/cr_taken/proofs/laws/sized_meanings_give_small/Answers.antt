use Rattle.cr_taken.proofs.Sized.{sized_small}
use Rattle.cr_taken.proofs.laws.sized_meanings_give_small.Goals as goal

pub returns : goal.returns
returns c = sized_small
