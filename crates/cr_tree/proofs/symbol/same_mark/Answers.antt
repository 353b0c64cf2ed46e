use Rattle.cr_tree.specs.Marks.{same_mark}
use Rattle.cr_tree.proofs.symbol.same_mark.Goals as goal

pub returns : goal.returns
unfolding same_mark
returns c = c.eq.ensures
