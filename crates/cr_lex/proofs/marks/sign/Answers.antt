use Rattle.cr_lex.specs.Marks.{signs}
use Rattle.cr_lex.proofs.marks.sign.Goals as goal

pub returns : goal.returns
unfolding signs
returns c = c.marked.ensures
