use Rattle.cr_lex.specs.Marks.{words}
use Rattle.cr_lex.proofs.marks.word.Goals as goal

pub returns : goal.returns
unfolding words
returns c = c.marked.ensures
