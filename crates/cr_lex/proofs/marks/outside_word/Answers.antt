use Rattle.cr_lex.specs.Marks.{outside_words, outside_word}
use Rattle.cr_lex.proofs.marks.outside_word.Goals as goal

pub returns : goal.returns
unfolding outside_words outside_word
returns c = c.written.ensures
