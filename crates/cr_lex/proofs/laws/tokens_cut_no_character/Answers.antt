use Rattle.cr_lex.proofs.Boundaries.{tokens_cut_nothing}
use Rattle.cr_lex.proofs.laws.tokens_cut_no_character.Goals as goal

pub returns : goal.returns
returns c = λ text tokens utf8 e. tokens_cut_nothing text utf8 tokens e
