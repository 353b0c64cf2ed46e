use Rattle.cr_lex.proofs.Turns.{one_each}
use Rattle.cr_lex.proofs.laws.each_token_has_one_symbol.Goals as goal

pub returns : goal.returns
returns c = one_each
