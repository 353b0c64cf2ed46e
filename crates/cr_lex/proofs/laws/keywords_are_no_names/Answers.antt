use Rattle.cr_lex.proofs.Keywords.{keywords}
use Rattle.cr_lex.proofs.laws.keywords_are_no_names.Goals as goal

pub returns : goal.returns
returns c = keywords
