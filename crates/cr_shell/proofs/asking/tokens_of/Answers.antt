use Rattle.cr_lex.proofs.Unique.{one_list}
use Rattle.cr_language.specs.Texts.{tokens_of}
use Rattle.cr_language.proofs.Texts.{have_tokens}
use Rattle.cr_shell.proofs.asking.tokens_of.Goals as goal

pub returns-in-Ok : goal.returns-in-Ok
returns-in-Ok c = one_list c.args.text.now 0 c.in-Ok.found.items (tokens_of c.args.text.now) c.in-Ok.ensures.tokens (have_tokens c.args.text.now)
