use Rattle.cr_shell.proofs.LineLemmas.{at_end}
use Rattle.cr_shell.proofs.words.is_at_end.Goals as goal

pub returns : goal.returns
returns c = at_end c.args.text.now c.args.at
