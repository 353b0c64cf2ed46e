use Rattle.cr_shell.proofs.LineLemmas.{reads}
use Rattle.cr_shell.proofs.words.literal_from.Goals as goal

pub returns : goal.returns
returns c = reads c.args.text.now c.args.at c.read_literal.result c.read_literal.ensures.some c.read_literal.ensures.none
