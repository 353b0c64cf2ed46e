use Rattle.std.proofs.Common.{arith}
use Rattle.std.proofs.lemmas.Str.Pattern.{split_parts}
use Rattle.cr_shell.proofs.LineLemmas.{splits}
use Rattle.cr_shell.proofs.words.split_at_space.Goals as goal

pub returns : goal.returns
returns c = splits c.args.text.now c.split_once.result (split_parts 32 c.args.text.now c.split_once.result c.split_once.ensures.cases (omega arith))
