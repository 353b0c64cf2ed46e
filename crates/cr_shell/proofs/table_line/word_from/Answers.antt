use Rattle.std.proofs.Common.{rules}
use Rattle.cr_shell.proofs.TableLemmas.{no_word, word_behind, no_word_behind}
use Rattle.cr_shell.proofs.table_line.word_from.Goals as goal

pub returns-then-at-bytes : goal.returns-then-at-bytes
returns-then-at-bytes c = no_word c.args.text.now c.args.at c.args.stop (rw c.as_bytes-bytes.ensures.value at c.if-at-bytes.true)

pub returns-in_default : goal.returns-in_default
returns-in_default c = no_word_behind c.args.text.now c.args.at c.args.stop (search rules)

pub returns : goal.returns
returns c = word_behind c.args.text.now c.args.at c.args.stop c.in-Some.word.now c.in-Some.len (search rules)
