use Rattle.cr_shell.proofs.LineLemmas.{behind_at, not_behind, nothing_behind}
use Rattle.cr_shell.proofs.words.behind_from.Goals as goal
use Rattle.cr_shell.proofs.words.behind_from.Goals.{then-at-bytes-via-then-at-bytes, then-at-bytes-via-else-at-bytes+then-bytes-at}

pub returns-then-at-bytes : goal.returns-then-at-bytes
returns-then-at-bytes c = elim c.then-at-bytes.branch [ then-at-bytes-via-then-at-bytes w ↦ nothing_behind c.args.text.now c.args.at c.args.byte (rw c.as_bytes-bytes.ensures.value at w.if-at-bytes.true) | then-at-bytes-via-else-at-bytes+then-bytes-at w ↦ not_behind c.args.text.now c.args.at c.args.byte (rw c.as_bytes-bytes.ensures.value at w.if-at-bytes.false) (rw c.as_bytes-bytes.ensures.value at w.if-bytes-at.true) ]

pub returns : goal.returns
returns c = behind_at c.args.text.now c.args.at c.args.byte (rw c.as_bytes-bytes.ensures.value at c.if-at-bytes.false) (rw c.as_bytes-bytes.ensures.value at c.if-bytes-at.false)
