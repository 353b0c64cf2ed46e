use Rattle.std.proofs.Common.{[]}
use Rattle.cr_exec.proofs.Tails.{null_pushed}
use Rattle.cr_sought.proofs.joined.null_row.Goals as goal

pub loop-place-preserved : goal.loop-place-preserved
loop-place-preserved c = null_pushed [] c.loop-place.values.items c.push.new.self.items c.loop-place._place c.loop-place.invariant c.in_ok-push.ensures.items
