use Rattle.std.proofs.Common.{arith}
use Rattle.cr_scalar.proofs.LikeLemmas.{next_front}
use Rattle.cr_scalar.proofs.like.before_all.Goals as goal

pub loop-at-preserved : goal.loop-at-preserved
loop-at-preserved c =
    next_front c.args.pattern.now c.args.text.now c.before-in-loop-at.new.ends _ _ _ _ _ (omega arith) (omega arith) (omega arith) c.index-pattern-pattern.is (c.before-in-loop-at.ensures _ c.loop-at.invariant)
