use Rattle.std.proofs.Common.{arith, [], sym, subst}
use Rattle.cr_scalar.specs.Like.{MatchesEnds}
use Rattle.cr_scalar.proofs.LikeLemmas.{empty_pattern}
use Rattle.cr_scalar.proofs.like.ends_of.Goals as goal

pub returns : goal.returns
returns c =
    subst (MatchesEnds [] c.args.text.now) (sym c.in_ok-push-2.ensures.items)
    (empty_pattern c.args.text.now c.loop-turn.ends.items (omega arith) c.loop-turn.invariant.none)
