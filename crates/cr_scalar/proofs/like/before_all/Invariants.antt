use Rattle.std.proofs.Common.{◌-◌, length, drop}
use Rattle.cr_scalar.specs.Like.{MatchesEnds}
use Rattle.cr_scalar.proofs.like.before_all.Given as goal

abbrev pub invariant-loop-at : goal.invariant-loop-at
invariant-loop-at l = MatchesEnds (drop (length l.pattern - l.at) l.pattern) l.text l.ends
