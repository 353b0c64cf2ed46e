use Rattle.std.proofs.Common.{Ok}
use Rattle.cr_resolve.specs.Cases.{ArmsMeet}
use Rattle.cr_resolve.proofs.case.meet_arms.Given as goal

abbrev pub invariant-loop-arm : goal.invariant-loop-arm
invariant-loop-arm g l = ArmsMeet (g.K.Naming.known l.known) l.operand l.yielded (Ok l.arms)
