use Rattle.std.proofs.Common.{drop}
use Rattle.cr_delta.specs.Steps.{removal}
use Rattle.cr_delta.proofs.Remains.{Remains}
use Rattle.cr_delta.proofs.delta.add_removals.Given as goal

abbrev pub invariant-loop-change : goal.invariant-loop-change
invariant-loop-change l = Remains (removal l.def l.site l.keys) l.out.items (drop l.change-index l.kept) l.fn.out.items l.kept
