use Rattle.std.proofs.Common.{take}
use Rattle.cr_lattice.specs.Check.{same_bytes}
use Rattle.cr_modules.specs.States.{HasNone}
use Rattle.cr_modules.proofs.modules.place_of.Given as goal

abbrev pub invariant-loop-at : goal.invariant-loop-at
invariant-loop-at g l = HasNone (λ r. same_bytes r.name l.name) (take l.at l.list)
