use Rattle.std.proofs.Common.{take}
use Rattle.cr_lattice.specs.Check.{same_bytes}
use Rattle.cr_snapshot.specs.Seen.{name_of}
use Rattle.cr_modules.specs.States.{HasNone}
use Rattle.cr_modules.proofs.registered.Registered.is_among.Given as goal

abbrev pub invariant-loop-source : goal.invariant-loop-source
invariant-loop-source g l = HasNone (λ j. same_bytes l.self.name (name_of j)) (take l.source-index l.joined)
