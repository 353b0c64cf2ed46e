use Rattle.std.proofs.Common.{◌≡◌, true}
use Rattle.cr_lattice.specs.Profile.{places_once}
use Rattle.cr_lattice.proofs.profile.has_key.Given as goal

abbrev pub invariant-loop-before : goal.invariant-loop-before
invariant-loop-before l = places_once l.def l.before ≡ true
