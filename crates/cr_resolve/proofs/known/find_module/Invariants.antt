use Rattle.std.proofs.Common.{◌≡◌, drop}
use Rattle.cr_resolve.specs.Known.{module_at}
use Rattle.cr_resolve.proofs.known.find_module.Given as goal

abbrev pub invariant-loop-place : goal.invariant-loop-place
invariant-loop-place l = module_at l.name l.place (drop l.place l.modules) ≡ module_at l.name 0 l.modules
