use Rattle.std.proofs.Common.{◌≡◌, take, map}
use Rattle.cr_exec.specs.Groups.{key_of, row_there}
use Rattle.cr_exec.proofs.group.keys_of.Given as goal

abbrev pub invariant-loop-one : goal.invariant-loop-one
invariant-loop-one l = map row_there l.keys.items ≡ map key_of (take l.one-index l.keyed)
