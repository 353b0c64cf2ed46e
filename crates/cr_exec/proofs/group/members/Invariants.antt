use Rattle.std.proofs.Common.{◌≡◌, take, map}
use Rattle.cr_exec.specs.Groups.{member_of}
use Rattle.cr_exec.proofs.group.members.Given as goal

abbrev pub invariant-loop-one : goal.invariant-loop-one
invariant-loop-one g l = l.out.items ≡ map member_of (take l.one-index l.one-items)
