use Rattle.std.proofs.Common.{◌≡◌}
use Rattle.crsh.proofs.prompt.Prompted.follow_all.Given as goal

abbrev pub invariant-loop-byte : goal.invariant-loop-byte
invariant-loop-byte g l = l.self.reader ≡ l.fn.self.reader
