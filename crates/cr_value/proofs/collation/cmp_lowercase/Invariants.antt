use Rattle.std.proofs.Common.{◌≡◌, drop, map}
use Rattle.std.specs.Char.{to_ascii_lowercase}
use Rattle.cr_value.specs.Bytes.{bytes_cmp}
use Rattle.cr_value.proofs.collation.cmp_lowercase.Given as goal

abbrev pub invariant-loop-at : goal.invariant-loop-at
invariant-loop-at l = bytes_cmp (drop l.at (map to_ascii_lowercase l.a)) (drop l.at (map to_ascii_lowercase l.b)) ≡ bytes_cmp (map to_ascii_lowercase l.a) (map to_ascii_lowercase l.b)
