use Rattle.std.proofs.Common.{◌≡◌, length}
use Rattle.std.specs.Str.{str_to_ascii_lowercase, bytes_eq}
use Rattle.cr_host.proofs.name.folds_to_bytes.Given as goal

abbrev pub invariant-loop-rest : goal.invariant-loop-rest
invariant-loop-rest l = bytes_eq (str_to_ascii_lowercase l.rest) l.wanted ≡ bytes_eq (str_to_ascii_lowercase l.name) l.folded

abbrev pub decreases-loop-rest : goal.decreases-loop-rest
decreases-loop-rest l = length l.rest
