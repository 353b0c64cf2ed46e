use Rattle.std.proofs.Common.{◌≡◌, take}
use Rattle.std.specs.Prelude.{filter}
use Rattle.cr_touched.specs.Parts.{is_key_of}
use Rattle.cr_pending.proofs.touched.among.Given as goal

abbrev pub invariant-loop-key : goal.invariant-loop-key
invariant-loop-key l = l.out.items ≡ filter (is_key_of l.others.keys) (take l.key-index l.keys)
