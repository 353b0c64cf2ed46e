use Rattle.std.proofs.Common.{◌≡◌, take}
use Rattle.std.specs.Prelude.{filter}
use Rattle.cr_touched.specs.Parts.{is_at, is_key_of}
use Rattle.cr_pending.proofs.under.part.Given as goal

abbrev pub invariant-loop-change : goal.invariant-loop-change
invariant-loop-change l = l.found.items ≡ filter (is_at l.table (is_key_of l.keys)) (take l.change-index l.changes)
