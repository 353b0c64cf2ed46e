use Rattle.std.proofs.Common.{◌≡◌, ℕ, List, true, take}
use Rattle.cr_touched.specs.Parts.{is_key_of}
use Rattle.cr_pending.specs.Touched.{AreUnder}
use Rattle.cr_pending.proofs.touched.add_keys.Given as goal

abbrev pub invariant-loop-change : goal.invariant-loop-change
invariant-loop-change l = record {
  stay : (pk : List ℕ) → is_key_of l.fn.keys.keys pk ≡ true → is_key_of l.keys.keys pk ≡ true;
  under : AreUnder l.keys.keys (take l.change-index l.changes);
}
