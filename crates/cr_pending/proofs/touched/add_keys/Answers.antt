use Rattle.std.proofs.Common.{sym, subst}
use Rattle.cr_pending.specs.Touched.{AreUnder}
use Rattle.cr_pending.proofs.Keys.{one_more, still_under, under_both}
use Rattle.cr_pending.proofs.touched.add_keys.Goals as goal

pub loop-change-preserved : goal.loop-change-preserved
loop-change-preserved c = record {
  stay = λ pk e. c.in_ok-add_key.ensures.stay pk (c.loop-change.invariant.stay pk e);
  under = subst (AreUnder c.add_key.new.keys.keys) (sym (one_more c.args.changes.now c.loop-change.change-index c.change-item.result c.loop-change-test.true c.change-item.is))
      (under_both c.add_key.new.keys.keys _ _ (still_under c.loop-change.keys.keys c.add_key.new.keys.keys _ c.in_ok-add_key.ensures.stay c.loop-change.invariant.under) (c.in_ok-add_key.ensures.there, tt));
}
