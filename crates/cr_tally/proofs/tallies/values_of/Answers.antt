use Rattle.std.proofs.Common.{subst, sym, refl}
use Rattle.std.specs.List.{AllZip}
use Rattle.cr_tally.specs.Tallies.{Worth}
use Rattle.cr_tally.proofs.Lists.{zip-append}
use Rattle.cr_tally.proofs.tallies.values_of.Goals as goal

pub loop-tally-preserved : goal.loop-tally-preserved
loop-tally-preserved c =
    subst (AllZip Worth _) (sym c.in_ok-push.ensures.items)
    (zip-append Worth c.loop-tally.yielded c.loop-tally.values.items c.in-Some.tally c.in-Some-into_value.value c.loop-tally.invariant (c.in-Some-into_value.ensures c.in-Some-into_value.value refl))
