use Rattle.std.proofs.Common.{◌∙◌, sym}
use Rattle.cr_sound.proofs.TableLemmas.{stored_none, stored_next, stored_there}
use Rattle.cr_sound.proofs.tables.are_stored.Goals as goal

pub loop-place-init : goal.loop-place-init
loop-place-init c = stored_none

pub returns-then-not-comes_after : goal.returns-then-not-comes_after
returns-then-not-comes_after c = (
  (λ e. absurd cc),
  λ stored.
      sym c.if-not-comes_after.true
      ∙ c.comes_after.ensures.1 (stored_there c.args.tables.now c.loop-place.place c.index-tables-place.result c.index-tables-place.is c.loop-place-test.true stored),
)

pub loop-place-preserved : goal.loop-place-preserved
loop-place-preserved c =
    stored_next c.args.tables.now c.loop-place.place c.index-tables-place.result c.index-tables-place.is c.loop-place-test.true c.loop-place.invariant
    (c.comes_after.ensures.0 c.if-not-comes_after.false)
