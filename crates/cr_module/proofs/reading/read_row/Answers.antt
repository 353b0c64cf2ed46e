use Rattle.std.proofs.Common.{◌++◌, ◌∷◌, [], ◌∙◌, arith}
use Rattle.cr_module.proofs.Readings.{next_value}
use Rattle.cr_module.proofs.reading.read_row.Goals as goal

pub loop-at-preserved : goal.loop-at-preserved
loop-at-preserved g c =
    c.in_ok-push.ensures.items ∙ (λ i. c.loop-at.invariant i ++ c.in_ok-column.ensures i ∷ [])
    ∙ next_value _ c.loop-at.at (omega (arith, c.loop-at-test.true, c.requires.wide))
