use Rattle.std.proofs.Common.{◌∙◌, ◌++◌, ◌∷◌, [], List, ap, arith}
use Rattle.cr_query.specs.Query.{Row}
use Rattle.cr_module.specs.Lawful.{first_row, head_value}
use Rattle.cr_module.proofs.Readings.{next_value}
use Rattle.cr_module.proofs.Sources.{or_none}
use Rattle.cr_module.proofs.rows.row_at.Goals as goal

pub loop-at-preserved : goal.loop-at-preserved
loop-at-preserved g c =
    let whole : List Row = g.S.Source.left c.args.source.now c.args.cursor.now in
    let value = c.in_ok-column.ensures.value ∙ ap (λ (rows : List Row). head_value c.loop-at.at rows) c.loop-at.invariant.1 in (
      c.in_ok-push.ensures.items ∙ (λ i. c.loop-at.invariant.0 i ++ value i ∷ [])
          ∙ next_value (first_row whole) c.loop-at.at (omega (arith, c.loop-at-test.true, c.width-at-end.ensures)),
      c.in_ok-column.ensures.stays ∙ c.loop-at.invariant.1,
      c.in_ok-column.ensures.rows ∙ c.loop-at.invariant.2,
      c.in_ok-column.ensures.failed ∙ or_none _ ∙ c.loop-at.invariant.3,
    )
