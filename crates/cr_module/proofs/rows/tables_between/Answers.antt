use Rattle.std.proofs.Common.{◌∙◌, ◌+◌, ◌-◌, ◌++◌, ◌∷◌, [], ℕ, List, arith}
use Rattle.cr_query.specs.Query.{Row}
use Rattle.cr_module.specs.Reading.{tables_between}
use Rattle.cr_module.proofs.Sources.{next_table, or_none}
use Rattle.cr_module.proofs.rows.tables_between.Goals as goal

pub loop-table-preserved : goal.loop-table-preserved
loop-table-preserved g c =
    let rows : ℕ → List Row = g.S.Source.rows_of c.args.source.now in
    let read = c.in_ok-rows_of_table.ensures.read ∙ (λ i. c.loop-table.invariant.1 i c.loop-table.table) in
    let later : List (List Row) = tables_between rows (c.loop-table.table + 1) (c.args.end - (c.loop-table.table + 1)) in (
      (λ i. (c.in_ok-push.ensures.items ∙ (λ j. c.loop-table.tables.items ++ read j ∷ [])) i ++ later)
          ∙ next_table rows _ _ c.loop-table.table c.args.end (omega (arith, c.loop-table-test.true)) c.loop-table.invariant.0,
      c.in_ok-rows_of_table.ensures.rows ∙ c.loop-table.invariant.1,
      c.in_ok-rows_of_table.ensures.failed ∙ or_none _ ∙ c.loop-table.invariant.2,
    )
