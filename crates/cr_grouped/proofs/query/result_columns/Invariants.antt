use Rattle.std.proofs.Common.{◌≡◌, map, take}
use Rattle.cr_grouped.specs.Grouping.{shown_in}
use Rattle.cr_grouped.proofs.query.result_columns.Given as goal

abbrev pub invariant-loop-output : goal.invariant-loop-output
invariant-loop-output l = l.columns ≡ map (shown_in l.is_grouped l.terms) (take l.output-index l.outputs)
