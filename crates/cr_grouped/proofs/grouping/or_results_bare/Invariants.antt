use Rattle.std.proofs.Common.{◌≡◌, drop}
use Rattle.std.specs.List.{flat_map}
use Rattle.cr_select.specs.Placed.{or_bare}
use Rattle.cr_grouped.specs.Grouping.{output_bares}
use Rattle.cr_grouped.proofs.grouping.or_results_bare.Given as goal

abbrev pub invariant-loop-output : goal.invariant-loop-output
invariant-loop-output l = or_bare l.found (flat_map (output_bares l.terms) (drop l.output-index l.outputs)) ≡ or_bare l.initial.found (flat_map (output_bares l.terms) l.outputs)
