use Rattle.std.proofs.Common.{◌≡◌, ◌++◌, drop}
use Rattle.std.specs.Option.{option_copied}
use Rattle.cr_select.specs.Outputs.{star_columns}
use Rattle.cr_select.proofs.Star.{shown_from}
use Rattle.cr_select.proofs.outputs.star.Given as goal

abbrev pub invariant-loop-number : goal.invariant-loop-number
invariant-loop-number l = l.outputs ++ shown_from (option_copied l.qualifier) l.number l.from (drop l.number l.sources) ≡ star_columns l.sources (option_copied l.qualifier)
