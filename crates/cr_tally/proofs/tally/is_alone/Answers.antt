use Rattle.std.proofs.Common.{◌∙◌, ap, not, sym}
use Rattle.cr_term.specs.Parts.{aggregates}
use Rattle.cr_tally.proofs.Worths.{none_there}
use Rattle.cr_tally.proofs.tally.is_alone.Goals as goal

pub returns : goal.returns
returns c is = none_there (aggregates c.args.expr.now) (ap not (sym c.has_aggregate.ensures) ∙ is)
