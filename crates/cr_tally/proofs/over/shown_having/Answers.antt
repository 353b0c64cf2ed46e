use Rattle.std.proofs.Common.{refl}
use Rattle.cr_tally.proofs.Shows.{no_part, some_part}
use Rattle.cr_tally.proofs.over.shown_having.Goals as goal

pub returns-in_ok-shown-in-Some : goal.returns-in_ok-shown-in-Some
returns-in_ok-shown-in-Some c = some_part c.args.calls.now.items c.show.new.calls.items c.args.having.now c.in-Some.expr c.in-Some.expr c.in_ok-shown-in-Some.shown c.in-Some.is refl c.in_ok-shown-in-Some.ensures

pub returns-in-None : goal.returns-in-None
returns-in-None c = no_part c.args.calls.now.items c.args.having.now c.in-None.is
