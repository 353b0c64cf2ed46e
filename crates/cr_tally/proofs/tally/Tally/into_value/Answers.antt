use Rattle.std.proofs.Common.{sym}
use Rattle.cr_value.proofs.Fields.{some_is}
use Rattle.cr_tally.proofs.Worths.{worth}
use Rattle.cr_tally.proofs.tally.Tally.into_value.Goals as goal

pub returns-then-is_small : goal.returns-then-is_small
returns-then-is_small c x is = worth c.args.self x (c.is_small.ensures c.if-is_small.true) (sym (some_is c.args.self.value x is))
