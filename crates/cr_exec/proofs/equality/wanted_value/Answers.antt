use Rattle.cr_exec.proofs.Sought.{wants_own}
use Rattle.cr_exec.proofs.equality.wanted_value.Goals as goal

pub returns-in_ok-into_value-in-None : goal.returns-in_ok-into_value-in-None
returns-in_ok-into_value-in-None c = wants_own c.args.params.now c.args.combination.now c.args.wanted.now c.args.takes c.in-Some.value c.in_ok-into_value-in-None.field-0 c.in-None.is c.in_ok-into_value-in-None.ensures c.in-Some.ensures
