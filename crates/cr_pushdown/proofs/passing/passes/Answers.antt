use Rattle.std.proofs.Common.{map, sym, ◌∙◌}
use Rattle.cr_scalar.specs.Host.{Host, host}
use Rattle.cr_exec.specs.Scopes.{there}
use Rattle.cr_pushdown.proofs.Answers.{fault_passes}
use Rattle.cr_pushdown.proofs.passing.passes.Goals as goal

pub returns-in-Err-2 : goal.returns-in-Err-2
returns-in-Err-2 g c =
    let by : Host = host (g.F.Functions.function_of c.args.functions.now) (g.F.Functions.scalar c.args.functions.now) (g.F.Functions.step c.args.functions.now) (g.F.Functions.finish c.args.functions.now) (g.F.Functions.order_of c.args.functions.now) in
    fault_passes by c.args.params.now c.in-Err.fault (sym c.is_memory.ensures ∙ c.if-is_memory.false) (map there c.args.terms.now) c.args.row.now c.in-Err.ensures
