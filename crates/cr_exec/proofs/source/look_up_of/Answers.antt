use Rattle.std.proofs.Common.{map, rules}
use Rattle.cr_scalar.specs.Host.{host}
use Rattle.cr_exec.specs.Groups.{row_there}
use Rattle.cr_exec.specs.Scopes.{there}
use Rattle.cr_exec.proofs.LeftOut.{inner_sound}
use Rattle.cr_exec.proofs.source.look_up_of.Goals as goal

pub returns : goal.returns
returns g c =
    let h = host (g.F.Functions.function_of c.args.functions.now) (g.F.Functions.scalar c.args.functions.now) (g.F.Functions.step c.args.functions.now) (g.F.Functions.finish c.args.functions.now) (g.F.Functions.order_of c.args.functions.now) in
    inner_sound h (map there c.args.terms.now) c.args.later.now c.args.join.now (map row_there c.args.rows.now) c.args.start c.has_left.result (search rules) c.if-join.false c.has_left.ensures c.if-has_left.false c.look_up-2.result c.look_up-2.ensures
