use Rattle.std.proofs.Common.{List, map, rules}
use Rattle.cr_resolve.specs.Queries.{Result as ResultOf}
use Rattle.cr_resolve.specs.Told.{Refuses}
use Rattle.cr_select.specs.Outputs.{as_result}
use Rattle.cr_select.specs.Named.{back}
use Rattle.cr_select.proofs.Readings.{in_having, in_order, in_distinct}
use Rattle.cr_select.proofs.named.read_back.Goals as goal

pub returns-in_err-having : goal.returns-in_err-having
returns-in_err-having g c =
    let known = g.K.Naming.known c.args.known.now in
    let results : List ResultOf = map as_result c.args.outputs.now in
    let why : Refuses (back known c.args.sources.now results c.args.select.now).bad c.in_err-having.field-0.0 =
    in_having known c.args.sources.now c.args.select.now results c.in_ok-groups.groups c.in_err-having.field-0.0 c.in_ok-groups.ensures c.in_err-having.ensures in
    search rules

pub returns-in_err-order : goal.returns-in_err-order
returns-in_err-order g c =
    let known = g.K.Naming.known c.args.known.now in
    let results : List ResultOf = map as_result c.args.outputs.now in
    let why : Refuses (back known c.args.sources.now results c.args.select.now).bad c.in_err-order.field-0.0 =
    in_order known c.args.sources.now c.args.select.now results c.in_ok-groups.groups c.in_ok-having.having c.in_err-order.field-0.0 c.in_ok-groups.ensures c.in_ok-having.ensures c.in_err-order.ensures in
    search rules

pub returns-in_err-check_distinct : goal.returns-in_err-check_distinct
returns-in_err-check_distinct g c =
    let known = g.K.Naming.known c.args.known.now in
    let results : List ResultOf = map as_result c.args.outputs.now in
    let why : Refuses (back known c.args.sources.now results c.args.select.now).bad c.in_err-check_distinct.field-0.0 =
    in_distinct known c.args.sources.now c.args.select.now results c.in_ok-groups.groups c.in_ok-having.having c.in_ok-order.order c.in_err-check_distinct.field-0.0 c.in_ok-groups.ensures c.in_ok-having.ensures c.in_ok-order.ensures c.in_err-check_distinct.ensures in
    search rules
