use Rattle.std.proofs.Common.{rules}
use Rattle.cr_resolve.specs.Queries.{select as meant}
use Rattle.cr_resolve.specs.Told.{Refuses}
use Rattle.cr_grouped.proofs.Finishing.{names_fail, groups_fail, selected}
use Rattle.cr_grouped.proofs.select.select.Goals as goal

pub returns-in_err-read : goal.returns-in_err-read
returns-in_err-read g c =
    let known = g.K.Naming.known c.args.known.now in
    let why : Refuses (meant known c.args.select.now).bad c.in_err-read.field-0.0 = names_fail known c.args.select.now c.in_err-read.field-0.0 c.in_err-read.ensures in
    search rules

pub returns-in_err-grouping : goal.returns-in_err-grouping
returns-in_err-grouping g c =
    let known = g.K.Naming.known c.args.known.now in
    let why : Refuses (meant known c.args.select.now).bad c.in_err-grouping.field-0.0 =
    groups_fail known c.args.select.now c.in_ok-read.read c.in_err-grouping.field-0.0 c.in_ok-read.ensures c.in_err-grouping.ensures in
    search rules

pub returns : goal.returns
returns g c =
    let known = g.K.Naming.known c.args.known.now in
    let grouping = c.in_ok-grouping.grouping in
    selected known c.args.select.now c.in_ok-read.read grouping.is_grouped grouping.terms c.finished.result c.in_ok-read.ensures c.in_ok-grouping.ensures c.finished.ensures
