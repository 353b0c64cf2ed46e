use Rattle.std.proofs.Common.{rules}
use Rattle.cr_resolve.specs.Told.{Refuses}
use Rattle.cr_resolve.specs.Writes.{delete as meant}
use Rattle.cr_written.proofs.Wholes.{delete_no_table, delete_no_filter, delete_misplaced, deleted}
use Rattle.cr_written.proofs.delete.delete.Goals as goal

pub returns-in_err-source : goal.returns-in_err-source
returns-in_err-source g c =
    let known = g.K.Naming.known c.args.known.now in
    let why : Refuses (meant known c.args.delete.now).bad c.in_err-source.field-0.0 = delete_no_table known c.args.delete.now c.in_err-source.field-0.0 c.in_err-source.ensures in
    search rules

pub returns-in_err-filter : goal.returns-in_err-filter
returns-in_err-filter g c =
    let known = g.K.Naming.known c.args.known.now in
    let why : Refuses (meant known c.args.delete.now).bad c.in_err-filter.field-0.0 =
    delete_no_filter known c.args.delete.now c.in_ok-source.source c.in_ok-source.ensures c.in_err-filter.field-0.0 c.in_err-filter.ensures in
    search rules

pub returns-in_err-check_placed : goal.returns-in_err-check_placed
returns-in_err-check_placed g c =
    let known = g.K.Naming.known c.args.known.now in
    let why : Refuses (meant known c.args.delete.now).bad c.in_err-check_placed.field-0.0 =
    delete_misplaced known c.args.delete.now c.in_ok-source.source c.in_ok-source.ensures c.in_ok-filter.filter c.in_ok-filter.ensures c.in_err-check_placed.field-0.0 c.in_err-check_placed.ensures in
    search rules

pub returns : goal.returns
returns g c =
    let known = g.K.Naming.known c.args.known.now in
    deleted known c.args.delete.now c.in_ok-source.source c.in_ok-source.ensures c.in_ok-filter.filter c.in_ok-filter.ensures c.in_ok-check_placed.ensures
