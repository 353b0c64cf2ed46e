use Rattle.std.proofs.Common.{rules}
use Rattle.cr_resolve.specs.Told.{Refuses}
use Rattle.cr_created.specs.Drafts.{names_read}
use Rattle.cr_created.proofs.Defined.{table_fails}
use Rattle.cr_created.proofs.create.check_names.Goals as goal

pub returns-in_err-check_table : goal.returns-in_err-check_table
returns-in_err-check_table g c =
    let known = g.K.Naming.known c.args.known.now in
    let f = c.in_err-check_table.field-0.0 in
    let why : Refuses (names_read known c.args.create.now c.args.columns.now).bad f =
    table_fails known c.args.create.now c.args.columns.now c.in_ok-is_taken.is_taken f c.in_ok-is_taken.ensures c.in_err-check_table.ensures in
    search rules
