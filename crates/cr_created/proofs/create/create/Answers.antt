use Rattle.std.proofs.Common.{◌≡◌, ◌∙◌, List, ap, rules, subst, sym}
use Rattle.cr_lattice.specs.declared.table.ColumnDef.{ColumnDef}
use Rattle.cr_resolve.specs.Creates.{create as meant}
use Rattle.cr_resolve.specs.Reading.{fine}
use Rattle.cr_resolve.specs.Told.{Refuses}
use Rattle.cr_created.specs.Drafts.{names_read}
use Rattle.cr_created.proofs.Defined.{columns_fail, created, names_fail}
use Rattle.cr_created.proofs.create.create.Goals as goal

pub returns-in_err-columns : goal.returns-in_err-columns
returns-in_err-columns g c =
    let known = g.K.Naming.known c.args.known.now in
    let f = c.in_err-columns.field-0.0 in
    let why : Refuses (meant known c.args.create.now).bad f = columns_fail known c.args.create.now f c.in_err-columns.ensures in
    search rules

pub returns-in_err-is_there : goal.returns-in_err-is_there
returns-in_err-is_there g c =
    let known = g.K.Naming.known c.args.known.now in
    let f = c.in_err-is_there.field-0.0 in
    let told : Refuses (names_read known c.args.create.now c.in_ok-columns.columns).bad f =
    subst (λ (ds : List ColumnDef). Refuses (names_read known c.args.create.now ds).bad f) c.as_slice.ensures c.in_err-is_there.ensures in
    let why : Refuses (meant known c.args.create.now).bad f = names_fail known c.args.create.now c.in_ok-columns.columns c.in_ok-columns.ensures f told in
    search rules

pub returns : goal.returns
returns g c =
    let known = g.K.Naming.known c.args.known.now in
    let named : names_read known c.args.create.now c.in_ok-columns.columns ≡ fine c.in_ok-is_there.is_there =
    sym (ap (names_read known c.args.create.now) c.as_slice.ensures) ∙ c.in_ok-is_there.ensures in
    created known c.args.create.now c.in_ok-columns.columns c.in_ok-columns.ensures c.in_ok-is_there.is_there c.in_ok-name.name named c.in_ok-name.ensures
