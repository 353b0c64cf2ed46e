use Rattle.std.proofs.Common.{◌≡◌, ◌∙◌, List, ap, rules, subst, sym}
use Rattle.cr_lattice.specs.declared.table.ColumnDef.{ColumnDef}
use Rattle.cr_resolve.specs.Reading.{fine}
use Rattle.cr_resolve.specs.Told.{Refuses}
use Rattle.cr_created.specs.Drafts.{columns_read, drafted, outside_types}
use Rattle.cr_created.proofs.Defined.{profile_fails}
use Rattle.cr_created.proofs.create.columns.Goals as goal

pub returns-in_err-check_profile : goal.returns-in_err-check_profile
returns-in_err-check_profile c =
    let create = c.args.create.now in
    let f = c.in_err-check_profile.field-0.0 in
    let told : Refuses (outside_types create c.in_ok-columns.columns) f =
    subst (λ (ds : List ColumnDef). Refuses (outside_types create ds) f) c.as_slice-2.ensures c.in_err-check_profile.ensures in
    let is : columns_read create.key create.columns ≡ fine c.in_ok-columns.columns = sym (ap (columns_read create.key) c.as_slice.ensures) ∙ c.in_ok-columns.ensures in
    let why : Refuses (drafted create).bad f = profile_fails create c.in_ok-columns.columns is f told in
    search rules
