use Rattle.std.proofs.Common.{◌≡◌, List, ap, subst, ◌∙◌}
use Rattle.std.specs.Prelude.{IfOk}
use Rattle.cr_value.specs.declared.value.Value.{Value}
use Rattle.cr_lattice.specs.Rows.{row}
use Rattle.cr_lattice.proofs.KeyLemmas.{row-under}
use Rattle.cr_lattice.proofs.rows.row_at.Goals as goal

pub returns : goal.returns
returns c =
    let same = ap (λ ks. row ks c.args.def.now c.args.pk.now) c.changes_under.ensures ∙ row-under c.args.by_key.now c.args.def.now c.args.pk.now in
    subst (λ (x : List Value). IfOk c.row.result (λ r. r ≡ x)) same c.row.ensures
