use Rattle.std.proofs.Common.{refl, sym, ◌∙◌}
use Rattle.std.proofs.lemmas.Result.{err_from_is_err_and}
use Rattle.cr_store.proofs.Damage.{damage_then}
use Rattle.cr_store.proofs.KnownLemmas.{meta_listed, meta_can_be_read, meta_is_read}
use Rattle.cr_store.proofs.opening.read_meta.Goals as goal

pub returns-in_err-entries : goal.returns-in_err-entries
returns-in_err-entries c =
    let p = err_from_is_err_and c.from_residual.result c.from_residual.ensures.1 in
    rw (p.1, p.2) (damage_then c.in_err-entries.field-0.0 (λ damaged site version wide it. damaged (meta_can_be_read c.args.format c.args.rows.now site version it)) c.in_err-entries.ensures)

pub returns-in-Some : goal.returns-in-Some
returns-in-Some c =
    meta_is_read c.args.format c.args.rows.now c.in-Some.meta.0 c.in-Some.meta.1 c.in_ok-entries.ensures.1 (sym c.in_ok-entries.ensures.0 ∙ sym c.deref.ensures.value ∙ c.in-Some.ensures)

pub returns : goal.returns
returns c =
    (refl, λ site version wide it. c.in-None.ensures site version wide (c.deref.ensures.value ∙ c.in_ok-entries.ensures.0 ∙ meta_listed c.args.format c.args.rows.now site version it))
