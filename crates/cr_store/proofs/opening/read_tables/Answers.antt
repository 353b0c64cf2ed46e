use Rattle.std.proofs.Common.{sym, ◌∙◌}
use Rattle.std.proofs.lemmas.Result.{err_from_is_err_and}
use Rattle.cr_store.proofs.Damage.{damage_then, read_then}
use Rattle.cr_store.proofs.KnownLemmas.{tables_listed, tables_can_be_read, tables_are_read}
use Rattle.cr_store.proofs.opening.read_tables.Goals as goal

pub returns-in_err-entries : goal.returns-in_err-entries
returns-in_err-entries c =
    let p = err_from_is_err_and c.from_residual.result c.from_residual.ensures.1 in
    rw (p.1, p.2) (damage_then c.in_err-entries.field-0.0 (λ damaged ts all it. damaged (tables_can_be_read c.args.rows.now ts all it)) c.in_err-entries.ensures)

pub returns : goal.returns
returns c =
    let read = c.deref.ensures.value ∙ c.in_ok-entries.ensures.0 in
    read_then c.tables_in.result _ _ _ _ (λ ts h. (tables_are_read c.args.rows.now ts.items c.in_ok-entries.ensures.1 (sym read ∙ h.0), h.1))
    (λ none ts all it. none ts all (read ∙ tables_listed c.args.rows.now ts it)) c.tables_in.ensures
