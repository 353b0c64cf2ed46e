use Rattle.std.proofs.Common.{subst}
use Rattle.sqlite.specs.Held.{Held, state}
use Rattle.cr_store.specs.declared.format.Format.TheVariants.{Second}
use Rattle.cr_store.specs.Kept.{IsClean, holding_of}
use Rattle.cr_store.specs.Opening.{IsHeld, FailsToOpen}
use Rattle.cr_store.proofs.KnownLemmas.{holds_one}
use Rattle.cr_store.proofs.ReopenLemmas.{ok_part, err_part, both_ok, both_err, err_then, refusal_only}
use Rattle.cr_store.proofs.StoreLemmas.{if_then}
use Rattle.cr_store.proofs.laws.reopened.Goals as goal

pub returns-clause-same : goal.returns-clause-same
returns-clause-same g c =
    let store = c.args.store in
    let same = c.into_connection.ensures.same in
    let opened = both_ok c.open.result _ _ c.open.ensures.held (both_ok c.open.result _ _ (ok_part c.open.result _ _ c.open.ensures.was_clean) c.open.ensures.readable) in
    if_then c.open.result _ _
    (λ it h clean readable.
    let was : IsClean g.S.Store store.0 = subst (IsClean g.S.Store) same (h.1.0 clean) in
    let held : IsHeld (state g.S.Store store.0).now (holding_of (state g.S.Store it.0).now it.1) = subst (λ (conn : Held g.row.S.Denot). IsHeld (state g.S.Store conn).now (holding_of (state g.S.Store it.0).now it.1)) same (h.0 clean) in
    holds_one (state g.S.Store store.0).now (holding_of (state g.S.Store it.0).now it.1) (holding_of (state g.S.Store store.0).now store.1) held (Second, c.into_connection.ensures.held was) (h.1.1 clean) readable) opened

pub returns-clause-why : goal.returns-clause-why
returns-clause-why g c =
    let store = c.args.store in
    let same = c.into_connection.ensures.same in
    err_then c.open.result _ _
    (λ e h clean can.
    let was : IsClean g.S.Store store.0 = subst (IsClean g.S.Store) same (h.1 clean) in
    let fails : FailsToOpen (state g.S.Store store.0).now e.0 = subst (λ (conn : Held g.row.S.Denot). FailsToOpen (state g.S.Store conn).now e.0) same (h.0 clean) in
    refusal_only (state g.S.Store store.0).now (holding_of (state g.S.Store store.0).now store.1) (Second, c.into_connection.ensures.held was) can e.0 fails)
    (both_err c.open.result _ _ c.open.ensures.damaged (err_part c.open.result _ _ c.open.ensures.was_clean))
