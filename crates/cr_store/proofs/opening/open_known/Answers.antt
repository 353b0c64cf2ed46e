use Rattle.std.proofs.Common.{sym, subst}
use Rattle.sqlite.specs.Held.{state}
use Rattle.cr_store.specs.declared.format.Format.TheVariants.{Second}
use Rattle.cr_store.specs.Opening.{IsHeldIn, holding_with}
use Rattle.cr_store.proofs.HeldLemmas.{is_left, shows_left}
use Rattle.cr_store.proofs.OrdinalLemmas.{named_cells}
use Rattle.cr_store.proofs.opening.open_known.Goals as goal

pub returns-in-Ok-clause-found : goal.returns-in-Ok-clause-found
returns-in-Ok-clause-found g c clean has =
    let old = state g.S.Store c.args.conn.now in
    let mid = state g.S.Store c.read_held.new.conn in
    let new = state g.S.Store c.migrate.new.conn in
    let k = c.in_ok-known.known in
    let ss = c.in_ok-known.cells.items in
    let early = c.migrate.ensures.clean clean in
    let found = c.in_ok-known.ensures.found early has in
    let same = (c.in_ok-known.ensures.asks early has).same (c.in_ok-known.ensures.opened early has) in
    let made = rw (c.deref.ensures.value, c.deref-in-First.ensures.value) at c.in-Ok.ensures.made in
    is_left c.args.format old.now new.now k ss found.0
    (shows_left old.now mid.now new.now k ss (subst (λ f. IsHeldIn f old.now (holding_with k ss)) c.in-First.is found.0) same (λ held. made clean k.site k.version _ _ _ (named_cells (holding_with k ss) found.0.sound) held)) found.1

pub returns-in-Second-clause-found : goal.returns-in-Second-clause-found
returns-in-Second-clause-found g c clean has =
    let old = state g.S.Store c.args.conn.now in
    let now = state g.S.Store c.read_held.new.conn in
    let k = c.in_ok-known.known in
    let ss = c.in_ok-known.cells.items in
    let found = c.in_ok-known.ensures.found clean has in
    let same = (c.in_ok-known.ensures.asks clean has).same (c.in_ok-known.ensures.opened clean has) in
    is_left c.args.format old.now now.now k ss found.0 (subst (λ db. IsHeldIn Second db (holding_with k ss)) (sym same) (subst (λ f. IsHeldIn f old.now (holding_with k ss)) c.in-Second.is found.0)) found.1
