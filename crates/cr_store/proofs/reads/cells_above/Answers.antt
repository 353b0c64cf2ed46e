use Rattle.std.proofs.Common.{filter, sym, subst, w64}
use Rattle.std.specs.Prelude.{int_lt}
use Rattle.std.proofs.lemmas.Int.{to_z-of_z}
use Rattle.sqlite.specs.Held.{state}
use Rattle.sqlite.specs.Listing.{understood}
use Rattle.sqlite.proofs.Callers.{IsPlain}
use Rattle.cr_store.proofs.TextLemmas.{select_since, since_plain}
use Rattle.cr_store.proofs.ReadLemmas.{shows_since, same_cells, named_filter}
use Rattle.cr_store.proofs.StoreLemmas.{if_then, ok_from, shown_open}
use Rattle.cr_store.proofs.reads.cells_above.Goals as goal

pub returns-clause-same : goal.returns-clause-same
returns-clause-same g c clean has settled it = c.ask_cells.ensures.same clean (subst (λ s. IsPlain (understood s select_since)) (sym has) since_plain) settled it

pub returns-clause-found : goal.returns-clause-found
returns-clause-found g c clean a b o d ss it =
    let ts = c.args.tables.now in
    let old = state g.S.Store c.args.conn.now in
    let new = state g.S.Store c.ask_cells.new.conn in
    if_then c.ask_cells.result _ _ (λ cells made.
    let shown = simp (to_z-of_z w64 c.args.version c.ranges.version) at made.1 in
    same_cells ts (filter (λ s. int_lt c.args.version s.version) ss) made.0 cells.items (named_filter ts _ ss it.named) (shows_since ts old new a b o d ss c.args.version made.0 it shown) made.2) (c.ask_cells.ensures.found clean)

pub returns-clause-opened : goal.returns-clause-opened
returns-clause-opened g c clean =
    ok_from c.ask_cells.result _ _ (λ cells made. shown_open (state g.S.Store c.args.conn.now) (state g.S.Store c.ask_cells.new.conn) _ _ made.0 made.1) (c.ask_cells.ensures.found clean)
