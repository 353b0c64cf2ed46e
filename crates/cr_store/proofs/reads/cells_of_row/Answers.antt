use Rattle.std.proofs.Common.{filter, sym, subst, rules, w64, SFits}
use Rattle.std.proofs.lemmas.Int.{to_z-of_z}
use Rattle.sqlite.specs.Held.{state}
use Rattle.sqlite.specs.Listing.{understood}
use Rattle.sqlite.proofs.Callers.{IsPlain}
use Rattle.cr_lattice.specs.Rows.{is_of_row}
use Rattle.cr_store.proofs.TextLemmas.{select_row, row_plain}
use Rattle.cr_store.proofs.ReadLemmas.{shows_row, same_cells, named_filter}
use Rattle.cr_store.proofs.StoreLemmas.{if_then, ok_from, shown_open}
use Rattle.cr_store.proofs.reads.cells_of_row.Goals as goal

pub returns-clause-same : goal.returns-clause-same
returns-clause-same g c clean has settled it = c.ask_cells.ensures.same clean (subst (λ s. IsPlain (understood s select_row)) (sym has) row_plain) settled it

pub returns-clause-found : goal.returns-clause-found
returns-clause-found g c clean a b o d ss it =
    let ts = c.args.tables.now in
    let old = state g.S.Store c.args.conn.now in
    let new = state g.S.Store c.ask_cells.new.conn in
    let fits : SFits w64 c.ordinal.result = search rules in
    if_then c.ask_cells.result _ _ (λ cells made.
    let shown = rw c.ordinal.ensures at (simp (to_z-of_z w64 c.ordinal.result fits) at made.1) in
    same_cells ts (filter (λ s. is_of_row c.args.table.now c.args.pk.now s.change) ss) made.0 cells.items (named_filter ts _ ss it.named) (shows_row ts old new a b o d ss c.args.table.now c.args.pk.now made.0 it shown) made.2) (c.ask_cells.ensures.found clean)

pub returns-clause-opened : goal.returns-clause-opened
returns-clause-opened g c clean =
    ok_from c.ask_cells.result _ _ (λ cells made. shown_open (state g.S.Store c.args.conn.now) (state g.S.Store c.ask_cells.new.conn) _ _ made.0 made.1) (c.ask_cells.ensures.found clean)
