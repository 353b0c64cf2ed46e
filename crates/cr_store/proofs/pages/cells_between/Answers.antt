use Rattle.std.proofs.Common.{sym, subst, rules, w64, SFits}
use Rattle.std.proofs.lemmas.Int.{to_z-of_z}
use Rattle.std.specs.Option.{option_copied}
use Rattle.sqlite.specs.Held.{state}
use Rattle.sqlite.specs.Listing.{understood}
use Rattle.sqlite.proofs.Callers.{IsPlain}
use Rattle.cr_store.proofs.PageReads.{select_part, select_rest, part_plain, rest_plain, shows_part, shows_rest}
use Rattle.cr_store.proofs.ReadLemmas.{same_cells, named_filter}
use Rattle.cr_store.proofs.StoreLemmas.{if_then, ok_from, shown_open}
use Rattle.cr_store.proofs.pages.cells_between.Goals as goal

pub returns-in-Some-clause-same : goal.returns-in-Some-clause-same
returns-in-Some-clause-same g c clean has settled it = c.ask_cells.ensures.same clean (subst (λ s. IsPlain (understood s select_part)) (sym has) part_plain) settled it

pub returns-in-None-clause-same : goal.returns-in-None-clause-same
returns-in-None-clause-same g c clean has settled it = c.ask_cells-in-None.ensures.same clean (subst (λ s. IsPlain (understood s select_rest)) (sym has) rest_plain) settled it

pub returns-in-Some-clause-opened : goal.returns-in-Some-clause-opened
returns-in-Some-clause-opened g c clean =
    ok_from c.ask_cells.result _ _ (λ cells made. shown_open (state g.S.Store c.args.conn.now) (state g.S.Store c.ask_cells.new.conn) _ _ made.0 made.1) (c.ask_cells.ensures.found clean)

pub returns-in-None-clause-opened : goal.returns-in-None-clause-opened
returns-in-None-clause-opened g c clean =
    ok_from c.ask_cells-in-None.result _ _ (λ cells made. shown_open (state g.S.Store c.args.conn.now) (state g.S.Store c.ask_cells-in-None.new.conn) _ _ made.0 made.1) (c.ask_cells-in-None.ensures.found clean)

pub returns-in-Some-clause-found : goal.returns-in-Some-clause-found
returns-in-Some-clause-found g c clean a b o d ss it =
    let ts = c.args.tables.now in
    let after = option_copied c.args.after in
    let old = state g.S.Store c.args.conn.now in
    let new = state g.S.Store c.ask_cells.new.conn in
    let fits : SFits w64 c.ordinal.result = search rules in
    if_then c.ask_cells.result _ _ (λ cells made.
    let shown = rw (c.ordinal.ensures, c.below.ensures) at (simp (to_z-of_z w64 c.ordinal.result fits) at made.1) in
    rw c.in-Some.is (same_cells ts _ made.0 cells.items (named_filter ts _ ss it.named) (shows_part ts c.args.table.now after old new a b o d ss c.in-Some.range.now made.0 it shown) made.2)) (c.ask_cells.ensures.found clean)

pub returns-in-None-clause-found : goal.returns-in-None-clause-found
returns-in-None-clause-found g c clean a b o d ss it =
    let ts = c.args.tables.now in
    let after = option_copied c.args.after in
    let old = state g.S.Store c.args.conn.now in
    let new = state g.S.Store c.ask_cells-in-None.new.conn in
    let fits : SFits w64 c.ordinal.result = search rules in
    if_then c.ask_cells-in-None.result _ _ (λ cells made.
    let shown = rw (c.ordinal.ensures, c.below-in-None.ensures) at (simp (to_z-of_z w64 c.ordinal.result fits) at made.1) in
    rw c.in-None.is (same_cells ts _ made.0 cells.items (named_filter ts _ ss it.named) (shows_rest ts c.args.table.now after old new a b o d ss made.0 it shown) made.2)) (c.ask_cells-in-None.ensures.found clean)
