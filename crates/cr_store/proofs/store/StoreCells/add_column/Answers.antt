use Rattle.std.proofs.Common.{◌≡◌, ◌∙◌, ap, sym, subst, option_copied, find}
use Rattle.sqlite.specs.Held.{state}
use Rattle.cr_cells.specs.Holding.{IsSound}
use Rattle.cr_cells.specs.Tables.{is_named, with_added}
use Rattle.cr_cells.proofs.ColumnLemmas.{sound_with_added}
use Rattle.cr_layout.specs.Definition.{definition}
use Rattle.cr_store.specs.Shows.{Shows}
use Rattle.cr_store.specs.Words.{AreWidened}
use Rattle.cr_store.specs.Kept.{IsClean, holding_of}
use Rattle.cr_store.proofs.OrdinalLemmas.{ordinal_added}
use Rattle.cr_store.proofs.StoreHolding.{tables_set}
use Rattle.cr_store.proofs.StoreTables.{nothing_added, are_widened, shows_tables}
use Rattle.cr_store.proofs.store.StoreCells.add_column.Goals as goal

pub returns-in-None-clause-defines : goal.returns-in-None-clause-defines
returns-in-None-clause-defines g c clean =
    let known = c.self.inside.known in
    let none = nothing_added c.args.table.now c.args.column.now c.deref.result.now c.table_named.result c.table_named.ensures c.in-None.is in
    let same : with_added c.args.table.now c.args.column.now known.tables.items ≡ known.tables.items = subst (λ ts. with_added c.args.table.now c.args.column.now ts ≡ ts) c.deref.ensures.value none in
    rw (← c.self.view_is) (ap (λ ts. record (holding_of (state g.S.Store c.self.inside.conn).now known) { tables = ts }) (sym same))

pub invariant_of-self : goal.invariant_of-self
invariant_of-self g c =
    let old = state g.S.Store c.self.inside.conn in
    let now = state g.S.Store c.redefine.new.conn in
    let known = c.self.inside.known in
    let tables : c.in_ok-tables.tables.items ≡ with_added c.args.table.now c.args.column.now known.tables.items = rw c.deref-2.ensures.value at c.in_ok-tables.ensures in
    let found = ap option_copied (sym c.in-Some.is) ∙ c.table_named.ensures ∙ ap (find (is_named c.args.table.now)) c.deref.ensures.value in
    let bytes = c.deref-3.ensures.value ∙ c.in_ok-bytes.ensures ∙ ap definition c.in_ok-wider.ensures in
    let widened : IsClean g.S.Store c.self.inside.conn → AreWidened c.args.table.now c.args.column.now c.deref-3.result.now known.tables.items =
    λ early. are_widened c.args.table.now c.args.column.now c.deref-3.result.now known.tables.items c.in-Some.old.now (c.self.invariant.sound early).names (sym found) bytes in
    record {
      auto = c.redefine.ensures.auto;
      shows = λ clean.
          let early : IsClean g.S.Store c.self.inside.conn = record { clean = c.redefine.ensures.clean clean.clean; is_open = c.redefine.ensures.was_open clean.clean clean.is_open } in
          let sound = c.self.invariant.sound early in
          let fresh = rw (← c.self.view_is) at c.requires in
          let new = sound_with_added (holding_of old.now known) c.args.table.now c.args.column.now sound (fresh early) in
          let shown = shows_tables now.now (holding_of old.now known) (with_added c.args.table.now c.args.column.now known.tables.items) sound (λ name _. ordinal_added known.tables.items c.args.table.now c.args.column.now name)
          (c.in-Ok.ensures.set clean.clean _ _ _ _ c.args.column.now known.tables.items (widened early) (c.self.invariant.shows early)) in
          subst (Shows now.now) (sym (tables_set old.now now.now known c.in_ok-tables.tables (with_added c.args.table.now c.args.column.now known.tables.items) tables new shown)) shown;
      sound = λ clean.
          let early : IsClean g.S.Store c.self.inside.conn = record { clean = c.redefine.ensures.clean clean.clean; is_open = c.redefine.ensures.was_open clean.clean clean.is_open } in
          let sound = c.self.invariant.sound early in
          let fresh = rw (← c.self.view_is) at c.requires in
          let new = sound_with_added (holding_of old.now known) c.args.table.now c.args.column.now sound (fresh early) in
          let shown = shows_tables now.now (holding_of old.now known) (with_added c.args.table.now c.args.column.now known.tables.items) sound (λ name _. ordinal_added known.tables.items c.args.table.now c.args.column.now name)
          (c.in-Ok.ensures.set clean.clean _ _ _ _ c.args.column.now known.tables.items (widened early) (c.self.invariant.shows early)) in
          subst IsSound (sym (tables_set old.now now.now known c.in_ok-tables.tables (with_added c.args.table.now c.args.column.now known.tables.items) tables new shown)) new;
    }

pub returns-in-Ok-clause-sound : goal.returns-in-Ok-clause-sound
returns-in-Ok-clause-sound g c clean = (invariant_of-self g c).sound clean

pub returns-in-Ok-clause-defines : goal.returns-in-Ok-clause-defines
returns-in-Ok-clause-defines g c clean =
    let old = state g.S.Store c.self.inside.conn in
    let now = state g.S.Store c.redefine.new.conn in
    let known = c.self.inside.known in
    let tables : c.in_ok-tables.tables.items ≡ with_added c.args.table.now c.args.column.now known.tables.items = rw c.deref-2.ensures.value at c.in_ok-tables.ensures in
    let found = ap option_copied (sym c.in-Some.is) ∙ c.table_named.ensures ∙ ap (find (is_named c.args.table.now)) c.deref.ensures.value in
    let bytes = c.deref-3.ensures.value ∙ c.in_ok-bytes.ensures ∙ ap definition c.in_ok-wider.ensures in
    let early : IsClean g.S.Store c.self.inside.conn = record { clean = c.redefine.ensures.clean clean.clean; is_open = c.redefine.ensures.was_open clean.clean clean.is_open } in
    let widened = are_widened c.args.table.now c.args.column.now c.deref-3.result.now known.tables.items c.in-Some.old.now (c.self.invariant.sound early).names (sym found) bytes in
    let sound = c.self.invariant.sound early in
    let fresh = rw (← c.self.view_is) at c.requires in
    let new = sound_with_added (holding_of old.now known) c.args.table.now c.args.column.now sound (fresh early) in
    let shown = shows_tables now.now (holding_of old.now known) (with_added c.args.table.now c.args.column.now known.tables.items) sound (λ name _. ordinal_added known.tables.items c.args.table.now c.args.column.now name)
    (c.in-Ok.ensures.set clean.clean _ _ _ _ c.args.column.now known.tables.items widened (c.self.invariant.shows early)) in
    rw (← c.self.view_is) (tables_set old.now now.now known c.in_ok-tables.tables (with_added c.args.table.now c.args.column.now known.tables.items) tables new shown)
