use Rattle.std.proofs.Common.{◌≡◌, sym, subst}
use Rattle.sqlite.specs.Held.{state}
use Rattle.cr_cells.specs.Holding.{IsSound}
use Rattle.cr_cells.specs.Tables.{with_replicated}
use Rattle.cr_cells.proofs.SoundLemmas.{sound_with_replicated}
use Rattle.cr_store.specs.Shows.{Shows}
use Rattle.cr_store.specs.Kept.{IsClean, holding_of}
use Rattle.cr_store.proofs.OrdinalLemmas.{ordinal_replicated}
use Rattle.cr_store.proofs.StoreHolding.{tables_set}
use Rattle.cr_store.proofs.StoreTables.{shows_tables}
use Rattle.cr_store.proofs.store.StoreCells.mark_crr.Goals as goal

pub invariant_of-self : goal.invariant_of-self
invariant_of-self g c =
    let old = state g.S.Store c.self.inside.conn in
    let now = state g.S.Store c.replicate.new.conn in
    let known = c.self.inside.known in
    let tables : c.in_ok-tables.tables.items ≡ with_replicated c.args.name.now known.tables.items = rw c.deref.ensures.value at c.in_ok-tables.ensures in
    record {
      auto = c.replicate.ensures.auto;
      shows = λ clean.
          let early : IsClean g.S.Store c.self.inside.conn = record { clean = c.replicate.ensures.clean clean.clean; is_open = c.replicate.ensures.was_open clean.clean clean.is_open } in
          let sound = c.self.invariant.sound early in
          let markable = rw (← c.self.view_is) at c.requires in
          let new = sound_with_replicated (holding_of old.now known) c.args.name.now sound (markable early) in
          let shown = shows_tables now.now (holding_of old.now known) (with_replicated c.args.name.now known.tables.items) sound (λ name _. ordinal_replicated known.tables.items c.args.name.now name)
          (c.in-Ok.ensures.set clean.clean _ _ _ _ known.tables.items (c.self.invariant.shows early)) in
          subst (Shows now.now) (sym (tables_set old.now now.now known c.in_ok-tables.tables (with_replicated c.args.name.now known.tables.items) tables new shown)) shown;
      sound = λ clean.
          let early : IsClean g.S.Store c.self.inside.conn = record { clean = c.replicate.ensures.clean clean.clean; is_open = c.replicate.ensures.was_open clean.clean clean.is_open } in
          let sound = c.self.invariant.sound early in
          let markable = rw (← c.self.view_is) at c.requires in
          let new = sound_with_replicated (holding_of old.now known) c.args.name.now sound (markable early) in
          let shown = shows_tables now.now (holding_of old.now known) (with_replicated c.args.name.now known.tables.items) sound (λ name _. ordinal_replicated known.tables.items c.args.name.now name)
          (c.in-Ok.ensures.set clean.clean _ _ _ _ known.tables.items (c.self.invariant.shows early)) in
          subst IsSound (sym (tables_set old.now now.now known c.in_ok-tables.tables (with_replicated c.args.name.now known.tables.items) tables new shown)) new;
    }

pub returns-in-Ok-clause-sound : goal.returns-in-Ok-clause-sound
returns-in-Ok-clause-sound g c clean = (invariant_of-self g c).sound clean

pub returns-in-Ok-clause-defines : goal.returns-in-Ok-clause-defines
returns-in-Ok-clause-defines g c clean =
    let old = state g.S.Store c.self.inside.conn in
    let now = state g.S.Store c.replicate.new.conn in
    let known = c.self.inside.known in
    let tables : c.in_ok-tables.tables.items ≡ with_replicated c.args.name.now known.tables.items = rw c.deref.ensures.value at c.in_ok-tables.ensures in
    let early : IsClean g.S.Store c.self.inside.conn = record { clean = c.replicate.ensures.clean clean.clean; is_open = c.replicate.ensures.was_open clean.clean clean.is_open } in
    let sound = c.self.invariant.sound early in
    let markable = rw (← c.self.view_is) at c.requires in
    let new = sound_with_replicated (holding_of old.now known) c.args.name.now sound (markable early) in
    let shown = shows_tables now.now (holding_of old.now known) (with_replicated c.args.name.now known.tables.items) sound (λ name _. ordinal_replicated known.tables.items c.args.name.now name)
    (c.in-Ok.ensures.set clean.clean _ _ _ _ known.tables.items (c.self.invariant.shows early)) in
    rw (← c.self.view_is) (tables_set old.now now.now known c.in_ok-tables.tables (with_replicated c.args.name.now known.tables.items) tables new shown)
