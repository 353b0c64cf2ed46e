use Rattle.std.proofs.Common.{◌≡◌, ◌+◌, pos, length, List, sym, subst, ap, ◌∙◌, w64, rules, to_z, of_z}
use Rattle.std.proofs.lemmas.Int.{to_z-of_z}
use Rattle.sqlite.specs.Held.{state}
use Rattle.cr_lattice.specs.declared.table.Table.{Table}
use Rattle.cr_cells.specs.Holding.{IsSound}
use Rattle.cr_cells.specs.Tables.{with_table}
use Rattle.cr_cells.proofs.SoundLemmas.{sound_with_table}
use Rattle.cr_store.specs.Rows.{one_if}
use Rattle.cr_store.specs.Shows.{Shows}
use Rattle.cr_store.specs.Kept.{IsClean, holding_of}
use Rattle.cr_store.proofs.StoreHolding.{tables_set}
use Rattle.cr_store.proofs.StoreTables.{row_is, shows_table, wants_defaults}
use Rattle.cr_store.proofs.store.Store.add.Goals as goal

pub returns-in-Ok-clause-defines : goal.returns-in-Ok-clause-defines
returns-in-Ok-clause-defines g c clean =
    let old = state g.S.Store c.self.inside.conn in
    let now = state g.S.Store c.add_table.new.conn in
    let known = c.self.inside.known in
    let made : Table = record { definition = c.args.def.now; is_replicated = c.args.is_replicated } in
    let copied : c.in_ok-tables.tables.items ≡ known.tables.items = c.in_ok-tables.ensures ∙ c.deref.ensures.value in
    let tables : c.add.new.tables.items ≡ with_table known.tables.items c.args.def.now c.args.is_replicated = c.in_ok-add.ensures.ok ∙ ap (λ ts. with_table ts c.args.def.now c.args.is_replicated) copied in
    let ordinal : to_z w64 (of_z w64 c.next_ordinal-ordinal.result) ≡ pos (1 + length known.tables.items) =
    to_z-of_z w64 c.next_ordinal-ordinal.result (search rules) ∙ c.next_ordinal-ordinal.ensures ∙ ap (λ (ts : List Table). pos (1 + length ts)) (c.deref-2.ensures.value ∙ copied) in
    let crr : to_z w64 (of_z w64 c.crr_of.result) ≡ one_if c.args.is_replicated = to_z-of_z w64 c.crr_of.result (search rules) ∙ c.crr_of.ensures in
    let bytes = c.deref-3.ensures.value ∙ c.in_ok-bytes.ensures in
    let row = row_is (1 + length known.tables.items) made c.as_str.result.now _ _ c.deref-3.result.now c.as_str.ensures.value ordinal crr bytes in
    let early : IsClean g.S.Store c.self.inside.conn = record { clean = c.add_table.ensures.clean clean.clean; is_open = c.add_table.ensures.was_open clean.clean clean.is_open } in
    let sound = c.self.invariant.sound early in
    let fresh = rw (← c.self.view_is) at c.requires.is_new in
    let new = sound_with_table (holding_of old.now known) c.args.def.now c.args.is_replicated sound (fresh early) (wants_defaults c.args.is_replicated _ c.requires.defaults) in
    let put = c.in-Ok.ensures.put clean.clean _ _ _ _ _ (c.self.invariant.shows early) in
    let shown = shows_table now.now (holding_of old.now known) made _ row sound put in
    let is = tables_set old.now now.now known c.add.new.tables (with_table known.tables.items c.args.def.now c.args.is_replicated) tables new shown in
    rw (← c.self.view_is) is

pub invariant_of-self : goal.invariant_of-self
invariant_of-self g c =
    let old = state g.S.Store c.self.inside.conn in
    let now = state g.S.Store c.add_table.new.conn in
    let known = c.self.inside.known in
    let made : Table = record { definition = c.args.def.now; is_replicated = c.args.is_replicated } in
    let copied : c.in_ok-tables.tables.items ≡ known.tables.items = c.in_ok-tables.ensures ∙ c.deref.ensures.value in
    let tables : c.add.new.tables.items ≡ with_table known.tables.items c.args.def.now c.args.is_replicated = c.in_ok-add.ensures.ok ∙ ap (λ ts. with_table ts c.args.def.now c.args.is_replicated) copied in
    let ordinal : to_z w64 (of_z w64 c.next_ordinal-ordinal.result) ≡ pos (1 + length known.tables.items) =
    to_z-of_z w64 c.next_ordinal-ordinal.result (search rules) ∙ c.next_ordinal-ordinal.ensures ∙ ap (λ (ts : List Table). pos (1 + length ts)) (c.deref-2.ensures.value ∙ copied) in
    let crr : to_z w64 (of_z w64 c.crr_of.result) ≡ one_if c.args.is_replicated = to_z-of_z w64 c.crr_of.result (search rules) ∙ c.crr_of.ensures in
    let bytes = c.deref-3.ensures.value ∙ c.in_ok-bytes.ensures in
    let row = row_is (1 + length known.tables.items) made c.as_str.result.now _ _ c.deref-3.result.now c.as_str.ensures.value ordinal crr bytes in
    record {
      auto = c.add_table.ensures.auto;
      shows = λ clean.
          let early : IsClean g.S.Store c.self.inside.conn = record { clean = c.add_table.ensures.clean clean.clean; is_open = c.add_table.ensures.was_open clean.clean clean.is_open } in
          let sound = c.self.invariant.sound early in
          let fresh = rw (← c.self.view_is) at c.requires.is_new in
          let new = sound_with_table (holding_of old.now known) c.args.def.now c.args.is_replicated sound (fresh early) (wants_defaults c.args.is_replicated _ c.requires.defaults) in
          let put = c.in-Ok.ensures.put clean.clean _ _ _ _ _ (c.self.invariant.shows early) in
          let shown = shows_table now.now (holding_of old.now known) made _ row sound put in
          let is = tables_set old.now now.now known c.add.new.tables (with_table known.tables.items c.args.def.now c.args.is_replicated) tables new shown in
          subst (Shows now.now) (sym is) shown;
      sound = λ clean.
          let early : IsClean g.S.Store c.self.inside.conn = record { clean = c.add_table.ensures.clean clean.clean; is_open = c.add_table.ensures.was_open clean.clean clean.is_open } in
          let sound = c.self.invariant.sound early in
          let fresh = rw (← c.self.view_is) at c.requires.is_new in
          let new = sound_with_table (holding_of old.now known) c.args.def.now c.args.is_replicated sound (fresh early) (wants_defaults c.args.is_replicated _ c.requires.defaults) in
          let put = c.in-Ok.ensures.put clean.clean _ _ _ _ _ (c.self.invariant.shows early) in
          let shown = shows_table now.now (holding_of old.now known) made _ row sound put in
          let is = tables_set old.now now.now known c.add.new.tables (with_table known.tables.items c.args.def.now c.args.is_replicated) tables new shown in
          subst IsSound (sym is) new;
    }

pub returns-in-Ok-clause-sound : goal.returns-in-Ok-clause-sound
returns-in-Ok-clause-sound g c clean = (invariant_of-self g c).sound clean
