use Rattle.std.proofs.Common.{◌≡◌, sym, subst, ◌∙◌}
use Rattle.sqlite.specs.Held.{state}
use Rattle.cr_rows.specs.Schema.{no_schema}
use Rattle.cr_cells.specs.Holding.{IsSound}
use Rattle.cr_cells.proofs.SoundLemmas.{sound_empty}
use Rattle.cr_store.specs.Shows.{Shows}
use Rattle.cr_store.proofs.StoreHolding.{new_holding}
use Rattle.cr_store.proofs.store.Store.create.Goals as goal

pub invariant_of-result : goal.invariant_of-result
invariant_of-result g c =
    let none : c.args.conn.schema ≡ no_schema = sym c.schema-schema.ensures.value ∙ c.has_nothing.ensures.nothing c.if-not-has_nothing.false in
    let now = state g.S.Store c.make.new.conn in
    record {
      auto = c.make.ensures.auto;
      shows = λ clean.
          let made = c.in-Ok.ensures.made clean.clean none in
          subst (Shows now.now) (sym (new_holding now.now c.args.site c.new.result c.new-2.result c.new.ensures.items c.new-2.ensures.items made)) made;
      sound = λ clean.
          let made = c.in-Ok.ensures.made clean.clean none in
          subst IsSound (sym (new_holding now.now c.args.site c.new.result c.new-2.result c.new.ensures.items c.new-2.ensures.items made)) (sound_empty c.args.site);
    }

pub returns-clause-made : goal.returns-clause-made
returns-clause-made g c clean =
    let none : c.args.conn.schema ≡ no_schema = sym c.schema-schema.ensures.value ∙ c.has_nothing.ensures.nothing c.if-not-has_nothing.false in
    let made = c.in-Ok.ensures.made clean.clean none in
    new_holding (state g.S.Store c.make.new.conn).now c.args.site c.new.result c.new-2.result c.new.ensures.items c.new-2.ensures.items made
