use Rattle.std.proofs.Common.{rules, sym, subst, SFits, w64, to_z-of_z}
use Rattle.sqlite.specs.Held.{state}
use Rattle.cr_cells.specs.Tables.{AreWellFormed}
use Rattle.cr_store.specs.Kept.{IsClean, holding_of}
use Rattle.cr_store.proofs.CommitHolding.{taken}
use Rattle.cr_store.proofs.store.StoreCells.commit.Goals as goal

pub invariant_of-self : goal.invariant_of-self
invariant_of-self g c =
    let fits : SFits w64 c.in-Ok.outcome.version = search rules in
    let well = subst (λ s. IsClean g.S.Store s.0 → AreWellFormed (holding_of (state g.S.Store s.0).now s.1).tables c.args.changes.now) (sym c.self.view_is) c.requires.well_formed in
    let all = λ (clean : IsClean g.S.Store c.commit.new.conn). (
    let was : IsClean g.S.Store c.self.inside.conn = record { clean = c.commit.ensures.clean clean.clean; is_open = c.commit.ensures.was_open clean.clean clean.is_open } in
    let sound = c.self.invariant.sound was in
    taken (state g.S.Store c.self.inside.conn).now (state g.S.Store c.commit.new.conn).now c.self.inside.known c.args.changes.now c.args.peer c.in-Ok.outcome _ (to_z-of_z fits)
    sound (well was) c.requires.from_0 (c.in-Ok.ensures.done clean.clean clean.is_open (c.self.invariant.shows was) sound (well was))) in
    record { auto = c.commit.ensures.mode; shows = λ clean. (all clean).shows; sound = λ clean. (all clean).sound }

pub returns-in-Ok-clause-sound : goal.returns-in-Ok-clause-sound
returns-in-Ok-clause-sound g c clean = (invariant_of-self g c).sound clean

pub returns-in-Ok-clause-commits : goal.returns-in-Ok-clause-commits
returns-in-Ok-clause-commits g c = λ clean.
    let fits : SFits w64 c.in-Ok.outcome.version = search rules in
    let well = subst (λ s. IsClean g.S.Store s.0 → AreWellFormed (holding_of (state g.S.Store s.0).now s.1).tables c.args.changes.now) (sym c.self.view_is) c.requires.well_formed in
    let was : IsClean g.S.Store c.self.inside.conn = record { clean = c.commit.ensures.clean clean.clean; is_open = c.commit.ensures.was_open clean.clean clean.is_open } in
    let sound = c.self.invariant.sound was in
    let all = taken (state g.S.Store c.self.inside.conn).now (state g.S.Store c.commit.new.conn).now c.self.inside.known c.args.changes.now c.args.peer c.in-Ok.outcome _ (to_z-of_z fits)
    sound (well was) c.requires.from_0 (c.in-Ok.ensures.done clean.clean clean.is_open (c.self.invariant.shows was) sound (well was)) in
    rw (← c.self.view_is) (all.is, all.done.changed, all.done.past)
