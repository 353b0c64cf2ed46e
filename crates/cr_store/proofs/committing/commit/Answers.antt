use Rattle.std.proofs.Common.{[], rules, refl, ◌∙◌, ap, sym, subst, SFits, w64, to_z-of_z}
use Rattle.sqlite.specs.Held.{state}
use Rattle.cr_cells.specs.Marks.{marks_after}
use Rattle.cr_store.specs.Kept.{holding_of}
use Rattle.cr_store.specs.Rows.{table_rows}
use Rattle.cr_store.specs.Shows.{Shows}
use Rattle.cr_store.specs.Words.{IsTold}
use Rattle.cr_store.proofs.CommitDecided.{has_committed}
use Rattle.cr_store.proofs.MoveLemmas.{has_cells}
use Rattle.cr_store.proofs.committing.commit.Goals as goal

pub returns-in-Ok-clause-done : goal.returns-in-Ok-clause-done
returns-in-Ok-clause-done g c = λ clean it shows sound well.
    let h = holding_of (state g.S.Store c.args.conn.now).now c.args.known.now in
    let early = c.write_commit.ensures.clean clean in
    let was_open = c.write_commit.ensures.was_open clean it in
    let same = c.in_ok-decision.ensures.same early shows.schema was_open in
    let shown : Shows (state g.S.Store c.decide.new.conn).now h = subst (λ db. Shows db h) (sym same) shows in
    let fits_stamp : SFits w64 c.in_ok-decision.decision.stamp = search rules in
    let fits_version : SFits w64 c.in_ok-decision.decision.version = search rules in
    let told : IsTold c.args.peer c.is_marked-is_there.result h.marks = subst (IsTold c.args.peer c.is_marked-is_there.result) c.deref-2.ensures.value c.is_marked-is_there.ensures in
    let decided = c.in_ok-decision.ensures.decided early was_open shows sound well in
    let put = rw c.deref-3.ensures.value at c.in-Ok.ensures.put in
    has_committed (state g.S.Store c.write_commit.new.conn).now h c.args.changes.now c.args.peer c.in_ok-decision.decision _ _ _
    decided (to_z-of_z fits_stamp) (to_z-of_z fits_version)
    (put clean h.site h.version (table_rows 1 h.tables) [] h.cells h.marks told decided.named (has_cells (state g.S.Store c.decide.new.conn).now h shown sound))
    refl (c.in_ok-marks.ensures ∙ ap (λ ms. marks_after ms c.args.peer) c.deref.ensures.value) refl
