use Rattle.std.proofs.Common.{◌≡◌, ◌+◌, rules, IsTrue, take, List, Option, [], ◌∷◌, ◌++◌, ◌∙◌, ap, sym, not, subst, SFits, w64, to_z, of_z, to_z-of_z}
use Rattle.std.specs.Borrow.{Bor}
use Rattle.std.specs.Option.{option_map_or}
use Rattle.std.proofs.lemmas.List.{take_more, take_all}
use Rattle.sqlite.specs.Held.{state}
use Rattle.cr_lattice.specs.declared.change.Change.{Change}
use Rattle.cr_lattice.specs.declared.stamped.Stamped.{Stamped}
use Rattle.cr_cells.specs.Holding.{cells_of}
use Rattle.cr_cells.proofs.NewLemmas.{read_for}
use Rattle.cr_store.specs.Plan.{IsPlan}
use Rattle.cr_store.specs.Shows.{HasCells}
use Rattle.cr_store.proofs.planning.plan.Goals as goal
use Rattle.cr_store.proofs.planning.plan.Goals.{then-not-is_read+in_ok-row, else-not-is_read}

pub returns-in_err-row-clause-planned : goal.returns-in_err-row-clause-planned
returns-in_err-row-clause-planned g c = λ clean it a b o d ss held sorted.
    let early = c.cells_of.ensures.clean clean in
    let was_open = c.cells_of.ensures.was_open clean it in
    let same = c.loop-change.invariant.same early held.held.schema was_open in
    let held_now = subst (λ db. HasCells db c.args.tables.now a b o d ss) (sym same) held in
    let refused = c.in_err-row.ensures.found clean a b o d ss held_now sorted in
    search rules

pub loop-change-preserved : goal.loop-change-preserved
loop-change-preserved g c =
    let mid = state g.S.Store c.loop-change.conn in
    let was = c.loop-change.invariant in
    let changes = c.args.changes.now in
    let i = c.loop-change.change-index in
    let x = c.change-item.result in
    let cut : take i changes ++ x ∷ [] ≡ take (i + 1) changes = ap (λ y. take i changes ++ y ∷ []) c.change-item.is ∙ sym (take_more changes i x c.loop-change-test.true) in
    let planned = λ (ss : List Stamped) (row : c.if-not-is_read.row.items ≡ cells_of ss x.table x.pk) (plan : IsPlan ss (take i changes) (to_z w64 (of_z w64 c.args.version)) c.loop-change.plan).
    subst (λ cs. IsPlan ss cs (to_z w64 (of_z w64 c.args.version)) c.take.new.plan) cut (c.in_ok-take.ensures ss (take i changes) (c.deref.ensures.value ∙ row) plan) in
    elim c.if-not-is_read.branch [
      | then-not-is_read+in_ok-row w ↦ (
          let new = state g.S.Store w.cells_of.new.conn in
          let read = w.cells_of.ensures in
          let settled = λ (is_open : IsTrue mid.is_open). w.is_autocommit.ensures.settled (w.is_autocommit.ensures.value ∙ ap not was.mode) is_open in
          rw (w.conn-is, w.row-is, w.read-is) record {
            mode = read.mode was.mode;
            clean = λ clean. was.clean (read.clean clean);
            was_open = λ clean it. was.was_open (read.clean clean) (read.was_open clean it);
            opened = λ clean it. w.in_ok-row.ensures.opened clean;
            same = λ clean schema it.
                let early = read.clean clean in
                let was_open = read.was_open clean it in
                let before = was.same early schema was_open in
                read.same clean (ap (λ db. db.schema) before ∙ schema) (settled was_open) it ∙ before;
            planned = λ clean it a b o d ss held sorted.
                let early = read.clean clean in
                let was_open = read.was_open clean it in
                let held_now = subst (λ db. HasCells db c.args.tables.now a b o d ss) (sym (was.same early held.held.schema was_open)) held in
                let row = w.in_ok-row.ensures.found clean a b o d ss held_now sorted in
                planned ss (ap (λ v. v.items) w.row-is ∙ row ∙ ap (λ t. cells_of ss t w.as_slice.result.now) w.as_str-table.ensures.value ∙ ap (cells_of ss x.table) w.as_slice.ensures)
                (was.planned early was_open a b o d ss held sorted);
            read = λ clean it a b o d ss held sorted r e.
                let early = read.clean clean in
                let was_open = read.was_open clean it in
                let held_now = subst (λ db. HasCells db c.args.tables.now a b o d ss) (sym (was.same early held.held.schema was_open)) held in
                w.in_ok-row.ensures.found clean a b o d ss held_now sorted
                ∙ ap (λ t. cells_of ss t w.as_slice.result.now) w.as_str-table.ensures.value ∙ ap (cells_of ss x.table) w.as_slice.ensures
                ∙ ap (λ (o : Option (Bor Change)). option_map_or (λ t. cells_of ss t.now.table t.now.pk) o []) e;
          })
      | else-not-is_read w ↦
          rw (w.conn-is, w.row-is, w.read-is) record {
            mode = was.mode;
            clean = was.clean;
            was_open = was.was_open;
            opened = was.opened;
            same = was.same;
            planned = λ clean it a b o d ss held sorted.
                planned ss
                (ap (λ v. v.items) w.row-is ∙ read_for ss c.loop-change.read x c.loop-change.row.items (sym w.if-not-is_read.ensures) (was.read clean it a b o d ss held sorted))
                (was.planned clean it a b o d ss held sorted);
            read = was.read;
          }
    ]

pub returns-clause-planned : goal.returns-clause-planned
returns-clause-planned g c = λ clean it a b o d ss held sorted.
    let fits : SFits w64 c.args.version = c.ranges.version in
    subst (λ v. IsPlan ss c.args.changes.now v c.loop-change.plan) (to_z-of_z fits)
    (subst (λ cs. IsPlan ss cs (to_z w64 (of_z w64 c.args.version)) c.loop-change.plan) (take_all c.loop-change.change-index c.args.changes.now c.loop-change-test.false) (c.loop-change.invariant.planned clean it a b o d ss held sorted))
