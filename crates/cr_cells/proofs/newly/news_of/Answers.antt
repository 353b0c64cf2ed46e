use Rattle.std.proofs.Common.{◌≡◌, Option, Some, List, [], ◌∷◌, ◌++◌, take, cond, sym, ap, subst, ◌∙◌}
use Rattle.std.specs.Borrow.{Bor}
use Rattle.std.specs.Option.{option_map_or}
use Rattle.std.specs.Prelude.{filter}
use Rattle.std.proofs.lemmas.List.{take_more}
use Rattle.std.proofs.lemmas.List.Elements.{filter-append}
use Rattle.cr_lattice.specs.declared.change.Change.{Change}
use Rattle.cr_lattice.specs.declared.stamped.Stamped.{Stamped}
use Rattle.cr_cells.specs.Holding.{Holding, kept_of, cells_of}
use Rattle.cr_cells.specs.Commit.{is_new, is_new_in}
use Rattle.cr_cells.proofs.NewLemmas.{new_by_row, read_for}
use Rattle.cr_cells.proofs.newly.news_of.Goals as goal
use Rattle.cr_cells.proofs.newly.news_of.Goals.{then-not-is_read+in_ok-row, else-not-is_read}

pub loop-change-preserved : goal.loop-change-preserved
loop-change-preserved g c =
    let ws = c.args.wanted.now in
    let i = c.loop-change.change-index in
    let x = c.change-item.result in
    let h = g.C.Cells.holding c.args.cells.now in
    let honest = g.C.Cells.is_honest in
    let clean = g.C.Cells.is_clean in
    let next = c.if-not-is_read.cells in
    let cut = ap (λ b. take i ws ++ b ∷ []) c.change-item.is ∙ sym (take_more ws i x c.loop-change-test.true) in
    let news = λ (k : clean c.loop-change.cells) (row : c.if-not-is_read.row.items ≡ cells_of h.cells x.table x.pk).
    c.in_ok-push_new.ensures
    ∙ ap (λ (l : List Change). l ++ filter (is_new_in c.deref.result.now) (x ∷ [])) (c.loop-change.invariant.news k)
    ∙ ap (λ b. filter (is_new (kept_of h)) (take i ws) ++ cond b (x ∷ []) [])
    (ap (λ (r : List Stamped). is_new_in r x) (c.deref.ensures.value ∙ row) ∙ new_by_row h.cells x)
    ∙ sym (filter-append (is_new (kept_of h)) (take i ws) (x ∷ []))
    ∙ ap (filter (is_new (kept_of h))) cut in
    elim c.if-not-is_read.branch [
      | then-not-is_read+in_ok-row w ↦ (
          let back = λ (k : clean next). subst clean w.cells-is k in
          let device = λ (k : honest next). subst honest w.cells-is k in
          let before = λ (k : clean next). w.cells_of.ensures.device.was_clean (back k) in
          let own = λ (k : clean next).
          ap (λ v. v.items) w.row-is ∙ (w.in_ok-row.ensures.reads (back k)).answers
          ∙ ap (λ t. cells_of (g.C.Cells.holding c.loop-change.cells).cells t w.as_slice.result.now) w.as_str.ensures.value
          ∙ ap (cells_of (g.C.Cells.holding c.loop-change.cells).cells x.table) w.as_slice.ensures
          ∙ ap (λ (d : Holding). cells_of d.cells x.table x.pk) (c.loop-change.invariant.same (before k)) in
          record {
            was_honest = λ k. c.loop-change.invariant.was_honest (w.cells_of.ensures.device.was_honest (device k));
            stays_clean = λ k was.
                subst clean (sym w.cells-is)
                (w.in_ok-row.ensures.device.stays_clean (device k) (c.loop-change.invariant.stays_clean (w.cells_of.ensures.device.was_honest (device k)) was));
            was_clean = λ k. c.loop-change.invariant.was_clean (before k);
            same = λ k. ap g.C.Cells.holding w.cells-is ∙ (w.in_ok-row.ensures.reads (back k)).same ∙ c.loop-change.invariant.same (before k);
            read = λ k r e. own k ∙ ap (λ (o : Option (Bor Change)). option_map_or (λ t. cells_of h.cells t.now.table t.now.pk) o []) (sym w.read-is ∙ e);
            news = λ k. news (before k) (own k);
          })
      | else-not-is_read w ↦ (
          let before = λ (k : clean next). subst clean w.cells-is k in
          let read = λ (k : clean next) (r : Bor Change) (e : c.loop-change.read ≡ Some r). ap (λ v. v.items) w.row-is ∙ c.loop-change.invariant.read (before k) r e in
          record {
            was_honest = λ k. c.loop-change.invariant.was_honest (subst honest w.cells-is k);
            stays_clean = λ k was. subst clean (sym w.cells-is) (c.loop-change.invariant.stays_clean (subst honest w.cells-is k) was);
            was_clean = λ k. c.loop-change.invariant.was_clean (before k);
            same = λ k. ap g.C.Cells.holding w.cells-is ∙ c.loop-change.invariant.same (before k);
            read = λ k r e. read k r (sym w.read-is ∙ e);
            news = λ k. news (before k) (read_for h.cells c.loop-change.read x c.if-not-is_read.row.items (sym w.if-not-is_read.ensures) (read k));
          })
    ]
