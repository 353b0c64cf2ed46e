use Rattle.std.proofs.Common.{◌≡◌, ℤ, pos, ◌+ℤ◌, rules, map, [], true, not, ◌&&◌, cond, ◌∙◌, ap, sym, subst, SFits, w64, to_z, of_z, to_z-of_z}
use Rattle.std.specs.Prelude.{Bool, List, Err}
use Rattle.std.specs.Ordering.{int_eq}
use Rattle.sqlite.specs.Held.{state}
use Rattle.cr_lattice.specs.Keep.{keep}
use Rattle.cr_lattice.specs.declared.change.Change.{Change}
use Rattle.cr_cells.specs.declared.store.CellsError.{CellsError}
use Rattle.cr_cells.specs.declared.store.CellsError.TheVariants as error
use Rattle.cr_cells.specs.Calls.{IsRefusal, is_past_limit}
use Rattle.cr_cells.specs.Holding.{Holding}
use Rattle.cr_cells.specs.Commit.{greatest_version}
use Rattle.cr_store.specs.Committing.{is_none, StaysWithinLimit, IsUndecided}
use Rattle.cr_store.specs.Kept.{holding_of}
use Rattle.cr_store.specs.Plan.{IsPlan}
use Rattle.cr_store.specs.declared.format.Format.TheVariants.{Second}
use Rattle.cr_store.specs.Shows.{HasCells}
use Rattle.cr_store.proofs.MoveLemmas.{has_cells}
use Rattle.cr_store.specs.Rows.{meta_rows, table_rows, mark_row}
use Rattle.cr_store.proofs.CommitDecided.{decided, past_limit}
use Rattle.cr_store.proofs.CommitHolding.{sorted_cells, refusal_is}
use Rattle.cr_store.proofs.committing.decide.Goals as goal

pub returns-in_err-plan-clause-decided : goal.returns-in_err-plan-clause-decided
returns-in_err-plan-clause-decided g c = λ clean it shows sound well.
    let h = holding_of (state g.S.Store c.args.conn.now).now c.args.known.now in
    let has = subst (λ ts. HasCells (state g.S.Store c.args.conn.now).now ts (meta_rows Second h.site h.version) (table_rows 1 h.tables) [] (map mark_row h.marks) h.cells) (sym c.deref.ensures.value)
    (has_cells (state g.S.Store c.args.conn.now).now h shows sound) in
    let refused : IsRefusal c.in_err-plan.field-0.0 = c.in_err-plan.ensures.planned clean it (meta_rows Second h.site h.version) (table_rows 1 h.tables) [] (map mark_row h.marks) h.cells has (sorted_cells h sound) in
    let why : IsUndecided h c.args.changes.now c.in_err-plan.field-0.0 = refusal_is c.in_err-plan.field-0.0 h c.args.changes.now refused in
    search rules

-- why a commit that needs a version above the greatest is refused
not_within : (is_changed : Bool) (version : ℤ) (h : Holding) (more : List Change) (e : CellsError) → StaysWithinLimit is_changed version (Err e)
    → ((is_changed && int_eq version greatest_version) ≡ true → is_past_limit h more ≡ true) → IsUndecided h more e
not_within is_changed version h more error.Memory limit past = absurd limit
not_within is_changed version h more (error.Store f) limit past = absurd limit
not_within is_changed version h more error.VersionLimit limit past = past limit

pub returns-in_err-stay_within_limit-clause-decided : goal.returns-in_err-stay_within_limit-clause-decided
returns-in_err-stay_within_limit-clause-decided g c = λ clean it shows sound well.
    let h = holding_of (state g.S.Store c.args.conn.now).now c.args.known.now in
    let has = subst (λ ts. HasCells (state g.S.Store c.args.conn.now).now ts (meta_rows Second h.site h.version) (table_rows 1 h.tables) [] (map mark_row h.marks) h.cells) (sym c.deref.ensures.value)
    (has_cells (state g.S.Store c.args.conn.now).now h shows sound) in
    let fits : SFits w64 c.args.known.now.version = search rules in
    let is_kept : c.deref-2.result.now ≡ keep c.args.changes.now = c.deref-2.ensures.value ∙ c.in_ok-kept.ensures in
    let stamp : ℤ = to_z w64 (of_z w64 c.stamp_after-stamp.result) in
    let plan : IsPlan h.cells (keep c.args.changes.now) stamp c.in_ok-plan.plan =
    subst (λ cs. IsPlan h.cells cs stamp c.in_ok-plan.plan) is_kept (c.in_ok-plan.ensures.planned clean it (meta_rows Second h.site h.version) (table_rows 1 h.tables) [] (map mark_row h.marks) h.cells has (sorted_cells h sound)) in
    let past : (c.has_news-is_changed.result && int_eq h.version greatest_version) ≡ true → is_past_limit h c.args.changes.now ≡ true =
    (λ e. past_limit h c.args.changes.now stamp c.in_ok-plan.plan c.has_news-is_changed.result true plan
    (c.has_news-is_changed.ensures ∙ ap (λ ns. not (is_none ns)) c.deref-3.ensures.value) (sym e)) in
    let why : IsUndecided h c.args.changes.now c.in_err-stay_within_limit.field-0.0 =
    not_within c.has_news-is_changed.result h.version h c.args.changes.now c.in_err-stay_within_limit.field-0.0
    (subst (λ (v : ℤ). StaysWithinLimit c.has_news-is_changed.result v (Err c.in_err-stay_within_limit.field-0.0)) (to_z-of_z fits) c.in_err-stay_within_limit.ensures) past in
    search rules

pub returns-clause-decided : goal.returns-clause-decided
returns-clause-decided g c = λ clean it shows sound well.
    let h = holding_of (state g.S.Store c.args.conn.now).now c.args.known.now in
    let has = subst (λ ts. HasCells (state g.S.Store c.args.conn.now).now ts (meta_rows Second h.site h.version) (table_rows 1 h.tables) [] (map mark_row h.marks) h.cells) (sym c.deref.ensures.value)
    (has_cells (state g.S.Store c.args.conn.now).now h shows sound) in
    let fits : SFits w64 c.args.known.now.version = search rules in
    let fits_stamp : SFits w64 c.stamp_after-stamp.result = search rules in
    let fits_version : SFits w64 c.version_after-version.result = search rules in
    let is_kept : c.deref-2.result.now ≡ keep c.args.changes.now = c.deref-2.ensures.value ∙ c.in_ok-kept.ensures in
    let stamp : ℤ = to_z w64 (of_z w64 c.stamp_after-stamp.result) in
    let plan : IsPlan h.cells (keep c.args.changes.now) stamp c.in_ok-plan.plan =
    subst (λ cs. IsPlan h.cells cs stamp c.in_ok-plan.plan) is_kept (c.in_ok-plan.ensures.planned clean it (meta_rows Second h.site h.version) (table_rows 1 h.tables) [] (map mark_row h.marks) h.cells has (sorted_cells h sound)) in
    decided h c.args.changes.now _ sound
    (λ within. to_z-of_z fits_stamp ∙ c.stamp_after-stamp.ensures (ap (λ v. int_eq v greatest_version) (to_z-of_z fits) ∙ within) ∙ ap (λ v. v +ℤ pos 1) (to_z-of_z fits))
    plan
    (c.has_news-is_changed.ensures ∙ ap (λ ns. not (is_none ns)) c.deref-3.ensures.value)
    (ap (λ v. c.has_news-is_changed.result && int_eq v greatest_version) (sym (to_z-of_z fits)) ∙ c.in_ok-stay_within_limit.ensures)
    (to_z-of_z fits_version ∙ c.version_after-version.ensures ∙ ap (cond c.has_news-is_changed.result stamp) (to_z-of_z fits)) well
