use Rattle.std.proofs.Common.{◌≡◌, false, ◌&&◌, sym, ap, subst, ◌∙◌, SFits, w64, to_z, of_z, to_z-of_z, rules}
use Rattle.std.specs.Prelude.{Err, filter}
use Rattle.std.specs.Ordering.{int_eq}
use Rattle.cr_cells.specs.Holding.{Holding, kept_of}
use Rattle.cr_cells.specs.Calls.{StaysWithinLimit, IsNotCommitted}
use Rattle.cr_cells.specs.Commit.{newly_kept, is_new, greatest_version}
use Rattle.cr_cells.proofs.NewLemmas.{news_are, past_by_news, not_committed}
use Rattle.cr_cells.proofs.newly.newly_kept.Goals as goal

pub returns-in_err-stay_within_limit-clause-foresees : goal.returns-in_err-stay_within_limit-clause-foresees
returns-in_err-stay_within_limit-clause-foresees g c = λ clean.
    let h = g.C.Cells.holding c.args.cells.now in
    let read = c.in_ok-news.ensures.reads clean in
    let fits : SFits w64 c.db_version-2.result = search rules in
    let version : to_z w64 (of_z w64 c.db_version-2.result) ≡ h.version = to_z-of_z fits ∙ c.db_version-2.ensures.version clean ∙ ap (λ (k : Holding). k.version) read.same in
    let come : c.deref-2.result.now ≡ newly_kept (kept_of h) c.args.changes.now =
    c.deref-2.ensures.value ∙ read.answers ∙ ap (filter (is_new (kept_of h))) (c.deref.ensures.value ∙ c.in_ok-wanted.ensures) ∙ news_are (kept_of h) c.args.changes.now in
    let why : IsNotCommitted h c.args.changes.now c.in_err-stay_within_limit.field-0.0 =
    not_committed h c.args.changes.now c.deref-2.result.now (to_z w64 (of_z w64 c.db_version-2.result)) c.in_err-stay_within_limit.field-0.0 come version
    (subst (λ b. StaysWithinLimit b (to_z w64 (of_z w64 c.db_version-2.result)) (Err c.in_err-stay_within_limit.field-0.0)) c.has_some.ensures c.in_err-stay_within_limit.ensures) in
    search rules

pub returns-clause-foresees : goal.returns-clause-foresees
returns-clause-foresees g c = λ clean.
    let h = g.C.Cells.holding c.args.cells.now in
    let read = c.in_ok-news.ensures.reads clean in
    let fits : SFits w64 c.db_version-2.result = search rules in
    let version : to_z w64 (of_z w64 c.db_version-2.result) ≡ h.version = to_z-of_z fits ∙ c.db_version-2.ensures.version clean ∙ ap (λ (k : Holding). k.version) read.same in
    let come : c.deref-2.result.now ≡ newly_kept (kept_of h) c.args.changes.now =
    c.deref-2.ensures.value ∙ read.answers ∙ ap (filter (is_new (kept_of h))) (c.deref.ensures.value ∙ c.in_ok-wanted.ensures) ∙ news_are (kept_of h) c.args.changes.now in
    record {
      same = read.same;
      answers = (
        sym c.deref-2.ensures.value ∙ come,
        past_by_news h c.args.changes.now c.deref-2.result.now (to_z w64 (of_z w64 c.db_version-2.result)) false come version
            (ap (λ b. b && int_eq (to_z w64 (of_z w64 c.db_version-2.result)) greatest_version) (sym c.has_some.ensures) ∙ c.in_ok-stay_within_limit.ensures),
      );
    }
