use Rattle.std.proofs.Common.{◌≡◌, ◌∙◌, ◌++◌, ◌∷◌, List, [], append_assoc, ap, map, map-id, subst, sym}
use Rattle.std.specs.Vec.Iter.{into_iter_items}
use Rattle.std.proofs.lemmas.Iterator.Consumers.{YieldsList-end}
use Rattle.std.proofs.lemmas.Iterator.Adapters.{YieldsList-from_vec}
use Rattle.std.proofs.lemmas.Result.{err_from_is_err_and}
use Rattle.cr_scalar.specs.Host.{Host, host}
use Rattle.cr_bags.specs.Bags.{those}
use Rattle.cr_query.specs.Query.{Row, all_true}
use Rattle.cr_exec.specs.Answers.{Faults, IsMeant}
use Rattle.cr_exec.specs.Scopes.{there}
use Rattle.cr_exec.proofs.Kept.{both_kept, both_left_out, fault_on}
use Rattle.cr_exec.proofs.join.kept.Goals as goal

-- one more of the rows is gone through
gone : (xs : List Row) (x : Row) (rest was all : List Row) → was ≡ x ∷ rest → xs ++ was ≡ all → (xs ++ x ∷ []) ++ rest ≡ all
gone xs x rest was all h whole = append_assoc xs (x ∷ []) rest ∙ ap (λ l. xs ++ l) (sym h) ∙ whole

pub returns-in_err-is_kept : goal.returns-in_err-is_kept
returns-in_err-is_kept g c =
    let h : Host = host (g.F.Functions.function_of c.args.functions.now) (g.F.Functions.scalar c.args.functions.now) (g.F.Functions.step c.args.functions.now) (g.F.Functions.finish c.args.functions.now) (g.F.Functions.order_of c.args.functions.now) in
    let ts = map there c.args.terms.now in
    let e = c.in_err-is_kept.field-0.0 in
    let p = err_from_is_err_and c.from_residual.result c.from_residual.ensures.1 in
    rw (p.1, p.2)
    (subst (λ (rs : List Row). Faults h c.args.params.now (λ m. those (all_true m ts) rs) e)
    (gone c.loop-row.yielded c.in-Some.row (into_iter_items c.next.new.self) (into_iter_items c.loop-row.row-iterator) c.args.rows.items c.in-Some.ensures.steps.0 c.loop-row.invariant.whole)
    (fault_on h c.args.params.now ts c.loop-row.yielded c.loop-row.out.items c.in-Some.row (into_iter_items c.next.new.self) e c.loop-row.invariant.kept
    (subst (λ (r : Row). Faults h c.args.params.now (λ m. all_true m ts r) e) c.as_slice.ensures c.in_err-is_kept.ensures)))

pub loop-row-preserved-in-Continue-branch-2 : goal.loop-row-preserved-in-Continue-branch-2
loop-row-preserved-in-Continue-branch-2 g c =
    let h : Host = host (g.F.Functions.function_of c.args.functions.now) (g.F.Functions.scalar c.args.functions.now) (g.F.Functions.step c.args.functions.now) (g.F.Functions.finish c.args.functions.now) (g.F.Functions.order_of c.args.functions.now) in
    let ts = map there c.args.terms.now in
    let so = subst (λ b. IsMeant h c.args.params.now (λ m. all_true m ts c.in-Some.row) b) c.if-is_kept.true (subst (λ (r : Row). IsMeant h c.args.params.now (λ m. all_true m ts r) c.in_ok-is_kept.is_kept) c.as_slice.ensures c.in_ok-is_kept.ensures) in
    record {
      whole = gone c.loop-row.yielded c.in-Some.row (into_iter_items c.next.new.self) (into_iter_items c.loop-row.row-iterator) c.args.rows.items c.in-Some.ensures.steps.0 c.loop-row.invariant.whole;
      kept = subst (IsMeant h c.args.params.now (λ m. those (all_true m ts) (c.loop-row.yielded ++ c.in-Some.row ∷ []))) (sym c.in_ok-push.ensures.puts) (both_kept h c.args.params.now ts c.loop-row.yielded c.loop-row.out.items c.in-Some.row c.loop-row.invariant.kept so);
    }

pub loop-row-preserved : goal.loop-row-preserved
loop-row-preserved g c =
    let h : Host = host (g.F.Functions.function_of c.args.functions.now) (g.F.Functions.scalar c.args.functions.now) (g.F.Functions.step c.args.functions.now) (g.F.Functions.finish c.args.functions.now) (g.F.Functions.order_of c.args.functions.now) in
    let ts = map there c.args.terms.now in
    let so = subst (λ b. IsMeant h c.args.params.now (λ m. all_true m ts c.in-Some.row) b) c.if-is_kept.false (subst (λ (r : Row). IsMeant h c.args.params.now (λ m. all_true m ts r) c.in_ok-is_kept.is_kept) c.as_slice.ensures c.in_ok-is_kept.ensures) in
    record {
      whole = gone c.loop-row.yielded c.in-Some.row (into_iter_items c.next.new.self) (into_iter_items c.loop-row.row-iterator) c.args.rows.items c.in-Some.ensures.steps.0 c.loop-row.invariant.whole;
      kept = both_left_out h c.args.params.now ts c.loop-row.yielded c.loop-row.out.items c.in-Some.row c.loop-row.invariant.kept so;
    }

pub returns : goal.returns
returns g c =
    let h : Host = host (g.F.Functions.function_of c.args.functions.now) (g.F.Functions.scalar c.args.functions.now) (g.F.Functions.step c.args.functions.now) (g.F.Functions.finish c.args.functions.now) (g.F.Functions.order_of c.args.functions.now) in
    let done : c.loop-row.yielded ≡ c.args.rows.items =
    sym (map-id c.loop-row.yielded) ∙ (YieldsList-end (YieldsList-from_vec {s = c.into_iter-row-iterator.result} c.args.rows.items c.into_iter-row-iterator.ensures.into_iter_gives.0 (c.into_iter-row-iterator.ensures.into_iter_gives.1 ∙ c.args.rows.ok.0)) c.loop-row.yielded c.loop-row.row-iterator c.loop-row.yielded_by c.next.result c.next.new.self c.in-None.is c.next.ensures.steps).0 in
    subst (λ (rs : List Row). IsMeant h c.args.params.now (λ m. those (all_true m (map there c.args.terms.now)) rs) c.loop-row.out.items) done c.loop-row.invariant.kept
