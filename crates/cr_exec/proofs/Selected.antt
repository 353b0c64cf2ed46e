-- From the stages of a query to its answer.
use Rattle.std.proofs.Common.{◌≡◌, ◌∙◌, true, false, cond, List, [], map, Option, Some, option_map, Result, sym, ap}
use Rattle.std.specs.Option.{option_and_then}
use Rattle.std.specs.Borrow.{Bor}
use Rattle.cr_value.specs.declared.value.Value.{Value}
use Rattle.cr_scalar.specs.Host.{Host}
use Rattle.cr_term.specs.declared.expr.Expr.{Expr}
use Rattle.cr_term.specs.declared.query.Query.{Query as Resolved}
use Rattle.cr_expr.specs.Eval.{eval_of}
use Rattle.cr_bags.specs.Bags.{gather, each, single}
use Rattle.cr_scalar.specs.declared.fault.EvalFault.{EvalFault}
use Rattle.cr_query.specs.Queries.{Shown}
use Rattle.cr_query.specs.Query.{Row, groups, has, pair, shows, shown, shown_groups, finished}
use Rattle.cr_query.proofs.PlanLaws.{gather-map}
use Rattle.cr_meaning.specs.View.{Ordered, plain, group_term, result_term, order_term, query}
use Rattle.cr_meaning.specs.Meaning.{Regard, taken, at_row, at_group, limit_of, regarded}
use Rattle.cr_exec.specs.Answers.{IsMeant, Answers}
use Rattle.cr_exec.specs.Groups.{result_expr, order_expr, shows_by, judged_by}
use Rattle.cr_exec.specs.Scopes.{there}
use Rattle.cr_exec.proofs.Stages.{meant_on}
use Rattle.cr_exec.proofs.ByClass.{answers_on}

module _ (host : Host) (params : List Value) (q : Resolved) where
  module _ (results keys : List (Bor Expr)) (results_are : map there results ≡ map result_expr q.results) (keys_are : map there keys ≡ map order_expr q.order) where
    -- what is shown, where a value looks at the expression alone
    shows_same : (regard : Regard) (F : Expr → Option Value) → shows_by (λ e. F e.expr) results keys ≡ shows (regarded regard host params) (query q) (λ e. F e.expr)
    shows_same regard F =
        let f : Ordered → Option Value = λ e. F e.expr in
        let a : each f (map there results) ≡ each f (map result_term q.results) = ap (each f) results_are ∙ gather-map result_expr (λ e. option_map single (f e)) q.results ∙ sym (gather-map result_term (λ e. option_map single (f e)) q.results) in
        let b : each f (map there keys) ≡ each (λ t. f t.expr) (map order_term q.order) = ap (each f) keys_are ∙ gather-map order_expr (λ e. option_map single (f e)) q.order ∙ sym (gather-map order_term (λ t. option_map single (f t.expr)) q.order) in
        λ i. pair (a i) (b i)

    grouped_is : q.is_grouped ≡ true → (cs : List Row) (regard : Regard) → option_and_then (gather (λ g. judged_by (regarded regard host params) (λ e. (regarded regard host params).over e g) q.having results keys)) (groups (regarded regard host params) (map group_term q.groups) cs) ≡ shown (regarded regard host params) (query q) cs
    grouped_is yes_grouped cs regard =
        let m = regarded regard host params in
        (λ i. option_and_then (gather (λ g. option_and_then (λ b. cond b (option_map single (shows_same regard (λ x. taken regard.value (eval_of (at_group regard.most host params g) x)) i)) (Some [])) (has m (option_map plain q.having) (λ e. m.over e g)))) (groups m (map group_term q.groups) cs))
        ∙ sym (ap (λ b. cond b (shown_groups m (query q) cs) (each (λ c. shows m (query q) (λ e. m.value e c)) cs)) yes_grouped)

    plain_is : q.is_grouped ≡ false → (cs : List Row) (regard : Regard) → each (λ c. shows_by (λ e. (regarded regard host params).value e c) results keys) cs ≡ shown (regarded regard host params) (query q) cs
    plain_is not_grouped cs regard =
        let m = regarded regard host params in
        (λ i. each (λ c. shows_same regard (λ x. taken regard.value (eval_of (at_row (limit_of regard.most x) host params c) x)) i) cs)
        ∙ sym (ap (λ b. cond b (shown_groups m (query q) cs) (each (λ c. shows m (query q) (λ e. m.value e c)) cs)) not_grouped)

    pub grouped_shown : {X : Type 0} (view : X → List Shown) → q.is_grouped ≡ true → (cs : List Row) (r : Result X EvalFault)
        → Answers host params r view (λ m. option_and_then (gather (λ g. judged_by m (λ e. m.over e g) q.having results keys)) (groups m (map group_term q.groups) cs)) → Answers host params r view (λ m. shown m (query q) cs)
    grouped_shown view is cs r h = answers_on host params (λ m. option_and_then (gather (λ g. judged_by m (λ e. m.over e g) q.having results keys)) (groups m (map group_term q.groups) cs)) (λ m. shown m (query q) cs) view (grouped_is is cs) r h

    pub plain_shown : {X : Type 0} (view : X → List Shown) → q.is_grouped ≡ false → (cs : List Row) (r : Result X EvalFault)
        → Answers host params r view (λ m. each (λ c. shows_by (λ e. m.value e c) results keys) cs) → Answers host params r view (λ m. shown m (query q) cs)
    plain_shown view is cs r h = answers_on host params (λ m. each (λ c. shows_by (λ e. m.value e c) results keys) cs) (λ m. shown m (query q) cs) view (plain_is is cs) r h

  -- ---- what is shown, finished

  pub answered_both : (cs : List Row) (sh : List Shown) (rows : List Row) → IsMeant host params (λ m. shown m (query q) cs) sh → ((regard : Regard) (ps : List Value) → rows ≡ finished (regarded regard host ps) (query q) sh)
      → IsMeant host params (λ m. option_map (finished m (query q)) (shown m (query q) cs)) rows
  answered_both cs sh rows h last =
      meant_on host params (λ m. shown m (query q) cs) (λ m. option_map (finished m (query q)) (shown m (query q) cs)) sh rows
      (λ regard k. ap (option_map (finished (regarded regard host params) (query q))) k ∙ ap (λ (l : List Row). Some l) (sym (last regard params))) h
