-- The rows of one table on which all terms are true are the combinations of a query of it.
use Rattle.std.proofs.Common.{◌≡◌, ◌∙◌, Bool, true, false, cond, List, [], ◌∷◌, ◌++◌, append-nil, map, Option, Some, None, option_map, Result, Ok, Err, sym, ap}
use Rattle.std.specs.Option.{option_and_then}
use Rattle.cr_value.specs.declared.value.Value.{Value}
use Rattle.cr_scalar.specs.Host.{Host}
use Rattle.cr_scalar.specs.declared.fault.EvalFault.{EvalFault}
use Rattle.cr_term.specs.declared.query.Query.{Query as Resolved}
use Rattle.cr_bags.specs.Bags.{joins, single, those}
use Rattle.cr_query.specs.Query.{Row, Meaning, all_true, answer, finished, joined, shown}
use Rattle.cr_query.proofs.PlanLaws.{gather-append, joined_one}
use Rattle.cr_meaning.specs.View.{Ordered, joining, query, terms}
use Rattle.cr_meaning.specs.Meaning.{Regard, regarded}
use Rattle.cr_exec.specs.Answers.{Answers, Faults, IsMeant, Stage}
use Rattle.cr_exec.specs.Combinations.{IsOfOneTable}
use Rattle.cr_exec.specs.Tails.{with_quiet_first}
use Rattle.cr_exec.proofs.Stages.{meant_after, faults_after, faults_on}

-- what a row adds, by whether it is kept
abbrev added : Row → Option Bool → Option (List Row)
added r o = option_map (λ b. cond b (single r) []) o

module _ (m : Meaning Ordered) (ts : List Ordered) where
  abbrev kept_of : List Row → Option (List Row)
  kept_of rows = those (all_true m ts) rows

  one_more : (rows out : List Row) (r : Row) (o : Option Bool) → kept_of rows ≡ Some out → all_true m ts r ≡ o → kept_of (rows ++ r ∷ []) ≡ joins (Some out) (joins (added r o) (Some []))
  one_more rows out r o before is = gather-append (λ x. added x (all_true m ts x)) rows (r ∷ []) ∙ (λ i. joins (before i) (joins (added r (is i)) (Some [])))

  pub kept_true : (rows out : List Row) (r : Row) → kept_of rows ≡ Some out → all_true m ts r ≡ Some true → kept_of (rows ++ r ∷ []) ≡ Some (out ++ r ∷ [])
  kept_true rows out r before is = one_more rows out r (Some true) before is

  pub kept_false : (rows out : List Row) (r : Row) → kept_of rows ≡ Some out → all_true m ts r ≡ Some false → kept_of (rows ++ r ∷ []) ≡ Some out
  kept_false rows out r before is = one_more rows out r (Some false) before is ∙ ap (λ (l : List Row). Some l) (append-nil out)

  pub kept_none : (rows out : List Row) (r : Row) (rest : List Row) → kept_of rows ≡ Some out → all_true m ts r ≡ None → kept_of ((rows ++ r ∷ []) ++ rest) ≡ None
  kept_none rows out r rest before is =
      gather-append (λ x. added x (all_true m ts x)) (rows ++ r ∷ []) rest ∙ ap (λ o. joins o (kept_of rest)) (one_more rows out r None before is)

module _ (host : Host) (params : List Value) (ts : List Ordered) (rows out : List Row) (r : Row) where
  abbrev stage : List Row → Stage (List Row)
  stage xs m = those (all_true m ts) xs

  pub both_kept : IsMeant host params (stage rows) out → IsMeant host params (λ m. all_true m ts r) true → IsMeant host params (stage (rows ++ r ∷ [])) (out ++ r ∷ [])
  both_kept before is =
      meant_after host params (stage rows) out (λ m. all_true m ts r) true (stage (rows ++ r ∷ [])) (out ++ r ∷ []) (λ regard. kept_true (regarded regard host params) ts rows out r) before is

  pub both_left_out : IsMeant host params (stage rows) out → IsMeant host params (λ m. all_true m ts r) false → IsMeant host params (stage (rows ++ r ∷ [])) out
  both_left_out before is =
      meant_after host params (stage rows) out (λ m. all_true m ts r) false (stage (rows ++ r ∷ [])) out (λ regard. kept_false (regarded regard host params) ts rows out r) before is

  pub fault_on : (rest : List Row) (e : EvalFault) → IsMeant host params (stage rows) out → Faults host params (λ m. all_true m ts r) e → Faults host params (stage ((rows ++ r ∷ []) ++ rest)) e
  fault_on rest e before h =
      faults_after host params (stage rows) out (λ m. all_true m ts r) (stage ((rows ++ r ∷ []) ++ rest)) e (λ regard. kept_none (regarded regard host params) ts rows out r rest) before h

-- ---- the answer

module _ (host : Host) (params : List Value) (q : Resolved) (one : IsOfOneTable q) (ts : List Ordered) (are : ts ≡ with_quiet_first (terms q)) (rows : List Row) where
  joined_are : (regard : Regard) → joined (regarded regard host params) (query q) (single rows) ≡ those (all_true (regarded regard host params) ts) rows
  joined_are regard =
      let m = regarded regard host params in
      joined_one m (query q) (joining one.table) (ap (map joining) one.only) one.inner rows ∙ ap (λ es. those (all_true m es) rows) (sym are)

  abbrev last : List Row → Stage (List Row)
  last cs m = option_map (finished m (query q)) (shown m (query q) cs)

  over : (regard : Regard) (cs : List Row) → those (all_true (regarded regard host params) ts) rows ≡ Some cs → answer (regarded regard host params) (query q) (single rows) ≡ last cs (regarded regard host params)
  over regard cs kept = ap (λ o. option_map (finished (regarded regard host params) (query q)) (option_and_then (shown (regarded regard host params) (query q)) o)) (joined_are regard ∙ kept)

  -- where the rows that are kept have a fault
  pub unkept : (e : EvalFault) → Faults host params (λ m. those (all_true m ts) rows) e → Faults host params (λ m. answer m (query q) (single rows)) e
  unkept e h =
      faults_on host params (λ m. those (all_true m ts) rows) (λ m. answer m (query q) (single rows)) e
      (λ regard none. ap (λ o. option_map (finished (regarded regard host params) (query q)) (option_and_then (shown (regarded regard host params) (query q)) o)) (joined_are regard ∙ none)) h

  pub answers_kept : (cs : List Row) → IsMeant host params (λ m. those (all_true m ts) rows) cs → {X : Type 0} (view : X → List Row) (result : Result X EvalFault)
      → Answers host params result view (last cs) → Answers host params result view (λ m. answer m (query q) (single rows))
  answers_kept cs kept view (Ok x) both =
      meant_after host params (λ m. those (all_true m ts) rows) cs (last cs) (view x) (λ m. answer m (query q) (single rows)) (view x) (λ regard k l. over regard cs k ∙ l) kept both
  answers_kept cs kept view (Err e) h =
      faults_after host params (λ m. those (all_true m ts) rows) cs (last cs) (λ m. answer m (query q) (single rows)) e (λ regard k l. over regard cs k ∙ l) kept h
