-- A query of aggregates answers what its aggregates are worth.
use Rattle.std.proofs.Common.{◌≡◌, ◌∙◌, inr, ℕ, Bool, true, false, cond, List, [], ◌∷◌, ◌++◌, append-nil, map, Option, Some, option_map, Result, Ok, Err, refl, sym, ap, subst}
use Rattle.std.specs.Prelude.{MatchResult, filter}
use Rattle.std.specs.List.{AllByRecursion, AllZip, flat_map}
use Rattle.std.specs.Option.{ForSome, option_and_then}
use Rattle.cr_value.specs.declared.value.Value.{Value}
use Rattle.cr_bags.specs.Bags.{each, gather, joins, single}
use Rattle.cr_cells.specs.Calls.{IsRefusal, Reads}
use Rattle.cr_cells.specs.Holding.{Holding}
use Rattle.cr_cells.specs.declared.store.CellsError.{CellsError}
use Rattle.cr_term.specs.declared.expr.Expr.{Expr}
use Rattle.cr_term.specs.declared.query.GroupTerm.{GroupTerm}
use Rattle.cr_term.specs.declared.query.Query.{Query}
use Rattle.cr_scalar.specs.Host.{Host as Means}
use Rattle.cr_query.specs.Queries.{Shown}
use Rattle.cr_query.specs.Query.{Row, Meaning as Meant_by, answer, finished, groups, holds, joined, judged, shown, shown_groups, shows}
use Rattle.cr_query.proofs.PlanLaws.{joined_one, step}
use Rattle.cr_query.proofs.Refining.{answer_refines}
use Rattle.cr_meaning.specs.View.{Ordered}
use Rattle.cr_meaning.specs.View as view
use Rattle.cr_meaning.specs.Meaning.{IsLimit, at_group, meaning, regarded, sized, strict}
use Rattle.cr_meaning.proofs.Limits.{refines}
use Rattle.cr_scalar.specs.Meaning.{byte_limit}
use Rattle.cr_expr.specs.Setting.{Setting}
use Rattle.cr_exec.specs.Answers.{IsMeant}
use Rattle.cr_exec.specs.Combinations.{IsOfOneTable}
use Rattle.cr_pushdown.specs.Passing.{passes}
use Rattle.cr_pushdown.proofs.Answers.{holds_for, known_false}
use Rattle.cr_tally.specs.declared.over.OverGroup.{OverGroup}
use Rattle.cr_tally.specs.declared.tally.Tally.{Tally}
use Rattle.cr_tally.specs.declared.show.Call.{Call}
use Rattle.cr_tally.specs.Showing.{AreKnown}
use Rattle.cr_tally.specs.Over.{ShowsQuery, group_shows}
use Rattle.cr_tally.specs.Tallies.{TellAll, Worth}
use Rattle.cr_tally.specs.Queries.{AnswersOver, AreTrue, HasOneGroup}
use Rattle.cr_tally.proofs.Overs.{judged_is}

-- ---- the rows of the group

gather_kept : {X : Type 0} (f : X → Option (List X)) (p : X → Bool) → ((x : X) → p x ≡ false → f x ≡ Some [])
    → (xs : List X) → AllByRecursion (λ x. f x ≡ Some (x ∷ [])) (filter p xs) → gather f xs ≡ Some (filter p xs)
gather_kept f p out [] all = refl
gather_kept {X} f p out (x ∷ xs) all =
    elim (p x) as (λ b. p x ≡ b → AllByRecursion (λ y. f y ≡ Some (y ∷ [])) (cond b (x ∷ filter p xs) (filter p xs)) → joins (f x) (gather f xs) ≡ Some (cond b (x ∷ filter p xs) (filter p xs))) [
      | true ↦ λ e kept i. joins (kept.0 i) (gather_kept f p out xs kept.1 i)
      | false ↦ λ e kept i. joins (out x e i) (gather_kept f p out xs kept i)
    ] refl all

each_so : {X : Type 0} (P Q : X → Type 0) → ((x : X) → P x → Q x) → (xs : List X) → AllByRecursion P xs → AllByRecursion Q xs
each_so P Q f [] all = tt
each_so P Q f (x ∷ xs) all = (f x all.0, each_so P Q f xs all.1)

-- what is true under each regard is true under each limit
true_for : (means : Means) (params : List Value) (most : Option ℕ) → IsLimit most → (terms : List Expr) (r : Row) → AreTrue means params terms r → holds (meaning most means params) (map view.plain terms) r ≡ Some true
true_for means params most limit terms r so = so.under (strict most) limit

-- ---- what the group shows

known_of : (means : Means) (params : List Value) (rows : List Row) (most : Option ℕ) → IsLimit most → (ts : List Tally) (values : List Value) → TellAll means params rows ts → AllZip Worth ts values
    → AreKnown (at_group most means params (record { shown = []; members = rows })) (map (λ t. t.call) ts) values
known_of means params rows most limit [] values tells worths = tt
known_of means params rows most limit (t ∷ ts) [] tells worths = absurd worths
known_of means params rows most limit (t ∷ ts) (v ∷ vs) tells worths = (worths.0 means params rows tells.0 most limit, known_of means params rows most limit ts vs tells.1 worths.1)

module _ (means : Means) (params : List Value) (most : Option ℕ) (limit : IsLimit most) (q : Query) (one : IsOfOneTable q) (of : HasOneGroup q) (all : List Row)
    (true_of : AllByRecursion (AreTrue means params q.filter) (filter (passes means params q.filter) all)) where
  abbrev by : Meant_by Ordered
  by = meaning most means params

  abbrev found : List Row
  found = filter (passes means params q.filter) all

  combinations : joined by (view.query q) (single all) ≡ Some found
  combinations =
      let terms_are : view.terms q ≡ map view.plain q.filter =
      (λ i. flat_map view.inner_terms (one.only i) ++ map view.plain q.filter)
      ∙ (λ i. (cond (one.inner i) [] (map view.plain (one.no_on i)) ++ []) ++ map view.plain q.filter) in
      let steps : Row → Option Bool → Option (List Row) = λ r o. option_map (λ b. cond b (single r) []) o in
      joined_one by (view.query q) (view.joining one.table) (ap (map view.joining) one.only) one.inner all
      ∙ gather_kept (step by (view.query q)) (passes means params q.filter)
      (λ r out. ap (steps r) (ap (λ ts. holds by ts r) terms_are ∙ holds_for means params (strict most) limit (map view.plain q.filter) r false (known_false _ out)))
      all
      (each_so (AreTrue means params q.filter) (λ r. step by (view.query q) r ≡ Some (r ∷ []))
      (λ r so. ap (steps r) (ap (λ ts. holds by ts r) terms_are ∙ true_for means params most limit q.filter r so)) found true_of)

  shown_is : (group : List Shown) → judged by (view.query q) (λ e. by.over e (record { shown = []; members = found })) ≡ Some group → shown by (view.query q) found ≡ Some group
  shown_is group is =
      ap (λ b. cond b (shown_groups by (view.query q) found) (each (λ c. shows by (view.query q) (λ e. by.value e c)) found)) of.grouped
      ∙ ap (λ (gs : List GroupTerm). option_and_then (gather (λ g. judged by (view.query q) (λ e. by.over e g))) (groups by (map view.group_term gs) found)) of.no_groups
      ∙ ap (λ (o : Option (List Shown)). joins o (Some [])) is
      ∙ ap (λ (ss : List Shown). Some ss) (append-nil group)

  pub answered : (o : OverGroup) (ts : List Tally) (values : List Value) (group : List Shown) → ShowsQuery [] (map (λ t. t.call) ts) q o
      → TellAll means params found ts → AllZip Worth ts values → group_shows by o (record { shown = values; members = [] }) ≡ Some group
      → answer by (view.query q) (single all) ≡ Some (finished by (view.query q) group)
  answered o ts values group shows tells worths is =
      let s : Setting = at_group most means params (record { shown = []; members = found }) in
      ap (λ c. option_map (finished by (view.query q)) (option_and_then (shown by (view.query q)) c)) combinations
      ∙ ap (option_map (finished by (view.query q))) (shown_is group (judged_is means params most found values q o (shows.same s values refl (known_of means params found most limit ts values tells worths)) ∙ is))

pub answers_both : (means : Means) (params : List Value) (q : Query) → IsOfOneTable q → HasOneGroup q → (all : List Row) (o : OverGroup) (calls : List Call) (rows : List Row) → ShowsQuery [] calls q o
    → AnswersOver means params q o calls (filter (passes means params q.filter) all) rows → IsMeant means params (λ m. answer m (view.query q) (single all)) rows
answers_both means params q one of all o calls rows shows over =
    let fin = over.finishes in
    let shows_told : ShowsQuery [] (map (λ t. t.call) over.told) q o = subst (λ (cs : List Call). ShowsQuery [] cs q o) (sym over.of) shows in
    let sized_answer = answered means params byte_limit (inr refl) q one of all over.are_true o over.told fin.values fin.group shows_told over.tells fin.worth (fin.shows.under (strict byte_limit) (inr refl))
    ∙ ap (λ (rs : List Row). Some rs) (sym (fin.are byte_limit)) in
    record { under = λ g limit. answer_refines (sized means params) (regarded g means params) (refines means params g limit) (view.query q) (single all) rows sized_answer }

-- what is read answers this, too
pub read_so : {X : Type 0} (P Q : X → Type 0) (old new : Holding) (r : Result (Option X) CellsError) → ((x : X) → P x → Q x) → Reads old new r (λ o. ForSome o P) → Reads old new r (λ o. ForSome o Q)
read_so {X} P Q old new r so read = record { same = read.same; answers = by r read.answers } where
  by : (s : Result (Option X) CellsError) → MatchResult s (λ o. ForSome o P) IsRefusal → MatchResult s (λ o. ForSome o Q) IsRefusal
  by (Ok o) told = λ x is. so x (told x is)
  by (Err e) told = told
