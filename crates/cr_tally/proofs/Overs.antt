-- What a group shows is what it shows where its aggregates are shown.
use Rattle.std.proofs.Common.{◌≡◌, ◌∙◌, ℕ, Bool, true, cond, List, [], ◌∷◌, map, Option, Some, None, Ok, Err, option_map, refl, sym, ap}
use Rattle.std.specs.Option.{option_and_then}
use Rattle.std.specs.Borrow.{Bor}
use Rattle.cr_value.specs.declared.value.Value.{Value}
use Rattle.cr_bags.specs.Bags.{joins, single}
use Rattle.cr_bags.specs.Bags.{each as values_of}
use Rattle.cr_term.specs.declared.expr.Expr.{Expr}
use Rattle.cr_term.specs.declared.query.Query.{Query}
use Rattle.cr_scalar.specs.Host.{Host as Means}
use Rattle.cr_scalar.specs.Functions.{all_of}
use Rattle.cr_scalar.specs.Meaning.{Meant, Outcome, and_then}
use Rattle.cr_scalar.specs.Numbers.{truth}
use Rattle.cr_expr.specs.Setting.{Setting}
use Rattle.cr_expr.specs.Eval.{each, eval_of, if_any}
use Rattle.cr_expr.specs.Eval as eval
use Rattle.cr_query.specs.Queries.{Shown}
use Rattle.cr_query.specs.Query.{Row, Group, Meaning as Meant_by, has, judged, pair}
use Rattle.cr_meaning.specs.View.{Ordered}
use Rattle.cr_meaning.specs.View as view
use Rattle.cr_meaning.specs.Meaning.{at_group, is_so, meaning, regarded, value_of}
use Rattle.cr_exec.specs.Answers.{IsMeant, behind}
use Rattle.cr_exec.specs.Groups.{judged_by}
use Rattle.cr_exec.specs.Scopes.{there}
use Rattle.cr_tally.specs.declared.over.OverGroup.{OverGroup}
use Rattle.cr_tally.specs.declared.show.Call.{Call}
use Rattle.cr_tally.specs.Showing.{ShowsAll, ShowsIfAny, showing}
use Rattle.cr_tally.specs.Over.{SameOver, ShowsQuery, group_shows}
use Rattle.cr_tally.proofs.Shows.{both_known, follows, three}

-- ---- what a query evaluates over its group

pub shows_query : (old mid later new : List Call) (q : Query) (o : OverGroup) → ShowsIfAny old mid q.having o.having → ShowsAll mid later (map (λ c. c.expr) q.results) o.results.items → ShowsAll later new (map (λ c. c.expr) q.order) o.keys.items
    → ShowsQuery old new q o
shows_query old mid later new q o having results keys =
    let Having : Setting → Setting → Type 0 = λ s t. if_any s (option_map eval.meaning q.having) ≡ if_any t (option_map eval.meaning o.having) in
    let Results : Setting → Setting → Type 0 = λ s t. each (map eval.meaning (map (λ c. c.expr) q.results)) s ≡ each (map eval.meaning o.results.items) t in
    let Keys : Setting → Setting → Type 0 = λ s t. each (map eval.meaning (map (λ c. c.expr) q.order)) s ≡ each (map eval.meaning o.keys.items) t in
    follows old new (λ s t. Having s t × (Results s t × Keys s t)) (λ s t. SameOver s t q o) (λ s vs same. record { having = same.0; results = same.1.0; keys = same.1.1 })
    (both_known old mid new Having (λ s t. Results s t × Keys s t) (record { more = having.more; grown = having.grown; same = λ s vs none known. (having.same s vs none known).0 }) (both_known mid later new Results Keys results keys))

-- the expressions of what is seen of a list
map_expr : {X : Type 0} (f : X → Ordered) (xs : List X) → map (λ o. o.expr) (map f xs) ≡ map (λ x. (f x).expr) xs
map_expr f [] = refl
map_expr f (x ∷ xs) = ap (λ es. (f x).expr ∷ es) (map_expr f xs)

pub exprs_there : {X : Type 0} (f : X → Ordered) (es : List (Bor Expr)) (xs : List X) → map there es ≡ map f xs → map (λ e. e.now) es ≡ map (λ x. (f x).expr) xs
exprs_there f es xs same = sym (map_expr there es) ∙ ap (map (λ o. o.expr)) same ∙ map_expr f xs

-- ---- what the group shows

joined_parts : (o : Meant) (os : Outcome Row) → joins (option_map single (value_of o)) (value_of os) ≡ value_of (and_then o (λ w. and_then os (λ ws. Ok (w ∷ ws))))
joined_parts (Err f) os = refl
joined_parts (Ok w) (Err f) = refl
joined_parts (Ok w) (Ok ws) = refl

values_are : {X Y : Type 0} (s : Setting) (f : Y → Option Value) (at : X → Y) (expr : X → Expr) → ((x : X) → f (at x) ≡ value_of (eval_of s (expr x))) → (xs : List X)
    → values_of f (map at xs) ≡ value_of (all_of (each (map eval.meaning (map expr xs)) s))
values_are s f at expr is [] = refl
values_are s f at expr is (x ∷ xs) =
    ap (λ o. joins (option_map single o) (values_of f (map at xs))) (is x)
    ∙ ap (joins (option_map single (value_of (eval_of s (expr x))))) (values_are s f at expr is xs)
    ∙ joined_parts (eval_of s (expr x)) (all_of (each (map eval.meaning (map expr xs)) s))

same_exprs : (es : List Expr) → map (λ e. e) es ≡ es
same_exprs [] = refl
same_exprs (e ∷ es) = ap (λ rest. e ∷ rest) (same_exprs es)

abbrev has_of : Outcome (Option Value) → Option Bool
has_of (Ok None) = Some true
has_of (Ok (Some v)) = is_so (truth v)
has_of (Err f) = None

module _ (means : Means) (params : List Value) (most : Option ℕ) where
  abbrev by : Meant_by Ordered
  by = meaning most means params

  abbrev over_it : Group → Ordered → Option Value
  over_it g e = by.over e g

  has_is : (g : Group) (x : Option Expr) → has by (option_map view.plain x) (over_it g) ≡ has_of (if_any (at_group most means params g) (option_map eval.meaning x))
  has_is g None = refl
  has_is g (Some x) = by_value (eval_of (at_group most means params g) x) where
    by_value : (o : Meant) → option_and_then by.truth (value_of o) ≡ has_of (and_then o (λ v. Ok (Some v)))
    by_value (Ok v) = refl
    by_value (Err f) = refl

  plain_are : (g : Group) (es : List Expr) → values_of (over_it g) (map view.plain es) ≡ value_of (all_of (each (map eval.meaning es) (at_group most means params g)))
  plain_are g es = values_are (at_group most means params g) (over_it g) view.plain (λ e. e) (λ e. refl) es ∙ ap (λ xs. value_of (all_of (each (map eval.meaning xs) (at_group most means params g)))) (same_exprs es)

  pub judged_is : (found : List Row) (values : List Value) (q : Query) (o : OverGroup) → (let s : Setting = at_group most means params (record { shown = []; members = found }) in SameOver s (showing s values) q o)
      → judged by (view.query q) (over_it (record { shown = []; members = found })) ≡ group_shows by o (record { shown = values; members = [] })
  judged_is found values q o same =
      let g : Group = record { shown = []; members = found } in
      let h : Group = record { shown = values; members = [] } in
      let s : Setting = at_group most means params g in
      three (λ (b : Option Bool) (rs ks : Option Row). option_and_then (λ is. cond is (option_map single (pair rs ks)) (Some [])) b) _ _ _ _ _ _
      (has_is g q.having ∙ ap has_of same.having ∙ sym (has_is h o.having))
      (values_are s (over_it g) view.result_term (λ c. c.expr) (λ c. refl) q.results ∙ ap (λ os. value_of (all_of os)) same.results ∙ sym (plain_are h o.results.items))
      (values_are s (λ t. over_it g t.expr) view.order_term (λ t. t.expr) (λ t. refl) q.order ∙ ap (λ os. value_of (all_of os)) same.keys ∙ sym (plain_are h o.keys.items))

-- ---- what is shown over references

none_behind : {X : Type 0} (o : Option (List X)) → behind [] o ≡ o
none_behind None = refl
none_behind (Some xs) = refl

shown_alike : (m : Meant_by Ordered) (o : OverGroup) (g : Group) (results keys : List (Bor Expr)) → map there results ≡ map view.plain o.results.items → map there keys ≡ map view.plain o.keys.items
    → judged_by m (λ e. m.over e g) o.having results keys ≡ group_shows m o g
shown_alike m o g results keys rs ks =
    let over_it : Ordered → Option Value = λ e. m.over e g in
    let shows_all : List Ordered → List Ordered → Option (List Shown) =
    λ es fs. option_and_then (λ b. cond b (option_map single (pair (values_of over_it es) (values_of over_it fs))) (Some [])) (has m (option_map view.plain o.having) over_it) in
    ap (λ es. shows_all es (map there keys)) rs ∙ ap (shows_all (map view.plain o.results.items)) ks

pub shown_then : (host : Means) (params : List Value) (o : OverGroup) (g : Group) (results keys : List (Bor Expr)) (old new : List Shown) → old ≡ [] → map there results ≡ map view.plain o.results.items → map there keys ≡ map view.plain o.keys.items
    → IsMeant host params (λ m. behind old (judged_by m (λ e. m.over e g) o.having results keys)) new → IsMeant host params (λ m. group_shows m o g) new
shown_then host params o g results keys old new none rs ks both = record { under = λ g limit. under (regarded g host params) (both.under g limit) } where
  under : (m : Meant_by Ordered) → behind old (judged_by m (λ e. m.over e g) o.having results keys) ≡ Some new → group_shows m o g ≡ Some new
  under m is =
      sym (shown_alike m o g results keys rs ks) ∙ sym (none_behind (judged_by m (λ e. m.over e g) o.having results keys))
      ∙ ap (λ (xs : List Shown). behind xs (judged_by m (λ e. m.over e g) o.having results keys)) (sym none)
      ∙ is
