-- A select that calls neither `crsql_site_id` nor `crsql_db_version` is read alike over two catalogs in which its names stand
-- for the same.
use Rattle.std.proofs.Common.{◌≡◌, ◌∙◌, ℕ, suc, Bool, true, false, List, [], ◌∷◌, ◌++◌, map, filter, take, Option, Some, None, refl, ap, sym}
use Rattle.std.specs.Prelude.{if◌then◌else◌, ◌||◌}
use Rattle.std.specs.Option.{option_map, option_to_list}
use Rattle.std.specs.List.{AllByRecursion, flat_map}
use Rattle.cr_lattice.specs.declared.catalog.Catalog.{Catalog}
use Rattle.cr_tree.specs.declared.expr.Expr.{Expr as Tree}
use Rattle.cr_tree.specs.declared.statement.Shown.{Shown as ShownTree}
use Rattle.cr_tree.specs.declared.statement.Shown.TheVariants as shows
use Rattle.cr_tree.specs.declared.statement.Tables.{Tables}
use Rattle.cr_tree.specs.declared.statement.Join.{Join}
use Rattle.cr_tree.specs.declared.statement.Term.{Term}
use Rattle.cr_tree.specs.declared.statement.Select.{Select}
use Rattle.cr_term.specs.declared.expr.Expr.{Expr}
use Rattle.cr_term.specs.Nodes as e
use Rattle.cr_term.specs.declared.query.Relation.{Relation}
use Rattle.cr_term.specs.declared.query.Joined.{Joined}
use Rattle.cr_term.specs.declared.query.GroupTerm.{GroupTerm}
use Rattle.cr_term.specs.declared.query.OrderTerm.{OrderTerm}
use Rattle.cr_term.specs.declared.query.Query.{Query}
use Rattle.cr_term.specs.Operands.{collation_of}
use Rattle.cr_term.specs.Terms.{terms_of}
use Rattle.cr_questions.specs.Questions.{Name}
use Rattle.cr_resolve.specs.declared.refusal.Refusal.{Refusal}
use Rattle.cr_resolve.specs.declared.refusal.Refusal.TheVariants.{NoSuchTable}
use Rattle.cr_resolve.specs.Reading.{Read, fine, refused, with, with_both, also, each, if_any}
use Rattle.cr_resolve.specs.Known.{Known, collation}
use Rattle.cr_resolve.specs.declared.scope.Source.{Source}
use Rattle.cr_resolve.specs.Scope.{InSight, is_of}
use Rattle.cr_resolve.specs.Expressions.{expr}
use Rattle.cr_resolve.specs.Trees.{calls}
use Rattle.cr_resolve.specs.Resolve.{shown_trees, on_trees, select_trees}
use Rattle.cr_resolve.specs.Queries.{Written, Result, Named, Term', written, of_join, sources_of, joined, joined_from, star, result, results_of, integer_of, name_of, numbered_or, other, grouped_term, group_term, alias_at, aliased_or, order_term, or_none, distinct_collations, named, query_of, misaggregate, distinct_order, select}
use Rattle.cr_language.specs.Laws.{unplaced, unplaced_joined, unplaced_query, StandsForTheSame, table_names}
use Rattle.cr_language.proofs.Lists.{both, all_left, all_right, all_parts, map_same}
use Rattle.cr_language.proofs.Trees.{a, b, Silent, collations_same, expr_same}
use Rattle.cr_language.proofs.Sources.{unplaced_source, SameSources, sight_same, named_same, chosen_same, sources_same}

abbrev Quiet : Tree → Type 0
Quiet t = Silent (calls t)

each_same : {X Y : Type 0} (f g : X → Read Y) (xs : List X) → AllByRecursion (λ x. f x ≡ g x) xs → each (map f xs) ≡ each (map g xs)
each_same f g xs h = ap each (map_same f g xs h)

all_with : {X : Type 0} (P Q : X → Type 0) → ((x : X) → P x → Q x) → (xs : List X) → AllByRecursion P xs → AllByRecursion Q xs
all_with P Q f [] h = tt
all_with P Q f (x ∷ xs) h = (f x h.0, all_with P Q f xs h.1)

if_any_same : {X Y : Type 0} (f g : X → Read Y) (o : Option X) → AllByRecursion (λ x. f x ≡ g x) (option_to_list o) → if_any (option_map f o) ≡ if_any (option_map g o)
if_any_same f g None h = refl
if_any_same f g (Some x) h = ap (with Some) h.0

-- the same functions and collations, over two catalogs
module _ (known : Known) (c d : Catalog) (ss us : List Source) (same : SameSources ss us) where
  expr_alike : (may : Bool) (t : Tree) → Quiet t → expr (a known c d) ss may t ≡ expr (b known c d) us may t
  expr_alike may t h = expr_same known c d t ss us may (sight_same ss us same) h

  -- ---- results

  star_same : (q : Option Name) → star ss q ≡ star us q
  star_same q = ap (λ (cs : List InSight). map (λ x. record { alias = None; expr = e.Column x.column }) (filter (λ x. is_of q x.source_name) cs)) (sight_same ss us same)

  all_same : (xs ys : List Source) → xs ≡ ss → ys ≡ us → SameSources xs ys → result (a known c d) xs shows.All ≡ result (b known c d) ys shows.All
  all_same [] [] p q h = refl
  all_same [] (y ∷ ys) p q h = absurd (let z : ⊥ = cc in z)
  all_same (x ∷ xs) [] p q h = absurd (let z : ⊥ = cc in z)
  all_same (x ∷ xs) (y ∷ ys) p q h = ap fine (ap (λ zs. star zs None) p ∙ star_same None ∙ sym (ap (λ zs. star zs None) q))

  result_same : (x : ShownTree) → AllByRecursion Quiet (shown_trees x) → result (a known c d) ss x ≡ result (b known c d) us x
  result_same shows.All h = all_same ss us refl refl same
  result_same (shows.AllOf q) h =
      both (λ (found : Bool) (rs : List Result). if found then fine rs else refused (NoSuchTable q) []) _ _ _ _ (named_same q ss us same) (star_same (Some q))
  result_same (shows.One t alias) h = ap (with (λ x. record { alias = alias; expr = x } ∷ [])) (expr_alike true t h.0)

  results_same : (xs : List ShownTree) → AllByRecursion Quiet (flat_map shown_trees xs) → results_of (a known c d) ss xs ≡ results_of (b known c d) us xs
  results_same xs h =
      ap (with (flat_map (λ rs. rs))) (each_same (result (a known c d) ss) (result (b known c d) us) xs
      (all_with (λ x. AllByRecursion Quiet (shown_trees x)) _ result_same xs (all_parts Quiet shown_trees xs h)))

  -- ---- terms

  filter_same : (may : Bool) (o : Option Tree) → AllByRecursion Quiet (option_to_list o) → if_any (option_map (expr (a known c d) ss may) o) ≡ if_any (option_map (expr (b known c d) us may) o)
  filter_same may o h = if_any_same (expr (a known c d) ss may) (expr (b known c d) us may) o (all_with Quiet _ (expr_alike may) (option_to_list o) h)

  groups_same : (results : List Result) (ts : List Tree) → AllByRecursion Quiet ts
      → each (map (group_term (a known c d) ss results) ts) ≡ each (map (group_term (b known c d) us results) ts)
  groups_same results ts h =
      each_same (group_term (a known c d) ss results) (group_term (b known c d) us results) ts
      (all_with Quiet _ (λ (t : Tree) quiet. ap (λ (x : Read Expr). grouped_term (a known c d) (numbered_or results (integer_of t) (other x))) (expr_alike false t quiet)) ts h)

  order_one : (results : List Result) (t : Term) → Quiet t.expr → order_term (a known c d) ss results t ≡ order_term (b known c d) us results t
  order_one results t h =
      ap (λ (x : Read Expr).
      with (λ (y : Term'). record { result = y.result; expr = y.expr; collation = collation_of (y.expr ∷ []); is_descending = t.descending })
      (also (λ (y : Term'). collation (a known c d) (collation_of (y.expr ∷ [])))
      (numbered_or results (integer_of t.expr) (aliased_or results (alias_at results (name_of t.expr)) (other x)))))
      (expr_alike true t.expr h)

  order_same : (results : List Result) (ts : List Term) → AllByRecursion Quiet (map (λ t. t.expr) ts)
      → each (map (order_term (a known c d) ss results) ts) ≡ each (map (order_term (b known c d) us results) ts)
  order_same results [] h = refl
  order_same results (t ∷ ts) h = both (with_both (λ (x : OrderTerm) xs. x ∷ xs)) _ _ _ _ (order_one results t h.0) (order_same results ts h.1)

  -- ---- joins

  abbrev on_of : Written → Relation → Read (Option Expr) → Read Joined
  on_of w r on = with (λ x. record { relation = unplaced r; is_left = w.is_left; on = terms_of x }) on

  join_same : (w : Written) (n : ℕ) (s u : Source) → AllByRecursion Quiet (option_to_list w.on) → unplaced_source s ≡ unplaced_source u
      → with unplaced_joined (joined (a known c d) ss n w s) ≡ with unplaced_joined (joined (b known c d) us n w u)
  join_same w n s u h e =
      both (λ (x : Source) on. on_of w x.relation on) _ _ _ _ e
      (if_any_same (expr (a known c d) (if w.is_left then take (suc n) ss else ss) false) (expr (b known c d) (if w.is_left then take (suc n) us else us) false) w.on
      (all_with Quiet _
      (λ (t : Tree) quiet. expr_same known c d t (if w.is_left then take (suc n) ss else ss) (if w.is_left then take (suc n) us else us) false
      (sight_same (if w.is_left then take (suc n) ss else ss) (if w.is_left then take (suc n) us else us) (chosen_same w.is_left (suc n) ss us same)) quiet)
      (option_to_list w.on) h))

  joins_same : (ws : List Written) (n : ℕ) (xs ys : List Source) → AllByRecursion (λ w. AllByRecursion Quiet (option_to_list w.on)) ws → SameSources xs ys
      → with (map unplaced_joined) (joined_from (a known c d) ss n ws xs) ≡ with (map unplaced_joined) (joined_from (b known c d) us n ws ys)
  joins_same [] n [] [] h e = refl
  joins_same [] n [] (y ∷ ys) h e = absurd (let z : ⊥ = cc in z)
  joins_same [] n (x ∷ xs) [] h e = absurd (let z : ⊥ = cc in z)
  joins_same [] n (x ∷ xs) (y ∷ ys) h e = refl
  joins_same (w ∷ ws) n [] [] h e = refl
  joins_same (w ∷ ws) n [] (y ∷ ys) h e = absurd (let z : ⊥ = cc in z)
  joins_same (w ∷ ws) n (x ∷ xs) [] h e = absurd (let z : ⊥ = cc in z)
  joins_same (w ∷ ws) n (x ∷ xs) (y ∷ ys) h e =
      let first : unplaced_source x ≡ unplaced_source y = cc in
      let more : SameSources xs ys = cc in
      both (with_both (λ (j : Joined) js. j ∷ js)) _ _ _ _ (join_same w n x y h.0 first) (joins_same ws (suc n) xs ys h.1 more)

-- ---- the whole

abbrev unplaced_named : Named → Named
unplaced_named n = record n { joined = map unplaced_joined n.joined }

-- what a select's parts make of it
abbrev of_parts : Read (List Source) → Read (List Result) → Read (List Joined) → Read (Option Expr) → Read (List GroupTerm) → Read (Option Expr) → Read (List OrderTerm) → List Refusal → Read Named
of_parts sources results ons filter groups having order last = record {
  bad = sources.bad ++ results.bad ++ ons.bad ++ filter.bad ++ groups.bad ++ having.bad ++ order.bad ++ last;
  misplaced = results.misplaced || ons.misplaced || filter.misplaced || groups.misplaced || having.misplaced || order.misplaced;
  made = record { results = results.made; joined = ons.made; filter = filter.made; groups = groups.made; having = having.made; order = order.made };
}

-- each expression of a select calls neither of the two
pub record AreQuiet (q : Select) : Type 0 where
  pub shown : AllByRecursion Quiet (flat_map shown_trees q.shown)
  pub ons : AllByRecursion (λ w. AllByRecursion Quiet (option_to_list w.on)) (written q.from)
  pub filter : AllByRecursion Quiet (option_to_list q.filter)
  pub group : AllByRecursion Quiet (or_none q.group)
  pub having : AllByRecursion Quiet (option_to_list q.having)
  pub order : AllByRecursion Quiet (map (λ t. t.expr) (or_none q.order))

joins_quiet : (js : List Join) → AllByRecursion Quiet (flat_map (λ j. option_to_list j.on) js) → AllByRecursion (λ w. AllByRecursion Quiet (option_to_list w.on)) (map of_join js)
joins_quiet [] h = tt
joins_quiet (j ∷ js) h = (all_left Quiet (option_to_list j.on) (flat_map (λ j. option_to_list j.on) js) h, joins_quiet js (all_right Quiet (option_to_list j.on) (flat_map (λ j. option_to_list j.on) js) h))

ons_quiet : (from : Option Tables) → AllByRecursion Quiet (on_trees from) → AllByRecursion (λ w. AllByRecursion Quiet (option_to_list w.on)) (written from)
ons_quiet None h = tt
ons_quiet (Some t) h = (tt, joins_quiet t.joins h)

-- the trees of a select, part by part
pub are_quiet : (q : Select) → AllByRecursion Quiet (select_trees q) → AreQuiet q
are_quiet q h =
    let shown = flat_map shown_trees q.shown in
    let ons = on_trees q.from in
    let filter = option_to_list q.filter in
    let group = or_none q.group in
    let having = option_to_list q.having in
    let order = map (λ (t : Term). t.expr) (or_none q.order) in
    let h4 = all_left Quiet (shown ++ ons ++ filter ++ group ++ having) order h in
    let h3 = all_left Quiet (shown ++ ons ++ filter ++ group) having h4 in
    let h2 = all_left Quiet (shown ++ ons ++ filter) group h3 in
    let h1 = all_left Quiet (shown ++ ons) filter h2 in
    record {
      shown = all_left Quiet shown ons h1;
      ons = ons_quiet q.from (all_right Quiet shown ons h1);
      filter = all_right Quiet (shown ++ ons) filter h2;
      group = all_right Quiet (shown ++ ons ++ filter) group h3;
      having = all_right Quiet (shown ++ ons ++ filter ++ group) having h4;
      order = all_right Quiet (shown ++ ons ++ filter ++ group ++ having) order h;
    }

last_same : (known : Known) (c d : Catalog) (distinct : Bool) (rs : List Result) → distinct_collations (a known c d) distinct rs ≡ distinct_collations (b known c d) distinct rs
last_same known c d false rs = refl
last_same known c d true rs = collations_same known c d (map (λ r. collation_of (r.expr ∷ [])) rs)

named_alike : (known : Known) (c d : Catalog) (q : Select) → AreQuiet q → AllByRecursion (StandsForTheSame known c d) (table_names q)
    → with unplaced_named (named (a known c d) q) ≡ with unplaced_named (named (b known c d) q)
named_alike known c d q h t =
    let ka = a known c d in
    let kb = b known c d in
    let ws = written q.from in
    let sa = sources_of ka ws in
    let sb = sources_of kb ws in
    let s : with (map unplaced_source) sa ≡ with (map unplaced_source) sb = sources_same known c d ws t in
    let same : SameSources sa.made sb.made = ap (λ (r : Read (List Source)). r.made) s in
    let ra = results_of ka sa.made q.shown in
    let rb = results_of kb sb.made q.shown in
    let r : ra ≡ rb = results_same known c d sa.made sb.made same q.shown h.shown in
    let j = joins_same known c d sa.made sb.made same ws 0 sa.made sb.made h.ons same in
    let f = filter_same known c d sa.made sb.made same false q.filter h.filter in
    let g = groups_same known c d sa.made sb.made same rb.made (or_none q.group) h.group in
    let v = filter_same known c d sa.made sb.made same true q.having h.having in
    let o = order_same known c d sa.made sb.made same rb.made (or_none q.order) h.order in
    (λ i. of_parts (s i) (r i) (with (map unplaced_joined) (joined_from ka sa.made 0 ws sa.made)) (if_any (option_map (expr ka sa.made false) q.filter))
    (each (map (group_term ka sa.made (r i).made) (or_none q.group))) (if_any (option_map (expr ka sa.made true) q.having))
    (each (map (order_term ka sa.made (r i).made) (or_none q.order))) (distinct_collations ka q.distinct (r i).made))
    ∙ (λ i. of_parts (with (map unplaced_source) sb) rb (j i) (f i) (g i) (v i) (o i) (last_same known c d q.distinct rb.made i))

-- a query of its parts
abbrev of_named : Select → Read Named → Read Query
of_named q n = record { bad = n.bad ++ misaggregate q n ++ distinct_order q (query_of q n.made); misplaced = false; made = query_of q n.made }

pub selects_alike : (known : Known) (c d : Catalog) (q : Select) → AreQuiet q → AllByRecursion (StandsForTheSame known c d) (table_names q)
    → with unplaced_query (select (a known c d) q) ≡ with unplaced_query (select (b known c d) q)
selects_alike known c d q h t = ap (of_named q) (named_alike known c d q h t)
