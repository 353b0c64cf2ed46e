-- The columns of a select's expressions are columns in sight of its FROM.
use Rattle.std.proofs.Common.{◌≡◌, ℕ, ℤ, zero, suc, ◌+◌, Bool, true, false, List, [], ◌∷◌, ◌++◌, map, filter, take, length, Option, Some, None, refl, ap, sym, subst}
use Rattle.std.specs.Prelude.{if◌then◌else◌}
use Rattle.std.specs.Option.{option_map, option_to_list}
use Rattle.std.specs.List.{AllByRecursion, flat_map}
use Rattle.cr_tree.specs.declared.expr.Expr.{Expr as Tree}
use Rattle.cr_tree.specs.declared.statement.Shown.{Shown as ShownTree}
use Rattle.cr_tree.specs.declared.statement.Shown.TheVariants as shows
use Rattle.cr_tree.specs.declared.statement.Term.{Term}
use Rattle.cr_tree.specs.declared.statement.Select.{Select}
use Rattle.cr_term.specs.declared.expr.Column.{Column as Field}
use Rattle.cr_term.specs.declared.expr.Expr.{Expr}
use Rattle.cr_term.specs.declared.expr.Expr.TheOpen as layer
use Rattle.cr_term.specs.declared.query.Joined.{Joined}
use Rattle.cr_term.specs.declared.query.GroupTerm.{GroupTerm}
use Rattle.cr_term.specs.declared.query.OrderTerm.{OrderTerm}
use Rattle.cr_term.specs.Nodes as e
use Rattle.cr_term.specs.Parts.{columns}
use Rattle.cr_term.specs.Terms.{terms_of, without_collate}
use Rattle.cr_questions.specs.Questions.{Name, exprs_of, result_column}
use Rattle.cr_resolve.specs.declared.refusal.Refusal.TheVariants.{NoSuchTable}
use Rattle.cr_resolve.specs.Reading.{Read, fine, refused, each, if_any}
use Rattle.cr_resolve.specs.Known.{Known, table}
use Rattle.cr_resolve.specs.declared.scope.Source.{Source}
use Rattle.cr_resolve.specs.Scope.{InSight, columns_from, sight_from, in_sight, is_of}
use Rattle.cr_resolve.specs.Expressions.{expr}
use Rattle.cr_resolve.specs.Queries.{Written, Result, Named, Term', written, sources_of, joined_from, star, result, results_of, integer_of, name_of, place_of, nothing, result_at, numbered_at, numbered_or, other, group_term, alias_at, aliased_or, order_term, or_none, is_grouped, terms_of_groups, placed_if, order_column, named, query_of, select}
use Rattle.cr_language.proofs.Lists.{all_left, all_right}
use Rattle.cr_language.proofs.Members.{all_append, all_weaker, all_map, all_filter, all_in_flat}
use Rattle.cr_language.proofs.Layers.{rolled}
use Rattle.cr_language.proofs.Resolving.{Sees, expr_has}
use Rattle.cr_language.proofs.Placing.{terms_have, collate_has, placed_has}

-- what is made of each
pub each_made : {X Y : Type 0} (P : Y → Type 0) (f : X → Read Y) → ((x : X) → P (f x).made) → (xs : List X) → AllByRecursion P (each (map f xs)).made
each_made P f h [] = tt
each_made P f h (x ∷ xs) = (h x, each_made P f h xs)

-- ---- the tables of FROM

-- the tables that are joined are those in sight
pub joined_relations : (known : Known) (ss : List Source) (n : ℕ) (ws : List Written)
    → map (λ j. j.relation) (joined_from known ss n ws (sources_of known ws).made).made ≡ map (λ s. s.relation) (sources_of known ws).made
joined_relations known ss n [] = refl
joined_relations known ss n (w ∷ ws) = ap (λ rs. (table known w.table).made ∷ rs) (joined_relations known ss (suc n) ws)

-- ---- the parts of a select

module _ (known : Known) (P : Field → Type 0) where
  abbrev Has : Expr → Type 0
  Has x = AllByRecursion P (columns x)

  nothing_has : Has nothing
  nothing_has = subst (AllByRecursion P) (sym (rolled (layer.Literal _))) tt

  taken_see : (number at n : ℕ) (ss : List Source) → AllByRecursion (λ i. P i.column) (sight_from number at ss) → AllByRecursion (λ i. P i.column) (sight_from number at (take n ss))
  taken_see number at zero ss h = tt
  taken_see number at (suc n) [] h = tt
  taken_see number at (suc n) (s ∷ ss) h =
      let cs = s.relation.definition.columns in
      let here = columns_from s.name number 0 at cs in
      let more = sight_from (suc number) (at + length cs) ss in
      all_append (λ (i : InSight). P i.column) here (sight_from (suc number) (at + length cs) (take n ss)) (all_left (λ (i : InSight). P i.column) here more h)
      (taken_see (suc number) (at + length cs) n ss (all_right (λ (i : InSight). P i.column) here more h))

  module _ (sources : List Source) (sees : Sees known P sources) where
    -- results

    abbrev HasResult : Result → Type 0
    HasResult r = Has r.expr

    column_has : (i : InSight) → P i.column → Has (e.Column i.column)
    column_has i h = subst (AllByRecursion P) (sym (rolled (layer.Column i.column))) (h, tt)

    star_has : (q : Option Name) → AllByRecursion HasResult (star sources q)
    star_has q =
        let those = filter (λ i. is_of q i.source_name) (in_sight sources) in
        all_map HasResult (λ i. record { alias = None; expr = e.Column i.column }) those
        (all_weaker (λ (i : InSight). P i.column) (λ i. Has (e.Column i.column)) column_has those (all_filter (λ (i : InSight). P i.column) (λ i. is_of q i.source_name) (in_sight sources) sees))

    all_has : (ss : List Source) → ss ≡ sources → AllByRecursion HasResult (result known ss shows.All).made
    all_has [] is = tt
    all_has (s ∷ ss) is = subst (λ xs. AllByRecursion HasResult (star xs None)) (sym is) (star_has None)

    if_has : (b : Bool) (x y : Read (List Result)) → AllByRecursion HasResult x.made → AllByRecursion HasResult y.made → AllByRecursion HasResult (if b then x else y).made
    if_has true x y h k = h
    if_has false x y h k = k

    result_has : (x : ShownTree) → AllByRecursion HasResult (result known sources x).made
    result_has shows.All = all_has sources refl
    result_has (shows.AllOf q) = if_has _ (fine (star sources (Some q))) (refused (NoSuchTable q) []) (star_has (Some q)) tt
    result_has (shows.One t alias) = (expr_has known P sources true t sees, tt)

    pub results_have : (shown : List ShownTree) → AllByRecursion HasResult (results_of known sources shown).made
    results_have shown =
        all_in_flat HasResult (λ rs. rs) (each (map (result known sources) shown)).made (each_made (AllByRecursion HasResult) (result known sources) result_has shown)

    -- conditions

    pub if_any_has : (may : Bool) (o : Option Tree) → AllByRecursion Has (option_to_list (if_any (option_map (expr known sources may) o)).made)
    if_any_has may None = tt
    if_any_has may (Some t) = (expr_has known P sources may t sees, tt)

  pub on_has : (ss : List Source) → Sees known P ss → (o : Option Tree) → AllByRecursion Has (terms_of (if_any (option_map (expr known ss false) o)).made)
  on_has ss sees o = terms_have P (if_any (option_map (expr known ss false) o)).made (if_any_has ss sees false o)

  seen_by : (b : Bool) (n : ℕ) (ss : List Source) → Sees known P ss → Sees known P (if b then take n ss else ss)
  seen_by true n ss sees = taken_see 0 0 n ss sees
  seen_by false n ss sees = sees

  pub joined_have : (ss : List Source) → Sees known P ss → (n : ℕ) (ws : List Written) (xs : List Source) → AllByRecursion (λ j. AllByRecursion Has j.on) (joined_from known ss n ws xs).made
  joined_have ss sees n [] [] = tt
  joined_have ss sees n [] (x ∷ xs) = tt
  joined_have ss sees n (w ∷ ws) [] = tt
  joined_have ss sees n (w ∷ ws) (x ∷ xs) = (on_has (if w.is_left then take (suc n) ss else ss) (seen_by w.is_left (suc n) ss sees) w.on, joined_have ss sees (suc n) ws xs)

  -- terms of GROUP BY and ORDER BY

  module _ (results : List Result) (have : AllByRecursion (λ r. Has r.expr) results) where
    at_has : (rs : List Result) → AllByRecursion (λ r. Has r.expr) rs → (n : ℕ) → Has (result_at rs n)
    at_has [] h n = nothing_has
    at_has (r ∷ rs) h zero = h.0
    at_has (r ∷ rs) h (suc n) = at_has rs h.1 n

    numbered_at_has : (n : ℤ) (o : Option ℕ) → Has (numbered_at results n o).made.expr
    numbered_at_has n None = nothing_has
    numbered_at_has n (Some k) = at_has results have k

    numbered_has : (o : Option ℤ) (x : Read Term') → Has x.made.expr → Has (numbered_or results o x).made.expr
    numbered_has None x h = h
    numbered_has (Some n) x h = numbered_at_has n (place_of n (length results))

    aliased_has : (o : Option ℕ) (x : Read Term') → Has x.made.expr → Has (aliased_or results o x).made.expr
    aliased_has None x h = h
    aliased_has (Some k) x h = at_has results have k

    module _ (sources : List Source) (sees : Sees known P sources) where
      group_has : (t : Tree) → Has (group_term known sources results t).made.expr
      group_has t = numbered_has (integer_of t) (other (expr known sources false t)) (expr_has known P sources false t sees)

      order_has : (t : Term) → Has (order_term known sources results t).made.expr
      order_has t =
          numbered_has (integer_of t.expr) (aliased_or results (alias_at results (name_of t.expr)) (other (expr known sources true t.expr)))
          (aliased_has (alias_at results (name_of t.expr)) (other (expr known sources true t.expr)) (expr_has known P sources true t.expr sees))

      pub groups_have : (ts : List Tree) → AllByRecursion (λ g. Has g.expr) (each (map (group_term known sources results) ts)).made
      groups_have ts = each_made (λ (g : GroupTerm). Has g.expr) (group_term known sources results) group_has ts

      pub orders_have : (ts : List Term) → AllByRecursion (λ o. Has o.expr) (each (map (order_term known sources results) ts)).made
      orders_have ts = each_made (λ (o : OrderTerm). Has o.expr) (order_term known sources results) order_has ts

  -- ---- the whole

  record HasNamed (n : Named) : Type 0 where
    results : AllByRecursion (λ r. Has r.expr) n.results
    joined : AllByRecursion (λ j. AllByRecursion Has j.on) n.joined
    filter : AllByRecursion Has (option_to_list n.filter)
    groups : AllByRecursion (λ g. Has g.expr) n.groups
    having : AllByRecursion Has (option_to_list n.having)
    order : AllByRecursion (λ o. Has o.expr) n.order

  named_has : (q : Select) → Sees known P (sources_of known (written q.from)).made → HasNamed (named known q).made
  named_has q sees =
      let sources = (sources_of known (written q.from)).made in
      let results = (results_of known sources q.shown).made in
      let have = results_have sources sees q.shown in
      record {
        results = have;
        joined = joined_have sources sees 0 (written q.from) sources;
        filter = if_any_has sources sees false q.filter;
        groups = groups_have results have sources sees (or_none q.group);
        having = if_any_has sources sees true q.having;
        order = orders_have results have sources sees (or_none q.order);
      }

  placed_if_has : (grouped : Bool) (terms : List Expr) (x : Expr) → Has x → Has (placed_if grouped terms x)
  placed_if_has false terms x h = h
  placed_if_has true terms x h = placed_has P terms x h

  having_has : (f : Expr → Expr) → ((x : Expr) → Has x → Has (f x)) → (o : Option Expr) → AllByRecursion Has (option_to_list o) → AllByRecursion Has (option_to_list (option_map f o))
  having_has f step None h = tt
  having_has f step (Some x) h = (step x h.0, tt)

  query_has : (q : Select) (n : Named) → HasNamed n → AllByRecursion Has (exprs_of (query_of q n))
  query_has q n h =
      let grouped = is_grouped n in
      let terms = terms_of_groups n.groups in
      let f = placed_if grouped terms in
      let made = query_of q n in
      let results = map (λ r. f r.expr) n.results in
      let a = map (λ r. r.expr) made.results in
      let b = flat_map (λ j. j.on) n.joined in
      let c = terms_of n.filter in
      let d = map (λ g. g.expr) made.groups in
      let v = option_to_list made.having in
      let o = map (λ t. t.expr) made.order in
      all_append Has (a ++ b ++ c ++ d ++ v) o
      (all_append Has (a ++ b ++ c ++ d) v
      (all_append Has (a ++ b ++ c) d
      (all_append Has (a ++ b) c
      (all_append Has a b
      (all_map Has (λ r. r.expr) made.results (all_map (λ r. Has r.expr) result_column results (all_map Has (λ (r : Result). f r.expr) n.results (all_weaker (λ (r : Result). Has r.expr) (λ r. Has (f r.expr)) (λ r. placed_if_has grouped terms r.expr) n.results h.results))))
      (all_in_flat Has (λ (j : Joined). j.on) n.joined h.joined))
      (terms_have P n.filter h.filter))
      (all_map Has (λ (g : GroupTerm). g.expr) made.groups
      (all_map (λ (g : GroupTerm). Has g.expr) (λ (t : GroupTerm). record { expr = without_collate t.expr; collation = t.collation }) n.groups (all_weaker (λ (t : GroupTerm). Has t.expr) (λ t. Has (without_collate t.expr)) (λ t. collate_has P t.expr) n.groups h.groups))))
      (having_has f (placed_if_has grouped terms) n.having h.having))
      (all_map Has (λ (t : OrderTerm). t.expr) made.order
      (all_map (λ (t : OrderTerm). Has t.expr) (order_column q.distinct grouped terms results) n.order (all_weaker (λ (t : OrderTerm). Has t.expr) (λ t. Has (f t.expr)) (λ t. placed_if_has grouped terms t.expr) n.order h.order)))

  pub select_has : (q : Select) → Sees known P (sources_of known (written q.from)).made → AllByRecursion Has (exprs_of (select known q).made)
  select_has q sees = query_has q (named known q).made (named_has q sees)
