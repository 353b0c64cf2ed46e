-- What stands against a query once its names are read, and what it is where nothing does.
use Rattle.std.proofs.Common.{◌≡◌, ◌∙◌, ℕ, Bool, true, false, ◌||◌, List, [], ◌++◌, map, Option, Result, Ok, Err, sym, ap, subst}
use Rattle.std.proofs.lemmas.Simd.{map-map}
use Rattle.std.specs.Option.{option_and_then, option_map, option_map_or}
use Rattle.cr_tree.specs.declared.statement.Select.{Select}
use Rattle.cr_term.specs.declared.expr.Expr.{Expr}
use Rattle.cr_term.specs.declared.query.GroupTerm.{GroupTerm}
use Rattle.cr_term.specs.declared.query.OrderTerm.{OrderTerm}
use Rattle.cr_term.specs.declared.query.ResultColumn.{ResultColumn}
use Rattle.cr_term.specs.declared.query.Query.{Query}
use Rattle.cr_term.specs.Terms.{terms_of}
use Rattle.cr_questions.specs.Questions.{result_column}
use Rattle.cr_resolve.specs.declared.refusal.Refusal.{Refusal}
use Rattle.cr_resolve.specs.declared.refusal.Refusal.TheVariants.{Memory, Misaggregate}
use Rattle.cr_resolve.specs.declared.reading.Made.{Made}
use Rattle.cr_resolve.specs.Reading.{Read, fine, when}
use Rattle.cr_resolve.specs.Known.{Known}
use Rattle.cr_resolve.specs.Queries.{Result as ResultOf, Named as NamedQuery, bare_in, count_limit, distinct_order, is_grouped, misaggregate, named, offset_of, order_column, over_groups, placed_if, query_of, select, terms_of_groups}
use Rattle.cr_resolve.specs.Told.{told, first, Finds, Refuses}
use Rattle.cr_resolve.proofs.Refusals.{ahead}
use Rattle.cr_select.specs.declared.outputs.Output.{Output}
use Rattle.cr_select.specs.declared.named.Named.{Named}
use Rattle.cr_select.specs.Named.{as_query}
use Rattle.cr_select.specs.Outputs.{as_result}
use Rattle.cr_select.specs.Placed.{exprs_of}
use Rattle.cr_grouped.specs.Grouping.{bare_term, exprs_shown, is_out_of_place, ordered_in, shown_in, within, without_collates}
use Rattle.cr_grouped.specs.Finished.{AreGroups, IsFinished, as_read, misplaced_told, over, query_in, unsorted}

same_terms : (gs : List GroupTerm) → terms_of_groups gs ≡ exprs_of (without_collates gs)
same_terms gs = sym (map-map (λ (g : GroupTerm). g.expr) bare_term gs)

-- ---- the query

module _ (q : Select) (n : Named) (g : Bool) (ts : List GroupTerm) where
  abbrev es : List Expr
  es = exprs_of ts

  abbrev put : Expr → Expr
  put x = placed_if g es x

  abbrev held : List Expr
  held = map (λ r. put r.expr) (map as_result n.results)

  abbrev shown : List ResultColumn
  shown = map (shown_in g ts) n.results

  held_is : held ≡ map (λ o. put o.expr) n.results
  held_is = map-map (λ (r : ResultOf). put r.expr) as_result n.results

  columns_are : map result_column held ≡ shown
  unfolding within
  columns_are = ap (map result_column) held_is ∙ map-map result_column (λ (o : Output). put o.expr) n.results

  exprs_are : held ≡ exprs_shown shown
  unfolding within
  exprs_are = held_is ∙ sym (map-map (λ (c : ResultColumn). c.expr) (shown_in g ts) n.results)

  abbrev filled : List ResultColumn → List Expr → Query
  filled cs xs = record {
    is_distinct = q.distinct;
    results = cs;
    joined = n.joined;
    filter = terms_of n.filter;
    is_grouped = g;
    groups = ts;
    having = option_map put n.having;
    order = map (order_column q.distinct g es xs) n.order;
    limit = option_and_then (λ l. count_limit l.count) q.limit;
    offset = option_map_or (λ l. offset_of l.offset) q.limit 0;
  }

  filled_is : filled (map result_column held) held ≡ query_in q g ts n
  unfolding query_in within ordered_in
  filled_is = ap (λ cs. filled cs held) columns_are ∙ ap (λ xs. filled shown xs) exprs_are

-- a query made of its parts
pub query_made : (q : Select) (g : Bool) (ts ss : List GroupTerm) (n : Named) (cs : List ResultColumn) (h : Option Expr) (os : List OrderTerm) (fs : List Expr) (limit : Option ℕ) (offset : ℕ)
    → ss ≡ ts → cs ≡ map (shown_in g ss) n.results → h ≡ option_map (within g ss) n.having → os ≡ map (ordered_in q.distinct g ss cs) n.order → fs ≡ terms_of n.filter
    → limit ≡ option_and_then (λ l. count_limit l.count) q.limit → offset ≡ option_map_or (λ l. offset_of l.offset) q.limit 0
    → record {
      is_distinct = q.distinct;
      results = cs;
      joined = n.joined;
      filter = fs;
      is_grouped = g;
      groups = ts;
      having = h;
      order = os;
      limit = limit;
      offset = offset;
    } ≡ query_in q g ts n
unfolding query_in
query_made q g ts ss n cs h os fs limit offset e by had sorted kept count behind =
    let columns : cs ≡ map (shown_in g ts) n.results = by ∙ ap (λ xs. map (shown_in g xs) n.results) e in
    let having : h ≡ option_map (within g ts) n.having = had ∙ ap (λ xs. option_map (within g xs) n.having) e in
    let order : os ≡ map (ordered_in q.distinct g ts (map (shown_in g ts) n.results)) n.order = sorted ∙ (λ i. map (ordered_in q.distinct g (e i) (columns i)) n.order) in
    λ i. record {
      is_distinct = q.distinct;
      results = columns i;
      joined = n.joined;
      filter = kept i;
      is_grouped = g;
      groups = ts;
      having = having i;
      order = order i;
      limit = count i;
      offset = behind i;
    }

-- `query_of`, over these terms
abbrev over_terms : Select → Named → List Expr → Query
over_terms q n terms =
    let g : Bool = is_grouped (as_query n) in
    let results : List Expr = map (λ r. placed_if g terms r.expr) (map as_result n.results) in
    record {
      is_distinct = q.distinct;
      results = map result_column results;
      joined = n.joined;
      filter = terms_of n.filter;
      is_grouped = g;
      groups = without_collates n.groups;
      having = option_map (placed_if g terms) n.having;
      order = map (order_column q.distinct g terms results) n.order;
      limit = option_and_then (λ l. count_limit l.count) q.limit;
      offset = option_map_or (λ l. offset_of l.offset) q.limit 0;
    }

query_is : (q : Select) (n : Named) → query_of q (as_query n) ≡ query_in q (is_grouped (as_query n)) (without_collates n.groups) n
query_is q n = ap (over_terms q n) (same_terms n.groups) ∙ filled_is q n (is_grouped (as_query n)) (without_collates n.groups)

-- ---- what stands against it

place_is : (q : Select) (n : Made Named) → misaggregate q (told (as_read n)) ≡ misplaced_told (is_out_of_place (is_grouped (as_query n.made)) (without_collates n.made.groups) n)
unfolding is_out_of_place
place_is q n =
    ap (λ (es : List Expr). when (n.is_misplaced || bare_in (is_grouped (as_query n.made)) es (over_groups (as_query n.made))) Misaggregate) (same_terms n.made.groups)

-- ---- groups

pub groups_want : (n : Made Named) → AreGroups n (Err Memory)
unfolding AreGroups
groups_want n = tt

module _ (n : Made Named) (g : Bool) (ts : List GroupTerm) (b : Bool) (is : g ≡ is_grouped (as_query n.made)) (are : ts ≡ without_collates n.made.groups) (out : b ≡ is_out_of_place g ts n) where
  pub groups_refused : b ≡ true → AreGroups n (Err Misaggregate)
  unfolding AreGroups
  groups_refused so =
      let place : is_out_of_place (is_grouped (as_query n.made)) (without_collates n.made.groups) n ≡ true =
      sym (ap (λ x. is_out_of_place x ts n) is ∙ ap (λ xs. is_out_of_place (is_grouped (as_query n.made)) xs n) are) ∙ sym out ∙ so in
      ap (λ (x : Bool). first (misplaced_told x)) place

  pub groups_found : b ≡ false → AreGroups n (Ok (g, ts))
  unfolding AreGroups
  groups_found so = (is, (are, sym out ∙ so))

-- ---- the query over them

pub finished_want : (q : Select) (g : Bool) (ts : List GroupTerm) (n : Named) → IsFinished q g ts n (Err Memory)
unfolding IsFinished
finished_want q g ts n = tt

module _ (q : Select) (g : Bool) (ts : List GroupTerm) (n : Named) (x : Query) (is : x ≡ query_in q g ts n) where
  pub finished_refused : (f : Refusal) → Refuses (unsorted q.distinct x.order) f → IsFinished q g ts n (Err f)
  unfolding IsFinished
  finished_refused f h = subst (λ (y : Query). Refuses (unsorted q.distinct y.order) f) is h

  pub finished_made : unsorted q.distinct x.order ≡ [] → IsFinished q g ts n (Ok x)
  unfolding IsFinished
  finished_made h = (is, h)

-- ---- the whole

-- what stands against it, once its names are read
abbrev standing : Select → Made Named → List Refusal
standing q n = misaggregate q (told (as_read n)) ++ distinct_order q (query_of q (as_query n.made))

over_named : (known : Known) (q : Select) (n : Made Named) (f : Refusal) → named known q ≡ told (as_read n) → Refuses (standing q n) f → Refuses (select known q).bad f
over_named known q n f is h = subst (λ (x : Read NamedQuery). Refuses (over q x).bad f) (sym is) h

pub names_fail : (known : Known) (q : Select) (f : Refusal) → Refuses (named known q).bad f → Refuses (select known q).bad f
names_fail known q f h =
    let n : Read NamedQuery = named known q in
    ahead (n.bad ++ misaggregate q n) (distinct_order q (query_of q n.made)) f (ahead n.bad (misaggregate q n) f h)

pub groups_fail : (known : Known) (q : Select) (n : Made Named) (f : Refusal) → named known q ≡ told (as_read n) → AreGroups n (Err f) → Refuses (select known q).bad f
unfolding AreGroups
groups_fail known q n f is h =
    over_named known q n f is (ahead (misaggregate q (told (as_read n))) (distinct_order q (query_of q (as_query n.made))) f
    (subst (λ (fs : List Refusal). Refuses fs f) (sym (place_is q n)) h))

-- over groups that are known
module _ (q : Select) (n : Made Named) (g : Bool) (ts : List GroupTerm) (h : AreGroups n (Ok (g, ts))) where
  none_misplaced : misaggregate q (told (as_read n)) ≡ []
  unfolding AreGroups
  none_misplaced =
      let place : is_out_of_place (is_grouped (as_query n.made)) (without_collates n.made.groups) n ≡ false =
      sym (ap (λ x. is_out_of_place x ts n) h.0 ∙ ap (λ xs. is_out_of_place (is_grouped (as_query n.made)) xs n) h.1.0) ∙ h.1.1 in
      place_is q n ∙ ap misplaced_told place

  made_is : query_in q g ts n.made ≡ query_of q (as_query n.made)
  unfolding AreGroups
  made_is = ap (λ x. query_in q x ts n.made) h.0 ∙ ap (λ xs. query_in q (is_grouped (as_query n.made)) xs n.made) h.1.0 ∙ sym (query_is q n.made)

  unsorted_stands : (f : Refusal) → Refuses (unsorted q.distinct (query_in q g ts n.made).order) f → Refuses (standing q n) f
  unsorted_stands f r =
      subst (λ (fs : List Refusal). Refuses (fs ++ distinct_order q (query_of q (as_query n.made))) f) (sym none_misplaced)
      (subst (λ (x : Query). Refuses (distinct_order q x) f) made_is r)

  found_is : (x : Query) → x ≡ query_in q g ts n.made → unsorted q.distinct x.order ≡ [] → over q (told (as_read n)) ≡ fine x
  found_is x is sorted =
      let made : List Refusal → Query → Read Query = λ fs y. record { bad = fs ++ distinct_order q y; misplaced = false; made = y } in
      ap (λ fs. made fs (query_of q (as_query n.made))) none_misplaced ∙ ap (made []) (sym (is ∙ made_is))
      ∙ ap (λ (fs : List Refusal). record { bad = fs; misplaced = false; made = x }) sorted

pub selected : (known : Known) (q : Select) (n : Made Named) (g : Bool) (ts : List GroupTerm) (r : Result Query Refusal) → named known q ≡ told (as_read n) → AreGroups n (Ok (g, ts))
    → IsFinished q g ts n.made r → Finds (select known q) r
unfolding IsFinished
selected known q n g ts (Ok x) is h r = ap (over q) is ∙ found_is q n g ts h x r.0 r.1
selected known q n g ts (Err f) is h r = over_named known q n f is (unsorted_stands q n g ts h f r)
