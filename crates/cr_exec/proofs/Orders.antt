-- The orders of queries are those under which rows are compared.
use Rattle.std.proofs.Common.{◌≡◌, ◌∙◌, List, [], ◌∷◌, map, drop, cond, Result, Ok, Err, IfOk, refl, sym, ap, Ordering, Less, Equal, Greater}
use Rattle.std.specs.Ordering.{ordering_then, then_cmp, on, is_eq}
use Rattle.std.specs.Cmp.{IsTotalOrder}
use Rattle.std.specs.FinMap.{IsAntisymmetric, slice_cmp-IsAntisymmetric}
use Rattle.std.proofs.lemmas.Cmp.{on_total, then_total, lists_total}
use Rattle.cr_value.specs.declared.value.Value.{Value}
use Rattle.cr_value.specs.OrderLaws.{value_total, value_exact}
use Rattle.cr_term.specs.declared.query.Query.{Query as Resolved}
use Rattle.cr_term.specs.declared.query.OrderTerm.{OrderTerm}
use Rattle.cr_term.specs.declared.query.ResultColumn.{ResultColumn}
use Rattle.cr_term.specs.declared.query.GroupTerm.{GroupTerm}
use Rattle.cr_scalar.specs.Host.{Host}
use Rattle.cr_scalar.specs.Compare.{value_cmp_by}
use Rattle.cr_bags.specs.Bags.{SameBag, sort, firsts}
use Rattle.cr_query.specs.Queries.{Shown as Asked}
use Rattle.cr_query.specs.Query.{Row, Meaning, head_or_null, rest_of, directed, by_terms, by_exprs, row_cmp, spelled_cmp, shown_row, shown_keys, distinct, limited, finished}
use Rattle.cr_meaning.specs.View.{Ordered, query, order_term, result_term, group_term}
use Rattle.cr_meaning.specs.Meaning.{Regard, regarded}
use Rattle.cr_exec.specs.declared.show.Shown.{Shown}
use Rattle.cr_exec.specs.Comparisons.{ValueOrder, by_orders, term_order, result_order, group_order}
use Rattle.cr_exec.specs.Shows.{shown_of, row_of, shown_ties, keyed_cmp}
use Rattle.cr_exec.proofs.Sorted.{sort-map}
use Rattle.cr_exec.proofs.Runs.{firsts_sorted}

-- ---- the orders that a query names

module _ (regard : Regard) (host : Host) (params : List Value) where
  pub terms_compare : (ts : List OrderTerm) → by_terms (regarded regard host params) (map order_term ts) ≡ by_orders (map (term_order host.order) ts)
  terms_compare [] = refl
  terms_compare (t ∷ ts) = ap (λ (R : Row → Row → Ordering). then_cmp (on head_or_null (directed t.is_descending (value_cmp_by (host.order t.collation)))) (on rest_of R)) (terms_compare ts)

  pub results_compare : (cs : List ResultColumn) → by_exprs (regarded regard host params) (map result_term cs) ≡ by_orders (map (result_order host.order) cs)
  results_compare [] = refl
  results_compare (c ∷ cs) = ap (λ (R : Row → Row → Ordering). then_cmp (on head_or_null (value_cmp_by (host.order c.collation))) (on rest_of R)) (results_compare cs)

  pub groups_compare : (gs : List GroupTerm) → by_exprs (regarded regard host params) (map group_term gs) ≡ by_orders (map (group_order host.order) gs)
  groups_compare [] = refl
  groups_compare (g ∷ gs) = ap (λ (R : Row → Row → Ordering). then_cmp (on head_or_null (value_cmp_by (host.order g.collation))) (on rest_of R)) (groups_compare gs)

-- ---- whole rows

pub row_total : IsTotalOrder row_cmp
row_total = lists_total value_total

pub row_exact : IsAntisymmetric row_cmp
row_exact = slice_cmp-IsAntisymmetric value_exact

then_equal : (o p : Ordering) → ordering_then o p ≡ Equal → (o ≡ Equal) × (p ≡ Equal)
then_equal o p e = elim o as (λ o. ordering_then o p ≡ Equal → (o ≡ Equal) × (p ≡ Equal)) [ Less ↦ λ e. absurd cc | Equal ↦ λ e. (refl, e) | Greater ↦ λ e. absurd cc ] e

asked_total : IsTotalOrder spelled_cmp
asked_total = then_total (on_total shown_row row_total) (on_total shown_keys row_total)

asked_exact : IsAntisymmetric spelled_cmp
asked_exact a b e =
    let h = then_equal _ _ e in
    let p = row_exact a.row b.row h.0 in
    let q = row_exact a.keys b.keys h.1 in
    λ i. record { row = p i; keys = q i }

pub spelled_total : IsTotalOrder (on shown_of spelled_cmp)
spelled_total = on_total shown_of asked_total

pub spelled_exact : (a b : Shown) → spelled_cmp (shown_of a) (shown_of b) ≡ Equal → shown_of a ≡ shown_of b
spelled_exact a b = asked_exact (shown_of a) (shown_of b)

pub keyed_total : (Rs : List ValueOrder) → IsTotalOrder (by_orders Rs) → IsTotalOrder (on shown_of (keyed_cmp Rs))
keyed_total Rs o = on_total shown_of (then_total (on_total shown_keys o) (on_total shown_row row_total))

pub keyed_shows : (Rs : List ValueOrder) (a b : Shown) → keyed_cmp Rs (shown_of a) (shown_of b) ≡ Equal → a.row ≡ b.row
keyed_shows Rs a b e = row_exact a.row b.row ((then_equal _ _ e).1)

-- ---- DISTINCT

pub of_ok : {X E : Type 0} (P Q : X → Type 0) (r : Result X E) → ((x : X) → P x → Q x) → IfOk r P → IfOk r Q
of_ok P Q (Ok x) h p = h x p
of_ok P Q (Err e) h p = p

-- from the firsts, sorted again, to the definition
pub distinct_is : (regard : Regard) (host : Host) (params : List Value) (cs : List ResultColumn) (Rs : List ValueOrder) (shown sorted kept again : List Shown)
    → Rs ≡ map (result_order host.order) cs → map shown_of sorted ≡ sort spelled_cmp (map shown_of shown) → SameBag kept (firsts (λ a b. shown_ties Rs (shown_of a) (shown_of b)) sorted)
    → map shown_of again ≡ sort spelled_cmp (map shown_of kept) → map shown_of again ≡ distinct (regarded regard host params) (map result_term cs) (map shown_of shown)
distinct_is regard host params cs Rs shown sorted kept again same spelled found is =
    firsts_sorted spelled_cmp asked_total asked_exact (shown_ties Rs) shown_of shown sorted kept again spelled found is
    ∙ ap (λ (R : Row → Row → Ordering). firsts (λ (a b : Asked). is_eq (R a.row b.row)) (sort spelled_cmp (map shown_of shown))) (ap by_orders same ∙ sym (results_compare regard host params cs))

-- ---- ORDER BY

rows_through : (xs : List Shown) → map row_of xs ≡ map shown_row (map shown_of xs)
rows_through [] = refl
rows_through (x ∷ xs) = ap (λ l. x.row ∷ l) (rows_through xs)

pub rows_sorted : (Rs : List ValueOrder) (xs : List Shown) → map row_of (sort (on shown_of (keyed_cmp Rs)) xs) ≡ map shown_row (sort (keyed_cmp Rs) (map shown_of xs))
rows_sorted Rs xs = rows_through (sort (on shown_of (keyed_cmp Rs)) xs) ∙ ap (map shown_row) (sort-map (keyed_cmp Rs) shown_of xs)

module _ (regard : Regard) (host : Host) (params : List Value) (q : Resolved) where
  abbrev m : Meaning Ordered
  m = regarded regard host params

  pub finished_is : (Rs : List ValueOrder) (shown apart sorted : List Shown) (rows : List Row) → Rs ≡ map (term_order host.order) q.order
      → map shown_of apart ≡ cond q.is_distinct (distinct m (map result_term q.results) (map shown_of shown)) (map shown_of shown)
      → map row_of sorted ≡ map shown_row (sort (keyed_cmp Rs) (map shown_of apart)) → rows ≡ limited q.limit (drop q.offset (map row_of sorted))
      → rows ≡ finished m (query q) (map shown_of shown)
  finished_is Rs shown apart sorted rows same once up is =
      is ∙ ap (λ (l : List Row). limited q.limit (drop q.offset l)) (up
      ∙ (λ i. map shown_row (sort (then_cmp (on shown_keys (order_is i)) (on shown_row row_cmp)) (once i)))) where
        order_is : by_orders Rs ≡ by_terms m (map order_term q.order)
        order_is = ap by_orders same ∙ sym (terms_compare regard host params q.order)
