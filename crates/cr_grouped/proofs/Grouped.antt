-- Whether a query has groups, and whether a column stands bare over them, list by list.
use Rattle.std.proofs.Common.{◌≡◌, ◌∙◌, Bool, true, false, ◌||◌, List, [], ◌∷◌, ◌++◌, map, refl, sym, ap, append_assoc}
use Rattle.std.specs.Option.{option_to_list}
use Rattle.std.specs.List.{flat_map, list_any}
use Rattle.std.proofs.lemmas.Grind.{flat_map-append}
use Rattle.std.proofs.lemmas.List.Folds.{flat_map-map}
use Rattle.cr_term.specs.declared.operator.Aggregate.{Aggregate as Kind}
use Rattle.cr_term.specs.declared.expr.Expr.{Expr}
use Rattle.cr_term.specs.declared.query.GroupTerm.{GroupTerm}
use Rattle.cr_term.specs.declared.query.OrderTerm.{OrderTerm}
use Rattle.cr_term.specs.Parts.{aggregates}
use Rattle.cr_resolve.specs.declared.reading.Made.{Made}
use Rattle.cr_resolve.specs.Queries.{Result as ResultOf, is_grouped, over_groups, placed}
use Rattle.cr_select.specs.declared.outputs.Output.{Output}
use Rattle.cr_select.specs.declared.named.Named.{Named}
use Rattle.cr_select.specs.Aggregates.{any, or_any}
use Rattle.cr_select.specs.Named.{as_query}
use Rattle.cr_select.specs.Outputs.{as_result}
use Rattle.cr_select.specs.Placed.{bares, exprs_of, or_bare}
use Rattle.cr_select.proofs.Found.{or_more}
use Rattle.cr_select.proofs.Bare.{or_more as more_bare}
use Rattle.cr_grouped.specs.Grouping.{has_clause, is_out_of_place, order_aggregates, order_bares, output_aggregates, output_bares}

-- ---- what comes of a list of expressions comes of the lists that hold them

abbrev result_exprs : List Output → List Expr
result_exprs os = map (λ r. r.expr) (map as_result os)

abbrev order_exprs : List OrderTerm → List Expr
order_exprs ts = map (λ t. t.expr) ts

module _ {A : Type 0} (f : Expr → List A) where
  of_results : (os : List Output) → flat_map f (result_exprs os) ≡ flat_map (λ o. f o.expr) os
  of_results os = flat_map-map f (λ (r : ResultOf). r.expr) (map as_result os) ∙ flat_map-map (λ (r : ResultOf). f r.expr) as_result os

  of_order : (ts : List OrderTerm) → flat_map f (order_exprs ts) ≡ flat_map (λ t. f t.expr) ts
  of_order ts = flat_map-map f (λ (t : OrderTerm). t.expr) ts

-- ---- whether there are groups

comes : (n : Named) → flat_map aggregates (result_exprs n.results ++ order_exprs n.order) ≡ flat_map output_aggregates n.results ++ flat_map order_aggregates n.order
comes n =
    flat_map-append aggregates (result_exprs n.results) (order_exprs n.order)
    ∙ ap (λ ks. ks ++ flat_map aggregates (order_exprs n.order)) (of_results aggregates n.results)
    ∙ ap (λ ks. flat_map output_aggregates n.results ++ ks) (of_order aggregates n.order)

pub grouped_when : (n : Named) (a b c : Bool) → a ≡ has_clause n → b ≡ or_any a (flat_map output_aggregates n.results) → c ≡ or_any b (flat_map order_aggregates n.order)
    → c ≡ is_grouped (as_query n)
unfolding or_any
grouped_when n a b c is found more =
    let rs : List Kind = flat_map output_aggregates n.results in
    let ts : List Kind = flat_map order_aggregates n.order in
    more ∙ ap (λ x. or_any x ts) found ∙ or_more a rs ts ∙ ap (λ x. x || any (rs ++ ts)) is ∙ ap (λ ks. has_clause n || any ks) (sym (comes n))

-- ---- columns that stand bare

any_bare : (ts : List Expr) (es : List Expr) → list_any (λ b. b) (flat_map (bares ts) es) ≡ list_any (λ x. (placed ts x).is_bare) es
unfolding bares
any_bare ts [] = refl
any_bare ts (x ∷ xs) = ap (λ b. (placed ts x).is_bare || b) (any_bare ts xs)

module _ (ts : List GroupTerm) (n : Named) where
  abbrev rs : List Bool
  rs = flat_map (output_bares ts) n.results

  abbrev hs : List Bool
  hs = flat_map (bares (exprs_of ts)) (option_to_list n.having)

  abbrev os : List Bool
  os = flat_map (order_bares ts) n.order

  all_bares : flat_map (bares (exprs_of ts)) (over_groups (as_query n)) ≡ (rs ++ hs) ++ os
  all_bares =
      let f : Expr → List Bool = bares (exprs_of ts) in
      flat_map-append f (result_exprs n.results ++ option_to_list n.having) (order_exprs n.order)
      ∙ ap (λ bs. bs ++ flat_map f (order_exprs n.order)) (flat_map-append f (result_exprs n.results) (option_to_list n.having))
      ∙ ap (λ bs. (bs ++ hs) ++ flat_map f (order_exprs n.order)) (of_results f n.results)
      ∙ ap (λ bs. (rs ++ hs) ++ bs) (of_order f n.order)

  any_over : (a b c : Bool) → a ≡ or_bare false rs → b ≡ or_bare a hs → c ≡ or_bare b os → c ≡ list_any (λ x. (placed (exprs_of ts) x).is_bare) (over_groups (as_query n))
  unfolding or_bare
  any_over a b c first next last =
      last ∙ ap (λ x. or_bare x os) next ∙ more_bare a hs os ∙ ap (λ x. or_bare x (hs ++ os)) first ∙ more_bare false rs (hs ++ os)
      ∙ ap (λ (bs : List Bool). list_any (λ b'. b') bs) (sym (append_assoc rs hs os) ∙ sym all_bares) ∙ any_bare (exprs_of ts) (over_groups (as_query n))

pub told_before : (grouped : Bool) (ts : List GroupTerm) (n : Made Named) → n.is_misplaced ≡ true → is_out_of_place grouped ts n ≡ true
unfolding is_out_of_place
told_before grouped ts n is = rw (is) refl

pub no_groups : (ts : List GroupTerm) (n : Made Named) → n.is_misplaced ≡ false → is_out_of_place false ts n ≡ false
unfolding is_out_of_place
no_groups ts n is = rw (is) refl

pub stands_bare : (ts : List GroupTerm) (n : Made Named) (a b c : Bool) → n.is_misplaced ≡ false
    → a ≡ or_bare false (flat_map (output_bares ts) n.made.results) → b ≡ or_bare a (flat_map (bares (exprs_of ts)) (option_to_list n.made.having))
    → c ≡ or_bare b (flat_map (order_bares ts) n.made.order) → c ≡ is_out_of_place true ts n
unfolding is_out_of_place
stands_bare ts n a b c is first next last =
    any_over ts n.made a b c first next last ∙ ap (λ m. m || list_any (λ x. (placed (exprs_of ts) x).is_bare) (over_groups (as_query n.made))) (sym is)
