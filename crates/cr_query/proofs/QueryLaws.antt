-- An answer depends on which rows each table has and how often, not on their order.
use Rattle.std.proofs.Common.{◌≡◌, Bool, true, false, cond, map, drop, List, [], ◌∷◌, ◌++◌, Option, Some, None, option_map, refl, sym, ap, ◌∙◌, arith, Ordering, Less, Equal, Greater}
use Rattle.std.specs.Option.{option_and_then}
use Rattle.std.specs.Ordering.{is_eq, ordering_reverse, ordering_then}
use Rattle.std.specs.Cmp.{IsTotalOrder}
use Rattle.std.specs.FinMap.{IsAntisymmetric, slice_cmp-IsAntisymmetric}
use Rattle.std.proofs.lemmas.Cmp.{on_total, then_total, lists_total}
use Rattle.cr_bags.specs.Bags.{weight, SameBag, Alike, joins, gather, each, those, sort, firsts}
use Rattle.cr_value.specs.declared.value.Value.{Value}
use Rattle.cr_value.specs.OrderLaws.{value_total, value_exact}
use Rattle.cr_query.specs.Query.{Row, Meaning, Lawful, Group, SameTables, holds, nulls, or_padded, with_rows, joined_with, combined, joined, head_or_null, rest_of, directed, by_terms, by_exprs, row_cmp, shown_row, shown_keys, ordered_cmp, spelled_cmp, distinct, keyed, group_at, groups_of, groups, judged, shows, shown_groups, shown, limited, finished, answer}
use Rattle.cr_query.specs.Queries.{Joining, Query, Term, Shown}
use Rattle.cr_bags.proofs.BagLaws.{bag-refl, bag-map, bag-filter, gather_alike, then_alike, map_alike, map_same, alike-refl, alike-some, bag_of, no_fault, no_list}
use Rattle.cr_bags.proofs.SortLaws.{sort_same, sort_alike}

-- ---- orders

always_total : {K : Type 0} → IsTotalOrder (λ (a b : K). Equal)
always_total = record { antisymm = λ x y. refl; trans = λ x y z e f. e; congr = λ x y z e. refl }

then_equal : (o p : Ordering) → ordering_then o p ≡ Equal → (o ≡ Equal) × (p ≡ Equal)
then_equal Less p e = absurd cc
then_equal Equal p e = (refl, e)
then_equal Greater p e = absurd cc

module _ {E : Type 0} (m : Meaning E) (law : Lawful m) where
  directed_total : (d : Bool) (R : Value → Value → Ordering) → IsTotalOrder R → IsTotalOrder (directed d R)
  directed_total true R o = record { antisymm = λ x y. o.antisymm y x; trans = λ x y z e f. o.trans z y x f e; congr = λ x y z e. back_congr x y z e } where
    back_congr : (x y z : Value) → R y x ≡ Equal → R z x ≡ R z y
    back_congr x y z e = o.antisymm z x ∙ ap ordering_reverse (sym (o.congr y x z e)) ∙ sym (o.antisymm z y)
  directed_total false R o = o

  pub by_terms_total : (ts : List (Term E)) → IsTotalOrder (by_terms m ts)
  by_terms_total [] = always_total
  by_terms_total (t ∷ ts) = then_total (on_total (head_or_null) (directed_total t.descending (m.order t.expr) (law.order_total t.expr))) (on_total (rest_of) (by_terms_total ts))

  pub by_exprs_total : (es : List E) → IsTotalOrder (by_exprs m es)
  by_exprs_total [] = always_total
  by_exprs_total (e ∷ es) = then_total (on_total (head_or_null) (law.order_total e)) (on_total (rest_of) (by_exprs_total es))

  pub row_total : IsTotalOrder (row_cmp)
  row_total = lists_total value_total

  pub row_exact : IsAntisymmetric (row_cmp)
  row_exact = slice_cmp-IsAntisymmetric value_exact

  pub ordered_total : (ts : List (Term E)) → IsTotalOrder (ordered_cmp m ts)
  ordered_total ts = then_total (on_total (shown_keys) (by_terms_total ts)) (on_total (shown_row) row_total)

  pub ordered_shows : (ts : List (Term E)) (a b : Shown) → ordered_cmp m ts a b ≡ Equal → a.row ≡ b.row
  ordered_shows ts a b e = row_exact a.row b.row ((then_equal _ _ e).1)

  pub spelled_total : IsTotalOrder (spelled_cmp)
  spelled_total = then_total (on_total (shown_row) row_total) (on_total (shown_keys) row_total)

  pub spelled_exact : IsAntisymmetric (spelled_cmp)
  spelled_exact a b e =
      let h = then_equal _ _ e in
      let p = row_exact a.row b.row h.0 in
      let q = row_exact a.keys b.keys h.1 in
      λ i. record { row = p i; keys = q i }

  -- ---- joined

  padded_bag : (pad : Row) (c : Row) (xs ys : List Row) → SameBag xs ys → SameBag (or_padded pad c xs) (or_padded pad c ys)
  padded_bag pad c [] [] s = bag-refl _
  padded_bag pad c [] (y ∷ ys) s = absurd (let e = s.weighs (λ x. 1) in let z : ⊥ = omega (arith, e) in z)
  padded_bag pad c (x ∷ xs) [] s = absurd (let e = s.weighs (λ x. 1) in let z : ⊥ = omega (arith, e) in z)
  padded_bag pad c (x ∷ xs) (y ∷ ys) s = s

  those_alike : {X : Type 0} (p : X → Option Bool) {xs ys : List X} → SameBag xs ys → Alike (those p xs) (those p ys)
  those_alike p s = gather_alike _ _ (λ x. alike-refl _) s

  joined_with_alike : (j : Joining E) (rows more : List Row) → SameBag rows more → (c : Row) → Alike (joined_with m j rows c) (joined_with m j more c)
  joined_with_alike j rows more s c =
      elim j.left as (λ b. Alike (cond b (option_map (or_padded (nulls j.width) c) (those (holds m j.on) (with_rows c rows))) (Some (with_rows c rows))) (cond b (option_map (or_padded (nulls j.width) c) (those (holds m j.on) (with_rows c more))) (Some (with_rows c more)))) [
        | true ↦ map_alike _ _ (padded_bag (nulls j.width) c) _ _ (those_alike (holds m j.on) (bag-map (λ r. c ++ r) s))
        | false ↦ alike-some (bag-map (λ r. c ++ r) s)
      ]

  pub combined_alike : (js : List (Joining E)) (tables more : List (List Row)) → SameTables tables more → (cs ds : List Row) → SameBag cs ds → Alike (combined m js tables cs) (combined m js more ds)
  combined_alike [] tables more same cs ds s = alike-some s
  combined_alike (j ∷ js) [] [] same cs ds s = alike-some s
  combined_alike (j ∷ js) [] (u ∷ us) same cs ds s = absurd same
  combined_alike (j ∷ js) (t ∷ ts) [] same cs ds s = absurd same
  combined_alike (j ∷ js) (t ∷ ts) (u ∷ us) same cs ds s =
      then_alike _ _ (combined_alike js ts us same.1) _ _ (gather_alike _ _ (joined_with_alike j t u same.0) s)

  pub joined_alike : (q : Query E) (tables more : List (List Row)) → SameTables tables more → Alike (joined m q tables) (joined m q more)
  joined_alike q tables more same =
      then_alike _ _ (λ xs ys s. those_alike (holds m q.terms) s) _ _ (combined_alike q.sources tables more same _ _ (bag-refl _))

  -- ---- groups

  abbrev pub Pair : Type 0
  Pair = Row × Row

  judged_groups : (q : Query E) (es : List E) (ps rs : List Pair) → SameBag ps rs → (ks : List Row) → gather (λ g. judged m q (λ e. m.over e g)) (map (group_at m es ps) ks) ≡ gather (λ g. judged m q (λ e. m.over e g)) (map (group_at m es rs) ks)
  judged_groups q es ps rs s [] = refl
  judged_groups q es ps rs s (k ∷ ks) =
      let tie = λ (p : Pair). is_eq (by_exprs m es k p.0) in
      let same = bag-map (λ (p : Pair). p.1) (bag-filter tie s) in
      (λ i. joins (judged m q (λ e. law.over_bag e k _ _ same i)) (judged_groups q es ps rs s ks i))

  grouped_alike : (q : Query E) (es : List E) (ps rs : List Pair) → SameBag ps rs → Alike (gather (λ g. judged m q (λ e. m.over e g)) (groups_of m es ps)) (gather (λ g. judged m q (λ e. m.over e g)) (groups_of m es rs))
  grouped_alike q es ps rs s =
      let keys : sort (row_cmp) (map (λ (p : Pair). p.0) ps) ≡ sort (row_cmp) (map (λ (p : Pair). p.0) rs) = sort_same (row_cmp) row_total row_exact (bag-map (λ (p : Pair). p.0) s) in
      let f = λ (g : Group). judged m q (λ e. m.over e g) in
      let class = firsts (λ a b. is_eq (by_exprs m es a b)) in
      let e = judged_groups q es ps rs s (class (sort (row_cmp) (map (λ (p : Pair). p.0) ps))) ∙ ap (λ ks. gather f (map (group_at m es rs) (class ks))) keys in
      record { weighs = λ h. ap (option_map (weight h)) e }

  groups_alike : (q : Query E) (es : List E) (cs ds : List Row) → SameBag cs ds → Alike (option_and_then (gather (λ g. judged m q (λ e. m.over e g))) (groups m es cs)) (option_and_then (gather (λ g. judged m q (λ e. m.over e g))) (groups m es ds))
  groups_alike q [] cs ds s = gather_one q (λ e. m.over e (record { shown = []; members = cs })) (λ e. m.over e (record { shown = []; members = ds })) (λ e. law.over_bag e [] cs ds s) where
    gather_one : (q : Query E) (f g : E → Option Value) → ((e : E) → f e ≡ g e) → Alike (joins (judged m q f) (Some [])) (joins (judged m q g) (Some []))
    gather_one q f g same = record { weighs = λ h i. option_map (weight h) (joins (judged m q (λ e. same e i)) (Some [])) }
  groups_alike q (e ∷ es) cs ds s = after (each (keyed m (e ∷ es)) cs) (each (keyed m (e ∷ es)) ds) (gather_alike _ _ (λ c. alike-refl _) s) where
    after : (o p : Option (List (Row × Row))) → Alike o p → Alike (option_and_then (gather (λ g. judged m q (λ e. m.over e g))) (option_map (groups_of m (e ∷ es)) o)) (option_and_then (gather (λ g. judged m q (λ e. m.over e g))) (option_map (groups_of m (e ∷ es)) p))
    after (Some ps) (Some rs) a = grouped_alike q (e ∷ es) ps rs (bag_of a)
    after (Some ps) None a = absurd (no_fault a)
    after None (Some rs) a = absurd (no_list a)
    after None None a = alike-refl _

  pub shown_alike : (q : Query E) (cs ds : List Row) → SameBag cs ds → Alike (shown m q cs) (shown m q ds)
  shown_alike q cs ds s =
      elim q.is_grouped as (λ b. Alike (cond b (shown_groups m q cs) (each (λ c. shows m q (λ e. m.value e c)) cs)) (cond b (shown_groups m q ds) (each (λ c. shows m q (λ e. m.value e c)) ds))) [
        | true ↦ groups_alike q q.group cs ds s
        | false ↦ gather_alike _ _ (λ c. alike-refl _) s
      ]

  -- ---- the answer

  pub finished_same : (q : Query E) (xs ys : List (Shown)) → SameBag xs ys → finished m q xs ≡ finished m q ys
  finished_same q xs ys s =
      ap (λ rows. limited q.limit (drop q.offset rows)) (
      elim q.is_distinct as (λ b. map (shown_row) (sort (ordered_cmp m q.order) (cond b (distinct m q.results xs) xs)) ≡ map (shown_row) (sort (ordered_cmp m q.order) (cond b (distinct m q.results ys) ys))) [
        | true ↦ ap (λ l. map (shown_row) (sort (ordered_cmp m q.order) (firsts (λ a b. is_eq (by_exprs m q.results a.row b.row)) l))) (sort_same (spelled_cmp) spelled_total spelled_exact s)
        | false ↦ sort_alike (ordered_cmp m q.order) (ordered_total q.order) (shown_row) (ordered_shows q.order) s
      ])

  -- the answer depends on which rows each table has and how often
  pub answer_same : (q : Query E) (tables more : List (List Row)) → SameTables tables more → answer m q tables ≡ answer m q more
  answer_same q tables more same =
      map_same (finished m q) (finished m q) (finished_same q) _ _ (then_alike _ _ (shown_alike q) _ _ (joined_alike q tables more same))
