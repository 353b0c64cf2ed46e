-- The rows of a table are those of the query that reads all of its columns, where none is too long or too short.
use Rattle.std.proofs.Common.{◌≡◌, ◌≢◌, ℕ, ◌+◌, ◌≤◌, ℤ, List, [], ◌∷◌, map, length, refl, sym, ap, subst, ◌∙◌, arith}
use Rattle.std.specs.List.{AllByRecursion}
use Rattle.std.specs.List.Sorted.{IsPermutation}
use Rattle.std.specs.Ordering.{int_eq}
use Rattle.std.proofs.lemmas.List.{get_or_past}
use Rattle.std.proofs.lemmas.List.Sorted.{IsPermutation-map, IsPermutation-sym}
use Rattle.std.proofs.lemmas.Map.Keys.{IsDistinct-IsPermutation}
use Rattle.sqlite.specs.declared.types.Value.TheVariants.{Null, Int}
use Rattle.sqlite.specs.Order.{Row}
use Rattle.sqlite_value.specs.Order.{column}
use Rattle.sqlite_rules.specs.Edit.{id_in}
use Rattle.sqlite_rules.specs.Lists.{Has}
use Rattle.sqlite_rules.proofs.ListLemmas.{all_from, all_has}
use Rattle.sqlite_rules.proofs.ProbeLemmas.{mapped_has}
use Rattle.sqlite_trees.specs.Tree.{rowid}
use Rattle.cr_rows.specs.Rows.{Lists}
use Rattle.cr_rows.proofs.RowLemmas.{has_permuted}
use Rattle.cr_store.specs.Stored.{IsInteger}
use Rattle.cr_store.proofs.StoredLemmas.{flips, apart_from_ids, ids_from_apart}

-- ---- rows in another order

pub lists_permuted : (xs ys shown : List Row) → IsPermutation xs ys → Lists xs shown → Lists ys shown
lists_permuted xs ys shown moved it = record {
  apart = apart_from_ids ys (map id ys) refl (IsDistinct-IsPermutation int_eq flips (map id xs) (map id ys) (IsPermutation-map id xs ys moved) (ids_from_apart xs (map id xs) refl numbered it.apart));
  sound = λ r h. it.sound r (has_permuted ys xs r (IsPermutation-sym xs ys moved) h);
  complete = λ x h. let c = it.complete x h in (c.0, has_permuted xs ys (Int c.0 ∷ x) moved c.1);
}
  where
    id : Row → ℤ
    id r = id_in (rowid r)

    numbered : AllByRecursion (λ r. IsInteger (rowid r)) xs
    numbered = all_from _ xs (λ r h. let l = it.sound r h in subst (λ z. IsInteger (rowid z)) (sym l.2) refl)

map_same : (f : Row → Row) (rows : List Row) → AllByRecursion (λ r. r ≡ f r) rows → map f rows ≡ rows
map_same f [] all = refl
map_same f (r ∷ rows) all = λ i. sym all.0 i ∷ map_same f rows all.1 i

-- ---- rows of all their columns

-- a function that shows the columns of a row up to a last one
module _ (columns : Row → Row) (last : ℕ) (whole : (r : Row) → length r ≡ last + 1 → r ≡ columns r) (reads : (r : Row) → column (columns r) last ≡ column r last)
    (rows answer shown : List Row) (moved : IsPermutation (map columns rows) answer) where
  -- what the answer lists with something in the last column the rows list
  pub lists_back : AllByRecursion (λ r. length r ≤ last + 1) rows → ((id : ℤ) (x : Row) → Has shown x → column (Int id ∷ x) last ≢ Null) → Lists answer shown → Lists rows shown
  lists_back short full it =
      lists_permuted answer rows shown (IsPermutation-sym rows answer (subst (λ all. IsPermutation all answer) (map_same columns rows (all_from _ rows each)) moved)) it
    where
      each : (r : Row) → Has rows r → r ≡ columns r
      each r h =
          let l = it.sound (columns r) (has_permuted (map columns rows) answer (columns r) moved (mapped_has columns rows r h)) in
          let there : column r last ≢ Null = λ none. full l.0 l.1 l.3 (ap (λ (z : Row). column z last) (sym l.2) ∙ reads r ∙ none) in
          let high : length r ≤ last → ⊥ = λ few. there (get_or_past r last Null few) in
          let low : length r ≤ last + 1 = all_has (λ r. length r ≤ last + 1) rows r short h in
          whole r (omega arith)

  -- and what the rows list the answer lists
  pub lists_forth : ((id : ℤ) (x : Row) → Has shown x → Int id ∷ x ≡ columns (Int id ∷ x)) → Lists rows shown → Lists answer shown
  lists_forth same it = lists_permuted rows answer shown (subst (λ all. IsPermutation all answer) (map_same columns rows (all_from _ rows each)) moved) it
    where
      each : (r : Row) → Has rows r → r ≡ columns r
      each r h = let l = it.sound r h in subst (λ (z : Row). z ≡ columns z) (sym l.2) (same l.0 l.1 l.3)
