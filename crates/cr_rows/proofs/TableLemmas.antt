-- A table as a list: DELETE keeps the rows that do not pass.
use Rattle.std.proofs.Common.{◌≡◌, ℤ, Bool, true, false, not, ◌||◌, cond, List, [], ◌∷◌, filter, refl, sym, ap, ◌∙◌}
use Rattle.std.specs.List.{AllByRecursion, list_any}
use Rattle.sqlite.specs.Order.{Row}
use Rattle.sqlite_trees.specs.Tree.{has_rowid, without_rowid}
use Rattle.sqlite_rules.specs.Edit.{without_all}

pub without_all_is : (ids : List ℤ) (rows : List Row) → without_all rows ids ≡ filter (λ r. not (list_any (λ id. has_rowid id r) ids)) rows
without_all_is [] rows = sym (filter_true rows)
  where
    filter_true : (rows : List Row) → filter (λ r. true) rows ≡ rows
    filter_true [] = refl
    filter_true (r ∷ rows) = ap (λ all. r ∷ all) (filter_true rows)
without_all_is (id ∷ ids) rows = without_all_is ids (without_rowid id rows) ∙ twice rows
  where
    twice : (rows : List Row) → filter (λ r. not (list_any (λ id. has_rowid id r) ids)) (filter (λ r. not (has_rowid id r)) rows) ≡ filter (λ r. not (has_rowid id r || list_any (λ id. has_rowid id r) ids)) rows
    twice [] = refl
    twice (r ∷ rows) = go (has_rowid id r) (list_any (λ id. has_rowid id r) ids) refl (twice rows)
      where
        go : (b c : Bool) → list_any (λ id. has_rowid id r) ids ≡ c → filter (λ r. not (list_any (λ id. has_rowid id r) ids)) (filter (λ r. not (has_rowid id r)) rows) ≡ filter (λ r. not (has_rowid id r || list_any (λ id. has_rowid id r) ids)) rows
            → filter (λ r. not (list_any (λ id. has_rowid id r) ids)) (cond (not b) (r ∷ filter (λ r. not (has_rowid id r)) rows) (filter (λ r. not (has_rowid id r)) rows))
            ≡ cond (not (b || list_any (λ id. has_rowid id r) ids)) (r ∷ filter (λ r. not (has_rowid id r || list_any (λ id. has_rowid id r) ids)) rows) (filter (λ r. not (has_rowid id r || list_any (λ id. has_rowid id r) ids)) rows)
        go true c is later = later
        go false true is later = rw is later
        go false false is later = rw is (ap (λ all. r ∷ all) later)

pub filter_alike : {A : Type 0} (p q : A → Bool) (xs : List A) → AllByRecursion (λ x. p x ≡ q x) xs → filter p xs ≡ filter q xs
filter_alike p q [] h = refl
filter_alike p q (x ∷ xs) h = rw h.0 (go (q x) (filter_alike p q xs h.1))
  where
    go : (b : Bool) → filter p xs ≡ filter q xs → cond b (x ∷ filter p xs) (filter p xs) ≡ cond b (x ∷ filter q xs) (filter q xs)
    go true later = ap (λ all. x ∷ all) later
    go false later = later
