-- Rows apart by their rowids, and what they list.
use Rattle.std.proofs.Common.{◌≡◌, ◌≢◌, ◌⊎◌, inl, inr, ℤ, Bool, true, false, cond, List, [], ◌∷◌, filter, map, Ordering, Less, Equal, Greater, refl, sym, ap, subst, ◌∙◌, true≢false}
use Rattle.std.specs.Ordering.{is_eq, match_ordering}
use Rattle.std.specs.List.Sorted.{IsPermutation}
use Rattle.std.proofs.lemmas.List.Sorted.{Contains-permutation}
use Rattle.std.proofs.lemmas.Bool.{and_parts, or_parts, not-true}
use Rattle.std.proofs.lemmas.Cmp.{tied_itself}
use Rattle.sqlite.specs.declared.types.Value.TheVariants.{Int}
use Rattle.sqlite.specs.Order.{Row}
use Rattle.sqlite_value.specs.Order.{value_cmp}
use Rattle.sqlite_value.proofs.OrderLemmas.{value_cmp_total}
use Rattle.sqlite_trees.specs.Tree.{rowid, put_row}
use Rattle.sqlite_rules.specs.Lists.{Has}
use Rattle.sqlite_rules.specs.Edit.{id_in, put_all, is_taken, are_fresh}
use Rattle.sqlite_rules.proofs.ListLemmas.{all_has, all_from, some_from, has_filtered, has_kept, has_contained, contains_had}
use Rattle.sqlite_rules.proofs.ProbeLemmas.{has_mapped, mapped_has}
use Rattle.sqlite_rules.proofs.TableLemmas.{has_put, put_has, put_all_keeps}
use Rattle.cr_rows.specs.Rows.{AreApart, IsListed, Lists, SameRows}

pub has_permuted : {X : Type 0} (xs ys : List X) (x : X) → IsPermutation xs ys → Has xs x → Has ys x
has_permuted xs ys x moved h = has_contained ys x (Contains-permutation xs ys x moved (contains_had xs x h))

-- ---- rows apart

pub apart_same : (rows : List Row) (a b : Row) → AreApart rows → Has rows a → Has rows b → rowid a ≡ rowid b → a ≡ b
apart_same [] a b it p q e = absurd p
apart_same (x ∷ xs) a b it (inl p) (inl q) e = p ∙ sym q
apart_same (x ∷ xs) a b it (inl p) (inr q) e = absurd (all_has (λ y. rowid x ≢ rowid y) xs b it.0 q (ap rowid (sym p) ∙ e))
apart_same (x ∷ xs) a b it (inr p) (inl q) e = absurd (all_has (λ y. rowid x ≢ rowid y) xs a it.0 p (ap rowid (sym q) ∙ sym e))
apart_same (x ∷ xs) a b it (inr p) (inr q) e = apart_same xs a b it.1 p q e

pub apart_filter : (p : Row → Bool) (rows : List Row) → AreApart rows → AreApart (filter p rows)
apart_filter p [] it = tt
apart_filter p (x ∷ xs) it = go (p x) (apart_filter p xs it.1)
  where
    go : (b : Bool) → AreApart (filter p xs) → AreApart (cond b (x ∷ filter p xs) (filter p xs))
    go true later = (all_from (λ y. rowid x ≢ rowid y) (filter p xs) (λ r h. all_has (λ y. rowid x ≢ rowid y) xs r it.0 (has_filtered p xs r h).0), later)
    go false later = later

untied : (rows : List Row) (new r : Row) → is_taken rows new ≡ false → Has rows r → rowid r ≢ rowid new
untied rows new r free h same =
    let tie : is_eq (value_cmp (rowid r) (rowid new)) ≡ true = ap (λ v. is_eq (value_cmp v (rowid new))) same ∙ ap is_eq (tied_itself value_cmp_total (rowid new)) in
    true≢false (sym (some_from (λ y. is_eq (value_cmp (rowid y) (rowid new))) rows r h tie) ∙ free)

abbrev Put : Ordering → Row → Row → List Row → List Row
Put o new r rows = match_ordering o (r ∷ put_row new rows) (new ∷ rows) (new ∷ r ∷ rows)

pub apart_put : (new : Row) (rows : List Row) → is_taken rows new ≡ false → AreApart rows → AreApart (put_row new rows)
apart_put new [] free it = (tt, tt)
apart_put new (r ∷ rows) free it = go (value_cmp (rowid r) (rowid new)) (apart_put new rows (or_parts _ _ free).1 it.1)
  where
    other : (y : Row) → Has (r ∷ rows) y → rowid new ≢ rowid y
    other y h same = untied (r ∷ rows) new y free h (sym same)

    below : (y : Row) → Has (put_row new rows) y → rowid r ≢ rowid y
    below y h same = elim (put_has new rows y h) [ inl new_is ↦ untied (r ∷ rows) new r free (inl refl) (same ∙ ap rowid new_is) | inr old ↦ all_has (λ z. rowid r ≢ rowid z) rows y it.0 old same ]

    go : (o : Ordering) → AreApart (put_row new rows) → AreApart (Put o new r rows)
    go Less later = (all_from (λ y. rowid r ≢ rowid y) (put_row new rows) below, later)
    go Equal later = (all_from (λ y. rowid new ≢ rowid y) rows (λ y h. other y (inr h)), it.1)
    go Greater later = (all_from (λ y. rowid new ≢ rowid y) (r ∷ rows) other, it)

pub apart_put_all : (news rows : List Row) → are_fresh rows news ≡ true → AreApart rows → AreApart (put_all rows news)
apart_put_all [] rows fresh it = it
apart_put_all (n ∷ news) rows fresh it =
    let parts = and_parts _ _ fresh in apart_put_all news (put_row n rows) parts.1 (apart_put n rows (not-true _ parts.0) it)

-- ---- what rows list

pub lists_none : Lists [] []
lists_none = record { apart = tt; sound = λ r h. absurd h; complete = λ x h. absurd h }

pub lists_in : (rows other shown : List Row) → rows ≡ other → Lists other shown → Lists rows shown
lists_in rows other shown e it = subst (λ all. Lists all shown) (sym e) it

pub lists_same : (rows shown others : List Row) → SameRows shown others → Lists rows shown → Lists rows others
lists_same rows shown others same it = record {
  apart = it.apart;
  sound = λ r h. let l = it.sound r h in (l.0, l.1, l.2, same.to l.1 l.3);
  complete = λ x h. it.complete x (same.from x h);
}

pub listed_rowid : (rows shown : List Row) → Lists rows shown → (r : Row) → Has rows r → rowid r ≡ Int (id_in (rowid r))
listed_rowid rows shown it r h = let l = it.sound r h in subst (λ z. rowid z ≡ Int (id_in (rowid z))) (sym l.2) refl

pub lists_put : (rows shown : List Row) (id : ℤ) (x : Row) → are_fresh rows ((Int id ∷ x) ∷ []) ≡ true → Lists rows shown → Lists (put_row (Int id ∷ x) rows) (x ∷ shown)
lists_put rows shown id x fresh it = record {
  apart = apart_put (Int id ∷ x) rows (not-true _ (and_parts _ _ fresh).0) it.apart;
  sound = λ r h. sound r (put_has (Int id ∷ x) rows r h);
  complete = complete;
}
  where
    sound : (r : Row) → (r ≡ Int id ∷ x) ⊎ Has rows r → IsListed (x ∷ shown) r
    sound r (inl same) = (id, x, same, inl refl)
    sound r (inr old) = let l = it.sound r old in (l.0, l.1, l.2, inr l.3)

    complete : (y : Row) → Has (x ∷ shown) y → (n : ℤ) × Has (put_row (Int id ∷ x) rows) (Int n ∷ y)
    complete y (inl same) = (id, subst (λ z. Has (put_row (Int id ∷ x) rows) (Int id ∷ z)) (sym same) (has_put (Int id ∷ x) rows))
    complete y (inr old) = let c = it.complete y old in (c.0, put_all_keeps ((Int id ∷ x) ∷ []) rows (Int c.0 ∷ y) fresh c.1)

module _ (p test : Row → Bool) (rows shown : List Row) (same : (id : ℤ) (x : Row) → Has shown x → p (Int id ∷ x) ≡ test x) (it : Lists rows shown) where
  pub listed_kept : (r : Row) → Has rows r → p r ≡ true → IsListed (filter test shown) r
  listed_kept r h passes = let l = it.sound r h in (l.0, l.1, l.2, has_kept test shown l.1 l.3 (sym (same l.0 l.1 l.3) ∙ ap p (sym l.2) ∙ passes))

  pub kept_listed : (x : Row) → Has (filter test shown) x → (id : ℤ) × Has (filter p rows) (Int id ∷ x)
  kept_listed x h =
      let was = has_filtered test shown x h in let c = it.complete x was.0 in (c.0, has_kept p rows (Int c.0 ∷ x) c.1 (same c.0 x was.0 ∙ was.1))

  pub lists_filter : Lists (filter p rows) (filter test shown)
  lists_filter = record {
    apart = apart_filter p rows it.apart;
    sound = λ r h. let was = has_filtered p rows r h in listed_kept r was.0 was.1;
    complete = kept_listed;
  }

-- each row becomes another, under its rowid
pub lists_map : (f : Row → Row) (g : Row → Row) (rows news shown : List Row) → ((id : ℤ) (x : Row) → Has shown x → g (Int id ∷ x) ≡ Int id ∷ f x) → Lists rows shown → AreApart news → SameRows (map g rows) news
    → Lists news (map f shown)
lists_map f g rows news shown each it apart same = record { apart = apart; sound = sound; complete = complete }
  where
    sound : (r : Row) → Has news r → IsListed (map f shown) r
    sound r h =
        let from = has_mapped g rows r (same.from r h) in
        let l = it.sound from.0 from.1 in
        (l.0, f l.1, from.2 ∙ ap g l.2 ∙ each l.0 l.1 l.3, mapped_has f shown l.1 l.3)

    complete : (y : Row) → Has (map f shown) y → (n : ℤ) × Has news (Int n ∷ y)
    complete y h =
        let from = has_mapped f shown y h in
        let c = it.complete from.0 from.1 in
        (c.0, same.to (Int c.0 ∷ y) (subst (Has (map g rows)) (each c.0 from.0 from.1 ∙ ap (λ z. Int c.0 ∷ z) (sym from.2)) (mapped_has g rows (Int c.0 ∷ from.0) c.1)))
