-- Marks stay one per site, by their sites.
use Rattle.std.proofs.Common.{◌≡◌, inl, inr, pos, ◌≤ℤ◌, true, List, [], ◌∷◌, ◌++◌, Option, Some, None, refl, ap, ◌∙◌, Ordering, Less, Equal, Greater}
use Rattle.std.specs.Prelude.{filter}
use Rattle.std.specs.List.{AllByRecursion}
use Rattle.std.specs.List.Sorted.{IsStrictlySortedBy}
use Rattle.std.specs.Option.{ForSome}
use Rattle.std.specs.Ordering.{is_lt}
use Rattle.std.specs.Cmp.{IsTotalOrder}
use Rattle.std.proofs.lemmas.Cmp.{on_total}
use Rattle.std.proofs.lemmas.List.Kept.{IsStrictlySortedBy-filter}
use Rattle.cr_value.specs.OrderLaws.{bytes_total}
use Rattle.cr_cells.specs.Marks.{Mark, mark_cmp, with_mark, marks_after, AreMarks}
use Rattle.cr_cells.proofs.MemberLemmas.{all_at, all_from, Among-filter, Among-append}

mark_total : IsTotalOrder mark_cmp
mark_total = on_total (λ m. m.0) bytes_total

less : (o : Ordering) → is_lt o ≡ true → o ≡ Less
less Less e = refl
less Equal e = absurd cc
less Greater e = absurd cc

-- a list in strict order, then an element, then another list in strict order
sorted_around : (ms ns : List Mark) (m : Mark) → IsStrictlySortedBy mark_cmp ms → IsStrictlySortedBy mark_cmp ns → AllByRecursion (λ o. mark_cmp o m ≡ Less) ms → AllByRecursion (λ o. mark_cmp m o ≡ Less) ns → IsStrictlySortedBy mark_cmp (ms ++ m ∷ ns)
unfolding IsStrictlySortedBy
sorted_around [] ns m s t below above = (above, t)
sorted_around (o ∷ ms) ns m s t below above = (
  all_from (λ x. mark_cmp o x ≡ Less) (ms ++ m ∷ ns) (λ x a. elim (Among-append ms (m ∷ ns) x a) [
    | inl l ↦ all_at (λ x. mark_cmp o x ≡ Less) ms x s.0 l
    | inr r ↦ elim r [
      | inl same ↦ ap (λ y. mark_cmp o y) same ∙ below.0
      | inr there ↦ mark_total.trans o m x below.0 (all_at (λ x. mark_cmp m x ≡ Less) ns x above there)
    ]
  ]),
  sorted_around ms ns m s.1 t below.1 above,
)

are_with_mark : (marks : List Mark) (m : Mark) → AreMarks marks → pos 0 ≤ℤ m.1 → AreMarks (with_mark marks m)
unfolding with_mark
are_with_mark marks m are from_0 = record {
  by_site =
      sorted_around (filter (λ o. is_lt (mark_cmp o m)) marks) (filter (λ o. is_lt (mark_cmp m o)) marks) m
      (IsStrictlySortedBy-filter mark_cmp (λ o. is_lt (mark_cmp o m)) marks are.by_site)
      (IsStrictlySortedBy-filter mark_cmp (λ o. is_lt (mark_cmp m o)) marks are.by_site)
      (all_from _ _ (λ o a. less _ (Among-filter (λ o. is_lt (mark_cmp o m)) marks o a).1))
      (all_from _ _ (λ o a. less _ (Among-filter (λ o. is_lt (mark_cmp m o)) marks o a).1));
  from_0 = all_from (λ o. pos 0 ≤ℤ o.1) _ (λ o a. elim (Among-append (filter (λ o. is_lt (mark_cmp o m)) marks) (m ∷ filter (λ o. is_lt (mark_cmp m o)) marks) o a) [
    | inl l ↦ all_at (λ o. pos 0 ≤ℤ o.1) marks o are.from_0 (Among-filter (λ o. is_lt (mark_cmp o m)) marks o l).0
    | inr r ↦ elim r [
      | inl same ↦ rw same from_0
      | inr there ↦ all_at (λ o. pos 0 ≤ℤ o.1) marks o are.from_0 (Among-filter (λ o. is_lt (mark_cmp m o)) marks o there).0
    ]
  ]);
}

pub are_marks_after : (marks : List Mark) (peer : Option Mark) → AreMarks marks → ForSome peer (λ m. pos 0 ≤ℤ m.1) → AreMarks (marks_after marks peer)
are_marks_after marks None are from_0 = are
are_marks_after marks (Some m) are from_0 = are_with_mark marks m are (from_0 m refl)
