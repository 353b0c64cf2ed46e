-- Stamps of cells: which are of a commit up to a version, and that sorted ones are distinct exactly where each is below the next.
use Rattle.std.proofs.Common.{◌≡◌, ℤ, pos, Bool, true, false, ◌&&◌, List, [], ◌∷◌, map, get_or, ◌+◌, Ordering, Less, Equal, Greater, refl, sym, ap, ◌∙◌, arith, int_cmp}
use Rattle.std.specs.Prelude.{Decides}
use Rattle.std.specs.List.{list_all, AllByRecursion, IsDistinct, IsAllAdjacentAnswer}
use Rattle.std.specs.List.Sorted.{IsStrictlySortedBy, IsSorted, IsPermutation}
use Rattle.std.specs.Ordering.{int_eq, is_eq, is_lt, ordering_then, ordering_reverse}
use Rattle.std.specs.Cmp.{IsTotalOrder}
use Rattle.std.proofs.lemmas.Cmp.{on_total, then_total, int_cmp_total, int_eq_equiv}
use Rattle.std.proofs.lemmas.List.Sorted.{IsPermutation-sym}
use Rattle.std.proofs.lemmas.Map.Keys.{IsDistinct-IsPermutation, apart_from_distinct}
use Rattle.std.proofs.lemmas.Bool.Decides.{Decides-and, Decides-like}
use Rattle.cr_lattice.specs.declared.stamped.Stamped.{Stamped}
use Rattle.cr_cells.specs.Holding.{same_stamp, IsStampedTo}
use Rattle.cr_sound.specs.Sound.{is_stamped_to, stamp_of, is_one_stamp}
use Rattle.cr_sound.proofs.Deciding.{int_le_decides, all_decide, order_decided}

-- ---- each stamp

stamped_decided : (version : ℤ) (s : Stamped) → Decides (is_stamped_to version s) (IsStampedTo version s)
stamped_decided version s =
    Decides-like (is_stamped_to version s)
    (λ p. record { from_1 = p.0; past = p.1.0; place = p.1.1 }) (λ t. (t.from_1, (t.past, t.place)))
    (Decides-and _ _ (int_le_decides (pos 1) s.version) (Decides-and _ _ (int_le_decides s.version version) (int_le_decides (pos 0) s.seq)))

pub all_stamped_decided : (version : ℤ) (ss : List Stamped) → Decides (list_all (is_stamped_to version) ss) (AllByRecursion (IsStampedTo version) ss)
all_stamped_decided version ss = all_decide (is_stamped_to version) (IsStampedTo version) (stamped_decided version) ss

-- ---- all stamps

abbrev pub pair_cmp : ℤ × ℤ → ℤ × ℤ → Ordering
pair_cmp a b = ordering_then (int_cmp a.0 b.0) (int_cmp a.1 b.1)

pub pair_total : IsTotalOrder pair_cmp
pair_total = then_total (on_total (λ (a : ℤ × ℤ). a.0) int_cmp_total) (on_total (λ (a : ℤ × ℤ). a.1) int_cmp_total)

apart_below : (o p : Ordering) → ordering_then o p ≡ Less → (is_eq o && is_eq p) ≡ false
apart_below Less p e = refl
apart_below Equal Less e = refl
apart_below Equal Equal e = absurd cc
apart_below Equal Greater e = absurd cc
apart_below Greater p e = absurd cc

below_apart : (o p : Ordering) → (is_eq o && is_eq p) ≡ false → is_lt (ordering_reverse (ordering_then o p)) ≡ false → is_lt (ordering_then o p) ≡ true
below_apart Less p e h = refl
below_apart Equal Less e h = refl
below_apart Equal Equal e h = absurd cc
below_apart Equal Greater e h = absurd cc
below_apart Greater p e h = absurd cc

all_apart : (a : ℤ × ℤ) (bs : List (ℤ × ℤ)) → AllByRecursion (λ b. pair_cmp a b ≡ Less) bs → AllByRecursion (λ b. is_one_stamp a b ≡ false) bs
all_apart a [] all = tt
all_apart a (b ∷ bs) all = (apart_below (int_cmp a.0 b.0) (int_cmp a.1 b.1) all.0, all_apart a bs all.1)

distinct_from_sorted : (xs : List (ℤ × ℤ)) → IsStrictlySortedBy pair_cmp xs → IsDistinct is_one_stamp xs
unfolding IsStrictlySortedBy IsDistinct
distinct_from_sorted [] s = tt
distinct_from_sorted (x ∷ xs) s = (all_apart x xs s.0, distinct_from_sorted xs s.1)

is_one_stamp-flips : (a b : ℤ × ℤ) → is_one_stamp a b ≡ is_one_stamp b a
is_one_stamp-flips a b = ap (λ e. e && int_eq a.1 b.1) (int_eq_equiv.symm a.0 b.0) ∙ ap (λ e. int_eq b.0 a.0 && e) (int_eq_equiv.symm a.1 b.1)

-- what `is_sorted_by` answers of stamps that are sorted
pub distinct_decided : (ws xs : List (ℤ × ℤ)) (r : Bool) → IsPermutation ws xs → IsSorted pair_cmp xs → IsAllAdjacentAnswer (λ a b t. t ≡ is_lt (pair_cmp a b)) xs r → Decides r (IsDistinct is_one_stamp ws)
distinct_decided ws xs true moved sorted h =
    let strict = (order_decided pair_total xs true h).0 refl in
    ((λ e. IsDistinct-IsPermutation is_one_stamp is_one_stamp-flips xs ws (IsPermutation-sym ws xs moved) (distinct_from_sorted xs strict)), λ d. refl)
distinct_decided ws [] false moved sorted h = let l = h.1 in let no : ⊥ = omega arith in absurd no
distinct_decided ws (x ∷ xs) false moved sorted h = (
  (λ e. absurd cc),
  λ d. (
      let l = h.1 in
      let a = get_or (x ∷ xs) h.0 x in let b = get_or (x ∷ xs) (h.0 + 1) x in
      let d' : IsDistinct is_one_stamp (x ∷ xs) = IsDistinct-IsPermutation is_one_stamp is_one_stamp-flips ws (x ∷ xs) moved d in
      let apart : is_one_stamp a b ≡ false = apart_from_distinct is_one_stamp (x ∷ xs) h.0 (h.0 + 1) x d' (omega arith) l in
      let up : is_lt (pair_cmp b a) ≡ false = sorted h.0 x (omega arith) l in
      let up' : is_lt (ordering_reverse (pair_cmp a b)) ≡ false = ap is_lt (sym (pair_total.antisymm b a)) ∙ up in
      h.2 x ∙ below_apart (int_cmp a.0 b.0) (int_cmp a.1 b.1) apart up'),
)

-- ---- cells

stamps_apart : (s : Stamped) (ts : List Stamped) → AllByRecursion (λ b. is_one_stamp (stamp_of s) b ≡ false) (map stamp_of ts) → AllByRecursion (λ t. same_stamp s t ≡ false) ts
stamps_apart s [] all = tt
stamps_apart s (t ∷ ts) all = (all.0, stamps_apart s ts all.1)

apart_stamps : (s : Stamped) (ts : List Stamped) → AllByRecursion (λ t. same_stamp s t ≡ false) ts → AllByRecursion (λ b. is_one_stamp (stamp_of s) b ≡ false) (map stamp_of ts)
apart_stamps s [] all = tt
apart_stamps s (t ∷ ts) all = (all.0, apart_stamps s ts all.1)

cells_distinct : (ss : List Stamped) → IsDistinct is_one_stamp (map stamp_of ss) → IsDistinct same_stamp ss
unfolding IsDistinct
cells_distinct [] d = tt
cells_distinct (s ∷ ss) d = (stamps_apart s ss d.0, cells_distinct ss d.1)

distinct_cells : (ss : List Stamped) → IsDistinct same_stamp ss → IsDistinct is_one_stamp (map stamp_of ss)
unfolding IsDistinct
distinct_cells [] d = tt
distinct_cells (s ∷ ss) d = (apart_stamps s ss d.0, distinct_cells ss d.1)

pub stamps_decided : (ss : List Stamped) (r : Bool) → Decides r (IsDistinct is_one_stamp (map stamp_of ss)) → Decides r (IsDistinct same_stamp ss)
stamps_decided ss r = Decides-like r (cells_distinct ss) (distinct_cells ss)
