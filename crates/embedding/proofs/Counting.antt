-- Rows that are counted.
use Rattle.std.proofs.Common.{◌≡◌, ℕ, zero, suc, ◌+◌, ◌-◌, ◌<◌, ◌≤◌, ◌⊎◌, inl, inr, arith, pos, Bool, true, false, List, [], ◌∷◌, ◌++◌, refl, sym, ap, subst, ◌∙◌, filter, length}
use Rattle.std.proofs.Math.Dec.{leb}
use Rattle.std.proofs.lemmas.Bool.{le-leb, lt-leb, leb-true, leb-false}
use Rattle.std.proofs.lemmas.List.Elements.{filter-append}
use Rattle.cr_value.specs.declared.value.Value.TheVariants.{Null, Int}
use Rattle.cr_lattice.specs.declared.table.ColumnDef.{ColumnDef}
use Rattle.cr_bags.specs.Bags.{single, weight, SameBag}
use Rattle.cr_bags.proofs.BagLaws.{weight-append, bag-refl}
use Rattle.cr_query.specs.Query.{Row}
use Rattle.cr_query.specs.Plans.{Gives}
use Rattle.cr_module.specs.Lawful.{AreWide, head_value, is_at_end, rest_of}
use Rattle.embedding.specs.Counted.{numbers}

-- ---- a cursor

pub numbers_wide : (columns : List ColumnDef) (first n : ℕ) → length columns ≡ 1 → AreWide columns (numbers first n)
unfolding numbers
numbers_wide columns first zero one = tt
numbers_wide columns first (suc n) one = (sym one, numbers_wide columns (suc first) n one)

end_at : (at end n : ℕ) → n ≡ end - at → leb end at ≡ is_at_end (numbers at n)
unfolding numbers
end_at at end zero e = le-leb end at (omega arith)
end_at at end (suc n) e = lt-leb end at (omega arith)

pub end_is : (at end : ℕ) → leb end at ≡ is_at_end (numbers at (end - at))
end_is at end = end_at at end (end - at) refl

below_at : (at end n : ℕ) → n ≡ end - at → is_at_end (numbers at n) ≡ false → at < end
unfolding numbers
below_at at end zero e some = absurd (let z : ⊥ = cc in z)
below_at at end (suc n) e some = omega arith

pub below_end : (at end : ℕ) → is_at_end (numbers at (end - at)) ≡ false → at < end
below_end at end some = below_at at end (end - at) refl some

rest_at : (at end n : ℕ) → n ≡ end - at → numbers (at + 1) (end - (at + 1)) ≡ rest_of (numbers at n)
unfolding numbers
rest_at at end zero e = let none : end - (at + 1) ≡ 0 = omega arith in rw none refl
rest_at at end (suc n) e =
    let more : at + 1 ≡ suc at = omega arith in
    let left : end - (at + 1) ≡ n = omega arith in
    rw (left, more) refl

pub rest_is : (at end : ℕ) → numbers (at + 1) (end - (at + 1)) ≡ rest_of (numbers at (end - at))
rest_is at end = rest_at at end (end - at) refl

pub number_is : (at n : ℕ) → is_at_end (numbers at n) ≡ false → Int (pos at) ≡ head_value 0 (numbers at n)
unfolding numbers
number_is at zero some = absurd (let z : ⊥ = cc in z)
number_is at (suc n) some = refl

pub none_beside : (at n place : ℕ) → (place ≡ 0 → ⊥) → Null ≡ head_value place (numbers at n)
unfolding numbers
none_beside at n zero some = absurd (some refl)
none_beside at zero (suc place) some = refl
none_beside at (suc n) (suc place) some = refl

-- ---- parts

split : (first m n : ℕ) → numbers first (m + n) ≡ numbers first m ++ numbers (first + m) n
unfolding numbers
split first zero n =
    let none : 0 + n ≡ n = omega arith in
    let same : first + 0 ≡ first = omega arith in
    rw (none, same) refl
split first (suc m) n =
    let more : suc m + n ≡ suc (m + n) = omega arith in
    let same : first + suc m ≡ suc first + m = omega arith in
    rw (more, same) (ap (λ (rows : List Row). single (Int (pos first)) ∷ rows) (split (suc first) m n))

abbrev pub number_row : ℕ → Row
number_row k = single (Int (pos k))

-- the rest of a table, of which a test takes nothing
record Beside (meets : Row → Bool) (rows got : List Row) : Type 0 where
  before : List Row
  behind : List Row
  whole : rows ≡ before ++ (got ++ behind)
  none_before : filter meets before ≡ []
  none_behind : filter meets behind ≡ []

part_gives : (meets : Row → Bool) (rows got : List Row) → Beside meets rows got → Gives meets rows got
part_gives meets rows got b = record {
  at_most = λ f.
      let all : weight f rows ≡ weight f b.before + (weight f got + weight f b.behind) =
      ap (weight f) b.whole ∙ weight-append f b.before (got ++ b.behind) ∙ ap (λ (n : ℕ). weight f b.before + n) (weight-append f got b.behind) in
      omega arith;
  omits_none =
      let same : filter meets rows ≡ filter meets got =
      ap (filter meets) b.whole
      ∙ filter-append meets b.before (got ++ b.behind)
      ∙ (λ i. b.none_before i ++ filter meets (got ++ b.behind))
      ∙ filter-append meets got b.behind
      ∙ ap (λ (rs : List Row). filter meets got ++ rs) b.none_behind
      ∙ append_nil (filter meets got) in
      subst (λ (rs : List Row). SameBag (filter meets got) rs) (sym same) (bag-refl (filter meets got));
} where
  append_nil : (xs : List Row) → xs ++ [] ≡ xs
  append_nil [] = refl
  append_nil (x ∷ xs) = ap (λ (l : List Row). x ∷ l) (append_nil xs)

module _ (meets : Row → Bool) where
  none_meet : (first n : ℕ) → ((k : ℕ) → first ≤ k → k < first + n → meets (number_row k) ≡ false) → filter meets (numbers first n) ≡ []
  unfolding numbers
  none_meet first zero none = refl
  none_meet first (suc n) none =
      rw (none first (omega arith) (omega arith)) (none_meet (suc first) n (λ k above below. none k (omega arith) (omega arith)))

  module _ (last start end : ℕ) (from_one : 1 ≤ start) (to_last : end ≤ last + 1)
      (outside : (k : ℕ) → 1 ≤ k → k < last + 1 → (k < start) ⊎ (end ≤ k) → meets (number_row k) ≡ false) where
    some_read : (n : ℕ) → n ≡ end - start → Beside meets (numbers 1 last) (numbers start n)
    unfolding numbers
    some_read zero e = record {
      before = [];
      behind = numbers 1 last;
      whole = refl;
      none_before = refl;
      none_behind = none_meet 1 last (λ k above below. outside k above (omega arith) (by k));
    } where
      by : (k : ℕ) → (k < start) ⊎ (end ≤ k)
      by k = elim (leb end k) as (λ b. leb end k ≡ b → (k < start) ⊎ (end ≤ k)) [ true ↦ λ t. inr (leb-true end k t) | false ↦ λ f. inl (let g : k < end = leb-false end k f in omega arith) ] refl
    some_read (suc n) e = record {
      before = numbers 1 (start - 1);
      behind = numbers end (last + 1 - end);
      whole =
          let all : last ≡ start - 1 + (suc n + (last + 1 - end)) = omega arith in
          let here : 1 + (start - 1) ≡ start = omega arith in
          let there : start + suc n ≡ end = omega arith in
          ap (numbers 1) all
          ∙ split 1 (start - 1) (suc n + (last + 1 - end))
          ∙ ap (λ (k : ℕ). numbers 1 (start - 1) ++ numbers k (suc n + (last + 1 - end))) here
          ∙ ap (λ (rs : List Row). numbers 1 (start - 1) ++ rs) (split start (suc n) (last + 1 - end))
          ∙ ap (λ (k : ℕ). numbers 1 (start - 1) ++ (numbers start (suc n) ++ numbers k (last + 1 - end))) there;
      none_before = none_meet 1 (start - 1) (λ k above below. outside k above (omega arith) (inl (omega arith)));
      none_behind = none_meet end (last + 1 - end) (λ k above below. outside k (omega arith) (omega arith) (inr above));
    }

    pub span_gives : Gives meets (numbers 1 last) (numbers start (end - start))
    span_gives = part_gives meets _ _ (some_read (end - start) refl)
