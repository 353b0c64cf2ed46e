-- Cells in the order of changes and in that of stamps, and the cell of a change.
use Rattle.std.proofs.Common.{◌≡◌, inl, inr, Bool, true, false, ◌||◌, ◌&&◌, List, [], ◌∷◌, refl, sym, ap, ◌∙◌, subst, Ordering, Less, Equal, Greater, int_cmp, ℤ}
use Rattle.std.specs.Prelude.{filter, int_lt}
use Rattle.std.specs.List.{list_any, AllByRecursion, IsDistinct}
use Rattle.std.specs.List.Sorted.{IsStrictlySortedBy, IsSorted, IsPermutation}
use Rattle.std.specs.Ordering.{eq_by_cmp, is_eq, int_eq, ordering_then, ordering_reverse}
use Rattle.std.specs.Cmp.{IsTotalOrder, tied_itself}
use Rattle.std.specs.FinMap.{IsAntisymmetric}
use Rattle.std.specs.FinSet.{int_cmp-IsAntisymmetric}
use Rattle.std.proofs.lemmas.Cmp.{on_total, then_total, int_cmp_total}
use Rattle.cr_lattice.specs.declared.change.Change.{Change}
use Rattle.cr_lattice.specs.declared.stamped.Stamped.{Stamped}
use Rattle.cr_lattice.specs.Change.{change_cmp}
use Rattle.cr_lattice.specs.ChangeOrder.{change_total, change_exact}
use Rattle.cr_lattice.specs.Keep.{has}
use Rattle.cr_cells.specs.Holding.{changes_of, cell_cmp, stamp_cmp, same_stamp, since}
use Rattle.cr_cells.proofs.MemberLemmas.{split, Among, any_from, all_at, all_from, apart-weaker, apart-filter, sort_is}

-- ---- the orders

pub cell_total : IsTotalOrder cell_cmp
unfolding cell_cmp
cell_total = then_total (on_total (λ s. s.change) change_total) (then_total (on_total (λ s. s.version) int_cmp_total) (on_total (λ s. s.seq) int_cmp_total))

pub stamp_total : IsTotalOrder stamp_cmp
unfolding stamp_cmp
stamp_total = then_total (on_total (λ s. s.version) int_cmp_total) (then_total (on_total (λ s. s.seq) int_cmp_total) (on_total (λ s. s.change) change_total))

tie_parts : (o p : Ordering) → ordering_then o p ≡ Equal → (o ≡ Equal) × (p ≡ Equal)
tie_parts Less p e = absurd cc
tie_parts Equal p e = (refl, e)
tie_parts Greater p e = absurd cc

pub cell_exact : IsAntisymmetric cell_cmp
unfolding cell_cmp
cell_exact s t e =
    let p = tie_parts _ _ e in let q = tie_parts _ _ p.1 in
    let change = change_exact s.change t.change p.0 in
    let version = int_cmp-IsAntisymmetric s.version t.version q.0 in
    let seq = int_cmp-IsAntisymmetric s.seq t.seq q.1 in
    λ i. record { change = change i; version = version i; seq = seq i }

pub stamp_exact : IsAntisymmetric stamp_cmp
unfolding stamp_cmp
stamp_exact s t e =
    let p = tie_parts _ _ e in let q = tie_parts _ _ p.1 in
    let version = int_cmp-IsAntisymmetric s.version t.version p.0 in
    let seq = int_cmp-IsAntisymmetric s.seq t.seq q.0 in
    let change = change_exact s.change t.change q.1 in
    λ i. record { change = change i; version = version i; seq = seq i }

-- ---- cells whose changes are in strict order

below_cells : (x : Stamped) (ss : List Stamped) → AllByRecursion (λ c. change_cmp x.change c ≡ Less) (changes_of ss) → AllByRecursion (λ s. cell_cmp x s ≡ Less) ss
unfolding cell_cmp
below_cells x [] b = tt
below_cells x (s ∷ ss) b = (rw b.0 refl, below_cells x ss b.1)

pub strict_cells : (ss : List Stamped) → IsStrictlySortedBy change_cmp (changes_of ss) → IsStrictlySortedBy cell_cmp ss
unfolding IsStrictlySortedBy
strict_cells [] s = tt
strict_cells (x ∷ xs) s = (below_cells x xs s.0, strict_cells xs s.1)

pub change-Among : (P : Change → Type 0) (ss : List Stamped) (s : Stamped) → AllByRecursion P (changes_of ss) → Among ss s → P s.change
change-Among P [] s all a = absurd a
change-Among P (t ∷ ts) s all a =
    elim a [
      | inl same ↦ subst P (sym (ap (λ (u : Stamped). u.change) same)) all.0
      | inr there ↦ change-Among P ts s all.1 there
    ]

not_itself : (c : Change) → change_cmp c c ≡ Less → ⊥
not_itself c e = let t : change_cmp c c ≡ Equal = tied_itself change_total c in absurd cc

-- one cell per change
pub one_cell : (ss : List Stamped) (s t : Stamped) → IsStrictlySortedBy change_cmp (changes_of ss) → Among ss s → Among ss t → s.change ≡ t.change → s ≡ t
unfolding IsStrictlySortedBy
one_cell [] s t sorted a b e = absurd a
one_cell (x ∷ xs) s t sorted a b e =
    elim a [
      | inl here ↦ elim b [
        | inl here' ↦ here ∙ sym here'
        | inr there' ↦ (
            let less : change_cmp x.change t.change ≡ Less = change-Among (λ c. change_cmp x.change c ≡ Less) xs t sorted.0 there' in
            let same : x.change ≡ t.change = ap (λ (u : Stamped). u.change) (sym here) ∙ e in
            absurd (not_itself x.change (ap (λ c. change_cmp x.change c) same ∙ less)))
      ]
      | inr there ↦ elim b [
        | inl here' ↦ (
            let less : change_cmp x.change s.change ≡ Less = change-Among (λ c. change_cmp x.change c ≡ Less) xs s sorted.0 there in
            let same : x.change ≡ s.change = ap (λ (u : Stamped). u.change) (sym here') ∙ sym e in
            absurd (not_itself x.change (ap (λ c. change_cmp x.change c) same ∙ less)))
        | inr there' ↦ one_cell xs s t sorted.1 there there' e
      ]
    ]

-- ---- the cell of a change

abbrev pub is_cell_of : Change → Stamped → Bool
is_cell_of c s = eq_by_cmp change_cmp c s.change

pub has-changes : (ss : List Stamped) (c : Change) → has (changes_of ss) c ≡ list_any (is_cell_of c) ss
unfolding has
has-changes [] c = refl
has-changes (s ∷ ss) c = ap (λ b. is_cell_of c s || b) (has-changes ss c)

pub eq_true : (o : Ordering) → is_eq o ≡ true → o ≡ Equal
eq_true Less e = absurd cc
eq_true Equal e = refl
eq_true Greater e = absurd cc

pub same_change : (c : Change) (s : Stamped) → is_cell_of c s ≡ true → c ≡ s.change
same_change c s e = change_exact c s.change (eq_true _ e)

pub is_cell_of-itself : (s : Stamped) → is_cell_of s.change s ≡ true
is_cell_of-itself s = ap is_eq (tied_itself change_total s.change)

pub has_from : (ss : List Stamped) (s : Stamped) → Among ss s → has (changes_of ss) s.change ≡ true
has_from ss s a = has-changes ss s.change ∙ any_from (is_cell_of s.change) ss s a (is_cell_of-itself s)

-- ---- stamps

and_true : (a b : Bool) → (a && b) ≡ true → (a ≡ true) × (b ≡ true)
and_true true b e = (refl, e)
and_true false b e = absurd cc

eq_flips : (o : Ordering) → is_eq (ordering_reverse o) ≡ is_eq o
eq_flips Less = refl
eq_flips Equal = refl
eq_flips Greater = refl

int_flips : (m n : ℤ) → int_eq m n ≡ int_eq n m
int_flips m n = ap is_eq (int_cmp_total.antisymm m n) ∙ eq_flips (int_cmp n m)

int_apart : (m n : Ordering) (p : Ordering) → (is_eq m && is_eq n) ≡ false → is_eq (ordering_then m (ordering_then n p)) ≡ false
int_apart Less n p e = refl
int_apart Equal Less p e = refl
int_apart Equal Equal p e = absurd cc
int_apart Equal Greater p e = refl
int_apart Greater n p e = refl

pub stamps_apart : (s t : Stamped) → same_stamp s t ≡ false → eq_by_cmp stamp_cmp s t ≡ false
unfolding stamp_cmp
stamps_apart s t e = int_apart (int_cmp s.version t.version) (int_cmp s.seq t.seq) (change_cmp s.change t.change) e

pub same_stamp-flips : (s t : Stamped) → same_stamp s t ≡ same_stamp t s
same_stamp-flips s t = ap (λ b. b && int_eq s.seq t.seq) (int_flips s.version t.version) ∙ ap (λ b. int_eq t.version s.version && b) (int_flips s.seq t.seq)

pub same_stamp-parts : (s t : Stamped) → same_stamp s t ≡ true → (s.version ≡ t.version) × (s.seq ≡ t.seq)
same_stamp-parts s t e =
    let p = and_true _ _ e in
    (int_cmp-IsAntisymmetric s.version t.version (eq_true _ p.0), int_cmp-IsAntisymmetric s.seq t.seq (eq_true _ p.1))

-- cells in strict order of which no two have one stamp
pub stamps_distinct : (ss : List Stamped) → IsStrictlySortedBy cell_cmp ss → ((s t : Stamped) → Among ss s → Among ss t → same_stamp s t ≡ true → s ≡ t) → IsDistinct same_stamp ss
unfolding IsStrictlySortedBy IsDistinct
stamps_distinct [] sorted one = tt
stamps_distinct (x ∷ xs) sorted one = (
  all_from (λ y. same_stamp x y ≡ false) xs (λ y a. elim (split (same_stamp x y)) [
    | inl so ↦ (
        let same : x ≡ y = one x y (inl refl) (inr a) so in
        let less : cell_cmp x y ≡ Less = all_at (λ z. cell_cmp x z ≡ Less) xs y sorted.0 a in
        let less' : cell_cmp x x ≡ Less = ap (λ z. cell_cmp x z) same ∙ less in
        let tied : cell_cmp x x ≡ Equal = tied_itself cell_total x in
        absurd cc)
    | inr not_so ↦ not_so
  ]),
  stamps_distinct xs sorted.1 (λ s t a b. one s t (inr a) (inr b)),
)

-- a sort by stamps of the cells above a version
pub since_is : (cells : List Stamped) (version : ℤ) (found sorted : List Stamped) → IsDistinct same_stamp cells → found ≡ filter (λ s. int_lt version s.version) cells → IsPermutation found sorted → IsSorted stamp_cmp sorted → sorted ≡ since cells version
unfolding since
since_is cells version found sorted distinct is permuted up =
    let above : List Stamped = filter (λ s. int_lt version s.version) cells in
    sort_is stamp_total stamp_exact above sorted (subst (λ l. IsPermutation l sorted) is permuted) up
    (apart-weaker same_stamp (eq_by_cmp stamp_cmp) stamps_apart above (apart-filter same_stamp (λ s. int_lt version s.version) cells distinct))
