-- Ordinals tell the names of tables, and names their ordinals.
use Rattle.std.proofs.Common.{◌≡◌, inl, inr, ℕ, zero, suc, ◌+◌, ◌<◌, ℤ, pos, negsuc, Bool, true, false, not, cond, List, [], ◌∷◌, ◌++◌, map, length, find, Option, Some, None, is_some, refl, sym, ap, subst, ◌∙◌, arith, int_cmp, is_eq}
use Rattle.std.specs.Prelude.{slice_get, unwrap_or, position, nat_lt}
use Rattle.std.specs.List.{list_any, AllByRecursion, IsDistinct, position_or_len}
use Rattle.std.specs.Option.{option_map}
use Rattle.std.specs.FinSet.{int_cmp-IsAntisymmetric}
use Rattle.std.proofs.lemmas.Cmp.{int_cmp_total, tied_itself}
use Rattle.std.proofs.lemmas.List.Folds.{find_at}
use Rattle.std.proofs.lemmas.List.Sums.{prefix_len-le-length}
use Rattle.std.proofs.lemmas.Bool.{ltb-true, ltb-false}
use Rattle.cr_lattice.specs.declared.change.Change.{Change}
use Rattle.cr_lattice.specs.declared.stamped.Stamped.{Stamped}
use Rattle.cr_lattice.specs.declared.table.ColumnDef.{ColumnDef}
use Rattle.cr_lattice.specs.declared.table.Table.{Table}
use Rattle.cr_lattice.specs.Check.{same_bytes}
use Rattle.cr_cells.specs.Holding.{changes_of, Holding, IsSound}
use Rattle.cr_cells.specs.Tables.{is_named, same_name, marked, with_replicated, altered, with_added, AreWellFormed, is_table_of}
use Rattle.cr_cells.proofs.MemberLemmas.{split, both_ways, Among, any_from, all_at, find_gives}
use Rattle.cr_cells.proofs.NewLemmas.{same_is, same_from}
use Rattle.cr_cells.proofs.TableLemmas.{table_for, same_name-equiv}
use Rattle.cr_lattice.proofs.Tested.{and_true}
use Rattle.cr_store.specs.Ordinals.{ordinal, name_at, has_table, IsNamed}
use Rattle.cr_cells.proofs.SortLemmas.{equal_is}

-- ---- a table that is there

find_some : {X : Type 0} (p : X → Bool) (xs : List X) → list_any p xs ≡ true → (x : X) × (find p xs ≡ Some x) × (p x ≡ true)
find_some p [] e = absurd cc
find_some p (x ∷ xs) e =
    elim (split (p x)) [
      | inl so ↦ (x, (rw so refl), so)
      | inr not_so ↦ (let r = find_some p xs (rw not_so at e) in (r.0, (rw not_so r.1), r.2))
    ]

slice_among : {X : Type 0} (xs : List X) (n : ℕ) (x : X) → slice_get xs n ≡ Some x → Among xs x
slice_among [] n x e = absurd cc
slice_among (y ∷ ys) zero x e = let same : y ≡ x = cc in inl (sym same)
slice_among (y ∷ ys) (suc n) x e = inr (slice_among ys n x e)

pub found_at : (ts : List Table) (name : List ℕ) → has_table ts name ≡ true → (t : Table) × (slice_get ts (position_or_len (is_named name) ts) ≡ Some t) × (t.definition.name ≡ name)
found_at ts name e = let f = find_some (is_named name) ts e in (f.0, sym (find_at (is_named name) ts) ∙ f.1, same_is f.0.definition.name name f.2)

-- the name of a table's ordinal
pub name_back : (ts : List Table) (name : List ℕ) → has_table ts name ≡ true → name_at ts (ordinal ts name) ≡ Some name
name_back ts name e = let f = found_at ts name e in ap (option_map (λ (t : Table). t.definition.name)) f.1 ∙ ap Some f.2

-- ---- names by ordinals

same_place : (a b : ℕ) → ◌≡◌ {A = ℤ} (pos (suc a)) (pos (suc b)) → a ≡ b
same_place a b e = cc

some_same : {X : Type 0} (a b : X) → ◌≡◌ {A = Option X} (Some a) (Some b) → a ≡ b
some_same a b e = cc

-- ordinals tell the names of tables that are there
pub same_ordinal : (ts : List Table) (x y : List ℕ) → has_table ts x ≡ true → is_eq (int_cmp (ordinal ts x) (ordinal ts y)) ≡ same_bytes x y
same_ordinal ts x y there = both_ways _ _ to from
  where
    to : is_eq (int_cmp (ordinal ts x) (ordinal ts y)) ≡ true → same_bytes x y ≡ true
    to e =
        let place = same_place _ _ (int_cmp-IsAntisymmetric (ordinal ts x) (ordinal ts y) (equal_is _ e)) in
        let f = found_at ts x there in
        let g : find (is_named y) ts ≡ Some f.0 = find_at (is_named y) ts ∙ ap (slice_get ts) (sym place) ∙ f.1 in
        let named = (find_gives (is_named y) ts f.0 g).1 in
        same_from x y (sym f.2 ∙ same_is f.0.definition.name y named)

    from : same_bytes x y ≡ true → is_eq (int_cmp (ordinal ts x) (ordinal ts y)) ≡ true
    from e = ap (λ z. is_eq (int_cmp (ordinal ts x) (ordinal ts z))) (sym (same_is x y e)) ∙ ap is_eq (tied_itself int_cmp_total (ordinal ts x))

-- ---- ordinals by names

place_is : (ts : List Table) (n : ℕ) (t : Table) → IsDistinct same_name ts → slice_get ts n ≡ Some t → position_or_len (is_named t.definition.name) ts ≡ n
unfolding IsDistinct
place_is [] n t distinct e = absurd cc
place_is (x ∷ xs) zero t distinct e =
    let same : x ≡ t = some_same x t e in
    let named : is_named t.definition.name x ≡ true = same_from x.definition.name t.definition.name (ap (λ (u : Table). u.definition.name) same) in
    rw named refl
place_is (x ∷ xs) (suc n) t distinct e =
    let other : same_name x t ≡ false = all_at (λ y. same_name x y ≡ false) xs t distinct.0 (slice_among xs n t e) in
    let other' : is_named t.definition.name x ≡ false = same_name-equiv.symm t x ∙ other in
    let rest = place_is xs n t distinct.1 e in
    rw (other', rest) (let e : 1 + n ≡ suc n = omega arith in e)

pub table_at : (ts : List Table) (k : ℤ) → is_some (name_at ts k) ≡ true → (n : ℕ) × (t : Table) × (k ≡ pos (suc n)) × (slice_get ts n ≡ Some t) × (unwrap_or (name_at ts k) [] ≡ t.definition.name)
table_at ts (pos zero) e = absurd cc
table_at ts (pos (suc n)) e =
    elim (slice_get ts n) as (λ o. slice_get ts n ≡ o → is_some (option_map (λ (t : Table). t.definition.name) o) ≡ true
    → (n' : ℕ) × (t : Table) × (pos (suc n) ≡ pos (suc n')) × (slice_get ts n' ≡ Some t) × (unwrap_or (option_map (λ (t : Table). t.definition.name) (slice_get ts n)) [] ≡ t.definition.name)) [
      | None ↦ λ is some. absurd cc
      | Some t ↦ λ is some. (n, t, refl, is, ap (λ o. unwrap_or (option_map (λ (t : Table). t.definition.name) o) []) is)
    ] refl e
table_at ts (negsuc n) e = absurd cc

-- the ordinal of the table of an ordinal
pub ordinal_back : (ts : List Table) (k : ℤ) → IsDistinct same_name ts → is_some (name_at ts k) ≡ true → ordinal ts (unwrap_or (name_at ts k) []) ≡ k
ordinal_back ts k distinct some =
    let t = table_at ts k some in
    ap (ordinal ts) t.4 ∙ ap (λ n. pos (suc n)) (place_is ts t.0 t.1 distinct t.3) ∙ sym t.2

pub name_there : (ts : List Table) (k : ℤ) → is_some (name_at ts k) ≡ true → has_table ts (unwrap_or (name_at ts k) []) ≡ true
name_there ts k some =
    let t = table_at ts k some in
    any_from _ ts t.1 (slice_among ts t.0 t.1 t.3) (same_from t.1.definition.name (unwrap_or (name_at ts k) []) (sym t.4))

-- ---- what is well formed has its table

pub named_change : (ts : List Table) (cs : List Change) → AreWellFormed ts cs → AllByRecursion (λ (c : Change). has_table ts c.table ≡ true) cs
named_change ts [] all = tt
named_change ts (c ∷ cs) all =
    let t = table_for ts c all.0 in
    let found = find_gives (is_table_of c) ts t.0 t.1 in
    (any_from (is_named c.table) ts t.0 found.0 (and_true _ _ found.1).1, named_change ts cs all.1)

pub named_by_change : (ts : List Table) (ss : List Stamped) → AllByRecursion (λ (c : Change). has_table ts c.table ≡ true) (changes_of ss) → AllByRecursion (IsNamed ts) ss
named_by_change ts [] all = tt
named_by_change ts (s ∷ ss) all = (all.0, named_by_change ts ss all.1)

pub named_cells : (h : Holding) → IsSound h → AllByRecursion (IsNamed h.tables) h.cells
named_cells h sound = named_by_change h.tables h.cells (named_change h.tables (changes_of h.cells) sound.well_formed)

-- ---- other tables

-- a table more
pub ordinal_append : (ts us : List Table) (name : List ℕ) → has_table ts name ≡ true → ordinal (ts ++ us) name ≡ ordinal ts name
ordinal_append ts us name e = ap (λ n. pos (suc n)) (go ts e)
  where
    go : (xs : List Table) → has_table xs name ≡ true → position_or_len (is_named name) (xs ++ us) ≡ position_or_len (is_named name) xs
    go [] e = absurd cc
    go (x ∷ xs) e =
        elim (split (is_named name x)) [
          | inl so ↦ rw so refl
          | inr not_so ↦ (let rest = go xs (rw not_so at e) in rw (not_so, rest) refl)
        ]

ordinal_map : (f : Table → Table) → ((t : Table) → (f t).definition.name ≡ t.definition.name) → (ts : List Table) (name : List ℕ) → ordinal (map f ts) name ≡ ordinal ts name
ordinal_map f same ts name = ap (λ n. pos (suc n)) (go ts)
  where
    go : (xs : List Table) → position_or_len (is_named name) (map f xs) ≡ position_or_len (is_named name) xs
    go [] = refl
    go (x ∷ xs) = λ i. cond (not (same_bytes (same x i) name)) (1 + go xs i) 0

pub ordinal_replicated : (ts : List Table) (which name : List ℕ) → ordinal (with_replicated which ts) name ≡ ordinal ts name
unfolding with_replicated
ordinal_replicated ts which name = ordinal_map (marked which) (λ t. refl) ts name

pub ordinal_added : (ts : List Table) (which : List ℕ) (col : ColumnDef) (name : List ℕ) → ordinal (with_added which col ts) name ≡ ordinal ts name
unfolding with_added
ordinal_added ts which col name = ordinal_map (altered which col) same ts name
  where
    same : (t : Table) → (altered which col t).definition.name ≡ t.definition.name
    same t = elim (split (is_named which t)) [ inl so ↦ rw so refl | inr not_so ↦ rw not_so refl ]

-- ---- as code finds them

pub place_found : (ts : List Table) (name : List ℕ) (n : ℕ) → position (is_named name) ts ≡ Some n → n ≡ position_or_len (is_named name) ts
place_found ts name n e =
    elim (split (nat_lt (position_or_len (is_named name) ts) (length ts))) [
      | inl so ↦ (let e' : Some (position_or_len (is_named name) ts) ≡ Some n = rw so at e in sym (some_same _ _ e'))
      | inr not_so ↦ (let e' : ◌≡◌ {A = Option ℕ} None (Some n) = rw not_so at e in absurd cc)
    ]

pub place_within : (ts : List Table) (name : List ℕ) (n : ℕ) → position (is_named name) ts ≡ Some n → n < length ts
place_within ts name n e =
    elim (split (nat_lt (position_or_len (is_named name) ts) (length ts))) [
      | inl so ↦ subst (λ m. m < length ts) (sym (place_found ts name n e)) (ltb-true (position_or_len (is_named name) ts) (length ts) so)
      | inr not_so ↦ (let e' : ◌≡◌ {A = Option ℕ} None (Some n) = rw not_so at e in absurd cc)
    ]

pub place_past : (ts : List Table) (name : List ℕ) → position (is_named name) ts ≡ None → length ts ≡ position_or_len (is_named name) ts
place_past ts name e =
    elim (split (nat_lt (position_or_len (is_named name) ts) (length ts))) [
      | inl so ↦ (let e' : ◌≡◌ {A = Option ℕ} (Some (position_or_len (is_named name) ts)) None = rw so at e in absurd cc)
      | inr not_so ↦ (
          let high = ltb-false (position_or_len (is_named name) ts) (length ts) not_so in
          let low = prefix_len-le-length (λ t. not (is_named name t)) ts in
          omega (arith, high, low))
    ]
