-- The key columns show the parts of the packed key of their row.
use Rattle.std.proofs.Common.{◌≡◌, inl, inr, ℕ, zero, suc, ◌+◌, ◌-◌, ◌≤◌, ◌<◌, Bool, true, false, cond, ◌&&◌, ltb, leb, eqb, List, [], ◌∷◌, length, get_or, Option, Some, None, is_some, unwrap_or, refl, sym, ap, ◌∙◌, arith}
use Rattle.std.specs.Prelude.{count_by, find, slice_index_or}
use Rattle.std.specs.List.{zip, filter_map}
use Rattle.std.specs.Option.{option_map, option_map_or}
use Rattle.std.proofs.lemmas.Bool.{eqb-true, eq-eqb, leb-true, cases_lt, ltb-true}
use Rattle.std.proofs.lemmas.Bool.Decides.{nat_tests}
use Rattle.std.proofs.lemmas.List.Sums.{sum_by-cons}
use Rattle.cr_value.specs.declared.value.Value.{Value}
use Rattle.cr_value.specs.declared.value.Value.TheVariants.{Null}
use Rattle.cr_value.specs.Unpacking.{unpacked}
use Rattle.cr_value.proofs.Fields.{unpacked_again}
use Rattle.cr_lattice.specs.declared.table.ColumnDef.{ColumnDef}
use Rattle.cr_lattice.specs.declared.table.TableDef.{TableDef}
use Rattle.cr_lattice.specs.Check.{is_key_column, stands_at}
use Rattle.cr_lattice.specs.Profile.{key_count, places_once, has_key}
use Rattle.cr_delta.specs.Key.{cells_of, key_part, key_places, key_values, key_of}
use Rattle.cr_delta.specs.Wanted.{IsRowOf, IsWritable}
use Rattle.cr_delta.proofs.Among.{split, and_true, Among}
use Rattle.cr_delta.proofs.Cells.{column_of}

-- ---- counting

count_cons : {A : Type 0} (p : A → Bool) (x : A) (xs : List A) → count_by p (x ∷ xs) ≡ cond (p x) 1 0 + count_by p xs
count_cons p x xs = sum_by-cons (λ y. cond (p y) 1 0) x xs

count_yes : {A : Type 0} (p : A → Bool) (x : A) (xs : List A) → p x ≡ true → count_by p (x ∷ xs) ≡ 1 + count_by p xs
count_yes p x xs e = count_cons p x xs ∙ rw e refl

pub count_no : {A : Type 0} (p : A → Bool) (x : A) (xs : List A) → p x ≡ false → count_by p (x ∷ xs) ≡ count_by p xs
count_no p x xs e = count_cons p x xs ∙ rw e (omega arith)

count_some : {A : Type 0} (p : A → Bool) (xs : List A) (a : A) → Among xs a → p a ≡ true → 1 ≤ count_by p xs
count_some p [] a m e = absurd m
count_some p (x ∷ xs) a m e =
    elim m [
      | inl here ↦ (let n = count_yes p x xs (ap p (sym here) ∙ e) in omega (arith, n))
      | inr there ↦ (let n = count_some p xs a there e in let c = count_cons p x xs in omega (arith, n, c))
    ]

-- what passes a stricter test passes the other
count_le : {A : Type 0} (p q : A → Bool) (xs : List A) → ((x : A) → p x ≡ true → q x ≡ true) → count_by p xs ≤ count_by q xs
count_le p q [] f = omega arith
count_le p q (x ∷ xs) f =
    let r = count_le p q xs f in
    elim (split (p x)) [
      | inl so ↦ (let a = count_yes p x xs so in let b = count_yes q x xs (f x so) in omega (arith, r, a, b))
      | inr not_so ↦ (let a = count_no p x xs not_so in let b = count_cons q x xs in omega (arith, r, a, b))
    ]

-- where as many pass the stricter test, each that passes the other passes it
count_same : {A : Type 0} (p q : A → Bool) (xs : List A) (a : A) → ((x : A) → p x ≡ true → q x ≡ true) → count_by p xs ≡ count_by q xs → Among xs a → q a ≡ true → p a ≡ true
count_same p q [] a f e m h = absurd m
count_same p q (x ∷ xs) a f e m h =
    let r = count_le p q xs f in
    elim (split (p x)) [
      | inl so ↦ (
          let c = count_yes p x xs so in
          let d = count_yes q x xs (f x so) in
          elim m [
            | inl here ↦ ap p here ∙ so
            | inr there ↦ count_same p q xs a f (omega (arith, e, c, d)) there h
          ])
      | inr not_so ↦ (
          let c = count_no p x xs not_so in
          elim (split (q x)) [
            | inl other ↦ (let d = count_yes q x xs other in absurd (omega (arith, e, c, d, r)))
            | inr not_other ↦ (
                let d = count_no q x xs not_other in
                elim m [
                  | inl here ↦ (let so = ap q (sym here) ∙ h in absurd cc)
                  | inr there ↦ count_same p q xs a f (omega (arith, e, c, d)) there h
                ])
          ])
    ]

count_none : {A : Type 0} (p : A → Bool) (xs : List A) → ((x : A) → p x ≡ false) → count_by p xs ≡ 0
count_none p [] f = refl
count_none p (x ∷ xs) f = count_no p x xs (f x) ∙ count_none p xs f

-- a test that splits in two counts as the two together
count_split : {A : Type 0} (p q r : A → Bool) (xs : List A) → ((x : A) → cond (p x) 1 0 ≡ cond (q x) 1 0 + cond (r x) 1 0) → count_by p xs ≡ count_by q xs + count_by r xs
count_split p q r [] f = refl
count_split p q r (x ∷ xs) f =
    let a = count_cons p x xs in
    let b = count_cons q x xs in
    let c = count_cons r x xs in
    let h = f x in
    let rest = count_split p q r xs f in
    omega (arith, a, b, c, h, rest)

-- ---- the places of a key

-- the place, if there is one, is from 1 to n
in_key : ℕ → Option ℕ → Bool
in_key n None = false
in_key n (Some p) = ltb 0 p && leb p n

within : ℕ → ColumnDef → Bool
within n col = in_key n col.key

nowhere : (k : Option ℕ) → in_key 0 k ≡ false
unfolding in_key
nowhere None = refl
nowhere (Some p) = grind (arith, nat_tests)

one_further : (n : ℕ) (k : Option ℕ) → cond (in_key (suc n) k) 1 0 ≡ cond (in_key n k) 1 0 + cond (option_map_or (λ p. eqb p (suc n)) k false) 1 0
unfolding in_key
one_further n None = refl
one_further n (Some p) = grind (arith, nat_tests)

in_key_some : (n : ℕ) (k : Option ℕ) → in_key n k ≡ true → is_some k ≡ true
unfolding in_key
in_key_some n None e = absurd cc
in_key_some n (Some p) e = refl

-- the places of a key with so many columns are its columns' places
count_within : (def : TableDef) (n : ℕ) → places_once def n ≡ true → count_by (within n) def.columns ≡ n
unfolding within
count_within def zero e = count_none (within zero) def.columns (λ col. nowhere col.key)
count_within def (suc n) e =
    let p = and_true (eqb (count_by (stands_at (suc n)) def.columns) 1) (places_once def n) e in
    let one = eqb-true (count_by (stands_at (suc n)) def.columns) 1 p.0 in
    let rest = count_within def n p.1 in
    let both = count_split (within (suc n)) (within n) (stands_at (suc n)) def.columns (λ col. one_further n col.key) in
    omega (arith, one, rest, both)

pub place_once : (def : TableDef) (n p : ℕ) → places_once def n ≡ true → 1 ≤ p → p ≤ n → count_by (stands_at p) def.columns ≡ 1
place_once def zero p e low high = absurd (omega arith)
place_once def (suc n) p e low high =
    let q = and_true (eqb (count_by (stands_at (suc n)) def.columns) 1) (places_once def n) e in
    elim (cases_lt n p) [
      | inl last ↦ (let is : p ≡ suc n = omega arith in rw is (eqb-true (count_by (stands_at (suc n)) def.columns) 1 q.0))
      | inr before ↦ place_once def n p q.1 low before
    ]

-- ---- the cell at a place

found_one : (cols : List ColumnDef) (row : List Value) (p : ℕ) (cell : ColumnDef × Value) → count_by (stands_at p) cols ≡ 1 → Among (zip cols row) cell → stands_at p cell.0 ≡ true
    → find (λ x. stands_at p x.0) (zip cols row) ≡ Some cell
found_one [] row p cell one m e = absurd m
found_one (col ∷ cols) [] p cell one m e = absurd m
found_one (col ∷ cols) (v ∷ vs) p cell one m e =
    elim m [
      | inl here ↦ (
          let so : stands_at p col ≡ true = ap (λ (x : ColumnDef × Value). stands_at p x.0) (sym here) ∙ e in
          rw so (ap Some (sym here)))
      | inr there ↦ elim (split (stands_at p col)) [
        | inl so ↦ (
            let c = count_yes (stands_at p) col cols so in
            let d = count_some (stands_at p) cols cell.0 (column_of cols vs cell there) e in
            absurd (omega (arith, one, c, d)))
        | inr not_so ↦ (let c = count_no (stands_at p) col cols not_so in rw not_so (found_one cols vs p cell (sym c ∙ one) there e))
      ]
    ]

found_later : (col : ColumnDef) (cols : List ColumnDef) (v : Value) (vs : List Value) (p : ℕ) (cell : ColumnDef × Value) → stands_at p col ≡ false
    → find (λ x. stands_at p x.0) (zip cols vs) ≡ Some cell → find (λ x. stands_at p x.0) (zip (col ∷ cols) (v ∷ vs)) ≡ Some cell
found_later col cols v vs p cell not_so e = rw not_so e

found_some : (cols : List ColumnDef) (row : List Value) (p : ℕ) → length row ≡ length cols → 1 ≤ count_by (stands_at p) cols
    → (cell : ColumnDef × Value) × (find (λ x. stands_at p x.0) (zip cols row) ≡ Some cell)
found_some [] row p width some = absurd (omega (arith, some))
found_some (col ∷ cols) [] p width some = absurd (omega arith)
found_some (col ∷ cols) (v ∷ vs) p width some =
    elim (split (stands_at p col)) [
      | inl so ↦ ((col, v), rw so refl)
      | inr not_so ↦ (
          let c = count_no (stands_at p) col cols not_so in
          let r = found_some cols vs p (omega arith) (omega (arith, some, c)) in
          (r.0, found_later col cols v vs p r.0 not_so r.1))
    ]

filter_map_at : {B : Type 0} (f : ℕ → Option B) (xs : List ℕ) (i : ℕ) (d b : B) → i < length xs
    → ((j : ℕ) → j < i → (v : B) × (f (get_or xs j 0) ≡ Some v)) → f (get_or xs i 0) ≡ Some b → get_or (filter_map f xs) i d ≡ b
filter_map_at f [] i d b lt before here = absurd (omega arith)
filter_map_at f (x ∷ xs) zero d b lt before here = rw here refl
filter_map_at f (x ∷ xs) (suc i) d b lt before here =
    let first = before zero (omega arith) in
    rw first.1 (filter_map_at f xs i d b (omega arith) (λ j less. before (suc j) (omega arith)) here)

pub place_at : (i : ℕ) → i < 8 → get_or key_places i 0 ≡ suc i
place_at zero lt = refl
place_at (suc zero) lt = refl
place_at (suc (suc zero)) lt = refl
place_at (suc (suc (suc zero))) lt = refl
place_at (suc (suc (suc (suc zero)))) lt = refl
place_at (suc (suc (suc (suc (suc zero))))) lt = refl
place_at (suc (suc (suc (suc (suc (suc zero)))))) lt = refl
place_at (suc (suc (suc (suc (suc (suc (suc zero))))))) lt = refl
place_at (suc (suc (suc (suc (suc (suc (suc (suc i)))))))) lt = absurd (omega arith)

-- the place of a key column is one from 1 to the number of key columns
pub place_within : (def : TableDef) (col : ColumnDef) (place : ℕ) → has_key def ≡ true → Among def.columns col → col.key ≡ Some place → (1 ≤ place) × (place ≤ key_count def)
unfolding has_key within in_key
place_within def col place e m at =
    let once = (and_true _ _ e).1 in
    let key : is_key_column col ≡ true = rw at refl in
    let inside : within (key_count def) col ≡ true = count_same (within (key_count def)) is_key_column def.columns col (λ x h. in_key_some (key_count def) x.key h) (count_within def (key_count def) once) m key in
    let p = and_true _ _ (rw at at inside) in
    (ltb-true _ _ p.0, leb-true _ _ p.1)

part_at : (def : TableDef) (row : List Value) (place : ℕ) → IsRowOf def row → count_by (stands_at place) def.columns ≡ 1 → (v : Value) × (key_part def row place ≡ Some v)
unfolding key_part
part_at def row place r one = let f = found_some def.columns row place r.width (omega (arith, one)) in (f.0.1, ap (option_map (λ x. x.1)) f.1)

part_is : (def : TableDef) (row : List Value) (place : ℕ) (cell : ColumnDef × Value) → count_by (stands_at place) def.columns ≡ 1 → Among (cells_of def row) cell → cell.0.key ≡ Some place → key_part def row place ≡ Some cell.1
unfolding key_part
part_is def row place cell one m e = ap (option_map (λ x. x.1)) (found_one def.columns row place cell one m (rw e (eq-eqb place place refl)))

pub key_cell : (def : TableDef) (row : List Value) (cell : ColumnDef × Value) (place : ℕ) → IsWritable def → IsRowOf def row → Among (cells_of def row) cell → cell.0.key ≡ Some place
    → slice_index_or (unwrap_or (unpacked (key_of def row)) []) (place - 1) Null ≡ cell.1
unfolding key_values has_key
key_cell def row cell place profile r m e =
    let p = place_within def cell.0 place profile.key (column_of def.columns row cell m) e in
    let once = (and_true _ _ profile.key).1 in
    let low = p.0 in
    let high = p.1 in
    let few = profile.few in
    let one = λ (j : ℕ) (a : 1 ≤ j) (b : j ≤ place). place_once def (key_count def) j once a (omega (arith, b, high)) in
    let here = place_at (place - 1) (omega (arith, low, high, few)) in
    let is : suc (place - 1) ≡ place = omega (arith, low) in
    let value = filter_map_at (key_part def row) key_places (place - 1) Null cell.1 (omega (arith, low, high, few))
    (λ j less. (
    let at = place_at j (omega (arith, less, low, high, few)) in
    rw at (part_at def row (suc j) r (one (suc j) (omega arith) (omega (arith, less, low))))))
    (ap (key_part def row) (here ∙ is) ∙ part_is def row place cell (one place low (omega arith)) m e) in
    ap (λ (vs : Option (List Value)). slice_index_or (unwrap_or vs []) (place - 1) Null) (unpacked_again (key_of def row) (key_values def row) r.key) ∙ value
