-- A row whose key is not the one that is sought has another value in a key column than is told.
use Rattle.std.proofs.Common.{◌≡◌, ◌⊎◌, inl, inr, ℕ, ◌+◌, ◌≤◌, ◌<◌, suc, Bool, true, false, ◌&&◌, ◌||◌, cond, List, [], ◌∷◌, ◌++◌, length, get_or, Option, Some, None, refl, sym, ap, ◌∙◌, add-one, zero-add, arith, length-append, subst, Ordering, Less, Equal, Greater}
use Rattle.std.specs.Prelude.{find, nat_le}
use Rattle.std.proofs.lemmas.List.Folds.{list_any-append}
use Rattle.std.proofs.lemmas.List.Quantifiers.{position-Some}
use Rattle.std.specs.List.{list_any, zip, position, position_from, filter_map, cons_option}
use Rattle.std.specs.Option.{option_map, option_map_or, option_and_then}
use Rattle.std.proofs.lemmas.Cmp.{tied_itself}
use Rattle.std.proofs.lemmas.Iterator.Adapters.{position_from-zero}
use Rattle.cr_value.specs.declared.value.Value.{Value}
use Rattle.cr_value.specs.declared.value.Value.TheVariants.{Null}
use Rattle.cr_value.specs.Order.{value_cmp}
use Rattle.cr_value.specs.OrderLaws.{value_total, value_exact}
use Rattle.cr_value.specs.Packing.{packed, size_limit}
use Rattle.cr_lattice.specs.declared.table.ColumnDef.{ColumnDef}
use Rattle.cr_lattice.specs.declared.table.TableDef.{TableDef}
use Rattle.cr_lattice.specs.Check.{stands_at, same_bytes}
use Rattle.cr_lattice.proofs.Tested.{split, or_left, or_true}
use Rattle.cr_delta.proofs.Members.{is_same}
use Rattle.cr_delta.specs.Key.{key_part, key_places, key_values, key_of}
use Rattle.cr_bags.specs.Bags.{gather, single}
use Rattle.cr_query.specs.Query.{Row}
use Rattle.cr_scalar.specs.Numbers.{is_null}
use Rattle.cr_sought.proofs.Gathered.{parted}
use Rattle.cr_sought.specs.Sought.{can_pack, key_from, key_or_none, joined_key, keys_told, sought_part, sought_values}

-- ---- the place of a column

later : (p : ColumnDef → Bool) (i : ℕ) (cols : List ColumnDef)
    → position_from p (i + 1) cols ≡ option_map (λ k. k + 1) (position_from p i cols)
later p i [] = refl
later p i (col ∷ cols) =
    let next = position_from p (i + 1) cols in
    let far = position_from p (i + 1 + 1) cols in
    elim (p col) as (λ b. cond b (Some (i + 1)) far ≡ option_map (λ k. k + 1) (cond b (Some i) next)) [
      | true ↦ refl
      | false ↦ later p (i + 1) cols
    ]

one_on : (v : Value) (row : Row) (o : Option ℕ)
    → option_map (λ at. get_or (v ∷ row) at Null) (option_map (λ k. k + 1) o) ≡ option_map (λ at. get_or row at Null) o
one_on v row None = refl
one_on v row (Some k) = let e : k + 1 ≡ suc k = add-one k in rw e refl

-- the value beside the first column that passes
beside : (p : ColumnDef → Bool) (cols : List ColumnDef) (row : Row) → length row ≡ length cols
    → option_map (λ x. x.1) (find (λ x. p x.0) (zip cols row)) ≡ option_map (λ at. get_or row at Null) (position_from p 0 cols)
beside p [] row wide = refl
beside p (col ∷ cols) [] wide = absurd (omega (arith, wide))
beside p (col ∷ cols) (v ∷ row) wide =
    elim (split (p col)) [
      | inl so ↦ rw so refl
      | inr not_so ↦
          rw not_so
          (beside p cols row (omega (arith, wide))
          ∙ sym (one_on v row (position_from p 0 cols))
          ∙ ap (option_map (λ at. get_or (v ∷ row) at Null)) (sym (later p 0 cols)))
    ]

part_at : (def : TableDef) (row : Row) (place : ℕ) → length row ≡ length def.columns
    → key_part def row place ≡ option_map (λ at. get_or row at Null) (position (stands_at place) def.columns)
unfolding key_part
part_at def row place wide =
    beside (stands_at place) def.columns row wide
    ∙ ap (option_map (λ at. get_or row at Null)) (sym (position_from-zero (stands_at place) def.columns))

place_within : (p : ColumnDef → Bool) (cols : List ColumnDef) (i : ℕ) → position p cols ≡ Some i → i < length cols
place_within p [] i e = absurd cc
place_within p (col ∷ cols) i e = (position-Some p (col ∷ cols) i col e).0

-- ---- values that are the same or are not

same_or_not : (a b : Value) → (a ≡ b) ⊎ (a ≡ b → ⊥)
same_or_not a b = by (value_cmp a b) refl where
  other : (o : Ordering) → value_cmp a b ≡ o → (o ≡ Equal → ⊥) → a ≡ b → ⊥
  other o e untied same = untied (sym e ∙ ap (λ v. value_cmp v b) same ∙ tied_itself value_total b)

  by : (o : Ordering) → value_cmp a b ≡ o → (a ≡ b) ⊎ (a ≡ b → ⊥)
  by Less e = inr (other Less e (λ tied. absurd cc))
  by Equal e = inl (value_exact a b e)
  by Greater e = inr (other Greater e (λ tied. absurd cc))

-- a column is told to have a value that the combination does not have there, or NULL
pub record Differs (told : ℕ → Option Value) (row : Row) : Type 0 where
  pub at : ℕ
  pub wanted : Value
  pub tells : told at ≡ Some wanted
  pub differs : get_or row at Null ≡ wanted → wanted ≡ Null

-- ---- the key

some_is : {A : Type 0} (a b : A) → Some a ≡ Some b → a ≡ b
some_is a b e = cc

-- the row of a table stands in a combination from this place on
abbrev pub StandsFrom : ℕ → Row → Row → Type 0
StandsFrom base row c = (at : ℕ) → at < length row → get_or c (base + at) Null ≡ get_or row at Null

pub stands_alone : (row : Row) → StandsFrom 0 row row
stands_alone row at within = ap (λ n. get_or row n Null) (zero-add at)

module _ (told : ℕ → Option Value) (base : ℕ) (def : TableDef) where
  abbrev part : ℕ → Option (List Value)
  part = sought_part told base def

  at_most_one : (place : ℕ) (us : List Value) → part place ≡ Some us → length us ≤ 1
  at_most_one place us e = by (position (stands_at place) def.columns) e where
    one : (o : Option Value) → option_map single o ≡ Some us → length us ≤ 1
    one None h = absurd cc
    one (Some v) h = let l = ap length (some_is (single v) us h) in omega (arith, l)

    by : (o : Option ℕ) → option_map_or (λ at. option_map single (told (base + at))) o (Some []) ≡ Some us → length us ≤ 1
    by None h = let l = ap length (some_is [] us h) in omega (arith, l)
    by (Some at) h = one (told (base + at)) h

  -- a key has no more values than there are places
  pub few : (places : List ℕ) (vs : List Value) → gather part places ≡ Some vs → length vs ≤ length places
  few [] vs e = let l = ap length (some_is [] vs e) in omega (arith, l)
  few (p ∷ ps) vs e =
      let j = parted (part p) (gather part ps) vs e in
      let one = at_most_one p j.0 j.2 in
      let rest = few ps j.1 j.3 in
      let l = ap length j.4 in
      let sum = length-append j.0 j.1 in
      omega (arith, one, rest, l, sum)

  module _ (row c : Row) (wide : length row ≡ length def.columns) (stands : StandsFrom base row c) where
    abbrev Meets : List ℕ → List Value → Type 0
    Meets places vs = (filter_map (key_part def row) places ≡ vs) ⊎ Differs told c

    -- one place more
    more : (place : ℕ) (ps : List ℕ) (us ws : List Value) → part place ≡ Some us → Meets ps ws → Meets (place ∷ ps) (us ++ ws)
    more place ps us ws e (inr d) = inr d
    more place ps us ws e (inl rest) = by (position (stands_at place) def.columns) refl e where
      is : (o : Option ℕ) → position (stands_at place) def.columns ≡ o
          → filter_map (key_part def row) (place ∷ ps) ≡ cons_option (option_map (λ at. get_or row at Null) o) ws
      is o h = (λ i. cons_option ((part_at def row place wide ∙ ap (option_map (λ at. get_or row at Null)) h) i) (rest i))

      there : (at : ℕ) → position (stands_at place) def.columns ≡ Some at → get_or c (base + at) Null ≡ get_or row at Null
      there at h = let within = place_within (stands_at place) def.columns at h in stands at (omega (arith, wide, within))

      one : (at : ℕ) → position (stands_at place) def.columns ≡ Some at → (o : Option Value) → told (base + at) ≡ o
          → option_map single o ≡ Some us → Meets (place ∷ ps) (us ++ ws)
      one at h None tells g = absurd cc
      one at h (Some v) tells g = elim (same_or_not (get_or row at Null) v) [
        | inl same ↦ inl (is (Some at) h ∙ ap (λ x. x ∷ ws) same ∙ ap (λ l. l ++ ws) (some_is (single v) us g))
        | inr differs ↦ inr (record { at = base + at; wanted = v; tells = tells; differs = λ e. absurd (differs (sym (there at h) ∙ e)) })
      ]

      by : (o : Option ℕ) → position (stands_at place) def.columns ≡ o
          → option_map_or (λ at. option_map single (told (base + at))) o (Some []) ≡ Some us → Meets (place ∷ ps) (us ++ ws)
      by None h g = inl (is None h ∙ ap (λ l. l ++ ws) (some_is [] us g))
      by (Some at) h g = one at h (told (base + at)) refl g

    meets : (places : List ℕ) (vs : List Value) → gather part places ≡ Some vs → Meets places vs
    meets [] vs e = inl (some_is [] vs e)
    meets (p ∷ ps) vs e =
        let j = parted (part p) (gather part ps) vs e in
        subst (Meets (p ∷ ps)) j.4 (more p ps j.0 j.1 j.2 (meets ps j.1 j.3))

    is_packed : (pk : List ℕ) (b : Bool) (vs : List Value) → cond b (Some (packed vs)) None ≡ Some pk → packed vs ≡ pk
    is_packed pk true vs h = some_is (packed vs) pk h
    is_packed pk false vs h = absurd cc

    -- a row of the table has the key that these values make, or another value than the terms want
    pub values_or_differs : (vs : List Value) (pk : List ℕ) → sought_values told base def ≡ Some vs → key_from vs ≡ Some pk
        → (key_of def row ≡ pk) ⊎ Differs told c
    unfolding key_of key_values
    values_or_differs vs pk g h = elim (meets key_places vs g) [
      | inl same ↦ inl (ap packed same ∙ is_packed pk (can_pack vs && nat_le (length (packed vs)) size_limit) vs h)
      | inr d ↦ inr d
    ]

  -- where a wanted value is NULL
  module _ (c : Row) where
    null_part : (place : ℕ) (us : List Value) → part place ≡ Some us → list_any is_null us ≡ true → Differs told c
    null_part place us e some = by (position (stands_at place) def.columns) e where
      null_is : (v : Value) → (is_null v || false) ≡ true → v ≡ Null
      null_is Null h = refl
      null_is _ h = absurd cc

      one : (at : ℕ) (o : Option Value) → told (base + at) ≡ o → option_map single o ≡ Some us → Differs told c
      one at None tells h = absurd cc
      one at (Some v) tells h =
          let is = null_is v (ap (list_any is_null) (some_is (single v) us h) ∙ some) in
          record { at = base + at; wanted = v; tells = tells; differs = λ same. is }

      by : (o : Option ℕ) → option_map_or (λ at. option_map single (told (base + at))) o (Some []) ≡ Some us → Differs told c
      by None h = absurd (let k = ap (list_any is_null) (some_is [] us h) ∙ some in cc)
      by (Some at) h = one at (told (base + at)) refl h

    pub null_differs : (places : List ℕ) (vs : List Value) → gather part places ≡ Some vs → list_any is_null vs ≡ true → Differs told c
    null_differs [] vs e some = absurd (let k = ap (list_any is_null) (some_is [] vs e) ∙ some in cc)
    null_differs (p ∷ ps) vs e some =
        let j = parted (part p) (gather part ps) vs e in
        elim (or_true (list_any is_null j.0) (list_any is_null j.1) (sym (list_any-append is_null j.0 j.1) ∙ ap (list_any is_null) j.4 ∙ some)) [
          | inl first ↦ null_part p j.0 j.2 first
          | inr rest ↦ null_differs ps j.1 j.3 rest
        ]

-- ---- joined rows

module _ (told : ℕ → Option Value) (base : ℕ) (def : TableDef) (row c : Row)
    (wide : length row ≡ length def.columns) (stands : StandsFrom base row c) (keys : List (List ℕ)) where
  abbrev Found : Type 0
  Found = (list_any (same_bytes (key_of def row)) keys ≡ true) ⊎ Differs told c

  is_own : (pk : List ℕ) → single pk ≡ keys → key_of def row ≡ pk → list_any (same_bytes (key_of def row)) keys ≡ true
  is_own pk is own = ap (list_any (same_bytes (key_of def row))) (sym is) ∙ or_left _ _ (is_same (key_of def row) pk own)

  packed_key : (vs : List Value) → sought_values told base def ≡ Some vs → (o : Option (List ℕ)) → key_from vs ≡ o
      → option_map key_or_none (option_map Some o) ≡ Some keys → Found
  packed_key vs g None k h = absurd cc
  packed_key vs g (Some pk) k h = elim (values_or_differs told base def row c wide stands vs pk g k) [
    | inl own ↦ inl (is_own pk (some_is (single pk) keys h) own)
    | inr d ↦ inr d
  ]

  values : (vs : List Value) → sought_values told base def ≡ Some vs → (n : Bool) → list_any is_null vs ≡ n
      → option_map key_or_none (cond n (Some None) (option_map Some (key_from vs))) ≡ Some keys → Found
  values vs g true some h = inr (null_differs told base def c key_places vs g some)
  values vs g false none h = packed_key vs g (key_from vs) refl h

  from_values : (o : Option (List Value)) → sought_values told base def ≡ o → option_map key_or_none (option_and_then joined_key o) ≡ Some keys → Found
  from_values None g h = absurd cc
  from_values (Some vs) g h = values vs g (list_any is_null vs) refl h

  -- a row of a table has one of the keys that are told, or another value than is told
  pub told_or_differs : keys_told told base def ≡ Some keys → Found
  told_or_differs e = from_values (sought_values told base def) refl e
