-- The key that values are packed as, and the values of its places.
use Rattle.std.proofs.Common.{◌≡◌, ℕ, ◌+◌, ◌-◌, ◌≤◌, ◌<◌, suc, Bool, true, false, not, cond, ◌&&◌, nat_lt, List, [], ◌∷◌, ◌++◌, length, drop, get_or, Option, Some, None, refl, sym, ap, subst, ◌∙◌, append_assoc, arith}
use Rattle.std.specs.Prelude.{nat_le}
use Rattle.std.specs.List.{list_any, position, AllByRecursion}
use Rattle.std.specs.Option.{option_map, option_map_or}
use Rattle.std.proofs.Math.Seq.{drop-cons}
use Rattle.std.proofs.lemmas.Bool.{ltb-true, le-leb, lt-leb}
use Rattle.cr_value.specs.declared.value.Value.{Value}
use Rattle.cr_value.specs.declared.value.Value.TheVariants.{Null, Int, Text, Blob}
use Rattle.cr_value.specs.Packing.{CanPack, IsNotNull, Packed, packed, size_limit}
use Rattle.cr_lattice.specs.declared.table.TableDef.{TableDef}
use Rattle.cr_lattice.specs.Check.{stands_at}
use Rattle.cr_lattice.proofs.Tested.{and_true, not_true, or_false}
use Rattle.cr_delta.specs.Key.{key_places}
use Rattle.cr_delta.proofs.KeyCells.{place_at}
use Rattle.cr_scalar.specs.Numbers.{is_null}
use Rattle.cr_bags.specs.Bags.{gather, joins, single}
use Rattle.cr_sought.specs.Sought.{can_pack, key_from, sought_part}

-- ---- packing

none_null : (vs : List Value) → list_any is_null vs ≡ false → AllByRecursion IsNotNull vs
none_null [] e = tt
none_null (v ∷ vs) e = let o = or_false (is_null v) (list_any is_null vs) e in (one v o.0, none_null vs o.1) where
  one : (v : Value) → is_null v ≡ false → IsNotNull v
  one Null e = absurd cc
  one (Int n) e = tt
  one (Text t) e = tt
  one (Blob b) e = tt

pub packs : (vs : List Value) → length vs ≤ 8 → can_pack vs ≡ true → CanPack vs
packs vs few can =
    let c = and_true (nat_lt 0 (length vs)) (not (list_any is_null vs)) can in
    record { some = ltb-true 0 (length vs) c.0; few = few; no_null = none_null vs (not_true (list_any is_null vs) c.1) }

pub none_of : (vs : List Value) → can_pack vs ≡ false → None ≡ key_from vs
none_of vs cannot = rw cannot refl

pub none_over : (vs : List Value) → size_limit < length (packed vs) → None ≡ key_from vs
none_over vs over = by (can_pack vs) where
  large : nat_le (length (packed vs)) size_limit ≡ false
  large = lt-leb (length (packed vs)) size_limit over

  by : (b : Bool) → None ≡ cond (b && nat_le (length (packed vs)) size_limit) (Some (packed vs)) None
  by true = rw large refl
  by false = refl

pub key_is : (vs : List Value) (bytes : List ℕ) → can_pack vs ≡ true → Packed vs bytes → Some bytes ≡ key_from vs
key_is vs bytes can p =
    let fits = subst (λ bs. length bs ≤ size_limit) p.spelled p.size in
    let small : nat_le (length (packed vs)) size_limit ≡ true = le-leb (length (packed vs)) size_limit fits in
    rw (can, small) (ap Some p.spelled)

-- ---- the values of the places that are left

pub left_at : (place : ℕ) → 1 ≤ place → place < 9 → drop (place - 1) key_places ≡ place ∷ drop (place + 1 - 1) key_places
left_at place low high =
    let here : get_or key_places (place - 1) 0 ≡ place = place_at (place - 1) (omega (arith, low, high)) ∙ omega (arith, low) in
    let next : suc (place - 1) ≡ place + 1 - 1 = omega (arith, low) in
    drop-cons key_places (place - 1) 0 (omega (arith, low, high)) ∙ (λ i. here i ∷ drop (next i) key_places)

pub joins_first : {X : Type 0} (o : Option (List X)) → joins (Some []) o ≡ o
joins_first None = refl
joins_first (Some xs) = refl

joins_one : {X : Type 0} (xs : List X) (x : X) (o : Option (List X))
    → joins (Some (xs ++ x ∷ [])) o ≡ joins (Some xs) (joins (Some (single x)) o)
joins_one xs x None = refl
joins_one xs x (Some ys) = ap (λ l. Some l) (append_assoc xs (single x) ys)

module _ (told : ℕ → Option Value) (base : ℕ) (def : TableDef) (place : ℕ) (low : 1 ≤ place) (high : place < 9) (vs : List Value) where
  abbrev part : ℕ → Option (List Value)
  part = sought_part told base def

  abbrev column : Option ℕ
  column = position (stands_at place) def.columns

  -- the values so far, with what is gathered of this place and the others, or of the others
  abbrev before : Option (List Value)
  before = joins (Some vs) (gather part (drop (place - 1) key_places))

  abbrev others : Option (List Value)
  others = gather part (drop (place + 1 - 1) key_places)

  here : (o : Option (List Value)) → part place ≡ o → before ≡ joins (Some vs) (joins o others)
  here o e = ap (λ ps. joins (Some vs) (gather part ps)) (left_at place low high) ∙ ap (λ p. joins (Some vs) (joins p others)) e

  abbrev told_at : Option ℕ → Option (List Value)
  told_at o = option_map_or (λ at. option_map single (told (base + at))) o (Some [])

  pub no_column : column ≡ None → joins (Some vs) others ≡ before
  no_column e = ap (joins (Some vs)) (sym (joins_first others)) ∙ sym (here (Some []) (ap told_at e))

  pub no_value : (at : ℕ) → column ≡ Some at → told (base + at) ≡ None → None ≡ before
  no_value at e none = sym (here None (ap told_at e ∙ ap (option_map single) none))

  pub one_value : (at : ℕ) (v : Value) → column ≡ Some at → told (base + at) ≡ Some v → joins (Some (vs ++ v ∷ [])) others ≡ before
  one_value at v e some = joins_one vs v others ∙ sym (here (Some (single v)) (ap told_at e ∙ ap (option_map single) some))
