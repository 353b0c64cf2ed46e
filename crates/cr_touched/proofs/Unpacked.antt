-- What the values of a key are like, whatever numbers it is made of.
use Rattle.std.proofs.Common.{◌≡◌, inl, inr, ℕ, zero, suc, ◌≤◌, cond, ◌&&◌, eqb, leb, List, [], ◌∷◌, length, Some, None, refl, ap, subst, arith}
use Rattle.std.specs.List.{AllByRecursion}
use Rattle.std.specs.Int.{w64, cast_signed}
use Rattle.std.specs.Str.{is_utf8}
use Rattle.std.proofs.lemmas.Bool.{leb-true}
use Rattle.cr_value.specs.declared.value.Value.{Value}
use Rattle.cr_value.specs.declared.value.Value.TheVariants.{Int, Text, Blob}
use Rattle.cr_value.specs.Packing.{IsNotNull, size_limit}
use Rattle.cr_value.specs.Unpacking.{◌>>=◌, number_at, sized_at, int_at, text_at, blob_at, value_at, values_at, unpacked}
use Rattle.cr_value.proofs.Fields.{some_is, bind_some, provided, chosen}
use Rattle.cr_lattice.proofs.Tested.{and_true}

abbrev Read : Type 0
Read = Value × List ℕ

read_is : (made r : Read) → Some made ≡ Some r → IsNotNull made.0 → IsNotNull r.0
read_is made r e n = subst (λ (x : Read). IsNotNull x.0) (some_is made r e) n

int_read : (bytes : List ℕ) (r : Read) → int_at bytes ≡ Some r → IsNotNull r.0
unfolding int_at
int_read bytes r e =
    let b = bind_some (number_at w64 bytes) (λ n. Some (Int (cast_signed w64 n.0), n.1)) r e in
    read_is (Int (cast_signed w64 b.0.0), b.0.1) r b.2 tt

text_read : (bytes : List ℕ) (r : Read) → text_at bytes ≡ Some r → IsNotNull r.0
unfolding text_at
text_read bytes r e =
    let b = bind_some (sized_at bytes) (λ t. cond (is_utf8 t.0) (Some (Text t.0, t.1)) None) r e in
    read_is (Text b.0.0, b.0.1) r (provided (is_utf8 b.0.0) (Some (Text b.0.0, b.0.1)) r b.2).1 tt

blob_read : (bytes : List ℕ) (r : Read) → blob_at bytes ≡ Some r → IsNotNull r.0
unfolding blob_at
blob_read bytes r e =
    let b = bind_some (sized_at bytes) (λ t. Some (Blob t.0, t.1)) r e in
    read_is (Blob b.0.0, b.0.1) r b.2 tt

value_read : (bytes : List ℕ) (r : Read) → value_at bytes ≡ Some r → IsNotNull r.0
unfolding value_at
value_read [] r e = absurd cc
value_read (tag ∷ bytes) r e =
    elim (chosen (eqb tag 1) (int_at bytes) _ _ e) [
      | inl one ↦ int_read bytes r one.1
      | inr other ↦ elim (chosen (eqb tag 3) (text_at bytes) _ _ other.1) [
        | inl three ↦ text_read bytes r three.1
        | inr rest ↦ blob_read bytes r (provided (eqb tag 4) (blob_at bytes) r rest.1).1
      ]
    ]

-- as many values as were asked for, and none is NULL
record Values (n : ℕ) (vs : List Value) : Type 0 where
  count : length vs ≡ n
  no_null : AllByRecursion IsNotNull vs

values_read : (n : ℕ) (bytes : List ℕ) (r : List Value × List ℕ) → values_at n bytes ≡ Some r → Values n r.0
unfolding values_at
values_read zero bytes r e = subst (λ (x : List Value × List ℕ). Values 0 x.0) (some_is ([], bytes) r e) (record { count = refl; no_null = tt })
values_read (suc n) bytes r e =
    let a = bind_some (value_at bytes) (λ first. values_at n first.1 >>= λ others. Some (first.0 ∷ others.0, others.1)) r e in
    let b = bind_some (values_at n a.0.1) (λ others. Some (a.0.0 ∷ others.0, others.1)) r a.2 in
    let rest = values_read n a.0.1 b.0 b.1 in
    subst (λ (x : List Value × List ℕ). Values (suc n) x.0) (some_is (a.0.0 ∷ b.0.0, b.0.1) r b.2)
    (record { count = ap suc rest.count; no_null = (value_read bytes a.0 a.1, rest.no_null) })

-- few values, none of them NULL, of a key within its limit
pub record Unpacked (pk : List ℕ) (vs : List Value) : Type 0 where
  pub few : length vs ≤ 8
  pub no_null : AllByRecursion IsNotNull vs
  pub size : length pk ≤ size_limit

pub unpacked_is : (pk : List ℕ) (vs : List Value) → unpacked pk ≡ Some vs → Unpacked pk vs
unfolding unpacked
unpacked_is [] vs e = absurd cc
unpacked_is (count ∷ bytes) vs e =
    let p = provided (leb (length bytes) 999999 && (leb 1 count && leb count 8)) (values_at count bytes >>= λ vs. cond (eqb (length vs.1) 0) (Some vs.0) None) vs e in
    let q = and_true (leb (length bytes) 999999) (leb 1 count && leb count 8) p.0 in
    let few = leb-true count 8 (and_true (leb 1 count) (leb count 8) q.1).1 in
    let short = leb-true (length bytes) 999999 q.0 in
    let a = bind_some (values_at count bytes) (λ vs. cond (eqb (length vs.1) 0) (Some vs.0) None) vs p.1 in
    let whole = provided (eqb (length a.0.1) 0) (Some a.0.0) vs a.2 in
    let r = values_read count bytes a.0 a.1 in
    let len = r.count in
    subst (λ ws. Unpacked (count ∷ bytes) ws) (some_is a.0.0 vs whole.1)
    (record { few = omega (arith, few, len); no_null = r.no_null; size = omega (arith, short) })
