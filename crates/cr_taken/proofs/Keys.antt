-- The values of a key that is no longer than a change may carry are no longer either.
use Rattle.std.proofs.Common.{◌≡◌, ℕ, zero, suc, ◌≤◌, Bool, true, false, ◌&&◌, List, [], ◌∷◌, length, take, drop, Option, Some, None, if◌then◌else◌, nat_lt, nat_le, eqb, refl, ap, subst, arith}
use Rattle.std.specs.List.{AllByRecursion}
use Rattle.std.specs.Int.{Width, w32, w64, byte_len, from_be_bytes, cast_signed}
use Rattle.std.specs.Str.{is_utf8}
use Rattle.std.proofs.lemmas.Bool.{leb-true}
use Rattle.std.proofs.lemmas.List.{length-drop}
use Rattle.cr_value.specs.declared.value.Value.{Value}
use Rattle.cr_value.specs.declared.value.Value.TheVariants.{Int, Text, Blob}
use Rattle.cr_value.specs.Packing.{size_limit}
use Rattle.cr_value.specs.Unpacking.{◌>>=◌, number_at, sized_at, int_at, text_at, blob_at, value_at, values_at, unpacked}
use Rattle.cr_value.specs.Size.{value_len}

abbrev pub IsSmall : Value → Type 0
IsSmall v = value_len v ≤ size_limit

bind_is : {A B : Type 0} (o : Option A) (f : A → Option B) (b : B) → (o >>= f) ≡ Some b → (a : A) × (o ≡ Some a) × (f a ≡ Some b)
bind_is None f b e = absurd cc
bind_is (Some a) f b e = (a, refl, e)

some_is : {A : Type 0} (a b : A) → Some a ≡ Some b → a ≡ b
some_is a b e = cc

-- what is read where a test doesn't stop it
read_is : {A : Type 0} (b : Bool) (x y : A) → (if b then None else Some x) ≡ Some y → x ≡ y
read_is true x y e = absurd cc
read_is false x y e = some_is x y e

done_is : {A : Type 0} (b : Bool) (x y : A) → (if b then Some x else None) ≡ Some y → x ≡ y
done_is true x y e = some_is x y e
done_is false x y e = absurd cc

number_rest : (w : Width) (bytes : List ℕ) (n : ℕ × List ℕ) → number_at w bytes ≡ Some n → length n.1 ≤ length bytes
number_rest w bytes n e =
    let is = read_is (nat_lt (length bytes) (byte_len w)) (from_be_bytes w (take (byte_len w) bytes), drop (byte_len w) bytes) n e in
    let len = ap (λ (p : ℕ × List ℕ). length p.1) is in
    omega (arith, len, length-drop (byte_len w) bytes)

length_take : (n : ℕ) (xs : List ℕ) → length (take n xs) ≤ length xs
length_take zero xs = omega arith
length_take (suc n) [] = omega arith
length_take (suc n) (x ∷ xs) = let r = length_take n xs in omega (arith, r)

-- no longer than what it was read from, and so is what follows
record Reads {A : Type 0} (len : A → ℕ) (bytes : List ℕ) (r : A × List ℕ) : Type 0 where
  value : len r.0 ≤ length bytes
  rest : length r.1 ≤ length bytes

sized_reads : (bytes : List ℕ) (r : List ℕ × List ℕ) → sized_at bytes ≡ Some r → Reads length bytes r
unfolding sized_at
sized_reads bytes r e =
    let b = bind_is (number_at w32 bytes) (λ n. if nat_lt (length n.1) n.0 then None else Some (take n.0 n.1, drop n.0 n.1)) r e in
    let n = b.0 in
    let len = number_rest w32 bytes n b.1 in
    let is = read_is (nat_lt (length n.1) n.0) (take n.0 n.1, drop n.0 n.1) r b.2 in
    let first = ap (λ (p : List ℕ × List ℕ). length p.0) is in
    let second = ap (λ (p : List ℕ × List ℕ). length p.1) is in
    record { value = omega (arith, len, first, length_take n.0 n.1); rest = omega (arith, len, second, length-drop n.0 n.1) }

int_reads : (bytes : List ℕ) (r : Value × List ℕ) → int_at bytes ≡ Some r → Reads value_len bytes r
unfolding int_at
int_reads bytes r e =
    let b = bind_is (number_at w64 bytes) (λ n. Some (Int (cast_signed w64 n.0), n.1)) r e in
    let len = number_rest w64 bytes b.0 b.1 in
    let is = some_is (Int (cast_signed w64 b.0.0), b.0.1) r b.2 in
    let first = ap (λ (p : Value × List ℕ). value_len p.0) is in
    let second = ap (λ (p : Value × List ℕ). length p.1) is in
    record { value = omega (arith, first); rest = omega (arith, len, second) }

text_reads : (bytes : List ℕ) (r : Value × List ℕ) → text_at bytes ≡ Some r → Reads value_len bytes r
unfolding text_at
text_reads bytes r e =
    let b = bind_is (sized_at bytes) (λ t. if is_utf8 t.0 then Some (Text t.0, t.1) else None) r e in
    let s = sized_reads bytes b.0 b.1 in
    let is = done_is (is_utf8 b.0.0) (Text b.0.0, b.0.1) r b.2 in
    let first = ap (λ (p : Value × List ℕ). value_len p.0) is in
    let second = ap (λ (p : Value × List ℕ). length p.1) is in
    record { value = omega (arith, s.value, first); rest = omega (arith, s.rest, second) }

blob_reads : (bytes : List ℕ) (r : Value × List ℕ) → blob_at bytes ≡ Some r → Reads value_len bytes r
unfolding blob_at
blob_reads bytes r e =
    let b = bind_is (sized_at bytes) (λ t. Some (Blob t.0, t.1)) r e in
    let s = sized_reads bytes b.0 b.1 in
    let is = some_is (Blob b.0.0, b.0.1) r b.2 in
    let first = ap (λ (p : Value × List ℕ). value_len p.0) is in
    let second = ap (λ (p : Value × List ℕ). length p.1) is in
    record { value = omega (arith, s.value, first); rest = omega (arith, s.rest, second) }

chosen_reads : (bytes : List ℕ) (r : Value × List ℕ) (a b c : Bool) → (if a then int_at bytes else if b then text_at bytes else if c then blob_at bytes else None) ≡ Some r → Reads value_len bytes r
chosen_reads bytes r true b c e = int_reads bytes r e
chosen_reads bytes r false true c e = text_reads bytes r e
chosen_reads bytes r false false true e = blob_reads bytes r e
chosen_reads bytes r false false false e = absurd cc

value_reads : (bytes : List ℕ) (r : Value × List ℕ) → value_at bytes ≡ Some r → Reads value_len bytes r
unfolding value_at
value_reads [] r e = absurd cc
value_reads (tag ∷ bytes) r e =
    let q = chosen_reads bytes r (eqb tag 1) (eqb tag 3) (eqb tag 4) e in
    record { value = omega (arith, q.value); rest = omega (arith, q.rest) }

values_small : (n : ℕ) (bytes : List ℕ) (r : List Value × List ℕ) → length bytes ≤ size_limit → values_at n bytes ≡ Some r → AllByRecursion IsSmall r.0
unfolding values_at
values_small zero bytes r fits e = subst (λ (p : List Value × List ℕ). AllByRecursion IsSmall p.0) (some_is ([], bytes) r e) tt
values_small (suc n) bytes r fits e =
    let b = bind_is (value_at bytes) (λ first. values_at n first.1 >>= λ others. Some (first.0 ∷ others.0, others.1)) r e in
    let d = bind_is (values_at n b.0.1) (λ others. Some (b.0.0 ∷ others.0, others.1)) r b.2 in
    let q = value_reads bytes b.0 b.1 in
    let all = values_small n b.0.1 d.0 (omega (arith, q.rest, fits)) d.1 in
    subst (λ (p : List Value × List ℕ). AllByRecursion IsSmall p.0) (some_is (b.0.0 ∷ d.0.0, d.0.1) r d.2) (omega (arith, q.value, fits), all)

abbrev whole : List Value × List ℕ → Option (List Value)
whole vs = if eqb (length vs.1) 0 then Some vs.0 else None

pub unpacked_small : (pk : List ℕ) (vs : List Value) → unpacked pk ≡ Some vs → AllByRecursion IsSmall vs
unfolding unpacked
unpacked_small [] vs e = absurd cc
unpacked_small (count ∷ bytes) vs e = by (nat_le (length bytes) 999999) (nat_le 1 count && nat_le count 8) refl e
  where
    by : (a b : Bool) → nat_le (length bytes) 999999 ≡ a → (if a && b then (values_at count bytes >>= whole) else None) ≡ Some vs → AllByRecursion IsSmall vs
    by false b h k = absurd cc
    by true false h k = absurd cc
    by true true h k =
        let short = leb-true (length bytes) 999999 h in
        let d = bind_is (values_at count bytes) whole vs k in
        let is = done_is (eqb (length d.0.1) 0) d.0.0 vs d.2 in
        subst (AllByRecursion IsSmall) is (values_small count bytes d.0 (omega (arith, short)) d.1)
