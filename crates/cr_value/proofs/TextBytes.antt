-- A text in UTF-8 is a list of bytes.
use Rattle.std.proofs.Common.{◌≡◌, inl, inr, ℕ, zero, suc, ◌+◌, ◌/◌, ◌%◌, ◌<◌, Bool, true, false, ◌&&◌, List, [], ◌∷◌, ◌++◌, refl, subst, arith}
use Rattle.std.specs.List.{AllByRecursion}
use Rattle.std.specs.Str.{IsUtf8}
use Rattle.std.proofs.lemmas.Bool.{cases_lt, lt-ltb, le-ltb}
use lib.Utf8.{encode, encodes, scalar, scalars, scalar_cases}
use Rattle.cr_value.specs.Packing.{IsBytes}

all_bytes : (xs : List ℕ) → AllByRecursion (λ b. b < 256) xs → IsBytes xs
all_bytes [] h i = omega arith
all_bytes (x ∷ xs) h zero = h.0
all_bytes (x ∷ xs) h (suc i) = all_bytes xs h.1 i

joined : (xs ys : List ℕ) → AllByRecursion (λ b. b < 256) xs → AllByRecursion (λ b. b < 256) ys → AllByRecursion (λ b. b < 256) (xs ++ ys)
joined [] ys h k = k
joined (x ∷ xs) ys h k = (h.0, joined xs ys h.1 k)

below : (c : ℕ) → scalar c ≡ true → c < 1114112
below c e = elim (scalar_cases c e) [ inl low ↦ omega arith | inr high ↦ omega arith ]

next_byte : (n : ℕ) → 128 + n % 64 < 256
next_byte n = omega arith

char_bytes : (c : ℕ) → c < 1114112 → AllByRecursion (λ b. b < 256) (encode c)
unfolding encode
char_bytes c lt =
    elim (cases_lt c 128) [
      | inl one ↦ rw (lt-ltb c 128 one) (omega arith, tt)
      | inr not_one ↦ elim (cases_lt c 2048) [
        | inl two ↦ rw (le-ltb c 128 not_one, lt-ltb c 2048 two) (omega arith, (next_byte c, tt))
        | inr not_two ↦ elim (cases_lt c 65536) [
          | inl three ↦ rw (le-ltb c 128 not_one, le-ltb c 2048 not_two, lt-ltb c 65536 three) (omega arith, (next_byte (c / 64), (next_byte c, tt)))
          | inr four ↦ rw (le-ltb c 128 not_one, le-ltb c 2048 not_two, le-ltb c 65536 four) (omega arith, (next_byte (c / 4096), (next_byte (c / 64), (next_byte c, tt))))
        ]
      ]
    ]

both : (a b : Bool) → (a && b) ≡ true → (a ≡ true) × (b ≡ true)
both true b e = (refl, e)
both false b e = absurd cc

text_bytes : (cs : List ℕ) → scalars cs ≡ true → AllByRecursion (λ b. b < 256) (encodes cs)
text_bytes [] e = tt
text_bytes (c ∷ cs) e = let p = both (scalar c) (scalars cs) e in joined (encode c) (encodes cs) (char_bytes c (below c p.0)) (text_bytes cs p.1)

pub IsBytes-utf8 : (t : List ℕ) → IsUtf8 t → IsBytes t
IsBytes-utf8 t u = subst IsBytes u.1.1 (all_bytes (encodes u.0) (text_bytes u.0 u.1.0))
