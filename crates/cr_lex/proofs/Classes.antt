-- Bytes by their classes.
use Rattle.std.proofs.Common.{◌≡◌, ◌⊎◌, inl, inr, ℕ, ◌≤◌, ◌==◌, Bool, true, false, ◌&&◌, ◌||◌, leb, IsTrue, sym, subst, arith}
use Rattle.std.specs.Char.{is_ascii_digit, is_ascii_alphabetic}
use Rattle.std.proofs.lemmas.Bool.{eqb-true, leb-true}
use Rattle.cr_lex.specs.Texts.{is_start, is_sign, is_pair}
use Rattle.cr_lex.proofs.Parts.{told, both, either, contradiction}

-- each sign
pub sign_is : (P : ℕ → Type 0) → P 40 → P 41 → P 44 → P 59 → P 46 → P 42 → P 43 → P 45 → P 47 → P 37 → P 60 → P 62 → P 61 → (c : ℕ) → IsTrue (is_sign c) → P c
sign_is P p0 p1 p2 p3 p4 p5 p6 p7 p8 p9 p10 p11 p12 c e =
    elim (either (c == 40) (c == 41 || (c == 44 || (c == 59 || (c == 46 || (c == 42 || (c == 43 || (c == 45 || (c == 47 || (c == 37 || (c == 60 || (c == 62 || (c == 61)))))))))))) e) [ inl h ↦ subst P (sym (eqb-true c 40 h)) p0 | inr h0 ↦ elim (either (c == 41) (c == 44 || (c == 59 || (c == 46 || (c == 42 || (c == 43 || (c == 45 || (c == 47 || (c == 37 || (c == 60 || (c == 62 || (c == 61))))))))))) h0) [ inl h ↦ subst P (sym (eqb-true c 41 h)) p1 | inr h1 ↦ elim (either (c == 44) (c == 59 || (c == 46 || (c == 42 || (c == 43 || (c == 45 || (c == 47 || (c == 37 || (c == 60 || (c == 62 || (c == 61)))))))))) h1) [ inl h ↦ subst P (sym (eqb-true c 44 h)) p2 | inr h2 ↦ elim (either (c == 59) (c == 46 || (c == 42 || (c == 43 || (c == 45 || (c == 47 || (c == 37 || (c == 60 || (c == 62 || (c == 61))))))))) h2) [ inl h ↦ subst P (sym (eqb-true c 59 h)) p3 | inr h3 ↦ elim (either (c == 46) (c == 42 || (c == 43 || (c == 45 || (c == 47 || (c == 37 || (c == 60 || (c == 62 || (c == 61)))))))) h3) [ inl h ↦ subst P (sym (eqb-true c 46 h)) p4 | inr h4 ↦ elim (either (c == 42) (c == 43 || (c == 45 || (c == 47 || (c == 37 || (c == 60 || (c == 62 || (c == 61))))))) h4) [ inl h ↦ subst P (sym (eqb-true c 42 h)) p5 | inr h5 ↦ elim (either (c == 43) (c == 45 || (c == 47 || (c == 37 || (c == 60 || (c == 62 || (c == 61)))))) h5) [ inl h ↦ subst P (sym (eqb-true c 43 h)) p6 | inr h6 ↦ elim (either (c == 45) (c == 47 || (c == 37 || (c == 60 || (c == 62 || (c == 61))))) h6) [ inl h ↦ subst P (sym (eqb-true c 45 h)) p7 | inr h7 ↦ elim (either (c == 47) (c == 37 || (c == 60 || (c == 62 || (c == 61)))) h7) [ inl h ↦ subst P (sym (eqb-true c 47 h)) p8 | inr h8 ↦ elim (either (c == 37) (c == 60 || (c == 62 || (c == 61))) h8) [ inl h ↦ subst P (sym (eqb-true c 37 h)) p9 | inr h9 ↦ elim (either (c == 60) (c == 62 || (c == 61)) h9) [ inl h ↦ subst P (sym (eqb-true c 60 h)) p10 | inr h10 ↦ elim (either (c == 62) (c == 61) h10) [ inl h ↦ subst P (sym (eqb-true c 62 h)) p11 | inr h11 ↦ subst P (sym (eqb-true c 61 h11)) p12 ] ] ] ] ] ] ] ] ] ] ] ]

-- each sign of two
pub pair_is : (P : ℕ → ℕ → Type 0) → P 60 61 → P 62 61 → P 60 62 → P 33 61 → P 61 61 → P 124 124 → (a b : ℕ) → IsTrue (is_pair a b) → P a b
pair_is P p0 p1 p2 p3 p4 p5 a b e =
    elim (either (a == 60 && b == 61) ((a == 62 && b == 61) || ((a == 60 && b == 62) || ((a == 33 && b == 61) || ((a == 61 && b == 61) || (a == 124 && b == 124))))) e) [ inl h ↦ is 60 61 p0 h | inr h0 ↦ elim (either (a == 62 && b == 61) ((a == 60 && b == 62) || ((a == 33 && b == 61) || ((a == 61 && b == 61) || (a == 124 && b == 124)))) h0) [ inl h ↦ is 62 61 p1 h | inr h1 ↦ elim (either (a == 60 && b == 62) ((a == 33 && b == 61) || ((a == 61 && b == 61) || (a == 124 && b == 124))) h1) [ inl h ↦ is 60 62 p2 h | inr h2 ↦ elim (either (a == 33 && b == 61) ((a == 61 && b == 61) || (a == 124 && b == 124)) h2) [ inl h ↦ is 33 61 p3 h | inr h3 ↦ elim (either (a == 61 && b == 61) (a == 124 && b == 124) h3) [ inl h ↦ is 61 61 p4 h | inr h4 ↦ is 124 124 p5 h4 ] ] ] ] ]
  where
    is : (x y : ℕ) → P x y → (a == x && b == y) ≡ true → P a b
    is x y p h = let t = both (a == x) (b == y) h in subst (λ (d : ℕ). P d b) (sym (eqb-true a x t.0)) (subst (P x) (sym (eqb-true b y t.1)) p)

pub between : (lo hi c : ℕ) → (leb lo c && leb c hi) ≡ true → (lo ≤ c) × (c ≤ hi)
between lo hi c e = let t = both (leb lo c) (leb c hi) e in (leb-true lo c t.0, leb-true c hi t.1)

pub start_no_digit : (c : ℕ) → is_start c ≡ true → is_ascii_digit c ≡ false
start_no_digit c e = elim (told (is_ascii_digit c)) [
  | inl digit ↦ absurd (never (between 48 57 c digit) (either (is_ascii_alphabetic c) (c == 95 || leb 128 c) e))
  | inr other ↦ other
]
  where
    never : (48 ≤ c) × (c ≤ 57) → (is_ascii_alphabetic c ≡ true) ⊎ ((c == 95 || leb 128 c) ≡ true) → ⊥
    never d (inl letter) = elim (either (leb 65 c && leb c 90) (leb 97 c && leb c 122) letter) [
      | inl upper ↦ omega (arith, between 65 90 c upper, d)
      | inr lower ↦ omega (arith, between 97 122 c lower, d)
    ]
    never d (inr h) = elim (either (c == 95) (leb 128 c) h) [
      | inl line ↦ (let is : c ≡ 95 = eqb-true c 95 line in omega (arith, is, d))
      | inr far ↦ (let is : 128 ≤ c = leb-true 128 c far in omega (arith, is, d))
    ]

-- a byte of no class is none of its bytes
pub not_one_of : (p : ℕ → Bool) (c d : ℕ) → p c ≡ false → p d ≡ true → (c == d) ≡ false
not_one_of p c d e f = elim (told (c == d)) [
  | inl same ↦ contradiction (p c) (subst (λ (x : ℕ). p x ≡ true) (sym (eqb-true c d same)) f) e
  | inr other ↦ other
]
