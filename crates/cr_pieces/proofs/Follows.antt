-- What may stand behind a token, and what begins no blank.
use Rattle.std.proofs.Common.{◌≡◌, inl, inr, ℕ, Bool, true, false, cond, not, ◌&&◌, ◌||◌, ◌==◌, List, [], ◌∷◌, refl, sym, subst}
use Rattle.std.proofs.lemmas.Bool.{eqb-true}
use Rattle.cr_lex.specs.Texts.{is_blank}
use Rattle.cr_lex.specs.Reading.{first_is, blank_len}
use Rattle.cr_lex.proofs.Parts.{either}
use Rattle.cr_pieces.specs.Pieces.{may_follow}

pub neither : (a b : Bool) → (a || b) ≡ false → (a ≡ false) × (b ≡ false)
neither true b e = absurd cc
neither false b e = (refl, e)

pub not_true : (b : Bool) → not b ≡ true → b ≡ false
not_true true e = absurd cc
not_true false e = refl

pub passed_over : {A : Type 0} (x y : Bool) (a b : A) → y ≡ false → cond (x && y) a b ≡ b
passed_over true y a b e = rw e refl
passed_over false y a b e = refl

-- a byte that may follow passes, as a space does
pub passes : (next : ℕ → Bool) (c : ℕ) → next 32 ≡ true → (c == 32 || next c) ≡ true → next c ≡ true
passes next c space e = elim (either (c == 32) (next c) e) [
  | inl is ↦ subst (λ (d : ℕ). next d ≡ true) (sym (eqb-true c 32 is)) space
  | inr other ↦ other
]

-- no byte of a class follows
pub stops : (class : ℕ → Bool) (rest : List ℕ) → class 32 ≡ false → may_follow (λ c. not (class c)) rest ≡ true → first_is class rest ≡ false
stops class [] space e = refl
stops class (c ∷ cs) space e = not_true (class c) (passes (λ (d : ℕ). not (class d)) c (rw space refl) e)

-- neither a blank, `-` nor `/`
abbrev pub begins_blank : ℕ → Bool
begins_blank c = is_blank c || (c == 45 || c == 47)

pub no_blank_at : (c : ℕ) (cs : List ℕ) → begins_blank c ≡ false → blank_len (c ∷ cs) ≡ 0
unfolding blank_len
no_blank_at c [] e = let t = neither (is_blank c) (c == 45 || c == 47) e in rw t.0 refl
no_blank_at c (d ∷ cs) e =
    let t = neither (is_blank c) (c == 45 || c == 47) e in
    let u = neither (c == 45) (c == 47) t.1 in
    rw (u.0, u.1, t.0) refl

-- where each byte may follow, all may
pub all_follow : (next : ℕ → Bool) → ((c : ℕ) → next c ≡ true) → (rest : List ℕ) → may_follow next rest ≡ true
all_follow next each [] = refl
all_follow next each (c ∷ cs) = rw (each c) (or_true (c == 32))
  where
    or_true : (b : Bool) → (b || true) ≡ true
    or_true true = refl
    or_true false = refl
