-- Parts at the front of a text.
use Rattle.std.proofs.Common.{◌≡◌, ◌⊎◌, inl, inr, ℕ, ◌+◌, ◌==◌, Bool, true, false, cond, ◌&&◌, ◌||◌, List, [], ◌∷◌, ◌++◌, length, take, drop, refl, ap, ◌∙◌, arith}
use Rattle.std.specs.List.{prefix_len, list_all}
use Rattle.std.proofs.lemmas.Bool.{eqb-true, eq-eqb}
use Rattle.cr_lex.specs.Tokens.{Each}
use Rattle.cr_lex.specs.Reading.{first_is}

-- ---- tests

pub told : (b : Bool) → (b ≡ true) ⊎ (b ≡ false)
told true = inl refl
told false = inr refl

pub both : (a b : Bool) → (a && b) ≡ true → (a ≡ true) × (b ≡ true)
both true b e = (refl, e)
both false b e = absurd cc

pub either : (a b : Bool) → (a || b) ≡ true → (a ≡ true) ⊎ (b ≡ true)
either true b e = inl refl
either false b e = inr e

pub contradiction : {A : Type 0} (b : Bool) → b ≡ true → b ≡ false → A
contradiction b e f = absurd cc

pub other_than : (p : ℕ → Bool) (c d : ℕ) → p c ≡ true → p d ≡ false → (c == d) ≡ false
other_than p c d e f = elim (told (c == d)) [
  | inl same ↦ contradiction (p c) e (ap p (eqb-true c d same) ∙ f)
  | inr other ↦ other
]

pub same : (c : ℕ) → (c == c) ≡ true
same c = eq-eqb c c refl

pub by_cases : {A : Type 0} (P : A → Type 0) (b : Bool) (x y : A) → (b ≡ true → P x) → (b ≡ false → P y) → P (cond b x y)
by_cases P true x y f g = f refl
by_cases P false x y f g = g refl

-- ---- runs

-- a part at the front whose bytes pass, as long as it can be
pub record Run (p : ℕ → Bool) (bs : List ℕ) : Type 0 where
  pub part : List ℕ
  pub rest : List ℕ
  pub split : bs ≡ part ++ rest
  pub len : prefix_len p bs ≡ length part
  pub each : Each p part
  pub stops : first_is p rest ≡ false

pub run : (p : ℕ → Bool) (bs : List ℕ) → Run p bs
run p [] = record { part = []; rest = []; split = refl; len = refl; each = refl; stops = refl }
run p (c ∷ cs) = elim (told (p c)) [
  | inl passes ↦ (let r = run p cs in record {
    part = c ∷ r.part;
    rest = r.rest;
    split = ap (λ (t : List ℕ). c ∷ t) r.split;
    len = rw passes (omega (arith, r.len));
    each = rw passes r.each;
    stops = r.stops;
  })
  | inr stops ↦ record { part = []; rest = c ∷ cs; split = refl; len = rw stops refl; each = refl; stops = stops }
]

-- a run goes on at least as far as bytes pass
pub run_least : (p : ℕ → Bool) (w r : List ℕ) → Each p w → prefix_len p (w ++ r) ≡ length w + prefix_len p r
run_least p [] r e = omega arith
run_least p (c ∷ cs) r e =
    let parts = both (p c) (list_all p cs) e in
    let more = run_least p cs r parts.1 in
    rw parts.0 (omega (arith, more))

pub stops_at : (p : ℕ → Bool) (r : List ℕ) → first_is p r ≡ false → prefix_len p r ≡ 0
stops_at p [] e = refl
stops_at p (c ∷ cs) e = rw e refl

pub run_exact : (p : ℕ → Bool) (w r : List ℕ) → Each p w → first_is p r ≡ false → prefix_len p (w ++ r) ≡ length w
run_exact p w r e s = omega (arith, run_least p w r e, stops_at p r s)

pub drop_front : (w r : List ℕ) → drop (length w) (w ++ r) ≡ r
drop_front [] r = refl
drop_front (c ∷ cs) r = drop_front cs r

pub take_front : (w r : List ℕ) → take (length w) (w ++ r) ≡ w
take_front [] r = refl
take_front (c ∷ cs) r = ap (λ (t : List ℕ). c ∷ t) (take_front cs r)
