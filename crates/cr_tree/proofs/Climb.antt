-- The equations of climbing, by the symbol that comes next.
use Rattle.std.proofs.Common.{◌≡◌, ℕ, zero, suc, ◌≤◌, ◌<◌, if◌then◌else◌, nat_lt, nat_le, List, [], ◌∷◌, Some, refl, sym, ◌∙◌, ap, subst, arith}
use Rattle.std.proofs.lemmas.Bool.{le-leb, lt-ltb, leb-true, ltb-true}
use Rattle.cr_tree.specs.declared.limits.Limits.{Limits}
use Rattle.cr_tree.specs.declared.symbol.Symbol.{Symbol}
use Rattle.cr_tree.specs.Reading.{Outcome, Reads, Fails, Deep, Rules, Sized, and_then, head, binding, tail_by, tail, climb}
use Rattle.cr_tree.proofs.Forms.{by_test, if_true}
use Rattle.cr_tree.proofs.Phrases.{next_binding}

pub some_inj : {A : Type 0} {x y : A} → Some x ≡ Some y → x ≡ y
some_inj e = cc

module _ (lim : Limits) (rules : Rules) where
  -- whether it goes on
  unless : {A : Type 0} (least b most : ℕ) (x y : Outcome A) → least ≤ b → b ≤ most → (if nat_le least b then if nat_le b most then x else y else y) ≡ x
  unless least b most x y h i = if_true (nat_le least b) (if nat_le b most then x else y) y (le-leb least b h) ∙ if_true (nat_le b most) x y (le-leb b most i)

  not_loose : {A : Type 0} (least b most : ℕ) (x y : Outcome A) → b < least → (if nat_le least b then if nat_le b most then x else y else y) ≡ y
  not_loose least b most x y h = by_test (λ z. z ≡ y) (nat_le least b) (if nat_le b most then x else y) y (λ t. absurd (omega (arith, h, leb-true least b t))) (λ t. refl)

  not_tight : {A : Type 0} (least b most : ℕ) (x y : Outcome A) → most < b → (if nat_le least b then if nat_le b most then x else y else y) ≡ y
  not_tight least b most x y h = by_test (λ z. z ≡ y) (nat_le least b) (if nat_le b most then x else y) y
      (λ t. by_test (λ z. z ≡ y) (nat_le b most) x y (λ u. absurd (omega (arith, h, leb-true b most u))) (λ u. refl)) (λ t. refl)

  -- at the end, and before what doesn't bind so tightly
  pub climb_loose : (n least most : ℕ) (left : Sized) (ts : List Symbol) → next_binding ts < least → climb lim rules n least most left ts ≡ Reads left ts
  unfolding climb
  climb_loose zero least most left [] h = refl
  climb_loose (suc n) least most left [] h = refl
  climb_loose zero least most left (t ∷ ts) h = not_loose least (binding t) most (Fails Deep (t ∷ ts)) (Reads left (t ∷ ts)) h
  climb_loose (suc n) least most left (t ∷ ts) h = not_loose least (binding t) most (if nat_lt left.1 lim.room then and_then (tail lim rules left (t ∷ ts)) (climb lim rules n least (binding t)) else Fails Deep (t ∷ ts)) (Reads left (t ∷ ts)) h

  -- before what binds too tightly
  pub climb_tight : (n least most : ℕ) (left : Sized) (ts : List Symbol) → most < next_binding ts → climb lim rules n least most left ts ≡ Reads left ts
  unfolding climb
  climb_tight zero least most left [] h = refl
  climb_tight (suc n) least most left [] h = refl
  climb_tight zero least most left (t ∷ ts) h = not_tight least (binding t) most (Fails Deep (t ∷ ts)) (Reads left (t ∷ ts)) h
  climb_tight (suc n) least most left (t ∷ ts) h = not_tight least (binding t) most (if nat_lt left.1 lim.room then and_then (tail lim rules left (t ∷ ts)) (climb lim rules n least (binding t)) else Fails Deep (t ∷ ts)) (Reads left (t ∷ ts)) h

  pub climb_on : (n least most : ℕ) (left : Sized) (t : Symbol) (ts : List Symbol) → least ≤ binding t → binding t ≤ most
      → climb lim rules (suc n) least most left (t ∷ ts) ≡ (if nat_lt left.1 lim.room then and_then (tail lim rules left (t ∷ ts)) (climb lim rules n least (binding t)) else Fails Deep (t ∷ ts))
  unfolding climb
  climb_on n least most left t ts h i = unless least (binding t) most (if nat_lt left.1 lim.room then and_then (tail lim rules left (t ∷ ts)) (climb lim rules n least (binding t)) else Fails Deep (t ∷ ts)) (Reads left (t ∷ ts)) h i

  pub climb_out : (least most : ℕ) (left : Sized) (t : Symbol) (ts : List Symbol) → least ≤ binding t → binding t ≤ most → climb lim rules zero least most left (t ∷ ts) ≡ Fails Deep (t ∷ ts)
  unfolding climb
  climb_out least most left t ts h i = unless least (binding t) most (Fails Deep (t ∷ ts)) (Reads left (t ∷ ts)) h i

  tail_at : (left : Sized) (t : Symbol) (ts : List Symbol) → tail lim rules left (t ∷ ts) ≡ tail_by lim rules left t (t ∷ ts)
  unfolding tail
  tail_at left t ts = refl

  -- ---- by the symbol that was looked at

  pub turn_loose : (n least most : ℕ) (left : Sized) (t : Symbol) (ts : List Symbol) → head ts ≡ Some t → binding t < least → climb lim rules n least most left ts ≡ Reads left ts
  turn_loose n least most left t [] i h = absurd (cc)
  turn_loose n least most left t (u ∷ ts) i h = climb_loose n least most left (u ∷ ts) (subst (λ z. binding z < least) (sym (some_inj i)) h)

  pub turn_tight : (n least most : ℕ) (left : Sized) (t : Symbol) (ts : List Symbol) → head ts ≡ Some t → most < binding t → climb lim rules n least most left ts ≡ Reads left ts
  turn_tight n least most left t [] i h = absurd (cc)
  turn_tight n least most left t (u ∷ ts) i h = climb_tight n least most left (u ∷ ts) (subst (λ z. most < binding z) (sym (some_inj i)) h)

  turn_at : (n m least most : ℕ) (left : Sized) (t : Symbol) (ts : List Symbol) → n ≡ suc m → least ≤ binding t → binding t ≤ most
      → climb lim rules n least most left (t ∷ ts) ≡ (if nat_lt left.1 lim.room then and_then (tail lim rules left (t ∷ ts)) (climb lim rules m least (binding t)) else Fails Deep (t ∷ ts))
  turn_at n m least most left t ts i h j = ap (λ n. climb lim rules n least most left (t ∷ ts)) i ∙ climb_on m least most left t ts h j

  pub turn_deep : (n m least most : ℕ) (left : Sized) (t : Symbol) (ts : List Symbol) → n ≡ suc m → head ts ≡ Some t → least ≤ binding t → binding t ≤ most → lim.room ≤ left.1 → climb lim rules n least most left ts ≡ Fails Deep ts
  turn_deep n m least most left t [] e i h j r = absurd (cc)
  turn_deep n m least most left t (u ∷ ts) e i h j r = turn_at n m least most left u ts e (subst (λ z. least ≤ binding z) (sym (some_inj i)) h) (subst (λ z. binding z ≤ most) (sym (some_inj i)) j)
      ∙ by_test (λ z. z ≡ Fails Deep (u ∷ ts)) (nat_lt left.1 lim.room) (and_then (tail lim rules left (u ∷ ts)) (climb lim rules m least (binding u))) (Fails Deep (u ∷ ts)) (λ t. absurd (omega (arith, r, ltb-true left.1 lim.room t))) (λ t. refl)

  pub turn_on : (n m least most : ℕ) (left : Sized) (t : Symbol) (ts : List Symbol) → n ≡ suc m → head ts ≡ Some t → least ≤ binding t → binding t ≤ most → left.1 < lim.room
      → climb lim rules n least most left ts ≡ and_then (tail_by lim rules left t ts) (climb lim rules m least (binding t))
  turn_on n m least most left t [] e i h j r = absurd (cc)
  turn_on n m least most left t (u ∷ ts) e i h j r = let same : t ≡ u = sym (some_inj i) in
      subst (λ z. climb lim rules n least most left (u ∷ ts) ≡ and_then (tail_by lim rules left z (u ∷ ts)) (climb lim rules m least (binding z))) (sym same)
      (turn_at n m least most left u ts e (subst (λ z. least ≤ binding z) same h) (subst (λ z. binding z ≤ most) same j)
      ∙ (if_true (nat_lt left.1 lim.room) (and_then (tail lim rules left (u ∷ ts)) (climb lim rules m least (binding u))) (Fails Deep (u ∷ ts)) (lt-ltb left.1 lim.room r)
      ∙ ap (λ o. and_then o (climb lim rules m least (binding u))) (tail_at left u ts)))
