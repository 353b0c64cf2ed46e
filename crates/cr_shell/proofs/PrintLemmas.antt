-- What a watched writer wrote, piece by piece.
use Rattle.std.proofs.Common.{◌≡◌, ◌≢◌, ◌∙◌, refl, sym, ap, subst, ℕ, Bool, true, false, List, [], ◌∷◌, ◌++◌, ◌==◌, append_assoc, append-nil, take, slice_index, ◌+◌, ◌/◌, ◌%◌, Option}
use Rattle.std.proofs.lemmas.Bool.{ne_eqb}
use Rattle.std.proofs.lemmas.Grind.{flat_map-append}
use Rattle.std.specs.List.{flat_map}
use Rattle.std.specs.Io.KnownBytes.{Appends}
use Rattle.hex.specs.Hex.{encode_with, encode_upper, upper_digits}
use Rattle.cr_value.specs.declared.value.Value.{Value}
use Rattle.cr_value.specs.Literal.{literal, doubled}
use Rattle.cr_shell.specs.Printing.{AppendsPart, Prints, behind_bars, row_line}
use Rattle.cr_shell.proofs.BytesLemmas.{appends_none, appends_more}

-- ---- parts

some_more : (x y : List ℕ) → x ≢ [] → x ++ y ≢ []
some_more [] y n = absurd (n refl)
some_more (b ∷ x) y n = λ e. (let f : b ∷ x ++ y ≡ [] = e in cc)

part_more : (a b : Option (List ℕ)) (x y : List ℕ) → AppendsPart a b x → AppendsPart a b (x ++ y)
part_more a b x y p = (p.0, p.1 ++ y, ap (λ l. l ++ y) p.2 ∙ append_assoc p.0 p.1 y, some_more p.1 y p.3, p.4)

part_after : (a b c : Option (List ℕ)) (x y : List ℕ) → Appends a b x → AppendsPart b c y → AppendsPart a c (x ++ y)
part_after a b c x y p q = (x ++ q.0, q.1, ap (λ l. x ++ l) q.2 ∙ sym (append_assoc x q.0 q.1), q.3, appends_more a b c x q.0 p q.4)

-- ---- prints

module _ {W : Type 0} (contents : W → Option (List ℕ)) where
  pub prints_none : (a : W × Bool) → Prints contents a a []
  prints_none a = record { whole = λ h. (h, appends_none (contents a.0)); part = λ h f. absurd (let e : false ≡ true = sym h ∙ f in cc); failed = λ h. refl }

  part_of_both : (a b c : W × Bool) (x y : List ℕ) → Prints contents a b x → Prints contents b c y → a.1 ≡ false → c.1 ≡ true → AppendsPart (contents a.0) (contents c.0) (x ++ y)
  part_of_both a (w, false) c x y p q h f = part_after (contents a.0) (contents w) (contents c.0) x y (p.whole refl).1 (q.part refl f)
  part_of_both a (w, true) c x y p q h f = subst (λ (d : W × Bool). AppendsPart (contents a.0) (contents d.0) (x ++ y)) (sym (q.failed refl)) (part_more (contents a.0) (contents w) x y (p.part h refl))

  pub prints_more : (a b c : W × Bool) (x y : List ℕ) → Prints contents a b x → Prints contents b c y → Prints contents a c (x ++ y)
  prints_more a b c x y p q = record {
    whole = λ h. let r = q.whole h in let s = p.whole r.0 in (s.0, appends_more (contents a.0) (contents b.0) (contents c.0) x y s.1 r.1);
    part = part_of_both a b c x y p q;
    failed = λ h. let e = p.failed h in q.failed (ap (λ (d : W × Bool). d.1) e ∙ h) ∙ e;
  }

  pub prints_next : {X : Type 0} (f : List X → List ℕ) (a b c : W × Bool) (n : ℕ) (xs : List X) (x : X) (y : List ℕ) → f (take n xs ++ x ∷ []) ≡ f (take n xs) ++ y → take (n + 1) xs ≡ take n xs ++ x ∷ []
      → Prints contents a b (f (take n xs)) → Prints contents b c y → Prints contents a c (f (take (n + 1) xs))
  prints_next f a b c n xs x y e t p q = subst (Prints contents a c) (sym (ap f t ∙ e)) (prints_more a b c (f (take n xs)) y p q)

-- ---- what is printed, item by item

pub two_digits : (b : ℕ) → encode_upper (b ∷ []) ≡ slice_index upper_digits (b / 16) ∷ slice_index upper_digits (b % 16) ∷ []
unfolding encode_with
two_digits b = refl

pub digits_more : (t xs : List ℕ) (x : ℕ) → encode_with t (xs ++ x ∷ []) ≡ encode_with t xs ++ encode_with t (x ∷ [])
unfolding encode_with
digits_more t [] x = refl
digits_more t (y ∷ ys) x = rw (digits_more t ys x) refl

pub bars_more : (vs : List Value) (v : Value) → behind_bars (vs ++ v ∷ []) ≡ behind_bars vs ++ (124 ∷ literal v)
unfolding behind_bars
bars_more [] v = (ap (λ l. 124 ∷ l) (append-nil (literal v)))
bars_more (w ∷ ws) v = (ap (λ l. 124 ∷ l) (ap (λ l. literal w ++ l) (bars_more ws v) ∙ sym (append_assoc (literal w) (behind_bars ws) (124 ∷ literal v))))

doubled_step : (b : Bool) (y : ℕ) (ys : List ℕ) (x : ℕ) → (y == 39) ≡ b → doubled (ys ++ x ∷ []) ≡ doubled ys ++ doubled (x ∷ []) → doubled (y ∷ ys ++ x ∷ []) ≡ doubled (y ∷ ys) ++ doubled (x ∷ [])
unfolding doubled
doubled_step true y ys x e h = (rw e (ap (λ l. 39 ∷ 39 ∷ l) h))
doubled_step false y ys x e h = (rw e (ap (λ l. y ∷ l) h))

pub doubled_more : (xs : List ℕ) (x : ℕ) → doubled (xs ++ x ∷ []) ≡ doubled xs ++ doubled (x ∷ [])
unfolding doubled
doubled_more [] x = refl
doubled_more (y ∷ ys) x = doubled_step (y == 39) y ys x refl (doubled_more ys x)

pub each_more : {X : Type 0} (f : X → List ℕ) (xs : List X) (x : X) → flat_map f (xs ++ x ∷ []) ≡ flat_map f xs ++ f x
each_more f xs x = flat_map-append f xs (x ∷ []) ∙ ap (λ l. flat_map f xs ++ l) (append-nil (f x))

pub bars_four : (a b c d : Value) → behind_bars (a ∷ b ∷ c ∷ d ∷ []) ≡ (124 ∷ literal a) ++ ((124 ∷ literal b) ++ ((124 ∷ literal c) ++ (124 ∷ literal d)))
unfolding behind_bars
bars_four a b c d = rw (append-nil (literal d)) refl

bars_both : (vs ws : List Value) → behind_bars (vs ++ ws) ≡ behind_bars vs ++ behind_bars ws
unfolding behind_bars
bars_both [] ws = refl
bars_both (v ∷ vs) ws = ap (λ l. 124 ∷ literal v ++ l) (bars_both vs ws) ∙ sym (append_assoc (124 ∷ literal v) (behind_bars vs) (behind_bars ws))

pub row_of_parts : (v : Value) (vs ws : List Value) → row_line (v ∷ (vs ++ ws)) ≡ (literal v ++ (behind_bars vs ++ behind_bars ws)) ++ 10 ∷ []
row_of_parts v vs ws = ap (λ l. (literal v ++ l) ++ 10 ∷ []) (bars_both vs ws)

-- nothing of nothing
pub no_digits : (t : List ℕ) → encode_with t [] ≡ []
unfolding encode_with
no_digits t = refl

pub no_bars : behind_bars [] ≡ []
unfolding behind_bars
no_bars = refl

pub no_doubled : doubled [] ≡ []
unfolding doubled
no_doubled = refl

pub doubled_quote : (c : ℕ) → c ≡ 39 → doubled (c ∷ []) ≡ 39 ∷ 39 ∷ []
unfolding doubled
doubled_quote c e = rw e refl

pub doubled_other : (c : ℕ) → (c ≡ 39 → ⊥) → doubled (c ∷ []) ≡ c ∷ []
unfolding doubled
doubled_other c n = rw (ne_eqb c 39 n) refl
