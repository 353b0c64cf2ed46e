-- One turn of a loop that reads as many as there are, and where it stops.
use Rattle.std.proofs.Common.{◌≡◌, ℕ, zero, suc, Bool, true, false, List, [], ◌∷◌, refl, sym, ap, ◌∙◌}
use Rattle.cr_tree.specs.declared.limits.LimitKind.{LimitKind}
use Rattle.cr_tree.specs.declared.symbol.Mark.{Mark}
use Rattle.cr_tree.specs.declared.symbol.Symbol.{Symbol}
use Rattle.cr_tree.specs.Marks.{is_mark}
use Rattle.cr_tree.specs.Reading.{Reads, Fails, Syntax, Limit, Parser, and_then, many_from, up_to, sees, sees_name, is_name, name, listed, expect, behind, rest_of}
use Rattle.cr_tree.proofs.Forms.{if_true, if_false}
use Rattle.cr_tree.proofs.Repeats.{begins_next, up_turn, up_stop, up_out}

module _ {A S : Type 0} (b : Symbol → Bool) (item : Parser A) (add : S → A → S) where
  pub many_stops : (n : ℕ) (a : S) (ts : List Symbol) → begins_next b ts ≡ false → many_from b item add n a ts ≡ Reads a ts
  unfolding many_from
  many_stops zero a ts h = refl
  many_stops (suc n) a [] h = refl
  many_stops (suc n) a (t ∷ ts) h = if_false (b t) (and_then (item (t ∷ ts)) (λ x. many_from b item add n (add a x))) (Reads a (t ∷ ts)) h

  pub many_turns : (n m : ℕ) (a : S) (ts : List Symbol) → n ≡ suc m → begins_next b ts ≡ true → many_from b item add n a ts ≡ and_then (item ts) (λ x. many_from b item add m (add a x))
  unfolding many_from
  many_turns n m a ts i h = ap (λ n. many_from b item add n a ts) i ∙ at ts h
    where
      at : (ts : List Symbol) → begins_next b ts ≡ true → many_from b item add (suc m) a ts ≡ and_then (item ts) (λ x. many_from b item add m (add a x))
      at [] h = absurd (cc)
      at (t ∷ ts) h = if_true (b t) (and_then (item (t ∷ ts)) (λ x. many_from b item add m (add a x))) (Reads a (t ∷ ts)) h

  -- with no turn left nothing is left
  pub many_ends : (n : ℕ) (a : S) (ts : List Symbol) → n ≡ 0 → many_from b item add n a ts ≡ Reads a ts
  unfolding many_from
  many_ends n a ts i = ap (λ n. many_from b item add n a ts) i ∙ at
    where
      at : many_from b item add zero a ts ≡ Reads a ts
      at = refl

-- ---- by what the code looks at

names_next : (ts : List Symbol) → sees_name ts ≡ begins_next is_name ts
names_next [] = refl
names_next (t ∷ ts) = refl

marks_next : (x : Mark) (ts : List Symbol) → sees x ts ≡ begins_next (is_mark x) ts
marks_next x [] = refl
marks_next x (t ∷ ts) = refl

pub names_turn : (n m : ℕ) (all : List (List ℕ)) (ts : List Symbol) → n ≡ suc m → sees_name ts ≡ true → many_from is_name name listed n all ts ≡ and_then (name ts) (λ x. many_from is_name name listed m (listed all x))
names_turn n m all ts i h = many_turns is_name name listed n m all ts i (sym (names_next ts) ∙ h)

pub names_stop : (n : ℕ) (all : List (List ℕ)) (ts : List Symbol) → sees_name ts ≡ false → many_from is_name name listed n all ts ≡ Reads all ts
names_stop n all ts h = many_stops is_name name listed n all ts (sym (names_next ts) ∙ h)

pub marks_turn : {A S : Type 0} (x : Mark) (item : Parser A) (add : S → A → S) (n m : ℕ) (a : S) (ts : List Symbol) → n ≡ suc m → sees x ts ≡ true → many_from (is_mark x) item add n a ts ≡ and_then (item ts) (λ y. many_from (is_mark x) item add m (add a y))
marks_turn x item add n m a ts i h = many_turns (is_mark x) item add n m a ts i (sym (marks_next x ts) ∙ h)

pub marks_stop : {A S : Type 0} (x : Mark) (item : Parser A) (add : S → A → S) (n : ℕ) (a : S) (ts : List Symbol) → sees x ts ≡ false → many_from (is_mark x) item add n a ts ≡ Reads a ts
marks_stop x item add n a ts h = many_stops (is_mark x) item add n a ts (sym (marks_next x ts) ∙ h)

-- a mark that was seen is taken
pub behind_seen : {A : Type 0} (x : Mark) (item : Parser A) (ts : List Symbol) → sees x ts ≡ true → behind x item ts ≡ item (rest_of ts)
unfolding expect
behind_seen x item [] h = absurd (cc)
behind_seen x item (t ∷ ts) h = ap (λ o. and_then o (λ _. item)) (if_true (is_mark x t) (Reads (tt {0}) ts) (Fails Syntax (t ∷ ts)) h)

-- ---- at most so many

module _ {A S : Type 0} (k : LimitKind) (x : Mark) (item : Parser A) (add : S → A → S) where
  pub marks_up_turn : (n n' : ℕ) (a : S) (ts : List Symbol) → n ≡ suc n' → sees x ts ≡ true → up_to k (is_mark x) item add n a ts ≡ and_then (item ts) (λ y. up_to k (is_mark x) item add n' (add a y))
  marks_up_turn n n' a ts i h = up_turn k (is_mark x) item add n n' a ts i (sym (marks_next x ts) ∙ h)

  pub marks_up_stop : (n : ℕ) (a : S) (ts : List Symbol) → sees x ts ≡ false → up_to k (is_mark x) item add n a ts ≡ Reads a ts
  marks_up_stop n a ts h = up_stop k (is_mark x) item add n a ts (sym (marks_next x ts) ∙ h)

  pub marks_up_out : (n : ℕ) (a : S) (ts : List Symbol) → n ≡ 0 → sees x ts ≡ true → up_to k (is_mark x) item add n a ts ≡ Fails (Limit k) ts
  marks_up_out n a ts i h = up_out k (is_mark x) item add n a ts i (sym (marks_next x ts) ∙ h)
