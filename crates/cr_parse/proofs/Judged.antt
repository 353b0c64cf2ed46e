-- The clauses of a parser of whole symbols, for any language, from what was read; and what was read, from the clauses.
use Rattle.std.proofs.Common.{◌≡◌, ◌≢◌, ℕ, ◌-◌, List, [], ◌∷◌, length, Result, Ok, Err, IfOk, refl, sym, ◌∙◌, ap, subst}
use Rattle.cr_tree.specs.declared.limits.LimitKind.{LimitKind}
use Rattle.cr_tree.specs.declared.limits.Limits.{Limits}
use Rattle.cr_tree.specs.declared.limits.TheConstants.{LIMITS}
use Rattle.cr_tree.specs.declared.symbol.Symbol.{Symbol}
use Rattle.cr_tree.specs.Language.{Language}
use Rattle.cr_tree.specs.Judging.{IsRead, IsBadPlace, MeetsLimit}
use Rattle.cr_tree.specs.Laws.{Answer, Read, BadPlace, Meets, Holds}
use Rattle.cr_tree.specs.Reading.{Outcome, Reads, Fails, Syntax, Limit, Parser}
use Rattle.cr_tree.proofs.Judged.{Masters, read_is, all_are_read, refused_is, left_over, limit_is}
use Rattle.cr_tree.proofs.Single.{one_answer}
use Rattle.cr_parse.specs.declared.error.ParseError.{ParseError}
use Rattle.cr_parse.specs.declared.error.ParseError.TheVariants as p
use Rattle.cr_parse.specs.Judge.{judge}

-- how an answer is told
abbrev pub told_as : {A : Type 0} → Answer A → Result A ParseError
told_as (Read x) = Ok x
told_as (BadPlace n) = Err (p.Syntax n)
told_as (Meets which) = Err (p.Limit which)

module _ {A : Type 0} (L : Language A) (f : Limits → Parser A) (master : Masters L f) where
  pub judged_read : (ts : List Symbol) → IfOk (judge ts (f LIMITS ts)) (λ x. IsRead L ts x)
  judged_read ts = at (f LIMITS ts) refl
    where
      at : (o : Outcome A) → f LIMITS ts ≡ o → IfOk (judge ts o) (λ x. IsRead L ts x)
      at (Reads x []) i = read_is L f master ts x i
      at (Reads x (t ∷ rest)) i = tt
      at (Fails Syntax rest) i = tt
      at (Fails (Limit k) rest) i = tt

  pub judged_only : (ts : List Symbol) (x : A) → IsRead L ts x → judge ts (f LIMITS ts) ≡ Ok x
  judged_only ts x r = ap (judge ts) (all_are_read L f master ts x r)

  pub judged_syntax : (ts : List Symbol) (n : ℕ) → judge ts (f LIMITS ts) ≡ Err (p.Syntax n) → IsBadPlace L ts n
  judged_syntax ts n h = at (f LIMITS ts) refl h
    where
      at : (o : Outcome A) → f LIMITS ts ≡ o → judge ts o ≡ Err (p.Syntax n) → IsBadPlace L ts n
      at (Reads x []) i h = absurd (cc)
      at (Reads x (t ∷ rest)) i h = let same : length ts - length (t ∷ rest) ≡ n = cc in subst (IsBadPlace L ts) same (left_over L f master ts t rest x i)
      at (Fails Syntax rest) i h = let same : length ts - length rest ≡ n = cc in subst (IsBadPlace L ts) same (refused_is L f master ts rest i)
      at (Fails (Limit k) rest) i h = absurd (cc)

  pub judged_limit : (ts : List Symbol) (which : LimitKind) → judge ts (f LIMITS ts) ≡ Err (p.Limit which) → MeetsLimit which L ts
  judged_limit ts which h = at (f LIMITS ts) refl h
    where
      at : (o : Outcome A) → f LIMITS ts ≡ o → judge ts o ≡ Err (p.Limit which) → MeetsLimit which L ts
      at (Reads x []) i h = absurd (cc)
      at (Reads x (t ∷ rest)) i h = absurd (cc)
      at (Fails Syntax rest) i h = absurd (cc)
      at (Fails (Limit x) rest) i h = let same : x ≡ which = cc in subst (λ z. MeetsLimit z L ts) same (limit_is L f master x ts rest i)

  -- what is judged is an answer that is true
  judged_holds : (ts : List Symbol) → (answer : Answer A) × Holds L ts answer × (told_as answer ≡ judge ts (f LIMITS ts))
  judged_holds ts = at (f LIMITS ts) refl
    where
      at : (o : Outcome A) → f LIMITS ts ≡ o → (answer : Answer A) × Holds L ts answer × (told_as answer ≡ judge ts o)
      at (Reads x []) i = (Read x, read_is L f master ts x i, refl)
      at (Reads x (t ∷ rest)) i = (BadPlace (length ts - length (t ∷ rest)), left_over L f master ts t rest x i, refl)
      at (Fails Syntax rest) i = (BadPlace (length ts - length rest), refused_is L f master ts rest i, refl)
      at (Fails (Limit k) rest) i = (Meets k, limit_is L f master k ts rest i, refl)

  -- the one that is true is judged
  pub true_is_judged : (ts : List Symbol) (answer : Answer A) → Holds L ts answer → told_as answer ≡ judge ts (f LIMITS ts)
  true_is_judged ts answer h =
      let one = one_answer L f master ts in
      let judged = judged_holds ts in
      ap told_as (one.2 answer h ∙ sym (one.2 judged.0 judged.1)) ∙ judged.2

  -- so what meets the clauses is what is judged
  pub clauses_judge : (ts : List Symbol) (r : Result A ParseError) → r ≢ Err p.Memory → IfOk r (λ x. IsRead L ts x)
      → ((n : ℕ) → r ≡ Err (p.Syntax n) → IsBadPlace L ts n) → ((which : LimitKind) → r ≡ Err (p.Limit which) → MeetsLimit which L ts) → r ≡ judge ts (f LIMITS ts)
  clauses_judge ts (Ok x) m read syntax limit = true_is_judged ts (Read x) read
  clauses_judge ts (Err p.Memory) m read syntax limit = absurd (m refl)
  clauses_judge ts (Err (p.Syntax n)) m read syntax limit = true_is_judged ts (BadPlace n) (syntax n refl)
  clauses_judge ts (Err (p.Limit which)) m read syntax limit = true_is_judged ts (Meets which) (limit which refl)
