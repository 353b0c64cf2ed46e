-- A language that is mastered by a parser has one answer for any symbols.
use Rattle.std.proofs.Common.{◌≡◌, ℕ, ◌-◌, List, [], ◌∷◌, length, refl, sym, ◌∙◌, ap}
use Rattle.cr_tree.specs.declared.limits.LimitKind.{LimitKind}
use Rattle.cr_tree.specs.declared.limits.Limits.{Limits}
use Rattle.cr_tree.specs.declared.limits.TheConstants.{LIMITS}
use Rattle.cr_tree.specs.declared.symbol.Symbol.{Symbol}
use Rattle.cr_tree.specs.Reading.{Outcome, Reads, Fails, Syntax, Limit, Parser}
use Rattle.cr_tree.specs.Language.{Language}
use Rattle.cr_tree.specs.Judging.{IsRead, IsBadPlace}
use Rattle.cr_tree.specs.Laws.{Answer, Read, BadPlace, Meets, Holds, OneAnswer}
use Rattle.cr_tree.proofs.Judged.{Masters, read_is, all_are_read, refused_is, left_over, limit_is, limit_place, limit_is_one}
use Rattle.cr_tree.proofs.Answers.{read_has_no_bad_place, read_meets_no_limit, bad_place_is_one, bad_place_meets_no_limit, limit_place_is_one}

module _ {A : Type 0} (L : Language A) (f : Limits → Parser A) (master : Masters L f) where
  same_tree : (ts : List Symbol) (a b : A) → f LIMITS ts ≡ Reads a [] → IsRead L ts b → b ≡ a
  same_tree ts a b i r = let both : Reads b [] ≡ Reads a [] = sym (all_are_read L f master ts b r) ∙ i in cc

  -- no other answer is true of what is read
  when_read : (ts : List Symbol) (a : A) → f LIMITS ts ≡ Reads a [] → (other : Answer A) → Holds L ts other → other ≡ Read a
  when_read ts a i (Read b) h = ap Read (same_tree ts a b i h)
  when_read ts a i (BadPlace n) h = absurd (read_has_no_bad_place L ts a n (read_is L f master ts a i) h)
  when_read ts a i (Meets k) h = absurd (read_meets_no_limit L ts k a (read_is L f master ts a i) h)

  -- nor of a bad place
  when_bad : (ts : List Symbol) (n : ℕ) → IsBadPlace L ts n → (other : Answer A) → Holds L ts other → other ≡ BadPlace n
  when_bad ts n b (Read a) h = absurd (read_has_no_bad_place L ts a n h b)
  when_bad ts n b (BadPlace m) h = ap BadPlace (bad_place_is_one L ts m n h b)
  when_bad ts n b (Meets k) h = absurd (bad_place_meets_no_limit L ts k n b h)

  -- nor where a limit is met
  when_met : (ts rest : List Symbol) (k : LimitKind) → f LIMITS ts ≡ Fails (Limit k) rest → (other : Answer A) → Holds L ts other → other ≡ Meets k
  when_met ts rest k i (Read a) h = absurd (read_meets_no_limit L ts k a h (limit_is L f master k ts rest i))
  when_met ts rest k i (BadPlace n) h = absurd (bad_place_meets_no_limit L ts k n h (limit_is L f master k ts rest i))
  when_met ts rest k i (Meets j) h = ap Meets (limit_is_one L f master j k ts rest i h (limit_place_is_one L ts j k h (limit_is L f master k ts rest i) ∙ limit_place L f master k ts rest i))

  pub one_answer : OneAnswer L
  one_answer ts = at (f LIMITS ts) refl
    where
      at : (o : Outcome A) → f LIMITS ts ≡ o → (answer : Answer A) × Holds L ts answer × ((other : Answer A) → Holds L ts other → other ≡ answer)
      at (Reads a []) i = (Read a, read_is L f master ts a i, when_read ts a i)
      at (Reads a (t ∷ rest)) i = let b = left_over L f master ts t rest a i in (BadPlace (length ts - length (t ∷ rest)), b, when_bad ts (length ts - length (t ∷ rest)) b)
      at (Fails Syntax rest) i = let b = refused_is L f master ts rest i in (BadPlace (length ts - length rest), b, when_bad ts (length ts - length rest) b)
      at (Fails (Limit k) rest) i = (Meets k, limit_is L f master k ts rest i, when_met ts rest k i)
