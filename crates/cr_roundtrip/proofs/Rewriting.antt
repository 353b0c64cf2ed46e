-- Statements as they are printed: other derivations of the same language, with the same values.
use Rattle.std.proofs.Common.{◌≡◌, ℕ, suc, length, List, [], ◌∷◌, ◌++◌, map, Option, Some, None, refl, ◌∙◌, ap, arith}
use Rattle.cr_tree.specs.declared.limits.Limits.{Limits}
use Rattle.cr_tree.specs.declared.limits.TheConstants.{LIMITS}
use Rattle.cr_tree.specs.declared.symbol.Mark.{Mark}
use Rattle.cr_tree.specs.declared.symbol.Mark.TheVariants as m
use Rattle.cr_tree.specs.declared.symbol.Symbol.{Symbol}
use Rattle.cr_tree.specs.declared.symbol.Symbol.TheVariants as k
use Rattle.cr_tree.specs.Language.{Language, expr}
use Rattle.cr_statement.specs.Languages.{◌◁◌, ◌▷◌, ◌⊗◌, ◌⟨$⟩◌, ◌∣◌, Either, One, Other, either_fits, by_either, option_fits, option_words, option_value, all_fit, all_words, maybe, many, up_to, commas}
use Rattle.cr_roundtrip.specs.Printed.{printed, All, IsSeen}
use Rattle.cr_roundtrip.proofs.Printed as phrases
use Rattle.cr_roundtrip.proofs.Printed.{front, back, join}

-- a derivation that is printed for another
pub record Rewrites {A : Type 0} (L : Language A) : Type 0 where
  pub to : L.D → L.D
  pub fitting : (d : L.D) → L.fits LIMITS d → All IsSeen (L.words d) → L.fits LIMITS (to d)
  pub means : (d : L.D) → L.fits LIMITS d → L.value (to d) ≡ L.value d
  pub seen : (d : L.D) → L.fits LIMITS d → All IsSeen (L.words d) → All IsSeen (L.words (to d))

-- as it stands
abbrev pub kept : {A : Type 0} (L : Language A) → Rewrites L
kept L = record { to = λ d. d; fitting = λ d i a. i; means = λ d i. refl; seen = λ d i a. a }

abbrev pub expression : Rewrites expr
expression = record {
  to = printed;
  fitting = λ d w a. record { proper = phrases.proper d w.proper a; low = omega (arith, phrases.high d, w.low); few = omega (arith, phrases.few d, phrases.high d, w.low); short = omega (arith, phrases.short d, w.short) };
  means = λ d w. phrases.means d w.proper;
  seen = λ d w a. phrases.seen d w.proper a;
}

abbrev pub mapped : {A B : Type 0} {L : Language A} (h : A → B) → Rewrites L → Rewrites (h ⟨$⟩ L)
mapped h p = record { to = p.to; fitting = p.fitting; means = λ d i. ap h (p.means d i); seen = p.seen }

abbrev pub behind : {A : Type 0} {L : Language A} (x : Mark) → Rewrites L → Rewrites (x ◁ L)
behind x p = record { to = p.to; fitting = λ d i a. p.fitting d i a.1; means = p.means; seen = λ d i a. (tt, p.seen d i a.1) }

abbrev pub before : {A : Type 0} {L : Language A} (x : Mark) → Rewrites L → Rewrites (L ▷ x)
before {A} {L} x p = record {
  to = p.to;
  fitting = λ d i a. p.fitting d i (front IsSeen (L.words d) (k.Mark x ∷ []) a);
  means = p.means;
  seen = λ d i a. join IsSeen (L.words (p.to d)) (k.Mark x ∷ []) (p.seen d i (front IsSeen (L.words d) (k.Mark x ∷ []) a)) (tt, tt);
}

abbrev pub pair : {A B : Type 0} {L : Language A} {M : Language B} → Rewrites L → Rewrites M → Rewrites (L ⊗ M)
pair {A} {B} {L} {M} p q = record {
  to = λ d. (p.to d.0, q.to d.1);
  fitting = λ d i a. (p.fitting d.0 i.0 (front IsSeen (L.words d.0) (M.words d.1) a), q.fitting d.1 i.1 (back IsSeen (L.words d.0) (M.words d.1) a));
  means = λ d i. ap (λ x. (x, M.value (q.to d.1))) (p.means d.0 i.0) ∙ ap (λ y. (L.value d.0, y)) (q.means d.1 i.1);
  seen = λ d i a. join IsSeen (L.words (p.to d.0)) (M.words (q.to d.1)) (p.seen d.0 i.0 (front IsSeen (L.words d.0) (M.words d.1) a)) (q.seen d.1 i.1 (back IsSeen (L.words d.0) (M.words d.1) a));
}

module _ {A : Type 0} {L : Language A} (p : Rewrites L) where
  abbrev pub option_to : Option L.D → Option L.D
  option_to None = None
  option_to (Some d) = Some (p.to d)

  pub option_fitting : (d : Option L.D) → option_fits (L.fits LIMITS) d → All IsSeen (option_words L.words d) → option_fits (L.fits LIMITS) (option_to d)
  option_fitting None i a = tt
  option_fitting (Some d) i a = p.fitting d i a

  pub option_means : (d : Option L.D) → option_fits (L.fits LIMITS) d → option_value L.value (option_to d) ≡ option_value L.value d
  option_means None i = refl
  option_means (Some d) i = ap Some (p.means d i)

  pub option_seen : (d : Option L.D) → option_fits (L.fits LIMITS) d → All IsSeen (option_words L.words d) → All IsSeen (option_words L.words (option_to d))
  option_seen None i a = tt
  option_seen (Some d) i a = p.seen d i a

  abbrev pub option : Rewrites (maybe L)
  option = record { to = option_to; fitting = option_fitting; means = option_means; seen = option_seen }

  abbrev pub all_to : List L.D → List L.D
  all_to [] = []
  all_to (d ∷ ds) = p.to d ∷ all_to ds

  -- each behind some symbols
  abbrev pub led : List Symbol → L.D → List Symbol
  led ts d = ts ++ L.words d

  pub all_fitting : (ts : List Symbol) (ds : List L.D) → all_fit (L.fits LIMITS) ds → All IsSeen (all_words (led ts) ds) → all_fit (L.fits LIMITS) (all_to ds)
  all_fitting ts [] i a = tt
  all_fitting ts (d ∷ ds) i a = (p.fitting d i.0 (back IsSeen ts (L.words d) (front IsSeen (ts ++ L.words d) (all_words (led ts) ds) a)), all_fitting ts ds i.1 (back IsSeen (ts ++ L.words d) (all_words (led ts) ds) a))

  pub all_mean : (ds : List L.D) → all_fit (L.fits LIMITS) ds → map L.value (all_to ds) ≡ map L.value ds
  all_mean [] i = refl
  all_mean (d ∷ ds) i = ap (λ x. x ∷ map L.value (all_to ds)) (p.means d i.0) ∙ ap (λ xs. L.value d ∷ xs) (all_mean ds i.1)

  pub all_seen : (ts : List Symbol) → All IsSeen ts → (ds : List L.D) → all_fit (L.fits LIMITS) ds → All IsSeen (all_words (led ts) ds) → All IsSeen (all_words (led ts) (all_to ds))
  all_seen ts b [] i a = tt
  all_seen ts b (d ∷ ds) i a = join IsSeen (ts ++ L.words (p.to d)) (all_words (led ts) (all_to ds))
      (join IsSeen ts (L.words (p.to d)) b (p.seen d i.0 (back IsSeen ts (L.words d) (front IsSeen (ts ++ L.words d) (all_words (led ts) ds) a))))
      (all_seen ts b ds i.1 (back IsSeen (ts ++ L.words d) (all_words (led ts) ds) a))

  abbrev pub several : Rewrites (many L)
  several = record { to = all_to; fitting = all_fitting []; means = all_mean; seen = all_seen [] tt }

  pub all_long : (ds : List L.D) → length (all_to ds) ≡ length ds
  all_long [] = refl
  all_long (d ∷ ds) = ap suc (all_long ds)

  abbrev pub at_most : (most : Limits → ℕ) → Rewrites (up_to most L)
  at_most most = record { to = all_to; fitting = λ d i a. (all_fitting [] d i.0 a, omega (arith, all_long d, i.1)); means = λ d i. all_mean d i.0; seen = λ d i a. all_seen [] tt d i.0 a }

  abbrev pub listed : Rewrites (commas L)
  listed = record {
    to = λ d. (p.to d.0, all_to d.1);
    fitting = λ d i a. (p.fitting d.0 i.0 (front IsSeen (L.words d.0) (all_words (led (k.Mark m.Comma ∷ [])) d.1) a), all_fitting (k.Mark m.Comma ∷ []) d.1 i.1 (back IsSeen (L.words d.0) (all_words (led (k.Mark m.Comma ∷ [])) d.1) a));
    means = λ d i. ap (λ x. x ∷ map L.value (all_to d.1)) (p.means d.0 i.0) ∙ ap (λ xs. L.value d.0 ∷ xs) (all_mean d.1 i.1);
    seen = λ d i a. join IsSeen (L.words (p.to d.0)) (all_words (led (k.Mark m.Comma ∷ [])) (all_to d.1)) (p.seen d.0 i.0 (front IsSeen (L.words d.0) (all_words (led (k.Mark m.Comma ∷ [])) d.1) a))
        (all_seen (k.Mark m.Comma ∷ []) (tt, tt) d.1 i.1 (back IsSeen (L.words d.0) (all_words (led (k.Mark m.Comma ∷ [])) d.1) a));
  }

module _ {A : Type 0} {L M : Language A} (p : Rewrites L) (q : Rewrites M) where
  abbrev pub either_to : Either L.D M.D → Either L.D M.D
  either_to (One d) = One (p.to d)
  either_to (Other d) = Other (q.to d)

  pub either_fitting : (d : Either L.D M.D) → either_fits (L.fits LIMITS) (M.fits LIMITS) d → All IsSeen (by_either L.words M.words d) → either_fits (L.fits LIMITS) (M.fits LIMITS) (either_to d)
  either_fitting (One d) i a = p.fitting d i a
  either_fitting (Other d) i a = q.fitting d i a

  pub either_means : (d : Either L.D M.D) → either_fits (L.fits LIMITS) (M.fits LIMITS) d → by_either L.value M.value (either_to d) ≡ by_either L.value M.value d
  either_means (One d) i = p.means d i
  either_means (Other d) i = q.means d i

  pub either_seen : (d : Either L.D M.D) → either_fits (L.fits LIMITS) (M.fits LIMITS) d → All IsSeen (by_either L.words M.words d) → All IsSeen (by_either L.words M.words (either_to d))
  either_seen (One d) i a = p.seen d i a
  either_seen (Other d) i a = q.seen d i a

  abbrev pub either : Rewrites (L ∣ M)
  either = record { to = either_to; fitting = either_fitting; means = either_means; seen = either_seen }
