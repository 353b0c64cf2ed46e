-- How a parser of a language is put together of parsers of its parts.
use Rattle.std.proofs.Common.{◌≡◌, ℕ, zero, suc, ◌+◌, ◌≤◌, ◌<◌, Bool, true, false, if◌then◌else◌, List, [], ◌∷◌, ◌++◌, map, length, Option, Some, None, refl, sym, ◌∙◌, ap, subst, append_assoc, length-append, arith}
use Rattle.std.proofs.lemmas.List.{append-nil}
use Rattle.cr_tree.specs.declared.limits.LimitKind.{LimitKind}
use Rattle.cr_tree.specs.declared.limits.Limits.{Limits}
use Rattle.cr_tree.specs.declared.limits.TheConstants.{LIMITS}
use Rattle.cr_tree.specs.declared.symbol.Mark.{Mark}
use Rattle.cr_tree.specs.declared.symbol.Mark.TheVariants as m
use Rattle.cr_tree.specs.declared.symbol.Symbol.{Symbol}
use Rattle.cr_tree.specs.declared.symbol.Symbol.TheVariants as k
use Rattle.cr_tree.specs.Marks.{is_mark}
use Rattle.cr_tree.specs.Grammar.{spelled, tree}
use Rattle.cr_tree.specs.Reading.{Outcome, Reads, Fails, Syntax, Parser, and_then, ◌>>=◌, pure, head, look_by, after, when, expect, eat, name, many_from, many, up_to, listed, behind, others, expr, whole}
use Rattle.cr_tree.specs.Language.{Language, IsWithin}
use Rattle.cr_tree.specs.Language as language
use Rattle.cr_tree.proofs.Forms.{Good, Right, good_as, by_test, if_true, if_false, mark_is, is_same, nothing_read, as_right, stop_right, map_right, mark_right, closed_right, then_right, pure_right, same_right}
use Rattle.cr_tree.proofs.Repeats.{begins_next, begins_front, name_right, optional_right, gather, many_right, up_right}
use Rattle.cr_tree.proofs.Repeats as repeats
use Rattle.cr_tree.proofs.Phrases.{Written, Stops, least_tight}
use Rattle.cr_tree.proofs.Levels.{expr_right}
use Rattle.cr_tree.proofs.Tracks.{Track, same_reads, same_fails, deeper, past, Within, Regular, Widened, all_exact, not_widened, up_regular, same_regular, pure_regular, refuse_regular, look_regular, after_regular, when_regular, then_regular, mark_regular, closed_regular, eat_regular, name_regular, many_regular}
use Rattle.cr_tree.proofs.Judged.{Masters, IsWider, IsOver, expressions}
use Rattle.cr_statement.specs.Languages.{◌◁◌, ◌▷◌, ◌⊗◌, ◌⟨$⟩◌, ◌∣◌, Either, One, Other, either_fits, by_either, option_fits, option_words, option_value, all_fit, all_words, maybe, maybe_mark, nothing}
use Rattle.cr_statement.specs.Languages as languages
use Rattle.cr_statement.specs.Queries.{regrouped}
use Rattle.cr_statement.specs.Reading.{made, before, both, optional, choose, by_option, found_from, found, commas, told, one_of, ahead}

-- a parser of a language with as many open parentheses, and as high trees, where such symbols follow
pub record MastersBefore {A : Type 0} (stop : List Symbol → Type 0) (L : Language A) (f : Limits → Parser A) : Type 0 where
  pub right : (lim : Limits) → Right (L.fits lim) L.words L.value stop (f lim)
  pub grows : (lim lim' : Limits) (d : L.D) → IsWider lim lim' → L.fits lim d → L.fits lim' d
  pub regular : (exact : LimitKind → Bool) (v v' : List Symbol) (heads : head v ≡ head v') (lim lim' : Limits) → Widened exact lim lim' → Regular exact v v' heads (f lim) (f lim')

abbrev pub Anything : List Symbol → Type 0
Anything rest = Unit {0}

module _ {A : Type 0} {s : List Symbol → Type 0} {L : Language A} {f : Limits → Parser A} (p : MastersBefore s L f) where
  pub masters : ((rest : List Symbol) → IsOver rest → s rest) → Masters L f
  masters over = record { right = λ lim. stop_right over (p.right lim); grows = p.grows; regular = p.regular }

  pub followed_by : {u : List Symbol → Type 0} → ((rest : List Symbol) → u rest → s rest) → MastersBefore u L f
  followed_by h = record { right = λ lim. stop_right h (p.right lim); grows = p.grows; regular = p.regular }

  pub read_by : {g : Limits → Parser A} → ((lim : Limits) (ts : List Symbol) → g lim ts ≡ f lim ts) → MastersBefore s L g
  read_by e = record {
    right = λ lim. same_right (e lim) (p.right lim);
    grows = p.grows;
    regular = λ x v v' h lim lim' wide. same_regular x v v' h (e lim) (e lim') (p.regular x v v' h lim lim' wide);
  }

  pub made_of : {B : Type 0} (h : A → B) → MastersBefore s (h ⟨$⟩ L) (λ lim. made h (f lim))
  made_of h = record {
    right = λ lim. map_right h (p.right lim);
    grows = p.grows;
    regular = λ x v v' e lim lim' wide. then_regular x v v' e (p.regular x v v' e lim lim' wide) (λ a. pure_regular x v v' e (h a));
  }

  pub behind_mark : (x : Mark) → MastersBefore s (x ◁ L) (λ lim. behind x (f lim))
  behind_mark x = record {
    right = λ lim. mark_right x (p.right lim);
    grows = p.grows;
    regular = λ e v v' h lim lim' wide. mark_regular e v v' h x (p.regular e v v' h lim lim' wide);
  }

  pub before_mark : (x : Mark) → ((rest : List Symbol) → s (k.Mark x ∷ rest)) → MastersBefore Anything (L ▷ x) (λ lim. before x (f lim))
  before_mark x link = record {
    right = λ lim. closed_right x (λ a. a) link (p.right lim);
    grows = p.grows;
    regular = λ e v v' h lim lim' wide. then_regular e v v' h (p.regular e v v' h lim lim' wide) (λ a. closed_regular e v v' h x a);
  }

  pub and_then_by : {B : Type 0} {u : List Symbol → Type 0} {M : Language B} {g : Limits → Parser B} → MastersBefore u M g
      → ((lim : Limits) (d : M.D) (rest : List Symbol) → M.fits lim d → u rest → s (M.words d ++ rest)) → MastersBefore u (L ⊗ M) (λ lim. both (f lim) (g lim))
  and_then_by {B} {u} {M} {g} q link = record {
    right = λ lim. then_right (λ a. g lim >>= (λ b. pure (a, b))) (p.right lim) (λ d i. map_right (λ b. (L.value d, b)) (q.right lim)) (link lim);
    grows = λ lim lim' d wide i. (p.grows lim lim' d.0 wide i.0, q.grows lim lim' d.1 wide i.1);
    regular = λ e v v' h lim lim' wide. then_regular e v v' h (p.regular e v v' h lim lim' wide)
        (λ a. then_regular e v v' h (q.regular e v v' h lim lim' wide) (λ b. pure_regular e v v' h (a, b)));
  }

-- three in a row, of which the first two are read together
pub regrouped_of : {A B C : Type 0} {s : List Symbol → Type 0} (L : Language A) (M : Language B) (N : Language C) {f : Limits → Parser ((A × B) × C)} → MastersBefore s ((L ⊗ M) ⊗ N) f
    → MastersBefore s (L ⊗ (M ⊗ N)) (λ lim. made regrouped (f lim))
regrouped_of {A} {B} {C} {s} L M N {f} p = record {
  right = λ lim. as_right (λ d. (d.0.0, (d.0.1, d.1))) (λ d. ((d.0, d.1.0), d.1.1)) (λ d i. (i.0.0, (i.0.1, i.1))) (λ d i. ((i.0, i.1.0), i.1.1)) (λ d. sym (append_assoc (L.words d.0.0) (M.words d.0.1) (N.words d.1))) (λ d. refl) (λ d. refl)
      (map_right regrouped (p.right lim));
  grows = λ lim lim' d wide i. let j = p.grows lim lim' ((d.0, d.1.0), d.1.1) wide ((i.0, i.1.0), i.1.1) in (j.0.0, (j.0.1, j.1));
  regular = λ e v v' h lim lim' wide. then_regular e v v' h (p.regular e v v' h lim lim' wide) (λ x. pure_regular e v v' h (regrouped x));
}

-- what stands there begins so
abbrev pub Begins : {A : Type 0} → (Symbol → Bool) → Language A → Type 0
Begins b L = (lim : Limits) (d : L.D) → L.fits lim d → begins_next b (L.words d) ≡ true

-- what stands there, and what may follow, begins otherwise
abbrev pub Avoids : {A : Type 0} → (Symbol → Bool) → (List Symbol → Type 0) → Language A → Type 0
Avoids b s L = (lim : Limits) (d : L.D) (rest : List Symbol) → L.fits lim d → s rest → begins_next b (L.words d ++ rest) ≡ false

pub begins_same : (b : Symbol → Bool) (v v' : List Symbol) → head v ≡ head v' → begins_next b v ≡ begins_next b v'
begins_same b [] [] h = refl
begins_same b [] (t ∷ w) h = absurd (cc)
begins_same b (t ∷ w) [] h = absurd (cc)
begins_same b (t ∷ w) (t' ∷ w') h = let same : t ≡ t' = cc in ap b same

-- ---- what may be absent

module _ {A : Type 0} {s : List Symbol → Type 0} {L : Language A} {f : Limits → Parser A} (b : Symbol → Bool) (starts : Begins b L) (p : MastersBefore s L f) where
  pub maybe_of : MastersBefore (λ rest. (begins_next b rest ≡ false) × s rest) (maybe L) (λ lim. optional b (f lim))
  maybe_of = record {
    right = λ lim. as_right (λ d. d) (λ d. d) (to lim) (from lim) spelled_so meant_so (λ d. refl) (optional_right b None (starts lim) (map_right (λ a. Some a) (p.right lim)));
    grows = wider;
    regular = λ e v v' h lim lim' wide. look_regular e v v' h (pure_regular e v v' h None)
        (λ t. when_regular e v v' h (b t) (then_regular e v v' h (p.regular e v v' h lim lim' wide) (λ a. pure_regular e v v' h (Some a))) (pure_regular e v v' h None));
  }
    where
      to : (lim : Limits) (d : Option L.D) → repeats.option_fits (L.fits lim) d → option_fits (L.fits lim) d
      to lim None i = tt
      to lim (Some d) i = i

      from : (lim : Limits) (d : Option L.D) → option_fits (L.fits lim) d → repeats.option_fits (L.fits lim) d
      from lim None i = tt
      from lim (Some d) i = i

      spelled_so : (d : Option L.D) → option_words L.words d ≡ repeats.option_words L.words d
      spelled_so None = refl
      spelled_so (Some d) = refl

      meant_so : (d : Option L.D) → option_value L.value d ≡ repeats.option_value None (λ x. Some (L.value x)) d
      meant_so None = refl
      meant_so (Some d) = refl

      wider : (lim lim' : Limits) (d : Option L.D) → IsWider lim lim' → option_fits (L.fits lim) d → option_fits (L.fits lim') d
      wider lim lim' None wide i = tt
      wider lim lim' (Some d) wide i = p.grows lim lim' d wide i

-- ---- choices

-- a test of the symbols tells the same of p with v behind it and of p with v' behind it, or both parsers take the first of v
pub data Tells {A : Type 0} (b : List Symbol → Bool) (f g : Limits → Parser A) (p v v' : List Symbol) : Type 0 where
  alike : b (p ++ v) ≡ b (p ++ v') → Tells b f g p v v'
  takes : (x : Symbol) (u : List Symbol) → v ≡ x ∷ u → ((lim : Limits) → Within (length u) (f lim (p ++ x ∷ u))) → ((lim : Limits) → Within (length u) (g lim (p ++ x ∷ u))) → Tells b f g p v v'

module _ {A : Type 0} {s : List Symbol → Type 0} {L M : Language A} {f g : Limits → Parser A} (b : List Symbol → Bool) (starts : (lim : Limits) (d : L.D) (rest : List Symbol) → L.fits lim d → b (L.words d ++ rest) ≡ true)
    (avoids : (lim : Limits) (d : M.D) (rest : List Symbol) → M.fits lim d → s rest → b (M.words d ++ rest) ≡ false) (tells : (p v v' : List Symbol) → head v ≡ head v' → Tells b f g p v v')
    (p : MastersBefore s L f) (q : MastersBefore s M g) where
  pub ahead_of : MastersBefore s (L ∣ M) (λ lim. ahead b (f lim) (g lim))
  ahead_of = record {
    right = λ lim. record { good = good lim; reads = reads lim };
    grows = wider;
    regular = λ e v v' h lim lim' wide. record {
      shrinks = λ ts. by_test (Within (length ts)) (b ts) (f lim ts) (g lim ts) (λ i. (p.regular e v v' h lim lim' wide).shrinks ts) (λ i. (q.regular e v v' h lim lim' wide).shrinks ts);
      shrinks_too = λ ts. by_test (Within (length ts)) (b ts) (f lim' ts) (g lim' ts) (λ i. (p.regular e v v' h lim lim' wide).shrinks_too ts) (λ i. (q.regular e v v' h lim lim' wide).shrinks_too ts);
      tracks = λ w. track e v v' h lim lim' w ((p.regular e v v' h lim lim' wide).tracks w) ((q.regular e v v' h lim lim' wide).tracks w) (tells w v v' h);
    };
  }
    where
      the_one : (lim : Limits) (ts : List Symbol) → Good (either_fits (L.fits lim) (M.fits lim)) (by_either L.words M.words) (by_either L.value M.value) ts (f lim ts)
      the_one lim ts = good_as (L.fits lim) L.words L.value (either_fits (L.fits lim) (M.fits lim)) (by_either L.words M.words) (by_either L.value M.value) (λ d. One d) (λ d i. i) (λ d. refl) (λ d. refl) ts (f lim ts) ((p.right lim).good ts)

      the_other : (lim : Limits) (ts : List Symbol) → Good (either_fits (L.fits lim) (M.fits lim)) (by_either L.words M.words) (by_either L.value M.value) ts (g lim ts)
      the_other lim ts = good_as (M.fits lim) M.words M.value (either_fits (L.fits lim) (M.fits lim)) (by_either L.words M.words) (by_either L.value M.value) (λ d. Other d) (λ d i. i) (λ d. refl) (λ d. refl) ts (g lim ts) ((q.right lim).good ts)

      good : (lim : Limits) (ts : List Symbol) → Good (either_fits (L.fits lim) (M.fits lim)) (by_either L.words M.words) (by_either L.value M.value) ts (ahead b (f lim) (g lim) ts)
      good lim ts = by_test (Good (either_fits (L.fits lim) (M.fits lim)) (by_either L.words M.words) (by_either L.value M.value) ts) (b ts) (f lim ts) (g lim ts) (λ e. the_one lim ts) (λ e. the_other lim ts)

      reads : (lim : Limits) (d : Either L.D M.D) (rest : List Symbol) → either_fits (L.fits lim) (M.fits lim) d → s rest → ahead b (f lim) (g lim) (by_either L.words M.words d ++ rest) ≡ Reads (by_either L.value M.value d) rest
      reads lim (One d) rest i st = if_true (b (L.words d ++ rest)) (f lim (L.words d ++ rest)) (g lim (L.words d ++ rest)) (starts lim d rest i) ∙ (p.right lim).reads d rest i st
      reads lim (Other d) rest i st = if_false (b (M.words d ++ rest)) (f lim (M.words d ++ rest)) (g lim (M.words d ++ rest)) (avoids lim d rest i st) ∙ (q.right lim).reads d rest i st

      wider : (lim lim' : Limits) (d : Either L.D M.D) → IsWider lim lim' → either_fits (L.fits lim) (M.fits lim) d → either_fits (L.fits lim') (M.fits lim') d
      wider lim lim' (One d) wide i = p.grows lim lim' d wide i
      wider lim lim' (Other d) wide i = q.grows lim lim' d wide i

      track : (e : LimitKind → Bool) (v v' : List Symbol) (h : head v ≡ head v') (lim lim' : Limits) (w : List Symbol) → Track e v v' h (f lim (w ++ v)) (f lim' (w ++ v')) → Track e v v' h (g lim (w ++ v)) (g lim' (w ++ v')) → Tells b f g w v v'
          → Track e v v' h (ahead b (f lim) (g lim) (w ++ v)) (ahead b (f lim') (g lim') (w ++ v'))
      track e v v' h lim lim' w x y (alike i) = subst (λ z. Track e v v' h (if b (w ++ v) then f lim (w ++ v) else g lim (w ++ v)) (if z then f lim' (w ++ v') else g lim' (w ++ v'))) i (both_by (b (w ++ v)))
        where
          both_by : (c : Bool) → Track e v v' h (if c then f lim (w ++ v) else g lim (w ++ v)) (if c then f lim' (w ++ v') else g lim' (w ++ v'))
          both_by true = x
          both_by false = y
      track e v v' h lim lim' w x y (takes t u i n m) = past t u i (subst (λ z. Within (length u) (ahead b (f lim) (g lim) (w ++ z))) (sym i)
          (by_test (Within (length u)) (b (w ++ t ∷ u)) (f lim (w ++ t ∷ u)) (g lim (w ++ t ∷ u)) (λ i. n lim) (λ i. m lim)))

-- by the next symbol
pub either_of : {A : Type 0} {s : List Symbol → Type 0} {L M : Language A} {f g : Limits → Parser A} (b : Symbol → Bool) → Begins b L → Avoids b s M
    → MastersBefore s L f → MastersBefore s M g → MastersBefore s (L ∣ M) (λ lim. choose b (f lim) (g lim))
either_of {A} {s} {L} {M} {f} {g} b starts avoids p q = read_by (ahead_of (begins_next b) (λ lim d rest i. begins_front b (L.words d) rest (starts lim d i)) avoids tells p q) chosen
  where
    chosen : (lim : Limits) (ts : List Symbol) → choose b (f lim) (g lim) ts ≡ ahead (begins_next b) (f lim) (g lim) ts
    chosen lim [] = refl
    chosen lim (t ∷ ts) = refl

    tells : (w v v' : List Symbol) → head v ≡ head v' → Tells (begins_next b) f g w v v'
    tells [] v v' h = alike (begins_same b v v' h)
    tells (t ∷ w) v v' h = alike refl

-- where it refuses the end behind other symbols, it takes the first of these
pub refuses_later : {A : Type 0} (f : Parser A) (p : List Symbol) (t : Symbol) (u u' : List Symbol) → Regular all_exact (t ∷ u) (t ∷ u') refl f f → f (p ++ t ∷ u') ≡ Fails Syntax [] → Within (length u) (f (p ++ t ∷ u))
refuses_later {A} f p t u u' r e = at (r.tracks p)
  where
    at : Track all_exact (t ∷ u) (t ∷ u') refl (f (p ++ t ∷ u)) (f (p ++ t ∷ u')) → Within (length u) (f (p ++ t ∷ u))
    at (same_reads a q i j) = let clash : Fails Syntax [] ≡ Reads a (q ++ t ∷ u') = sym e ∙ j in absurd (cc)
    at (same_fails c q _ i j) = let clash : Fails Syntax [] ≡ Fails c (q ++ t ∷ u') = sym e ∙ j in let none : [] ≡ q ++ t ∷ u' = cc in absurd (omega (arith, ap length none, length-append q (t ∷ u')))
    at (deeper x q h i _) = absurd (cc)
    at (past x w i n) = let same : w ≡ u = cc in subst (λ z. Within (length z) (f (p ++ t ∷ u))) same n

pub neither : {A : Type 0} (s : List Symbol → Type 0) (b : Symbol → Bool) (L M : Language A) → Avoids b s L → Avoids b s M → Avoids b s (L ∣ M)
neither s b L M p q = at
  where
    at : (lim : Limits) (d : Either L.D M.D) (rest : List Symbol) → either_fits (L.fits lim) (M.fits lim) d → s rest → begins_next b (by_either L.words M.words d ++ rest) ≡ false
    at lim (One d) rest i st = p lim d rest i st
    at lim (Other d) rest i st = q lim d rest i st

-- ---- lists

gathered : {D A : Type 0} (v : D → A) (xs : List A) (ds : List D) → gather listed v xs ds ≡ xs ++ map v ds
gathered v xs [] = sym (append-nil xs)
gathered v xs (d ∷ ds) = gathered v (xs ++ v d ∷ []) ds ∙ append_assoc xs (v d ∷ []) (map v ds)

all_to : {D : Type 0} (F : D → Type 0) (ds : List D) → repeats.all_fit F ds → all_fit F ds
all_to F [] i = tt
all_to F (d ∷ ds) i = (i.0, all_to F ds i.1)

all_from : {D : Type 0} (F : D → Type 0) (ds : List D) → all_fit F ds → repeats.all_fit F ds
all_from F [] i = tt
all_from F (d ∷ ds) i = (i.0, all_from F ds i.1)

all_spelled : {D : Type 0} (w : D → List Symbol) (ds : List D) → all_words w ds ≡ repeats.all_words w ds
all_spelled w [] = refl
all_spelled w (d ∷ ds) = ap (λ z. w d ++ z) (all_spelled w ds)

all_wider : {D : Type 0} (F G : D → Type 0) → ((d : D) → F d → G d) → (ds : List D) → all_fit F ds → all_fit G ds
all_wider F G h [] i = tt
all_wider F G h (d ∷ ds) i = (h d i.0, all_wider F G h ds i.1)

mark_takes : {A : Type 0} (f : Parser A) (x : Mark) → ((ts : List Symbol) → Within (length ts) (f ts)) → (t : Symbol) (ts : List Symbol) → is_mark x t ≡ true → Within (length ts) (behind x f (t ∷ ts))
unfolding expect
mark_takes f x small t ts h = subst (λ z. Within (length ts) (and_then (if z then Reads (tt {0}) ts else Fails Syntax (t ∷ ts)) (λ _. f))) (sym h) (small ts)

module _ {A : Type 0} {s : List Symbol → Type 0} {L : Language A} {f : Limits → Parser A} (comma : (rest : List Symbol) → s (k.Mark m.Comma ∷ rest)) (p : MastersBefore s L f) where
  pub commas_of : MastersBefore (λ rest. (begins_next (is_mark m.Comma) rest ≡ false) × s rest) (languages.commas L) (λ lim. commas (f lim))
  unfolding commas
  commas_of = record {
    right = λ lim. as_right (λ d. d) (λ d. d) (λ d i. (i.0, all_to (L.fits lim) d.1 i.1)) (λ d i. (i.0, all_from (L.fits lim) d.1 i.1))
        (λ d. ap (λ z. L.words d.0 ++ z) (all_spelled (λ d. k.Mark m.Comma ∷ L.words d) d.1)) (λ d. sym (gathered L.value (L.value d.0 ∷ []) d.1)) (λ d. refl)
        (then_right (λ a. others (f lim) listed (a ∷ [])) (p.right lim) (λ d i. many_right (is_mark m.Comma) listed (mark_right m.Comma (p.right lim)) (λ q j. is_same m.Comma) next (L.value d ∷ [])) (link lim));
    grows = λ lim lim' d wide i. (p.grows lim lim' d.0 wide i.0, all_wider (L.fits lim) (L.fits lim') (λ d j. p.grows lim lim' d wide j) d.1 i.1);
    regular = λ e v v' h lim lim' wide. then_regular e v v' h (p.regular e v v' h lim lim' wide)
        (λ a. many_regular e v v' h (is_mark m.Comma) listed (behind m.Comma (f lim)) (behind m.Comma (f lim')) (mark_regular e v v' h m.Comma (p.regular e v v' h lim lim' wide))
        (mark_takes (f lim) m.Comma (p.regular e v v' h lim lim' wide).shrinks) (a ∷ []));
  }
    where
      next : (ts : List Symbol) → begins_next (is_mark m.Comma) ts ≡ true → s ts
      next [] h = absurd (cc)
      next (t ∷ ts) h = subst (λ z. s (z ∷ ts)) (sym (mark_is m.Comma t h)) (comma ts)

      link : (lim : Limits) (ds : List L.D) (rest : List Symbol) → repeats.all_fit (L.fits lim) ds → (begins_next (is_mark m.Comma) rest ≡ false) × s rest → s (repeats.all_words (λ d. k.Mark m.Comma ∷ L.words d) ds ++ rest)
      link lim [] rest i st = st.1
      link lim (d ∷ ds) rest i st = comma ((L.words d ++ repeats.all_words (λ d. k.Mark m.Comma ∷ L.words d) ds) ++ rest)

module _ {A : Type 0} (b : Symbol → Bool) (p : Parser A) where
  found_many : (n : ℕ) (all : List A) (ts : List Symbol) → found_from (optional b p) n all ts ≡ many_from b p listed n all ts
  unfolding found_from many_from
  found_many zero all ts = refl
  found_many (suc n) all [] = refl
  found_many (suc n) all (t ∷ ts) = by (λ all ts. found_many n all ts) (b t)
    where
      next : Option A → Parser (List A)
      next = by_option (pure all) (λ x. found_from (optional b p) n (listed all x))

      some : ((all : List A) (ts : List Symbol) → found_from (optional b p) n all ts ≡ many_from b p listed n all ts) → (o : Outcome A) → and_then (and_then {A = A} {B = Option A} o (λ a. pure (Some a))) next ≡ and_then o (λ x. many_from b p listed n (listed all x))
      some again (Reads a rest) = again (listed all a) rest
      some again (Fails c rest) = refl

      by : ((all : List A) (ts : List Symbol) → found_from (optional b p) n all ts ≡ many_from b p listed n all ts) → (c : Bool)
          → and_then (if c then and_then {A = A} {B = Option A} (p (t ∷ ts)) (λ a. pure (Some a)) else Reads None (t ∷ ts)) next ≡ (if c then and_then (p (t ∷ ts)) (λ x. many_from b p listed n (listed all x)) else Reads all (t ∷ ts))
      by again true = some again (p (t ∷ ts))
      by again false = refl

  found_optional : (ts : List Symbol) → found (optional b p) [] ts ≡ many b p listed [] ts
  unfolding found many
  found_optional ts = found_many (length ts) [] ts

-- as many as there are, where an item takes the symbol that it begins with
module _ {A : Type 0} {s : List Symbol → Type 0} {L : Language A} {f : Limits → Parser A} (b : Symbol → Bool) (starts : Begins b L) (links : (ts : List Symbol) → begins_next b ts ≡ true → s ts)
    (takes : (lim : Limits) (t : Symbol) (ts : List Symbol) → b t ≡ true → Within (length ts) (f lim (t ∷ ts))) (p : MastersBefore s L f) where
  many_by : MastersBefore (λ rest. (begins_next b rest ≡ false) × s rest) (languages.many L) (λ lim. many b (f lim) listed [])
  many_by = record {
    right = λ lim. as_right (λ d. d) (λ d. d) (all_to (L.fits lim)) (all_from (L.fits lim)) (all_spelled L.words) (λ d. sym (gathered L.value [] d)) (λ d. refl)
        (many_right b listed (p.right lim) (starts lim) links []);
    grows = λ lim lim' d wide i. all_wider (L.fits lim) (L.fits lim') (λ d j. p.grows lim lim' d wide j) d i;
    regular = λ e v v' h lim lim' wide. many_regular e v v' h b listed (f lim) (f lim') (p.regular e v v' h lim lim' wide) (takes lim) [];
  }

  pub many_of : MastersBefore (λ rest. (begins_next b rest ≡ false) × s rest) (languages.many L) (λ lim. found (optional b (f lim)) [])
  many_of = read_by many_by (λ lim ts. found_optional b (f lim) ts)

-- at most so many, where an item takes the symbol that it begins with
module _ {A : Type 0} {s : List Symbol → Type 0} {L : Language A} {f : Limits → Parser A} (x : LimitKind) (most : Limits → ℕ) (b : Symbol → Bool) (starts : Begins b L) (links : (ts : List Symbol) → begins_next b ts ≡ true → s ts)
    (takes : (lim : Limits) (t : Symbol) (ts : List Symbol) → b t ≡ true → Within (length ts) (f lim (t ∷ ts))) (wider : (lim lim' : Limits) → IsWider lim lim' → most lim ≤ most lim')
    (more : (exact : LimitKind → Bool) (lim lim' : Limits) → Widened exact lim lim' → exact x ≡ false → most lim < most lim') (same : (exact : LimitKind → Bool) (lim lim' : Limits) → Widened exact lim lim' → exact x ≡ true → most lim ≡ most lim')
    (p : MastersBefore s L f) where
  pub up_to_of : MastersBefore (λ rest. (begins_next b rest ≡ false) × s rest) (languages.up_to most L) (λ lim. up_to x b (f lim) listed (most lim) [])
  up_to_of = record {
    right = λ lim. as_right (λ d. d) (λ d. d) (λ d i. (all_to (L.fits lim) d i.0, i.1)) (λ d i. (all_from (L.fits lim) d i.0, i.1)) (all_spelled L.words) (λ d. sym (gathered L.value [] d)) (λ d. refl)
        (up_right x b listed (p.right lim) (starts lim) links (most lim) []);
    grows = λ lim lim' d wide i. (all_wider (L.fits lim) (L.fits lim') (λ d j. p.grows lim lim' d wide j) d i.0, omega (arith, i.1, wider lim lim' wide));
    regular = λ e v v' h lim lim' wide. up_regular e v v' h x b listed (f lim) (f lim') (p.regular e v v' h lim lim' wide) (takes lim') (most lim) (most lim') (more e lim lim' wide) (same e lim lim' wide) [];
  }

-- what is left is no longer than what there was
pub shrinks_of : {A : Type 0} {s : List Symbol → Type 0} {L : Language A} {f : Limits → Parser A} → MastersBefore s L f → (lim : Limits) (ts : List Symbol) → Within (length ts) (f lim ts)
shrinks_of p lim ts = (p.regular all_exact [] [] refl lim lim (not_widened lim)).shrinks ts

-- ---- one symbol

pub nothing_of : {A : Type 0} (a : A) → MastersBefore Anything (nothing a) (λ lim. pure a)
nothing_of a = record { right = λ lim. pure_right a; grows = λ lim lim' d wide i. tt; regular = λ e v v' h lim lim' wide. pure_regular e v v' h a }

pub name_of : MastersBefore Anything languages.name (λ lim. name)
name_of = record { right = λ lim. name_right; grows = λ lim lim' d wide i. tt; regular = λ e v v' h lim lim' wide. name_regular e v v' h }

eat_right : (x : Mark) → Right {D = Bool} (λ d. Unit {0}) (λ d. if d then k.Mark x ∷ [] else []) (λ d. d) (λ rest. begins_next (is_mark x) rest ≡ false) (eat x)
unfolding eat
eat_right x = record { good = at; reads = read }
  where
    at : (ts : List Symbol) → Good {D = Bool} {A = Bool} (λ d. Unit {0}) (λ d. if d then k.Mark x ∷ [] else []) (λ d. d) ts (look_by (pure false) (λ t. when (is_mark x t) (after (pure true)) (pure false)) (head ts) ts)
    at [] = record { what = false; fitting = tt; spells = refl; means = refl }
    at (t ∷ ts) = by_test (Good {D = Bool} {A = Bool} (λ d. Unit {0}) (λ d. if d then k.Mark x ∷ [] else []) (λ d. d) (t ∷ ts)) (is_mark x t) (Reads true ts) (Reads false (t ∷ ts))
        (λ e. record { what = true; fitting = tt; spells = ap (λ z. z ∷ ts) (sym (mark_is x t e)); means = refl }) (λ e. record { what = false; fitting = tt; spells = refl; means = refl })

    read : (d : Bool) (rest : List Symbol) → Unit {0} → begins_next (is_mark x) rest ≡ false
        → look_by (pure false) (λ t. when (is_mark x t) (after (pure true)) (pure false)) (head ((if d then k.Mark x ∷ [] else []) ++ rest)) ((if d then k.Mark x ∷ [] else []) ++ rest) ≡ Reads d rest
    read true rest i st = if_true (is_mark x (k.Mark x)) (Reads true rest) (Reads false (k.Mark x ∷ rest)) (is_same x)
    read false [] i st = refl
    read false (t ∷ rest) i st = if_false (is_mark x t) (Reads true rest) (Reads false (t ∷ rest)) st

-- a mark or nothing
pub eat_of : (x : Mark) → MastersBefore (λ rest. begins_next (is_mark x) rest ≡ false) (maybe_mark x) (λ lim. eat x)
eat_of x = record { right = λ lim. eat_right x; grows = λ lim lim' d wide i. tt; regular = λ e v v' h lim lim' wide. eat_regular e v v' h x }

-- ---- expressions

expr_until : (lim : Limits) → Right (IsWithin lim) spelled tree (Stops 1) (whole lim)
unfolding whole
expr_until lim = as_right (λ p. p) (λ p. p) (λ p w. record { proper = w.proper; low = w.low; few = w.few; short = w.short }) (λ p w. record { proper = w.proper; tight = least_tight p; low = w.low; few = w.few; short = w.short }) (λ p. refl) (λ p. refl) (λ p. refl) read
  where
    read : Right (Written lim 1) spelled tree (Stops 1) (λ ts. and_then (expr lim 1 ts) (λ x. pure x.0))
    read = map_right (λ x. x.0) (expr_right (lim.opens + lim.room) lim 1 (omega arith) (omega arith) (omega arith))

pub expr_of : MastersBefore (Stops 1) language.expr whole
expr_of = record { right = expr_until; grows = expressions.grows; regular = expressions.regular }

-- ---- a symbol with a meaning

module _ {A : Type 0} (means : Symbol → Option A) (x : Symbol) (a : A) (e : means x ≡ Some a) where
  pub symbol_of : MastersBefore Anything (languages.one_of means) (λ lim. one_of means)
  symbol_of = record {
    right = λ lim. record { good = at; reads = λ d rest i st. ap (λ z. told z (d.symbol ∷ rest)) i };
    grows = λ lim lim' d wide i. i;
    regular = λ e v v' h lim lim' wide. look_regular e v v' h (refuse_regular e v v' h) (λ t. by e v v' h (means t));
  }
    where
      by : (exact : LimitKind → Bool) (v v' : List Symbol) (heads : head v ≡ head v') (z : Option A) → Regular exact v v' heads (told z) (told z)
      by e v v' h None = refuse_regular e v v' h
      by e v v' h (Some a) = after_regular e v v' h (pure_regular e v v' h a)

      here : (t : Symbol) (ts : List Symbol) (z : Option A) → means t ≡ z
          → Good {D = (languages.one_of means).D} {A = A} ((languages.one_of means).fits LIMITS) (languages.one_of means).words (languages.one_of means).value (t ∷ ts) (told z (t ∷ ts))
      here t ts None i = nothing_read (record { symbol = x; value = a }) e (t ∷ ts)
      here t ts (Some a) i = record { what = record { symbol = t; value = a }; fitting = i; spells = refl; means = refl }

      at : (ts : List Symbol) → Good {D = (languages.one_of means).D} {A = A} ((languages.one_of means).fits LIMITS) (languages.one_of means).words (languages.one_of means).value ts (one_of means ts)
      at [] = nothing_read (record { symbol = x; value = a }) e []
      at (t ∷ ts) = here t ts (means t) refl
