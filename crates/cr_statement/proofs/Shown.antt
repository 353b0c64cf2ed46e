-- The parser of what a SELECT shows masters its language.
use Rattle.std.proofs.Common.{◌≡◌, ℕ, Bool, true, false, ◌&&◌, List, [], ◌∷◌, ◌++◌, Some, None, length, refl, sym, ◌∙◌, ap, append_assoc, arith}
use Rattle.cr_tree.specs.declared.limits.Limits.{Limits}
use Rattle.cr_tree.specs.declared.symbol.Mark.{Mark}
use Rattle.cr_tree.specs.declared.symbol.Mark.TheVariants as m
use Rattle.cr_tree.specs.declared.symbol.Symbol.{Symbol}
use Rattle.cr_tree.specs.declared.symbol.Symbol.TheVariants as k
use Rattle.cr_tree.specs.Marks.{same_mark, is_mark}
use Rattle.cr_tree.specs.Grammar.{Phrase, Leaf, Name, With, spelled, spelled_tail, IsProper}
use Rattle.cr_tree.specs.Reading.{Outcome, Fails, Syntax, Parser, and_then, ◌>>=◌, pure, head, rest_of, expect, name, sees, is_name, named, level, begins, rules_of, whole}
use Rattle.cr_tree.specs.Language.{Language}
use Rattle.cr_tree.specs.Language.{expr as phrase}
use Rattle.cr_tree.proofs.Forms.{is_same, mark_is}
use Rattle.cr_tree.proofs.Repeats.{begins_next}
use Rattle.cr_tree.proofs.Phrases.{Stops, goes_on, tail_plain, least_tight, phrase_not}
use Rattle.cr_tree.proofs.Knot.{expr_level}
use Rattle.cr_tree.proofs.Tracks.{Within, all_exact, not_widened}
use Rattle.cr_tree.specs.declared.statement.Shown.{Shown}
use Rattle.cr_tree.specs.declared.statement.Shown.TheVariants as s
use Rattle.cr_statement.specs.Languages.{Either, One, Other, ◌▷◌, ◌⊗◌, ◌⟨$⟩◌, ◌∣◌, mark}
use Rattle.cr_statement.specs.Languages as languages
use Rattle.cr_statement.specs.Statements as grammar
use Rattle.cr_statement.specs.Reading.{made, both}
use Rattle.cr_statement.specs.Queries.{alias, sees_starred, starred, labelled, shown}
use Rattle.cr_statement.proofs.Mastery.{MastersBefore, Anything, Tells, alike, takes, Avoids, neither, refuses_later, followed_by, made_of, behind_mark, before_mark, and_then_by, ahead_of, either_of, nothing_of, name_of, expr_of}
use Rattle.cr_statement.proofs.Queries.{Apart, alias_of}

-- what follows begins no alias, and doesn't go on with an expression
abbrev pub Shows : List Symbol → Type 0
Shows rest = Apart rest × Stops 1 rest

abbrev all_of : Language Shown
all_of = s.AllOf ⟨$⟩ languages.name ▷ m.Dot ▷ m.Star

abbrev one : Language Shown
one = (λ x. s.One x.0 x.1) ⟨$⟩ phrase ⊗ grammar.alias

starred_of : MastersBefore Shows all_of (λ lim. starred)
unfolding starred
starred_of = followed_by (made_of (before_mark (before_mark name_of m.Dot (λ rest. tt)) m.Star (λ rest. tt)) s.AllOf) (λ rest h. tt)

alias_stops : (d : grammar.alias.D) (rest : List Symbol) → Shows rest → Stops 1 (grammar.alias.words d ++ rest)
alias_stops None rest st = st.1
alias_stops (Some d) rest st = at d.0 d.1
  where
    at : (b : Bool) (n : List ℕ) → Stops 1 (((languages.maybe_mark m.As).words b ++ k.Name n ∷ []) ++ rest)
    at true n = record { operator = omega arith; plain = refl }
    at false n = record { operator = omega arith; plain = refl }

labelled_of : MastersBefore Shows one labelled
unfolding labelled
labelled_of = made_of (and_then_by expr_of (followed_by alias_of (λ rest h. h.0)) (λ lim d rest i st. alias_stops d rest st)) (λ x. s.One x.0 x.1)

-- ---- three symbols ahead

no_dot : (ts : List Symbol) → goes_on ts ≡ false → sees m.Dot ts ≡ false
no_dot [] h = refl
no_dot (t ∷ ts) h = at (is_mark m.Dot t) refl
  where
    at : (b : Bool) → is_mark m.Dot t ≡ b → b ≡ false
    at false e = refl
    at true e = absurd (let dotted : goes_on (t ∷ ts) ≡ true = ap (λ z. goes_on (z ∷ ts)) (mark_is m.Dot t e) in cc)

-- an expression begins with no name, dot and star
phrase_plain : (p : Phrase) (ts : List Symbol) → IsProper p → goes_on ts ≡ false → sees_starred (spelled p ++ ts) ≡ false
unfolding same_mark
phrase_plain (Name n) ts i h = ap (λ z. z && sees m.Star (rest_of ts)) (no_dot ts h)
phrase_plain (With p t) ts i h = ap sees_starred (append_assoc (spelled p) (spelled_tail t) ts) ∙ phrase_plain p (spelled_tail t ++ ts) i.0 (tail_plain t ts)
phrase_plain (Leaf (k.Name n) x) ts i h = absurd (cc)
phrase_plain (Leaf t x) ts i h = refl
phrase_plain _ ts i h = refl

starred_refuses : (n : List ℕ) → starred (k.Name n ∷ k.Mark m.Dot ∷ []) ≡ Fails Syntax []
unfolding starred name expect same_mark
starred_refuses n = refl

level_refuses : (lim : Limits) (n : List ℕ) → level lim (rules_of lim) 1 (k.Name n ∷ k.Mark m.Dot ∷ []) ≡ Fails Syntax []
unfolding level named name
level_refuses lim n = refl

first_refuses : {A B C : Type 0} (p : Parser A) (q : Parser B) (h : A × B → C) (ts rest : List Symbol) → p ts ≡ Fails Syntax rest → made h (both p q) ts ≡ Fails Syntax rest
first_refuses {A} {B} {C} p q h ts rest e = ap (λ (o : Outcome A). and_then {A = A × B} {B = C} (and_then {A = A} {B = A × B} o (λ a. q >>= (λ b. pure (a, b)))) (λ x. pure (h x))) e

whole_refuses : (lim : Limits) (n : List ℕ) → whole lim (k.Name n ∷ k.Mark m.Dot ∷ []) ≡ Fails Syntax []
unfolding whole
whole_refuses lim n = ap (λ z. and_then z (λ x. pure x.0)) (expr_level lim 1 (k.Name n ∷ k.Mark m.Dot ∷ []) ∙ level_refuses lim n)

labelled_refuses : (lim : Limits) (n : List ℕ) → labelled lim (k.Name n ∷ k.Mark m.Dot ∷ []) ≡ Fails Syntax []
unfolding labelled
labelled_refuses lim n = first_refuses (whole lim) alias (λ x. s.One x.0 x.1) (k.Name n ∷ k.Mark m.Dot ∷ []) [] (whole_refuses lim n)

-- what refuses the end behind a name and a dot takes both
module _ (L : Language Shown) (f : Limits → Parser Shown) (p : MastersBefore Shows L f) (n : List ℕ) (refuses : (lim : Limits) → f lim (k.Name n ∷ k.Mark m.Dot ∷ []) ≡ Fails Syntax []) where
  takes_name : (u : List Symbol) (lim : Limits) → Within (length u) (f lim (k.Name n ∷ u))
  takes_name u lim = refuses_later (f lim) [] (k.Name n) u (k.Mark m.Dot ∷ []) (p.regular all_exact (k.Name n ∷ u) (k.Name n ∷ k.Mark m.Dot ∷ []) refl lim lim (not_widened lim)) (refuses lim)

  takes_dot : (u : List Symbol) (lim : Limits) → Within (length u) (f lim (k.Name n ∷ k.Mark m.Dot ∷ u))
  takes_dot u lim = refuses_later (f lim) (k.Name n ∷ []) (k.Mark m.Dot) u [] (p.regular all_exact (k.Mark m.Dot ∷ u) (k.Mark m.Dot ∷ []) refl lim lim (not_widened lim)) (refuses lim)

sees_same : (x : Mark) (v v' : List Symbol) → head v ≡ head v' → sees x v ≡ sees x v'
sees_same x [] [] h = refl
sees_same x [] (t ∷ w) h = absurd (cc)
sees_same x (t ∷ w) [] h = absurd (cc)
sees_same x (t ∷ w) (t' ∷ w') h = let same : t ≡ t' = cc in ap (is_mark x) same

starred_tells : (p v v' : List Symbol) → head v ≡ head v' → Tells sees_starred (λ lim. starred) labelled p v v'
starred_tells (x ∷ (y ∷ (z ∷ p))) v v' h = alike refl
starred_tells (x ∷ (y ∷ [])) v v' h = alike (ap (λ c. is_name x && (is_mark m.Dot y && c)) (sees_same m.Star v v' h))
starred_tells ((k.Name n) ∷ []) v v' h = dotted v (sees m.Dot v) refl h
  where
    dotted : (v : List Symbol) (c : Bool) → sees m.Dot v ≡ c → head v ≡ head v' → Tells sees_starred (λ lim. starred) labelled (k.Name n ∷ []) v v'
    dotted v false e h = alike (ap (λ z. z && sees m.Star (rest_of v)) e ∙ ap (λ z. z && sees m.Star (rest_of v')) (sym e ∙ sees_same m.Dot v v' h))
    dotted [] true e h = absurd (cc)
    dotted (t ∷ u) true e h = takes (k.Mark m.Dot) u (ap (λ z. z ∷ u) (mark_is m.Dot t e)) (takes_dot all_of (λ lim. starred) starred_of n (λ lim. starred_refuses n) u) (takes_dot one labelled labelled_of n (λ lim. labelled_refuses lim n) u)
starred_tells (x ∷ []) v v' h = alike refl
starred_tells [] [] [] h = alike refl
starred_tells [] [] (t ∷ w) h = absurd (cc)
starred_tells [] (t ∷ w) [] h = absurd (cc)
starred_tells [] (k.Name n ∷ w) (t' ∷ w') h = takes (k.Name n) w refl (takes_name all_of (λ lim. starred) starred_of n (λ lim. starred_refuses n) w) (takes_name one labelled labelled_of n (λ lim. labelled_refuses lim n) w)
starred_tells [] (t ∷ w) (t' ∷ w') h = let same : t ≡ t' = cc in alike (ap (λ z. is_name z && (sees m.Dot w' && sees m.Star (rest_of w'))) same)

-- ---- what is shown

one_avoids : (stop : List Symbol → Type 0) (x : Mark) → begins 1 (k.Mark x) ≡ false → Avoids (is_mark x) stop one
one_avoids stop x e lim d rest i st = ap (begins_next (is_mark x)) (append_assoc (spelled d.0) (grammar.alias.words d.1) rest) ∙ phrase_not 1 x d.0 (grammar.alias.words d.1 ++ rest) i.0.proper (least_tight d.0) e

pub shown_of : MastersBefore Shows grammar.shown shown
unfolding shown same_mark begins
shown_of = either_of (is_mark m.Star) (λ lim d i. is_same m.Star) (neither Shows (is_mark m.Star) all_of one (λ lim d rest i st. refl) (one_avoids Shows m.Star refl))
    (followed_by (behind_mark (nothing_of s.All) m.Star) (λ rest h. tt))
    (ahead_of sees_starred (λ lim d rest i. refl) plain starred_tells starred_of labelled_of)
  where
    plain : (lim : Limits) (d : one.D) (rest : List Symbol) → one.fits lim d → Shows rest → sees_starred (one.words d ++ rest) ≡ false
    plain lim d rest i st = ap sees_starred (append_assoc (spelled d.0) (grammar.alias.words d.1) rest) ∙ phrase_plain d.0 (grammar.alias.words d.1 ++ rest) i.0.proper (alias_stops d.1 rest st).plain

-- what is shown begins with no mark but a star and those of an expression
pub shown_avoids : (x : Mark) → same_mark x m.Star ≡ false → begins 1 (k.Mark x) ≡ false → Avoids (is_mark x) Anything grammar.shown
shown_avoids x e b = neither Anything (is_mark x) (mark m.Star s.All) (all_of ∣ one) (λ lim d rest i st. e) (neither Anything (is_mark x) all_of one (λ lim d rest i st. refl) (one_avoids Anything x b))
