-- Arguments, the arms of a CASE, and its operand and ELSE, as they are read.
use Rattle.std.proofs.Common.{◌≡◌, ℕ, suc, length, ◌≤◌, max, true, false, List, [], ◌∷◌, ◌++◌, Option, Some, None, refl, sym, ◌∙◌, ap, subst, append_assoc, arith}
use Rattle.std.proofs.lemmas.List.{append-nil}
use Rattle.cr_tree.specs.declared.symbol.Mark.TheVariants as m
use Rattle.cr_tree.specs.declared.symbol.Symbol.{Symbol}
use Rattle.cr_tree.specs.declared.symbol.Symbol.TheVariants as k
use Rattle.cr_tree.specs.declared.expr.Expr.{Expr}
use Rattle.cr_tree.specs.declared.expr.When.{When, roll-When}
use Rattle.cr_tree.specs.declared.limits.Limits.{Limits}
use Rattle.cr_tree.specs.declared.limits.LimitKind.TheVariants as limits
use Rattle.cr_tree.specs.Marks.{same_mark, is_mark}
use Rattle.cr_tree.specs.Grammar.{Phrase, Phrases, One, And_more, Arms, Arm, And_arms, Perhaps, Absent, Present, spelled, spelled_all, spelled_arms, spelled_perhaps, tree, trees, arms_trees, tree_perhaps, AreProper, AreProperArms, IsProperPerhaps, height, height_all, height_arms, height_perhaps, opened_all, opened_arms, opened_perhaps, comma_count, most_commas_all, most_commas_arms, most_commas_perhaps}
use Rattle.cr_tree.specs.Reading.{◌>>=◌, pure, expect, many, others, behind, Maybe, add_item, add_arm, Rules, argument_limits, below_limits, up_to, items, arguments, otherwise, arm, arms}
use Rattle.cr_tree.proofs.Forms.{Right, mark_is, is_same, as_right, stop_right, map_right, mark_right, then_right}
use Rattle.cr_tree.proofs.Repeats.{begins_next, option_fits, option_words, option_value, optional_right, all_fit, all_words, gather, many_right, up_right, IsClosed, closed_no_comma}
use Rattle.cr_tree.proofs.Phrases.{Written, sized, Stops, least_tight, stops_close, stops_comma, stops_when, stops_then, stops_end}

-- ---- items and arguments

pub record AllWritten (lim : Limits) (all : Phrases) : Type 0 where
  pub proper : AreProper all
  pub low : height_all all ≤ lim.room
  pub few : opened_all all ≤ lim.opens
  pub short : most_commas_all all ≤ lim.commas

abbrev phrases : Phrase → List Phrase → Phrases
phrases p [] = One p
phrases p (q ∷ qs) = And_more p (phrases q qs)

abbrev first_of : Phrases → Phrase
first_of (One p) = p
first_of (And_more p all) = p

abbrev others_of : Phrases → List Phrase
others_of (One p) = []
others_of (And_more p all) = first_of all ∷ others_of all

phrases_back : (all : Phrases) → phrases (first_of all) (others_of all) ≡ all
phrases_back (One p) = refl
phrases_back (And_more p all) = ap (And_more p) (phrases_back all)

phrases_fit : (lim : Limits) (p : Phrase) (qs : List Phrase) → Written lim 1 p → all_fit (Written lim 1) qs → AllWritten lim (phrases p qs)
phrases_fit lim p [] w i = record { proper = w.proper; low = w.low; few = w.few; short = w.short }
phrases_fit lim p (q ∷ qs) w i = let r = phrases_fit lim q qs i.0 i.1 in
    record { proper = (w.proper, r.proper); low = omega (arith, w.low, r.low); few = omega (arith, w.few, r.few); short = omega (arith, w.short, r.short) }

first_fits : (lim : Limits) (all : Phrases) → AllWritten lim all → Written lim 1 (first_of all)
first_fits lim (One p) w = record { proper = w.proper; tight = least_tight p; low = w.low; few = w.few; short = w.short }
first_fits lim (And_more p all) w = record { proper = w.proper.0; tight = least_tight p; low = omega (arith, w.low); few = omega (arith, w.few); short = omega (arith, w.short) }

others_fit : (lim : Limits) (all : Phrases) → AllWritten lim all → all_fit (Written lim 1) (others_of all)
others_fit lim (One p) w = tt
others_fit lim (And_more p all) w = let r : AllWritten lim all = record { proper = w.proper.1; low = omega (arith, w.low); few = omega (arith, w.few); short = omega (arith, w.short) } in
    (first_fits lim all r, others_fit lim all r)

phrases_spelled : (p : Phrase) (qs : List Phrase) → spelled_all (phrases p qs) ≡ spelled p ++ all_words (λ q. k.Mark m.Comma ∷ spelled q) qs
phrases_spelled p [] = sym (append-nil (spelled p))
phrases_spelled p (q ∷ qs) = ap (λ z. spelled p ++ k.Mark m.Comma ∷ z) (phrases_spelled q qs)

phrases_gathered : (xs : List Expr) (h : ℕ) (p : Phrase) (qs : List Phrase) → gather add_item sized (xs ++ tree p ∷ [], max h (height p)) qs ≡ (xs ++ trees (phrases p qs), max h (height_all (phrases p qs)))
phrases_gathered xs h p [] = refl
phrases_gathered xs h p (q ∷ qs) =
    let most : max (max h (height p)) (height_all (phrases q qs)) ≡ max h (max (height p) (height_all (phrases q qs))) = omega arith in
    phrases_gathered (xs ++ tree p ∷ []) (max h (height p)) q qs ∙ (ap (λ z. (z, max (max h (height p)) (height_all (phrases q qs)))) (append_assoc xs (tree p ∷ []) (trees (phrases q qs))) ∙ ap (λ n. (xs ++ tree p ∷ trees (phrases q qs), n)) most)

phrases_mean : (p : Phrase) (qs : List Phrase) → (trees (phrases p qs), height_all (phrases p qs)) ≡ gather add_item sized (tree p ∷ [], height p) qs
phrases_mean p qs =
    let first : height p ≡ max 0 (height p) = omega arith in
    let last : max 0 (height_all (phrases p qs)) ≡ height_all (phrases p qs) = omega arith in
    sym (ap (λ n. gather add_item sized (tree p ∷ [], n) qs) first ∙ (phrases_gathered [] 0 p qs ∙ ap (λ n. (trees (phrases p qs), n)) last))

-- ---- arms

pub record ArmsWritten (lim : Limits) (all : Arms) : Type 0 where
  pub proper : AreProperArms all
  pub low : height_arms all ≤ lim.room
  pub few : opened_arms all ≤ lim.opens
  pub short : most_commas_arms all ≤ lim.commas

abbrev Pair : Type 0
Pair = Phrase × Phrase

abbrev pair_fits : Limits → Pair → Type 0
pair_fits lim d = Written lim 1 d.0 × Written lim 1 d.1

abbrev pair_spelled : Pair → List Symbol
pair_spelled d = k.Mark m.When ∷ spelled d.0 ++ k.Mark m.Then ∷ spelled d.1

abbrev pair_value : Pair → When × ℕ
pair_value d = (roll-When (record { when = tree d.0; then = tree d.1 }), max (height d.0) (height d.1))

abbrev arms_of : Pair → List Pair → Arms
arms_of d [] = Arm d.0 d.1
arms_of d (e ∷ es) = And_arms d.0 d.1 (arms_of e es)

abbrev first_arm : Arms → Pair
first_arm (Arm p q) = (p, q)
first_arm (And_arms p q all) = (p, q)

abbrev other_arms : Arms → List Pair
other_arms (Arm p q) = []
other_arms (And_arms p q all) = first_arm all ∷ other_arms all

arms_back : (all : Arms) → arms_of (first_arm all) (other_arms all) ≡ all
arms_back (Arm p q) = refl
arms_back (And_arms p q all) = ap (And_arms p q) (arms_back all)

arms_fit : (lim : Limits) (d : Pair) (es : List Pair) → pair_fits lim d → all_fit (pair_fits lim) es → ArmsWritten lim (arms_of d es)
arms_fit lim d [] w i = record { proper = (w.0.proper, w.1.proper); low = omega (arith, w.0.low, w.1.low); few = omega (arith, w.0.few, w.1.few); short = omega (arith, w.0.short, w.1.short) }
arms_fit lim d (e ∷ es) w i = let r = arms_fit lim e es i.0 i.1 in
    record { proper = (w.0.proper, w.1.proper, r.proper); low = omega (arith, w.0.low, w.1.low, r.low); few = omega (arith, w.0.few, w.1.few, r.few); short = omega (arith, w.0.short, w.1.short, r.short) }

first_arm_fits : (lim : Limits) (all : Arms) → ArmsWritten lim all → pair_fits lim (first_arm all)
first_arm_fits lim (Arm p q) w = (record { proper = w.proper.0; tight = least_tight p; low = omega (arith, w.low); few = omega (arith, w.few); short = omega (arith, w.short) }, record { proper = w.proper.1; tight = least_tight q; low = omega (arith, w.low); few = omega (arith, w.few); short = omega (arith, w.short) })
first_arm_fits lim (And_arms p q all) w = (record { proper = w.proper.0; tight = least_tight p; low = omega (arith, w.low); few = omega (arith, w.few); short = omega (arith, w.short) }, record { proper = w.proper.1; tight = least_tight q; low = omega (arith, w.low); few = omega (arith, w.few); short = omega (arith, w.short) })

other_arms_fit : (lim : Limits) (all : Arms) → ArmsWritten lim all → all_fit (pair_fits lim) (other_arms all)
other_arms_fit lim (Arm p q) w = tt
other_arms_fit lim (And_arms p q all) w = let r : ArmsWritten lim all = record { proper = w.proper.2; low = omega (arith, w.low); few = omega (arith, w.few); short = omega (arith, w.short) } in
    (first_arm_fits lim all r, other_arms_fit lim all r)

arms_spelled : (d : Pair) (es : List Pair) → spelled_arms (arms_of d es) ≡ pair_spelled d ++ all_words pair_spelled es
arms_spelled d [] = sym (append-nil (pair_spelled d))
arms_spelled d (e ∷ es) = ap (λ z. k.Mark m.When ∷ spelled d.0 ++ (k.Mark m.Then ∷ spelled d.1 ++ z)) (arms_spelled e es)
    ∙ ap (λ z. k.Mark m.When ∷ z) (sym (append_assoc (spelled d.0) (k.Mark m.Then ∷ spelled d.1) (all_words pair_spelled (e ∷ es))))

arms_gathered : (xs : List When) (h : ℕ) (d : Pair) (es : List Pair) → gather add_arm pair_value (xs ++ (pair_value d).0 ∷ [], max h (pair_value d).1) es ≡ (xs ++ arms_trees (arms_of d es), max h (height_arms (arms_of d es)))
arms_gathered xs h d [] = refl
arms_gathered xs h d (e ∷ es) =
    let most : max (max h (pair_value d).1) (height_arms (arms_of e es)) ≡ max h (max (pair_value d).1 (height_arms (arms_of e es))) = omega arith in
    arms_gathered (xs ++ (pair_value d).0 ∷ []) (max h (pair_value d).1) e es ∙ (ap (λ z. (z, max (max h (pair_value d).1) (height_arms (arms_of e es)))) (append_assoc xs ((pair_value d).0 ∷ []) (arms_trees (arms_of e es))) ∙ ap (λ n. (xs ++ (pair_value d).0 ∷ arms_trees (arms_of e es), n)) most)

arms_mean : (d : Pair) (es : List Pair) → (arms_trees (arms_of d es), height_arms (arms_of d es)) ≡ gather add_arm pair_value ((pair_value d).0 ∷ [], (pair_value d).1) es
arms_mean d es =
    let first : (pair_value d).1 ≡ max 0 (pair_value d).1 = omega arith in
    let last : max 0 (height_arms (arms_of d es)) ≡ height_arms (arms_of d es) = omega arith in
    sym (ap (λ n. gather add_arm pair_value ((pair_value d).0 ∷ [], n) es) first ∙ (arms_gathered [] 0 d es ∙ ap (λ n. (arms_trees (arms_of d es), n)) last))

-- ---- an operand, or none

pub record PerhapsWritten (lim : Limits) (s : Perhaps) : Type 0 where
  pub proper : IsProperPerhaps s
  pub low : height_perhaps s ≤ lim.room
  pub few : opened_perhaps s ≤ lim.opens
  pub short : most_commas_perhaps s ≤ lim.commas

abbrev perhaps : Option Phrase → Perhaps
perhaps None = Absent
perhaps (Some p) = Present p

abbrev of_perhaps : Perhaps → Option Phrase
of_perhaps Absent = None
of_perhaps (Present p) = Some p

perhaps_fits : (lim : Limits) (d : Option Phrase) → option_fits (Written lim 1) d → PerhapsWritten lim (perhaps d)
perhaps_fits lim None i = record { proper = tt; low = omega arith; few = omega arith; short = omega arith }
perhaps_fits lim (Some p) i = record { proper = i.proper; low = i.low; few = i.few; short = i.short }

fits_perhaps : (lim : Limits) (s : Perhaps) → PerhapsWritten lim s → option_fits (Written lim 1) (of_perhaps s)
fits_perhaps lim Absent i = tt
fits_perhaps lim (Present p) i = record { proper = i.proper; tight = least_tight p; low = i.low; few = i.few; short = i.short }

abbrev pub perhaps_value : Perhaps → Maybe
perhaps_value s = (tree_perhaps s, height_perhaps s)

abbrev else_value : Phrase → Maybe
else_value p = (Some (tree p), height p)

abbrev pub IsEnd : List Symbol → Type 0
IsEnd (k.Mark m.End ∷ ts) = Unit {0}
IsEnd _ = ⊥

-- what may stand behind the arms
abbrev pub NoWhen : List Symbol → Type 0
NoWhen rest = (begins_next (is_mark m.When) rest ≡ false) × Stops 1 rest

-- ---- what stands behind an item

closes : (ts : List Symbol) → IsClosed ts → Stops 1 ts
closes (k.Mark m.Close ∷ ts) h = stops_close ts
closes _ h = absurd h

commas : (ts : List Symbol) → begins_next (is_mark m.Comma) ts ≡ true → Stops 1 ts
commas [] h = absurd (cc)
commas (t ∷ ts) h = subst (λ z. Stops 1 (z ∷ ts)) (sym (mark_is m.Comma t h)) (stops_comma ts)

link : (qs : List Phrase) (rest : List Symbol) → IsClosed rest → Stops 1 (all_words (λ q. k.Mark m.Comma ∷ spelled q) qs ++ rest)
link [] rest h = closes rest h
link (q ∷ qs) rest h = stops_comma ((spelled q ++ all_words (λ q. k.Mark m.Comma ∷ spelled q) qs) ++ rest)

-- arguments, with as many commas as a call may have
pub record Listing (lim : Limits) (all : Phrases) : Type 0 where
  pub written : AllWritten (argument_limits lim) all
  pub short : comma_count all ≤ lim.commas

module _ (lim : Limits) (rules : Rules) where
  pub items_right : Right (Written (argument_limits lim) 1) spelled sized (Stops 1) rules.argument
      → Right (AllWritten (argument_limits lim)) spelled_all (λ all. (trees all, height_all all)) IsClosed (items lim rules)
  unfolding items
  items_right r = as_right (λ d. phrases d.0 d.1) (λ all. (first_of all, others_of all)) (λ d i. phrases_fit (argument_limits lim) d.0 d.1 i.0 i.1) (λ all i. (first_fits (argument_limits lim) all i, others_fit (argument_limits lim) all i))
      (λ d. phrases_spelled d.0 d.1) (λ d. phrases_mean d.0 d.1) phrases_back
      (then_right (λ x. others rules.argument add_item (x.0 ∷ [], x.1)) r
      (λ p i. stop_right (λ rest h. (closed_no_comma rest h, closes rest h)) (many_right (is_mark m.Comma) add_item (mark_right m.Comma r) (λ q j. is_same m.Comma) commas (tree p ∷ [], height p)))
      (λ qs rest i h. link qs rest h))

  pub arguments_right : Right (Written (argument_limits lim) 1) spelled sized (Stops 1) rules.argument
      → Right (Listing lim) spelled_all (λ all. (trees all, height_all all)) IsClosed (arguments lim rules)
  unfolding arguments
  arguments_right r = as_right (λ d. phrases d.0 d.1) (λ all. (first_of all, others_of all)) fits
      (λ all i. (first_fits (argument_limits lim) all i.written, (others_fit (argument_limits lim) all i.written, omega (arith, i.short, counted all))))
      (λ d. phrases_spelled d.0 d.1) (λ d. phrases_mean d.0 d.1) phrases_back
      (then_right (λ x. up_to limits.Arguments (is_mark m.Comma) (behind m.Comma rules.argument) add_item lim.commas (x.0 ∷ [], x.1)) r
      (λ p i. stop_right (λ rest h. (closed_no_comma rest h, closes rest h)) (up_right limits.Arguments (is_mark m.Comma) add_item (mark_right m.Comma r) (λ q j. is_same m.Comma) commas lim.commas (tree p ∷ [], height p)))
      (λ qs rest i h. link qs rest h))
    where
      counted : (all : Phrases) → length (others_of all) ≡ comma_count all
      counted (One p) = refl
      counted (And_more p all) = ap suc (counted all)

      counts : (p : Phrase) (qs : List Phrase) → comma_count (phrases p qs) ≡ length qs
      counts p [] = refl
      counts p (q ∷ qs) = ap suc (counts q qs)

      fits : (d : Phrase × List Phrase) → Written (argument_limits lim) 1 d.0 × (all_fit (Written (argument_limits lim) 1) d.1 × (length d.1 ≤ lim.commas)) → Listing lim (phrases d.0 d.1)
      fits d i = record { written = phrases_fit (argument_limits lim) d.0 d.1 i.0 i.1.0; short = omega (arith, i.1.1, counts d.0 d.1) }

  module _ (below_right : Right (Written (below_limits lim) 1) spelled sized (Stops 1) (rules.below 1)) where
    arm_right : Right (pair_fits (below_limits lim)) pair_spelled pair_value (Stops 1) (arm lim rules)
    unfolding arm
    arm_right = mark_right m.When (then_right (λ x. expect m.Then >>= (λ _. rules.below 1 >>= (λ y. pure (roll-When (record { when = x.0; then = y.0 }), max x.1 y.1)))) below_right
        (λ p i. mark_right m.Then (map_right (λ y. (roll-When (record { when = tree p; then = y.0 }), max (height p) y.1)) below_right)) (λ q rest i st. stops_then (spelled q ++ rest)))

    pub arms_right : Right (ArmsWritten (below_limits lim)) spelled_arms (λ all. (arms_trees all, height_arms all)) NoWhen (arms lim rules)
    unfolding arms
    arms_right = as_right (λ d. arms_of d.0 d.1) (λ all. (first_arm all, other_arms all)) (λ d i. arms_fit (below_limits lim) d.0 d.1 i.0 i.1) (λ all i. (first_arm_fits (below_limits lim) all i, other_arms_fit (below_limits lim) all i))
        (λ d. arms_spelled d.0 d.1) (λ d. arms_mean d.0 d.1) arms_back
        (then_right (λ x. many (is_mark m.When) (arm lim rules) add_arm (x.0 ∷ [], x.1)) arm_right
        (λ d i. many_right (is_mark m.When) add_arm arm_right (λ e j. is_same m.When) whens ((pair_value d).0 ∷ [], (pair_value d).1)) link)
      where
        whens : (ts : List Symbol) → begins_next (is_mark m.When) ts ≡ true → Stops 1 ts
        whens [] h = absurd (cc)
        whens (t ∷ ts) h = subst (λ z. Stops 1 (z ∷ ts)) (sym (mark_is m.When t h)) (stops_when ts)

        link : (es : List Pair) (rest : List Symbol) → all_fit (pair_fits (below_limits lim)) es → NoWhen rest → Stops 1 (all_words pair_spelled es ++ rest)
        link [] rest i h = h.1
        link (e ∷ es) rest i h = stops_when (((spelled e.0 ++ k.Mark m.Then ∷ spelled e.1) ++ all_words pair_spelled es) ++ rest)

    else_right : Right (Written (below_limits lim) 1) (λ p. k.Mark m.Else ∷ spelled p) else_value (Stops 1) (behind m.Else (rules.below 1) >>= (λ x. pure (Some x.0, x.1)))
    else_right = map_right (λ x. (Some x.0, x.1)) (mark_right m.Else below_right)

    pub otherwise_right : Right (PerhapsWritten (below_limits lim)) (λ s. spelled_perhaps s (k.Mark m.Else ∷ [])) perhaps_value IsEnd (otherwise lim rules)
    unfolding otherwise same_mark
    otherwise_right = as_right perhaps of_perhaps (perhaps_fits (below_limits lim)) (fits_perhaps (below_limits lim)) words value back
        (stop_right ends (optional_right (is_mark m.Else) (None, 0) (λ p i. is_same m.Else) else_right))
      where
        words : (d : Option Phrase) → spelled_perhaps (perhaps d) (k.Mark m.Else ∷ []) ≡ option_words (λ p. k.Mark m.Else ∷ spelled p) d
        words None = refl
        words (Some p) = refl

        value : (d : Option Phrase) → perhaps_value (perhaps d) ≡ option_value {A = Maybe} (None, 0) else_value d
        value None = refl
        value (Some p) = refl

        back : (s : Perhaps) → perhaps (of_perhaps s) ≡ s
        back Absent = refl
        back (Present p) = refl

        no_else : (ts : List Symbol) → begins_next (is_mark m.Else) (k.Mark m.End ∷ ts) ≡ false
        no_else ts = refl

        ends : (rest : List Symbol) → IsEnd rest → (begins_next (is_mark m.Else) rest ≡ false) × Stops 1 rest
        ends (k.Mark m.End ∷ ts) h = (no_else ts, stops_end ts)
        ends _ h = absurd h
