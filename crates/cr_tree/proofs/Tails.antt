-- What stands behind an operand, as it is read.
use Rattle.std.proofs.Common.{◌≡◌, ℕ, suc, ◌≤◌, ◌<◌, max, Bool, true, false, if◌then◌else◌, nat_lt, List, [], ◌∷◌, ◌++◌, refl, sym, ◌∙◌, ap, subst, arith}
use Rattle.std.proofs.lemmas.Bool.{lt-ltb, ltb-true}
use Rattle.cr_tree.specs.declared.symbol.Mark.TheVariants as m
use Rattle.cr_tree.specs.declared.limits.Limits.{Limits}
use Rattle.cr_tree.specs.declared.symbol.Symbol.{Symbol}
use Rattle.cr_tree.specs.declared.symbol.Symbol.TheVariants as k
use Rattle.cr_tree.specs.declared.expr.Unary.TheVariants as u
use Rattle.cr_tree.specs.declared.expr.Binary.TheVariants as b
use Rattle.cr_tree.specs.declared.expr.Expr.{Expr}
use Rattle.cr_tree.specs.declared.expr.Expr.TheVariants as e
use Rattle.cr_tree.specs.Marks.{is_mark}
use Rattle.cr_tree.specs.Grammar.{Operator, Or, And, Equal, DoubleEqual, Unequal, BangEqual, Is, IsNot, Like, NotLike, Less, AtMost, Greater, AtLeast, Plus, Minus, Star, Slash, Percent, Bars, Test, IsNull, NotNull, NotNullApart, Phrase, Phrases, Tail, Infix, Tested, Collated, Among, Between, operator_words, not_words, spelled, spelled_all, spelled_tail, tree, trees, with_tail, meaning, binds, tail_binds, IsProperTail, height, height_all, height_tail, opened_tail, most_commas_tail}
use Rattle.cr_tree.specs.Reading.{Outcome, Reads, Fails, Cause, Syntax, Deep, Rules, argument_limits, below_limits, and_then, ◌>>=◌, pure, head, look_by, after, when, expect, eat, name, Sized, joined, begins, binding, operated, is, between, among, negated, tail, tail_by}
use Rattle.cr_tree.proofs.Forms.{Good, Right, by_test, if_true, if_false, mark_is, is_same, nothing_read, good_as, good_behind, good_front, map_right, mark_right, then_right, closed_right}
use Rattle.cr_tree.proofs.Repeats.{begins_next, name_right}
use Rattle.cr_tree.proofs.Phrases.{Written, sized, Stops, phrase_not, binds_low, stops_and}
use Rattle.cr_tree.proofs.Lists.{AllWritten, items_right}

-- what stands behind something with this tree and height makes this of it
abbrev pub tail_value : Sized → Tail → Sized
tail_value left t = (with_tail t left.0, suc (max left.1 (height_tail t)))

no_more : (x : Expr) (n : ℕ) → ◌≡◌ {A = Sized} (x, suc (max n 0)) (x, suc n)
no_more x n = let same : max n 0 ≡ n = omega arith in ap (λ k. (x, suc k)) same

module _ (lim : Limits) (rules : Rules)
    (argument_right : 0 < lim.opens → 0 < lim.room → Right (Written (argument_limits lim) 1) spelled sized (Stops 1) rules.argument)
    (below_right : (l : ℕ) → 0 < lim.room → 0 < l → l ≤ 10 → Right (Written (below_limits lim) l) spelled sized (Stops l) (rules.below l)) where
  -- it fits within the limits behind an operand, and binds so tightly
  pub record TailFits (binds_so : ℕ) (t : Tail) : Type 0 where
    pub proper : IsProperTail t
    pub binding_is : tail_binds t ≡ binds_so
    pub low : height_tail t < lim.room
    pub few : opened_tail t ≤ lim.opens
    pub short : most_commas_tail t ≤ lim.commas

  module _ (roomy : 0 < lim.room) (left : Sized) where
    abbrev TailGood : ℕ → List Symbol → Outcome Sized → Type 0
    TailGood n ts o = Good (TailFits n) spelled_tail (tail_value left) ts o

    -- ---- operators

    operand : (op : Operator) → Right (Written (below_limits lim) (suc (binds op))) spelled (λ p. joined (meaning op) left (sized p)) (Stops (suc (binds op))) (operated lim rules left (suc (binds op)) (meaning op))
    unfolding operated
    operand op = map_right (joined (meaning op) left) (below_right (suc (binds op)) roomy (omega arith) (omega (arith, binds_low op)))

    infix_good : (op : Operator) (ts : List Symbol) → TailGood (binds op) (operator_words op ++ ts) (operated lim rules left (suc (binds op)) (meaning op) ts)
    infix_good op ts = good_as (Written (below_limits lim) (suc (binds op))) (λ p. operator_words op ++ spelled p) (λ p. joined (meaning op) left (sized p)) (TailFits (binds op)) spelled_tail (tail_value left) (Infix op)
        (λ p w. record { proper = (w.proper, omega (arith, w.tight)); binding_is = refl; low = omega (arith, w.low, roomy); few = w.few; short = w.short }) (λ p. refl) (λ p. refl) (operator_words op ++ ts) (operated lim rules left (suc (binds op)) (meaning op) ts)
        (good_front (Written (below_limits lim) (suc (binds op))) spelled (λ p. joined (meaning op) left (sized p)) (operator_words op) ts (operated lim rules left (suc (binds op)) (meaning op) ts) ((operand op).good ts))

    is_good : (ts : List Symbol) → TailGood 4 (k.Mark m.Is ∷ ts) (is lim rules left ts)
    unfolding is eat
    is_good [] = infix_good Is []
    is_good (t ∷ ts) = by_test (λ o. TailGood 4 (k.Mark m.Is ∷ t ∷ ts) (and_then o (λ n. operated lim rules left 5 (if n then b.IsNot else b.Is)))) (is_mark m.Not t) (Reads true ts) (Reads false (t ∷ ts))
        (λ h. subst (λ z. TailGood 4 (k.Mark m.Is ∷ z ∷ ts) (operated lim rules left 5 b.IsNot ts)) (sym (mark_is m.Not t h)) (infix_good IsNot ts))
        (λ h. infix_good Is (t ∷ ts))

    -- ---- BETWEEN and IN

    abbrev between_fits : Phrase × Phrase → Type 0
    between_fits d = Written (below_limits lim) 5 d.0 × Written (below_limits lim) 5 d.1

    abbrev between_spelled : Phrase × Phrase → List Symbol
    between_spelled d = spelled d.0 ++ k.Mark m.And ∷ spelled d.1

    abbrev between_value : Bool → Phrase × Phrase → Sized
    between_value n d = (e.Between n left.0 (tree d.0) (tree d.1), suc (max left.1 (max (height d.0) (height d.1))))

    bounds : (n : Bool) → Right between_fits between_spelled (between_value n) (Stops 5) (between lim rules n left)
    unfolding between
    bounds n = then_right (λ low. expect m.And >>= (λ _. rules.below 5 >>= (λ high. pure (e.Between n left.0 low.0 high.0, suc (max left.1 (max low.1 high.1)))))) (below_right 5 roomy (omega arith) (omega arith))
        (λ p i. mark_right m.And (map_right (λ high. (e.Between n left.0 (tree p) high.0, suc (max left.1 (max (height p) high.1)))) (below_right 5 roomy (omega arith) (omega arith)))) (λ q rest i st. stops_and (spelled q ++ rest))

    between_good : (n : Bool) (ts : List Symbol) → TailGood 4 (not_words n ++ k.Mark m.Between ∷ ts) (between lim rules n left ts)
    between_good n ts = good_as between_fits (λ d. not_words n ++ k.Mark m.Between ∷ between_spelled d) (between_value n) (TailFits 4) spelled_tail (tail_value left) (λ d. Between n d.0 d.1)
        (λ d w. record { proper = (w.0.proper, omega (arith, w.0.tight), w.1.proper, omega (arith, w.1.tight)); binding_is = refl; low = omega (arith, w.0.low, w.1.low, roomy); few = omega (arith, w.0.few, w.1.few); short = omega (arith, w.0.short, w.1.short) }) (λ d. refl) (λ d. refl)
        (not_words n ++ k.Mark m.Between ∷ ts) (between lim rules n left ts)
        (good_front between_fits (λ d. k.Mark m.Between ∷ between_spelled d) (between_value n) (not_words n) (k.Mark m.Between ∷ ts) (between lim rules n left ts)
        (good_behind between_fits between_spelled (between_value n) (k.Mark m.Between) ts (between lim rules n left ts) ((bounds n).good ts)))

    abbrev among_value : Bool → Phrases → Sized
    among_value n all = (e.In n left.0 (trees all), suc (max left.1 (height_all all)))

    members : 0 < lim.opens → (n : Bool) → Right (AllWritten (argument_limits lim)) (λ all. k.Mark m.Open ∷ spelled_all all ++ k.Mark m.Close ∷ []) (among_value n) (λ rest. Unit {0}) (among lim rules n left)
    unfolding among
    members h n = mark_right m.Open (closed_right m.Close (λ all. (e.In n left.0 all.0, suc (max left.1 all.1))) (λ rest. tt) (items_right lim rules (argument_right h roomy)))

    among_good : 0 < lim.opens → (n : Bool) (ts : List Symbol) → TailGood 4 (not_words n ++ k.Mark m.In ∷ ts) (among lim rules n left ts)
    among_good h n ts = good_as (AllWritten (argument_limits lim)) (λ all. not_words n ++ (k.Mark m.In ∷ k.Mark m.Open ∷ spelled_all all ++ k.Mark m.Close ∷ [])) (among_value n) (TailFits 4) spelled_tail (tail_value left) (Among n)
        (λ all w. record { proper = w.proper; binding_is = refl; low = omega (arith, w.low, roomy); few = omega (arith, w.few, h); short = omega (arith, w.short, h) }) (λ all. refl) (λ all. refl)
        (not_words n ++ k.Mark m.In ∷ ts) (among lim rules n left ts)
        (good_front (AllWritten (argument_limits lim)) (λ all. k.Mark m.In ∷ k.Mark m.Open ∷ spelled_all all ++ k.Mark m.Close ∷ []) (among_value n) (not_words n) (k.Mark m.In ∷ ts) (among lim rules n left ts)
        (good_behind (AllWritten (argument_limits lim)) (λ all. k.Mark m.Open ∷ spelled_all all ++ k.Mark m.Close ∷ []) (among_value n) (k.Mark m.In) ts (among lim rules n left ts) ((members h n).good ts)))

    -- ---- tests and names

    test_fits : (t : Test) → TailFits 4 (Tested t)
    test_fits t = record { proper = tt; binding_is = refl; low = roomy; few = omega arith; short = omega arith }

    negated_begun : (ts : List Symbol) (c : Cause) → TailGood 4 (k.Mark m.Not ∷ ts) (Fails c ts)
    negated_begun ts c = record { what = Tested NotNullApart; fitting = test_fits NotNullApart; front = k.Mark m.Not ∷ []; more = k.Mark m.Null ∷ []; reads = refl; spells = refl }

    negated_good : (ts : List Symbol) → TailGood 4 (k.Mark m.Not ∷ ts) (negated lim rules left ts)
    unfolding negated
    negated_good [] = negated_begun [] Syntax
    negated_good (k.Mark m.Null ∷ ts) = record { what = Tested NotNullApart; fitting = test_fits NotNullApart; spells = refl; means = no_more (e.Unary u.NotNull left.0) left.1 }
    negated_good (k.Mark m.Like ∷ ts) = infix_good NotLike ts
    negated_good (k.Mark m.Between ∷ ts) = between_good true ts
    negated_good (k.Mark m.In ∷ ts) = by_test (TailGood 4 (k.Mark m.Not ∷ k.Mark m.In ∷ ts)) (nat_lt 0 lim.opens) (among lim rules true left ts) (Fails Deep (k.Mark m.In ∷ ts))
        (λ h. among_good (ltb-true 0 lim.opens h) true ts) (λ h. negated_begun (k.Mark m.In ∷ ts) Deep)
    negated_good (t ∷ ts) = negated_begun (t ∷ ts) Syntax

    collated : (c : List ℕ) → TailFits 9 (Collated c)
    collated c = record { proper = tt; binding_is = refl; low = roomy; few = omega arith; short = omega arith }

    collate_good : (ts : List Symbol) → TailGood 9 (k.Mark m.Collate ∷ ts) (and_then (name ts) (λ c. pure (e.Collate left.0 c, suc left.1)))
    collate_good ts = good_as (λ c. Unit {0}) (λ c. k.Mark m.Collate ∷ k.Name c ∷ []) (λ (c : List ℕ). (e.Collate left.0 c, suc left.1)) (TailFits 9) spelled_tail (tail_value left) Collated (λ c i. collated c) (λ c. refl) (λ c. no_more (e.Collate left.0 c) left.1)
        (k.Mark m.Collate ∷ ts) (and_then (name ts) (λ c. pure (e.Collate left.0 c, suc left.1)))
        (good_behind (λ c. Unit {0}) (λ c. k.Name c ∷ []) (λ (c : List ℕ). (e.Collate left.0 c, suc left.1)) (k.Mark m.Collate) ts (and_then (name ts) (λ c. pure (e.Collate left.0 c, suc left.1))) ((map_right (λ c. (e.Collate left.0 c, suc left.1)) name_right).good ts))

    pub tail_good : (t : Symbol) (ts : List Symbol) → 0 < binding t → TailGood (binding t) (t ∷ ts) (tail_by lim rules left t (t ∷ ts))
    tail_good (k.Mark m.Not) ts h = negated_good ts
    tail_good (k.Mark m.Is) ts h = is_good ts
    tail_good (k.Mark m.In) ts h = by_test (TailGood 4 (k.Mark m.In ∷ ts)) (nat_lt 0 lim.opens) (among lim rules false left ts) (Fails Deep (k.Mark m.In ∷ ts))
        (λ h. among_good (ltb-true 0 lim.opens h) false ts) (λ h. nothing_read (Tested IsNull) (test_fits IsNull) (k.Mark m.In ∷ ts))
    tail_good (k.Mark m.Between) ts h = between_good false ts
    tail_good (k.Mark m.IsNull) ts h = record { what = Tested IsNull; fitting = test_fits IsNull; spells = refl; means = no_more (e.Unary u.IsNull left.0) left.1 }
    tail_good (k.Mark m.NotNull) ts h = record { what = Tested NotNull; fitting = test_fits NotNull; spells = refl; means = no_more (e.Unary u.NotNull left.0) left.1 }
    tail_good (k.Mark m.Collate) ts h = collate_good ts
    tail_good (k.Mark m.Or) ts h = infix_good Or ts
    tail_good (k.Mark m.And) ts h = infix_good And ts
    tail_good (k.Mark m.Equal) ts h = infix_good Equal ts
    tail_good (k.Mark m.DoubleEqual) ts h = infix_good DoubleEqual ts
    tail_good (k.Mark m.Unequal) ts h = infix_good Unequal ts
    tail_good (k.Mark m.BangEqual) ts h = infix_good BangEqual ts
    tail_good (k.Mark m.Like) ts h = infix_good Like ts
    tail_good (k.Mark m.Less) ts h = infix_good Less ts
    tail_good (k.Mark m.AtMost) ts h = infix_good AtMost ts
    tail_good (k.Mark m.Greater) ts h = infix_good Greater ts
    tail_good (k.Mark m.AtLeast) ts h = infix_good AtLeast ts
    tail_good (k.Mark m.Plus) ts h = infix_good Plus ts
    tail_good (k.Mark m.Minus) ts h = infix_good Minus ts
    tail_good (k.Mark m.Star) ts h = infix_good Star ts
    tail_good (k.Mark m.Slash) ts h = infix_good Slash ts
    tail_good (k.Mark m.Percent) ts h = infix_good Percent ts
    tail_good (k.Mark m.Bars) ts h = infix_good Bars ts
    tail_good _ ts h = absurd (omega (arith, h))

    -- ---- all of it is read

    is_reads : (p : Phrase) (rest : List Symbol) → Written (below_limits lim) 5 p → Stops 5 rest → is lim rules left (spelled p ++ rest) ≡ Reads (joined b.Is left (sized p)) rest
    unfolding is eat begins
    is_reads p rest w st = ap (λ o. and_then o (λ n. operated lim rules left 5 (if n then b.IsNot else b.Is))) (other (spelled p ++ rest) (phrase_not 5 m.Not p rest w.proper w.tight refl)) ∙ (operand Is).reads p rest w st
      where
        other : (xs : List Symbol) → begins_next (is_mark m.Not) xs ≡ false → look_by (pure false) (λ t. when (is_mark m.Not t) (after (pure true)) (pure false)) (head xs) xs ≡ Reads false xs
        other [] h = refl
        other (t ∷ xs) h = if_false (is_mark m.Not t) (Reads true xs) (Reads false (t ∷ xs)) h

    is_not_reads : (p : Phrase) (rest : List Symbol) → Written (below_limits lim) 5 p → Stops 5 rest → is lim rules left (k.Mark m.Not ∷ spelled p ++ rest) ≡ Reads (joined b.IsNot left (sized p)) rest
    unfolding is eat
    is_not_reads p rest w st = ap (λ o. and_then o (λ n. operated lim rules left 5 (if n then b.IsNot else b.Is))) (if_true (is_mark m.Not (k.Mark m.Not)) (Reads true (spelled p ++ rest)) (Reads false (k.Mark m.Not ∷ spelled p ++ rest)) (is_same m.Not)) ∙ (operand IsNot).reads p rest w st

    infix_reads : (op : Operator) (p : Phrase) (rest : List Symbol) → Written (below_limits lim) (suc (binds op)) p → Stops (suc (binds op)) rest → tail lim rules left ((operator_words op ++ spelled p) ++ rest) ≡ Reads (joined (meaning op) left (sized p)) rest
    unfolding tail negated
    infix_reads Is p rest w st = is_reads p rest w st
    infix_reads IsNot p rest w st = is_not_reads p rest w st
    infix_reads NotLike p rest w st = (operand NotLike).reads p rest w st
    infix_reads op p rest w st = (operand op).reads p rest w st

    among_reads : (n : Bool) (all : Phrases) (rest : List Symbol) → AllWritten (argument_limits lim) all → 0 < lim.opens → tail lim rules left (spelled_tail (Among n all) ++ rest) ≡ Reads (among_value n all) rest
    unfolding tail negated
    among_reads true all rest w h = if_true (nat_lt 0 lim.opens) (among lim rules true left ((k.Mark m.Open ∷ spelled_all all ++ k.Mark m.Close ∷ []) ++ rest)) (Fails Deep (k.Mark m.In ∷ (k.Mark m.Open ∷ spelled_all all ++ k.Mark m.Close ∷ []) ++ rest)) (lt-ltb 0 lim.opens h)
        ∙ (members h true).reads all rest w tt
    among_reads false all rest w h = if_true (nat_lt 0 lim.opens) (among lim rules false left ((k.Mark m.Open ∷ spelled_all all ++ k.Mark m.Close ∷ []) ++ rest)) (Fails Deep (k.Mark m.In ∷ (k.Mark m.Open ∷ spelled_all all ++ k.Mark m.Close ∷ []) ++ rest)) (lt-ltb 0 lim.opens h)
        ∙ (members h false).reads all rest w tt

    between_reads : (n : Bool) (p q : Phrase) (rest : List Symbol) → between_fits (p, q) → Stops 5 rest → tail lim rules left (spelled_tail (Between n p q) ++ rest) ≡ Reads (between_value n (p, q)) rest
    unfolding tail negated
    between_reads true p q rest w st = (bounds true).reads (p, q) rest w st
    between_reads false p q rest w st = (bounds false).reads (p, q) rest w st

    test_reads : (t : Test) (rest : List Symbol) → tail lim rules left (spelled_tail (Tested t) ++ rest) ≡ Reads (tail_value left (Tested t)) rest
    unfolding tail negated
    test_reads IsNull rest = ap (λ z. Reads z rest) (sym (no_more (e.Unary u.IsNull left.0) left.1))
    test_reads NotNull rest = ap (λ z. Reads z rest) (sym (no_more (e.Unary u.NotNull left.0) left.1))
    test_reads NotNullApart rest = ap (λ z. Reads z rest) (sym (no_more (e.Unary u.NotNull left.0) left.1))

    collate_reads : (c : List ℕ) (rest : List Symbol) → tail lim rules left (spelled_tail (Collated c) ++ rest) ≡ Reads (tail_value left (Collated c)) rest
    unfolding tail
    collate_reads c rest = ap (λ o. and_then o (λ c. pure (e.Collate left.0 c, suc left.1))) (name_right.reads c rest tt tt) ∙ ap (λ z. Reads z rest) (sym (no_more (e.Collate left.0 c) left.1))

    pub tail_reads : (t : Tail) (rest : List Symbol) → TailFits (tail_binds t) t → Stops (suc (tail_binds t)) rest → tail lim rules left (spelled_tail t ++ rest) ≡ Reads (tail_value left t) rest
    tail_reads (Infix op p) rest w st = infix_reads op p rest (record { proper = w.proper.0; tight = omega (arith, w.proper.1); low = omega (arith, w.low); few = w.few; short = w.short }) st
    tail_reads (Tested t) rest w st = test_reads t rest
    tail_reads (Collated c) rest w st = collate_reads c rest
    tail_reads (Among n all) rest w st = among_reads n all rest (record { proper = w.proper; low = omega (arith, w.low); few = omega (arith, w.few); short = omega (arith, w.short) }) (omega (arith, w.few))
    tail_reads (Between n p q) rest w st = between_reads n p q rest (record { proper = w.proper.0; tight = omega (arith, w.proper.1); low = omega (arith, w.low); few = omega (arith, w.few); short = omega (arith, w.short) }, record { proper = w.proper.2; tight = omega (arith, w.proper.3); low = omega (arith, w.low); few = omega (arith, w.few); short = omega (arith, w.short) }) st
