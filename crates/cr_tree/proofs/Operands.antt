-- What an expression begins with, as it is read.
use Rattle.std.proofs.Common.{◌≡◌, ℕ, suc, ◌≤◌, ◌<◌, ◌^◌, max, Bool, true, false, if◌then◌else◌, nat_lt, nat_le, List, [], ◌∷◌, ◌++◌, Option, Some, None, refl, sym, ◌∙◌, ap, subst, append_assoc, pos, neg_ℤ, bytes_eq, arith}
use Rattle.std.proofs.lemmas.Bool.{le-leb, lt-ltb, leb-true, ltb-true, ltb-false}
use Rattle.std.proofs.lemmas.Slice.Eq.{bytes_eq-Decides}
use Rattle.cr_value.specs.declared.value.Value.TheVariants as v
use Rattle.cr_tree.specs.declared.symbol.Mark.TheVariants as m
use Rattle.cr_tree.specs.declared.limits.Limits.{Limits}
use Rattle.cr_tree.specs.declared.symbol.Symbol.{Symbol}
use Rattle.cr_tree.specs.declared.symbol.Symbol.TheVariants as k
use Rattle.cr_tree.specs.declared.expr.Unary.{Unary}
use Rattle.cr_tree.specs.declared.expr.Unary.TheVariants as u
use Rattle.cr_tree.specs.declared.expr.Expr.{Expr}
use Rattle.cr_tree.specs.declared.expr.Expr.TheVariants as e
use Rattle.cr_tree.specs.declared.limits.LimitKind.TheVariants as limits
use Rattle.cr_tree.specs.Marks.{same_mark, is_mark}
use Rattle.cr_tree.specs.Grammar.{Phrase, Leaf, Negative, Name, Dotted, NotOf, PlusOf, MinusOf, With, Inside, CallNone, Call, CountAll, Cast, Case, Phrases, One, And_more, Arms, Arm, And_arms, Perhaps, Absent, Present, spelled, spelled_all, spelled_arms, spelled_perhaps, names_words, sizes_words, count_name, leaf, tree, trees, arms_trees, tree_perhaps, tightness, begins_with_number, IsProper, height, height_all, height_arms, height_perhaps, opened, most_commas}
use Rattle.cr_tree.specs.Reading.{Outcome, Reads, Fails, Cause, Syntax, Deep, Parser, Rules, inside_limits, argument_limits, below_limits, up_to, and_then, ◌>>=◌, pure, refuse, head, look_by, when, expect, name, type_words, behind, add_item, Sized, Maybe, above, begins, ceiling, arguments, called, call, named, minus, parenthesized, cast, subject, otherwise, arms, case, leaf_by, prefixed, first_by}
use Rattle.cr_tree.proofs.Forms.{Begun, Good, Right, by_test, by_outcome, if_true, if_false, is_same, nothing_read, all_read, good_as, good_behind, as_right, pure_right, map_right, mark_right, then_right, closed_right}
use Rattle.cr_tree.proofs.Repeats.{begins_next, name_right, TypeWords, type_fits, type_spelled, type_words_right}
use Rattle.cr_tree.proofs.Phrases.{Written, sized, Stops, Follows, IsTop, next_low, Stuck, goes_on, phrase_begins, phrase_not, least_tight, starts_on, ceiling_low, below_three, stops_close, stops_as, stops_when, stops_end, stops_else}
use Rattle.cr_tree.proofs.Lists.{AllWritten, Listing, ArmsWritten, PerhapsWritten, perhaps_value, NoWhen, arguments_right, arms_right, otherwise_right}

-- an arm comes next
abbrev BeginsWhen : List Symbol → Type 0
BeginsWhen (k.Mark m.When ∷ ts) = Unit {0}
BeginsWhen _ = ⊥

abbrev else_value : Phrase → Maybe
else_value p = (Some (tree p), height p)

abbrev CaseParts : Type 0
CaseParts = Perhaps × (Arms × Perhaps)

abbrev CastParts : Type 0
CastParts = Phrase × TypeWords

abbrev cast_value : CastParts → Sized
cast_value d = (e.Cast (tree d.0) (d.1.0 ∷ d.1.1.0), suc (height d.0))

abbrev case_value : CaseParts → Sized
case_value d = (e.Case (tree_perhaps d.0) (arms_trees d.1.0) (tree_perhaps d.1.1), suc (max (height_perhaps d.0) (max (height_arms d.1.0) (height_perhaps d.1.1))))

abbrev call_value : List ℕ → Phrases → Sized
call_value f all = (e.Call f (trees all), suc (height_all all))

abbrev counted : Sized
counted = (e.CountAll, 0)

abbrev dotted : List ℕ → List ℕ → Sized
dotted f n = (e.Column (Some f) n, 0)

pub all_begin : (all : Phrases) (rest : List Symbol) (lim : Limits) → AllWritten lim all → begins_next (begins 1) (spelled_all all ++ rest) ≡ true
all_begin (One p) rest lim w = phrase_begins 1 p rest w.proper (least_tight p)
all_begin (And_more p all) rest lim w = ap (begins_next (begins 1)) (append_assoc (spelled p) (k.Mark m.Comma ∷ spelled_all all) rest) ∙ phrase_begins 1 p (k.Mark m.Comma ∷ spelled_all all ++ rest) w.proper.0 (least_tight p)

arms_begin : (all : Arms) (more rest : List Symbol) → BeginsWhen ((spelled_arms all ++ more) ++ rest)
arms_begin (Arm p q) more rest = tt
arms_begin (And_arms p q all) more rest = tt

after_arms : (o : Perhaps) (rest : List Symbol) → NoWhen ((spelled_perhaps o (k.Mark m.Else ∷ []) ++ k.Mark m.End ∷ []) ++ rest)
unfolding same_mark
after_arms Absent rest = (refl, stops_end rest)
after_arms (Present p) rest = (refl, stops_else ((spelled p ++ k.Mark m.End ∷ []) ++ rest))

module _ (lim : Limits) (rules : Rules)
    (inside_right : 0 < lim.opens → Right (Written (inside_limits lim) 1) spelled sized (Stops 1) rules.inside)
    (argument_right : 0 < lim.opens → 0 < lim.room → Right (Written (argument_limits lim) 1) spelled sized (Stops 1) rules.argument)
    (argument_stuck : lim.room ≡ 0 → Stuck rules.argument)
    (below_right : (l : ℕ) → 0 < lim.room → 0 < l → l ≤ 10 → Right (Written (below_limits lim) l) spelled sized (Stops l) (rules.below l))
    (below_stuck : (l : ℕ) → lim.room ≡ 0 → Stuck (rules.below l)) where
  by_room : {P : Type 0} → (0 < lim.room → P) → (lim.room ≡ 0 → P) → P
  by_room {P} f g = at (nat_lt 0 lim.room) refl
    where
      at : (b : Bool) → nat_lt 0 lim.room ≡ b → P
      at true h = f (ltb-true 0 lim.room h)
      at false h = g (omega (arith, ltb-false 0 lim.room h))

  -- ---- with parentheses and keywords

  inner_right : 0 < lim.opens → Right (Written (inside_limits lim) 1) (λ p. spelled p ++ k.Mark m.Close ∷ []) sized (λ rest. Unit {0}) (parenthesized lim rules)
  unfolding parenthesized
  inner_right h = closed_right m.Close (λ x. x) stops_close (inside_right h)

  call_right : 0 < lim.opens → 0 < lim.room → (f : List ℕ) → Right (Listing lim) (λ all. spelled_all all ++ k.Mark m.Close ∷ []) (call_value f) (λ rest. Unit {0}) (called lim rules f)
  unfolding called
  call_right h g f = closed_right m.Close (λ all. (e.Call f all.0, suc all.1)) (λ rest. tt) (arguments_right lim rules (argument_right h g))

  abbrev cast_fits : CastParts → Type 0
  cast_fits d = Written (argument_limits lim) 1 d.0 × type_fits d.1

  abbrev cast_spelled : CastParts → List Symbol
  cast_spelled d = k.Mark m.Open ∷ spelled d.0 ++ (k.Mark m.As ∷ k.Name d.1.0 ∷ names_words d.1.1.0 ++ (sizes_words d.1.1.1 ++ k.Mark m.Close ∷ []))

  cast_right : 0 < lim.opens → 0 < lim.room → Right cast_fits cast_spelled cast_value (λ rest. Unit {0}) (cast lim rules)
  unfolding cast
  cast_right h g = as_right (λ d. d) (λ d. d) (λ d i. i) (λ d i. i)
      (λ d. ap (λ z. k.Mark m.Open ∷ spelled d.0 ++ (k.Mark m.As ∷ k.Name d.1.0 ∷ z)) (sym (append_assoc (names_words d.1.1.0) (sizes_words d.1.1.1) (k.Mark m.Close ∷ [])))) (λ d. refl) (λ d. refl)
      (mark_right m.Open (then_right (λ x. expect m.As >>= (λ _. type_words >>= (λ ns. expect m.Close >>= (λ _. pure (e.Cast x.0 ns, suc x.1))))) (argument_right h g)
      (λ p i. mark_right m.As (closed_right m.Close (λ ns. (e.Cast (tree p) ns, suc (height p))) (λ rest. tt) type_words_right)) (λ d rest i st. stops_as ((type_spelled d ++ k.Mark m.Close ∷ []) ++ rest))))

  subject_right : 0 < lim.room → Right (PerhapsWritten (below_limits lim)) (λ s. spelled_perhaps s []) perhaps_value BeginsWhen (subject lim rules)
  unfolding subject begins
  subject_right h = record { good = at; reads = read }
    where
      operand : Right (Written (below_limits lim) 1) spelled else_value (Stops 1) (rules.below 1 >>= (λ x. pure (Some x.0, x.1)))
      operand = map_right (λ x. (Some x.0, x.1)) (below_right 1 h (omega arith) (omega arith))

      either : Symbol → Parser Maybe
      either t = when (is_mark m.When t) (pure (None, 0)) (rules.below 1 >>= (λ x. pure (Some x.0, x.1)))

      none : PerhapsWritten (below_limits lim) Absent
      none = record { proper = tt; low = omega arith; few = omega arith; short = omega arith }

      at : (ts : List Symbol) → Good (PerhapsWritten (below_limits lim)) (λ s. spelled_perhaps s []) perhaps_value ts (look_by {A = Maybe} (refuse Syntax) either (head ts) ts)
      at [] = nothing_read Absent none []
      at (t ∷ ts) = by_test (Good (PerhapsWritten (below_limits lim)) (λ s. spelled_perhaps s []) perhaps_value (t ∷ ts)) (is_mark m.When t) (Reads (None, 0) (t ∷ ts)) (and_then (rules.below 1 (t ∷ ts)) (λ x. pure (Some x.0, x.1)))
          (λ i. record { what = Absent; fitting = none; spells = refl; means = refl })
          (λ i. good_as (Written (below_limits lim) 1) spelled else_value (PerhapsWritten (below_limits lim)) (λ s. spelled_perhaps s []) perhaps_value Present (λ p w. record { proper = w.proper; low = w.low; few = w.few; short = w.short }) (λ p. refl) (λ p. refl)
          (t ∷ ts) (and_then (rules.below 1 (t ∷ ts)) (λ x. pure (Some x.0, x.1))) (operand.good (t ∷ ts)))

      arm_next : (rest : List Symbol) → BeginsWhen rest → look_by {A = Maybe} (refuse Syntax) either (head rest) rest ≡ Reads (None, 0) rest
      arm_next (k.Mark m.When ∷ ts) st = if_true (is_mark m.When (k.Mark m.When)) (Reads (None, 0) (k.Mark m.When ∷ ts)) (and_then (rules.below 1 (k.Mark m.When ∷ ts)) (λ x. pure (Some x.0, x.1))) (is_same m.When)
      arm_next _ st = absurd st

      stops : (rest : List Symbol) → BeginsWhen rest → Stops 1 rest
      stops (k.Mark m.When ∷ ts) st = stops_when ts
      stops _ st = absurd st

      other : (xs : List Symbol) → begins_next (begins 1) xs ≡ true → begins_next (is_mark m.When) xs ≡ false → look_by {A = Maybe} (refuse Syntax) either (head xs) xs ≡ and_then (rules.below 1 xs) (λ x. pure (Some x.0, x.1))
      other [] h i = absurd (cc)
      other (t ∷ xs) h i = if_false (is_mark m.When t) (Reads (None, 0) (t ∷ xs)) (and_then (rules.below 1 (t ∷ xs)) (λ x. pure (Some x.0, x.1))) i

      read : (s : Perhaps) (rest : List Symbol) → PerhapsWritten (below_limits lim) s → BeginsWhen rest → look_by {A = Maybe} (refuse Syntax) either (head (spelled_perhaps s [] ++ rest)) (spelled_perhaps s [] ++ rest) ≡ Reads (perhaps_value s) rest
      read Absent rest i st = arm_next rest st
      read (Present p) rest i st = other (spelled p ++ rest) (phrase_begins 1 p rest i.proper (least_tight p)) (phrase_not 1 m.When p rest i.proper (least_tight p) refl)
          ∙ operand.reads p rest (record { proper = i.proper; tight = least_tight p; low = i.low; few = i.few; short = i.short }) (stops rest st)

  abbrev case_fits : CaseParts → Type 0
  case_fits d = PerhapsWritten (below_limits lim) d.0 × (ArmsWritten (below_limits lim) d.1.0 × PerhapsWritten (below_limits lim) d.1.1)

  abbrev case_spelled : CaseParts → List Symbol
  case_spelled d = spelled_perhaps d.0 [] ++ (spelled_arms d.1.0 ++ (spelled_perhaps d.1.1 (k.Mark m.Else ∷ []) ++ k.Mark m.End ∷ []))

  case_right : 0 < lim.room → Right case_fits case_spelled case_value (λ rest. Unit {0}) (case lim rules)
  unfolding case
  case_right h = then_right (λ s. arms lim rules >>= (λ all. otherwise lim rules >>= (λ o. expect m.End >>= (λ _. pure (e.Case s.0 all.0 o.0, suc (max s.1 (max all.1 o.1))))))) (subject_right h)
      (λ s i. then_right (λ all. otherwise lim rules >>= (λ o. expect m.End >>= (λ _. pure (e.Case (tree_perhaps s) all.0 o.0, suc (max (height_perhaps s) (max all.1 o.1))))))
      (arms_right lim rules (below_right 1 h (omega arith) (omega arith)))
      (λ all j. closed_right m.End (λ o. (e.Case (tree_perhaps s) (arms_trees all) o.0, suc (max (height_perhaps s) (max (height_arms all) o.1)))) (λ rest. tt) (otherwise_right lim rules (below_right 1 h (omega arith) (omega arith))))
      (λ o rest j st. after_arms o rest))
      (λ d rest i st. arms_begin d.0 (spelled_perhaps d.1 (k.Mark m.Else ∷ []) ++ k.Mark m.End ∷ []) rest)

  -- ---- what stands first

  module _ (least : ℕ) (not_tight : least ≤ 10) where
    -- a phrase within limits that begins so, before what goes on with it
    pub record Top (t : Symbol) (p : Phrase) : Type 0 where
      pub written : Written lim least p
      pub above_it : ceiling t ≤ tightness p

    top : (t : Symbol) (p : Phrase) → IsProper p → 10 ≤ tightness p → height p ≤ lim.room → opened p ≤ lim.opens → most_commas p ≤ lim.commas → Top t p
    top t p i h low few short = record { written = record { proper = i; tight = omega (arith, h, not_tight); low = low; few = few; short = short }; above_it = omega (arith, h, ceiling_low t) }

    abbrev TopGood : Symbol → List Symbol → Outcome Sized → Type 0
    TopGood t ts o = Good (Top t) spelled sized (t ∷ ts) o

    null : Phrase
    null = Leaf (k.Mark m.Null) (e.Literal v.Null)

    refused : (t : Symbol) (ts : List Symbol) (c : Cause) → TopGood t ts (Fails c (t ∷ ts))
    unfolding null
    refused t ts c = nothing_read null (top t null refl (omega arith) (omega arith) (omega arith) (omega arith)) (t ∷ ts)

    -- names and calls

    call_none : (f : List ℕ) (ts : List Symbol) (c : Cause) → 0 < lim.opens → Good (Top (k.Name f)) spelled sized (k.Name f ∷ k.Mark m.Open ∷ ts) (Fails c ts)
    call_none f ts c h = record { what = CallNone f; fitting = top (k.Name f) (CallNone f) tt (omega arith) (omega arith) (omega (arith, h)) (omega (arith, h)); front = k.Name f ∷ k.Mark m.Open ∷ []; more = k.Mark m.Close ∷ []; reads = refl; spells = refl }

    called_good : (f : List ℕ) (ts : List Symbol) → 0 < lim.opens → Good (Top (k.Name f)) spelled sized (k.Name f ∷ k.Mark m.Open ∷ ts) (called lim rules f ts)
    unfolding called arguments
    called_good f ts h = by_room roomy stuck
      where
        fits : 0 < lim.room → (all : Phrases) → Listing lim all → Top (k.Name f) (Call f all)
        fits g all w = top (k.Name f) (Call f all) w.written.proper (omega arith) (omega (arith, w.written.low, g)) (omega (arith, w.written.few, h)) (omega (arith, w.written.short, w.short))

        roomy : 0 < lim.room → Good (Top (k.Name f)) spelled sized (k.Name f ∷ k.Mark m.Open ∷ ts) (called lim rules f ts)
        roomy g = good_as (Listing lim) (λ all. k.Name f ∷ k.Mark m.Open ∷ spelled_all all ++ k.Mark m.Close ∷ []) (call_value f) (Top (k.Name f)) spelled sized (Call f) (fits g) (λ all. refl) (λ all. refl)
            (k.Name f ∷ k.Mark m.Open ∷ ts) (called lim rules f ts)
            (good_behind (Listing lim) (λ all. k.Mark m.Open ∷ spelled_all all ++ k.Mark m.Close ∷ []) (call_value f) (k.Name f) (k.Mark m.Open ∷ ts) (called lim rules f ts)
            (good_behind (Listing lim) (λ all. spelled_all all ++ k.Mark m.Close ∷ []) (call_value f) (k.Mark m.Open) ts (called lim rules f ts) ((call_right h g f).good ts)))

        stuck : lim.room ≡ 0 → Good (Top (k.Name f)) spelled sized (k.Name f ∷ k.Mark m.Open ∷ ts) (called lim rules f ts)
        stuck z = let s = argument_stuck z ts in
            subst (λ o. Good (Top (k.Name f)) spelled sized (k.Name f ∷ k.Mark m.Open ∷ ts) (and_then (and_then o (λ x. up_to limits.Arguments (is_mark m.Comma) (behind m.Comma rules.argument) add_item lim.commas (x.0 ∷ [], x.1))) (λ all. expect m.Close >>= (λ _. pure (e.Call f all.0, suc all.1))))) (sym s.1) (call_none f ts s.0 h)

    star_good : (f : List ℕ) (ts : List Symbol) → 0 < lim.opens → f ≡ count_name → Good (Top (k.Name f)) spelled sized (k.Name f ∷ k.Mark m.Open ∷ k.Mark m.Star ∷ ts) (and_then (expect m.Close ts) (λ _. pure (e.CountAll, 0)))
    star_good f ts h i = subst (λ z. Good (Top (k.Name z)) spelled sized (k.Name z ∷ k.Mark m.Open ∷ k.Mark m.Star ∷ ts) (and_then (expect m.Close ts) (λ _. pure (e.CountAll, 0)))) (sym i)
        (good_as (λ _. Unit {0}) (λ d. k.Name count_name ∷ k.Mark m.Open ∷ k.Mark m.Star ∷ k.Mark m.Close ∷ []) (λ d. counted) (Top (k.Name count_name)) spelled sized (λ d. CountAll)
        (λ d j. top (k.Name count_name) CountAll tt (omega arith) (omega arith) (omega (arith, h)) (omega (arith, h))) (λ d. refl) (λ d. refl) (k.Name count_name ∷ k.Mark m.Open ∷ k.Mark m.Star ∷ ts) (and_then (expect m.Close ts) (λ _. pure (e.CountAll, 0)))
        (good_behind (λ _. Unit {0}) (λ d. k.Mark m.Open ∷ k.Mark m.Star ∷ k.Mark m.Close ∷ []) (λ d. counted) (k.Name count_name) (k.Mark m.Open ∷ k.Mark m.Star ∷ ts) (and_then (expect m.Close ts) (λ _. pure (e.CountAll, 0)))
        (good_behind (λ _. Unit {0}) (λ d. k.Mark m.Star ∷ k.Mark m.Close ∷ []) (λ d. counted) (k.Mark m.Open) (k.Mark m.Star ∷ ts) (and_then (expect m.Close ts) (λ _. pure (e.CountAll, 0)))
        (good_behind (λ _. Unit {0}) (λ d. k.Mark m.Close ∷ []) (λ d. counted) (k.Mark m.Star) ts (and_then (expect m.Close ts) (λ _. pure (e.CountAll, 0))) ((mark_right m.Close (pure_right counted)).good ts)))))

    call_good : (f : List ℕ) (ts : List Symbol) → 0 < lim.opens → Good (Top (k.Name f)) spelled sized (k.Name f ∷ k.Mark m.Open ∷ ts) (call lim rules f ts)
    unfolding call
    call_good f [] h = call_none f [] Syntax h
    call_good f (k.Mark m.Close ∷ ts) h = record { what = CallNone f; fitting = top (k.Name f) (CallNone f) tt (omega arith) (omega arith) (omega (arith, h)) (omega (arith, h)); spells = refl; means = refl }
    call_good f (k.Mark m.Star ∷ ts) h = by_test (Good (Top (k.Name f)) spelled sized (k.Name f ∷ k.Mark m.Open ∷ k.Mark m.Star ∷ ts)) (bytes_eq f count_name) (and_then (expect m.Close ts) (λ _. pure (e.CountAll, 0))) (Fails Syntax (k.Mark m.Star ∷ ts))
        (λ i. star_good f ts h ((bytes_eq-Decides f count_name).0 i)) (λ i. call_none f (k.Mark m.Star ∷ ts) Syntax h)
    call_good f (t ∷ ts) h = called_good f (t ∷ ts) h

    name_good : (f : List ℕ) (ts : List Symbol) → TopGood (k.Name f) ts (Reads (e.Column None f, 0) ts)
    name_good f ts = record { what = Name f; fitting = top (k.Name f) (Name f) tt (omega arith) (omega arith) (omega arith) (omega arith); spells = refl; means = refl }

    dotted_good : (f : List ℕ) (ts : List Symbol) → Good (Top (k.Name f)) spelled sized (k.Name f ∷ k.Mark m.Dot ∷ ts) (and_then (name ts) (λ n. pure (e.Column (Some f) n, 0)))
    dotted_good f ts = good_as (λ n. Unit {0}) (λ n. k.Name f ∷ k.Mark m.Dot ∷ k.Name n ∷ []) (dotted f) (Top (k.Name f)) spelled sized (Dotted f) (λ n i. top (k.Name f) (Dotted f n) tt (omega arith) (omega arith) (omega arith) (omega arith)) (λ n. refl) (λ n. refl)
        (k.Name f ∷ k.Mark m.Dot ∷ ts) (and_then (name ts) (λ n. pure (e.Column (Some f) n, 0)))
        (good_behind (λ n. Unit {0}) (λ n. k.Mark m.Dot ∷ k.Name n ∷ []) (dotted f) (k.Name f) (k.Mark m.Dot ∷ ts) (and_then (name ts) (λ n. pure (e.Column (Some f) n, 0)))
        (good_behind (λ n. Unit {0}) (λ n. k.Name n ∷ []) (dotted f) (k.Mark m.Dot) ts (and_then (name ts) (λ n. pure (e.Column (Some f) n, 0))) ((map_right (dotted f) name_right).good ts)))

    named_good : (f : List ℕ) (ts : List Symbol) → TopGood (k.Name f) ts (named lim rules f ts)
    unfolding named
    named_good f [] = name_good f []
    named_good f (k.Mark m.Dot ∷ ts) = dotted_good f ts
    named_good f (k.Mark m.Open ∷ ts) = by_test (TopGood (k.Name f) (k.Mark m.Open ∷ ts)) (nat_lt 0 lim.opens) (call lim rules f ts) (Fails Deep (k.Mark m.Open ∷ ts))
        (λ h. call_good f ts (ltb-true 0 lim.opens h))
        (λ h. all_read (Name f) (top (k.Name f) (Name f) tt (omega arith) (omega arith) (omega arith) (omega arith)) (k.Name f ∷ k.Mark m.Open ∷ ts) (k.Mark m.Open ∷ ts) refl)
    named_good f (t ∷ ts) = name_good f (t ∷ ts)

    -- a minus

    negative_begun : (ts : List Symbol) (c : Cause) → TopGood (k.Mark m.Minus) ts (Fails c ts)
    negative_begun ts c = record { what = Negative 0; fitting = top (k.Mark m.Minus) (Negative 0) (omega arith) (omega arith) (omega arith) (omega arith) (omega arith); front = k.Mark m.Minus ∷ []; more = k.Number 0 ∷ []; reads = refl; spells = refl }

    minus_fits : 0 < lim.room → (p : Phrase) → Written (below_limits lim) 10 p → begins_with_number (spelled p) ≡ false → Top (k.Mark m.Minus) (MinusOf p)
    minus_fits h p w b = top (k.Mark m.Minus) (MinusOf p) (w.proper, w.tight, b) (omega arith) (omega (arith, w.low, h)) w.few w.short

    minus_begun : (ts rest : List Symbol) → 0 < lim.room → begins_with_number ts ≡ false → (p : Phrase) → Written (below_limits lim) 10 p → (front more : List Symbol) → front ++ rest ≡ ts → spelled p ≡ front ++ more → Begun (Top (k.Mark m.Minus)) spelled (k.Mark m.Minus ∷ ts) rest
    minus_begun ts rest h b p w [] more r s = subst (λ y. Begun (Top (k.Mark m.Minus)) spelled (k.Mark m.Minus ∷ y) rest) r (negative_begun rest Syntax)
    minus_begun ts rest h b p w (t ∷ front) more r s = record { what = MinusOf p; fitting = minus_fits h p w starts; front = k.Mark m.Minus ∷ t ∷ front; more = more; reads = ap (λ y. k.Mark m.Minus ∷ y) r; spells = ap (λ y. k.Mark m.Minus ∷ y) s }
      where
        same : (u : Symbol) (y z : List Symbol) → begins_with_number (u ∷ y) ≡ begins_with_number (u ∷ z)
        same (k.Number n) y z = refl
        same _ y z = refl

        starts : begins_with_number (spelled p) ≡ false
        starts = ap begins_with_number s ∙ (same t (front ++ more) (front ++ rest) ∙ (ap begins_with_number r ∙ b))

    minus_operand : (ts : List Symbol) → begins_with_number ts ≡ false → TopGood (k.Mark m.Minus) ts (and_then (rules.below 10 ts) (λ x. pure (above (e.Unary u.Minus) x)))
    minus_operand ts b = by_room roomy stuck
      where
        roomy : 0 < lim.room → TopGood (k.Mark m.Minus) ts (and_then (rules.below 10 ts) (λ x. pure (above (e.Unary u.Minus) x)))
        roomy h = by_outcome (Good (Written (below_limits lim) 10) spelled sized ts) (TopGood (k.Mark m.Minus) ts) (rules.below 10 ts) (λ x. pure (above (e.Unary u.Minus) x)) ((below_right 10 h (omega arith) (omega arith)).good ts)
            (λ x rest g. record { what = MinusOf g.what; fitting = minus_fits h g.what g.fitting (sym (starts_on g.what rest) ∙ (ap begins_with_number g.spells ∙ b)); spells = ap (λ y. k.Mark m.Minus ∷ y) g.spells; means = ap (above (e.Unary u.Minus)) g.means })
            (λ c rest g. minus_begun ts rest h b g.what g.fitting g.front g.more g.reads g.spells)

        stuck : lim.room ≡ 0 → TopGood (k.Mark m.Minus) ts (and_then (rules.below 10 ts) (λ x. pure (above (e.Unary u.Minus) x)))
        stuck z = let s = below_stuck 10 z ts in subst (λ o. TopGood (k.Mark m.Minus) ts (and_then o (λ x. pure (above (e.Unary u.Minus) x)))) (sym s.1) (negative_begun ts s.0)

    minus_good : (ts : List Symbol) → TopGood (k.Mark m.Minus) ts (minus lim rules ts)
    unfolding minus
    minus_good [] = negative_begun [] Syntax
    minus_good (k.Number n ∷ ts) = by_test (TopGood (k.Mark m.Minus) (k.Number n ∷ ts)) (nat_le n (2 ^ 63)) (Reads (e.Literal (v.Int (neg_ℤ (pos n))), 0) ts) (Fails Syntax (k.Number n ∷ ts))
        (λ h. record { what = Negative n; fitting = top (k.Mark m.Minus) (Negative n) (leb-true n (2 ^ 63) h) (omega arith) (omega arith) (omega arith) (omega arith); spells = refl; means = refl })
        (λ h. negative_begun (k.Number n ∷ ts) Syntax)
    minus_good (t ∷ ts) = minus_operand (t ∷ ts) refl

    -- NOT and a plus

    prefixed_good : (op : Unary) (l : ℕ) (t : Symbol) (ts : List Symbol) (h : Phrase → Phrase) → 0 < l → l ≤ 10 → (0 < lim.room → (p : Phrase) → Written (below_limits lim) l p → Top t (h p)) → ((p : Phrase) → spelled (h p) ≡ t ∷ spelled p) → ((p : Phrase) → sized (h p) ≡ above (e.Unary op) (sized p))
        → TopGood t ts (prefixed lim rules op l (t ∷ ts))
    unfolding prefixed
    prefixed_good op l t ts h p q fits s m = by_test (TopGood t ts) (nat_lt 0 lim.room) (and_then (rules.below l ts) (λ x. pure (above (e.Unary op) x))) (Fails Deep (t ∷ ts))
        (λ g. let roomy : 0 < lim.room = ltb-true 0 lim.room g in
        good_as (Written (below_limits lim) l) (λ p. t ∷ spelled p) (λ p. above (e.Unary op) (sized p)) (Top t) spelled sized h (fits roomy) s m (t ∷ ts) (and_then (rules.below l ts) (λ x. pure (above (e.Unary op) x)))
        (good_behind (Written (below_limits lim) l) spelled (λ p. above (e.Unary op) (sized p)) t ts (and_then (rules.below l ts) (λ x. pure (above (e.Unary op) x))) ((map_right (above (e.Unary op)) (below_right l roomy p q)).good ts)))
        (λ g. refused t ts Deep)

    -- the others

    leaf_good : (t : Symbol) (ts : List Symbol) → TopGood t ts (leaf_by lim rules (leaf t) (t ∷ ts))
    leaf_good t ts = at (leaf t) refl
      where
        at : (o : Option Expr) → leaf t ≡ o → TopGood t ts (leaf_by lim rules o (t ∷ ts))
        at None i = refused t ts Syntax
        at (Some x) i = record { what = Leaf t x; fitting = top t (Leaf t x) i (omega arith) (omega arith) (omega arith) (omega arith); spells = refl; means = refl }

    open_good : (ts : List Symbol) → 0 < lim.opens → TopGood (k.Mark m.Open) ts (parenthesized lim rules ts)
    open_good ts h = good_as (Written (inside_limits lim) 1) (λ p. k.Mark m.Open ∷ spelled p ++ k.Mark m.Close ∷ []) sized (Top (k.Mark m.Open)) spelled sized Inside (λ p w. top (k.Mark m.Open) (Inside p) w.proper (omega arith) w.low (omega (arith, w.few, h)) (omega (arith, w.short, h))) (λ p. refl) (λ p. refl)
        (k.Mark m.Open ∷ ts) (parenthesized lim rules ts)
        (good_behind (Written (inside_limits lim) 1) (λ p. spelled p ++ k.Mark m.Close ∷ []) sized (k.Mark m.Open) ts (parenthesized lim rules ts) ((inner_right h).good ts))

    cast_good : (ts : List Symbol) → 0 < lim.opens → 0 < lim.room → TopGood (k.Mark m.Cast) ts (cast lim rules ts)
    cast_good ts h g = good_as cast_fits (λ d. k.Mark m.Cast ∷ cast_spelled d) cast_value (Top (k.Mark m.Cast)) spelled sized (λ d. Cast d.0 d.1.0 d.1.1.0 d.1.1.1)
        (λ d w. top (k.Mark m.Cast) (Cast d.0 d.1.0 d.1.1.0 d.1.1.1) (w.0.proper, w.1) (omega arith) (omega (arith, w.0.low, g)) (omega (arith, w.0.few, h)) (omega (arith, w.0.short, h))) (λ d. refl) (λ d. refl)
        (k.Mark m.Cast ∷ ts) (cast lim rules ts)
        (good_behind cast_fits cast_spelled cast_value (k.Mark m.Cast) ts (cast lim rules ts) ((cast_right h g).good ts))

    case_good : (ts : List Symbol) → 0 < lim.room → TopGood (k.Mark m.Case) ts (case lim rules ts)
    case_good ts g = good_as case_fits (λ d. k.Mark m.Case ∷ case_spelled d) case_value (Top (k.Mark m.Case)) spelled sized (λ d. Case d.0 d.1.0 d.1.1)
        (λ d w. top (k.Mark m.Case) (Case d.0 d.1.0 d.1.1) (w.0.proper, w.1.0.proper, w.1.1.proper) (omega arith) (omega (arith, w.0.low, w.1.0.low, w.1.1.low, g)) (omega (arith, w.0.few, w.1.0.few, w.1.1.few)) (omega (arith, w.0.short, w.1.0.short, w.1.1.short))) (λ d. refl) (λ d. refl)
        (k.Mark m.Case ∷ ts) (case lim rules ts)
        (good_behind case_fits case_spelled case_value (k.Mark m.Case) ts (case lim rules ts) ((case_right g).good ts))

    pub first_good : (t : Symbol) (ts : List Symbol) → TopGood t ts (first_by lim rules least t (t ∷ ts))
    first_good (k.Mark m.Not) ts = by_test (TopGood (k.Mark m.Not) ts) (nat_le least 3) (prefixed lim rules u.Not 3 (k.Mark m.Not ∷ ts)) (Fails Syntax (k.Mark m.Not ∷ ts))
        (λ h. prefixed_good u.Not 3 (k.Mark m.Not) ts NotOf (omega arith) (omega arith)
        (λ g p w. record { written = record { proper = (w.proper, w.tight); tight = leb-true least 3 h; low = omega (arith, w.low, g); few = w.few; short = w.short }; above_it = omega arith }) (λ p. refl) (λ p. refl))
        (λ h. refused (k.Mark m.Not) ts Syntax)
    first_good (k.Mark m.Plus) ts = prefixed_good u.Plus 10 (k.Mark m.Plus) ts PlusOf (omega arith) (omega arith)
        (λ g p w. top (k.Mark m.Plus) (PlusOf p) (w.proper, w.tight) (omega arith) (omega (arith, w.low, g)) w.few w.short) (λ p. refl) (λ p. refl)
    first_good (k.Mark m.Minus) ts = minus_good ts
    first_good (k.Mark m.Open) ts = by_test (TopGood (k.Mark m.Open) ts) (nat_lt 0 lim.opens) (parenthesized lim rules ts) (Fails Deep (k.Mark m.Open ∷ ts))
        (λ h. open_good ts (ltb-true 0 lim.opens h)) (λ h. refused (k.Mark m.Open) ts Deep)
    first_good (k.Mark m.Case) ts = by_test (TopGood (k.Mark m.Case) ts) (nat_lt 0 lim.room) (case lim rules ts) (Fails Deep (k.Mark m.Case ∷ ts))
        (λ h. case_good ts (ltb-true 0 lim.room h)) (λ h. refused (k.Mark m.Case) ts Deep)
    first_good (k.Mark m.Cast) ts = by_test (TopGood (k.Mark m.Cast) ts) (nat_lt 0 lim.opens) (if nat_lt 0 lim.room then cast lim rules ts else Fails Deep (k.Mark m.Cast ∷ ts)) (Fails Deep (k.Mark m.Cast ∷ ts))
        (λ h. by_test (TopGood (k.Mark m.Cast) ts) (nat_lt 0 lim.room) (cast lim rules ts) (Fails Deep (k.Mark m.Cast ∷ ts)) (λ g. cast_good ts (ltb-true 0 lim.opens h) (ltb-true 0 lim.room g)) (λ g. refused (k.Mark m.Cast) ts Deep))
        (λ h. refused (k.Mark m.Cast) ts Deep)
    first_good (k.Name n) ts = named_good n ts
    first_good t ts = leaf_good t ts

    -- ---- what stands first is read

    -- it is read, whatever follows that doesn't go on with it
    pub record FirstReads (p : Phrase) (rest : List Symbol) : Type 0 where
      pub first : Symbol
      pub others : List Symbol
      pub spells : spelled p ++ rest ≡ first ∷ others
      pub same : first_by lim rules least first (first ∷ others) ≡ Reads (sized p) rest
      pub loose : (b : ℕ) → b ≤ 9 → b ≤ tightness p → b ≤ ceiling first

    leaf_reads : (t : Symbol) (x : Expr) (rest : List Symbol) → leaf t ≡ Some x → (first_by lim rules least t (t ∷ rest) ≡ Reads (x, 0) rest) × (ceiling t ≡ 10)
    leaf_reads (k.Mark m.Null) x rest i = (ap (λ o. leaf_by lim rules o (k.Mark m.Null ∷ rest)) i, refl)
    leaf_reads (k.Number n) x rest i = (ap (λ o. leaf_by lim rules o (k.Number n ∷ rest)) i, refl)
    leaf_reads (k.Bits n) x rest i = (ap (λ o. leaf_by lim rules o (k.Bits n ∷ rest)) i, refl)
    leaf_reads (k.Text n) x rest i = (ap (λ o. leaf_by lim rules o (k.Text n ∷ rest)) i, refl)
    leaf_reads (k.Blob n) x rest i = (ap (λ o. leaf_by lim rules o (k.Blob n ∷ rest)) i, refl)
    leaf_reads (k.Param n) x rest i = (ap (λ o. leaf_by lim rules o (k.Param n ∷ rest)) i, refl)
    leaf_reads _ x rest i = absurd (cc)

    named_other : (f : List ℕ) (ts : List Symbol) → goes_on ts ≡ false → named lim rules f ts ≡ Reads (e.Column None f, 0) ts
    unfolding named
    named_other f [] h = refl
    named_other f (k.Mark m.Open ∷ ts) h = absurd (cc)
    named_other f (k.Mark m.Dot ∷ ts) h = absurd (cc)
    named_other f (t ∷ ts) h = refl

    named_open : (f : List ℕ) (ts : List Symbol) → 0 < lim.opens → named lim rules f (k.Mark m.Open ∷ ts) ≡ call lim rules f ts
    unfolding named
    named_open f ts h = if_true (nat_lt 0 lim.opens) (call lim rules f ts) (Fails Deep (k.Mark m.Open ∷ ts)) (lt-ltb 0 lim.opens h)

    named_dot : (f n : List ℕ) (rest : List Symbol) → named lim rules f (k.Mark m.Dot ∷ k.Name n ∷ rest) ≡ Reads (dotted f n) rest
    unfolding named
    named_dot f n rest = ap (λ o. and_then o (λ n. pure (dotted f n))) (name_right.reads n rest tt tt)

    call_other : (f : List ℕ) (ts : List Symbol) → begins_next (begins 1) ts ≡ true → call lim rules f ts ≡ called lim rules f ts
    unfolding call begins
    call_other f [] h = absurd (cc)
    call_other f (k.Mark m.Close ∷ ts) h = absurd (cc)
    call_other f (k.Mark m.Star ∷ ts) h = absurd (cc)
    call_other f (t ∷ ts) h = refl

    call_reads : (f : List ℕ) (all : Phrases) (rest : List Symbol) → 0 < lim.opens → 0 < lim.room → Listing lim all
        → call lim rules f ((spelled_all all ++ k.Mark m.Close ∷ []) ++ rest) ≡ Reads (call_value f all) rest
    call_reads f all rest h g w =
        call_other f ((spelled_all all ++ k.Mark m.Close ∷ []) ++ rest) (ap (begins_next (begins 1)) (append_assoc (spelled_all all) (k.Mark m.Close ∷ []) rest) ∙ all_begin all (k.Mark m.Close ∷ rest) (argument_limits lim) w.written)
        ∙ (call_right h g f).reads all rest w tt

    call_shut : (f : List ℕ) (rest : List Symbol) → call lim rules f (k.Mark m.Close ∷ rest) ≡ Reads (e.Call f [], 0) rest
    unfolding call
    call_shut f rest = refl

    call_star : (rest : List Symbol) → call lim rules count_name (k.Mark m.Star ∷ k.Mark m.Close ∷ rest) ≡ Reads counted rest
    unfolding call
    call_star rest = if_true (bytes_eq count_name count_name) (and_then (expect m.Close (k.Mark m.Close ∷ rest)) (λ _. pure counted)) (Fails Syntax (k.Mark m.Star ∷ k.Mark m.Close ∷ rest)) ((bytes_eq-Decides count_name count_name).1 refl)
        ∙ (mark_right m.Close (pure_right counted)).reads tt rest tt tt

    minus_other : (ts : List Symbol) → begins_with_number ts ≡ false → begins_next (begins 10) ts ≡ true → minus lim rules ts ≡ and_then (rules.below 10 ts) (λ x. pure (above (e.Unary u.Minus) x))
    unfolding minus
    minus_other [] h i = absurd (cc)
    minus_other (k.Number n ∷ ts) h i = absurd (cc)
    minus_other (t ∷ ts) h i = refl

    minus_number : (n : ℕ) (rest : List Symbol) → n ≤ 2 ^ 63 → minus lim rules (k.Number n ∷ rest) ≡ Reads (e.Literal (v.Int (neg_ℤ (pos n))), 0) rest
    unfolding minus
    minus_number n rest h = if_true (nat_le n (2 ^ 63)) (Reads (e.Literal (v.Int (neg_ℤ (pos n))), 0) rest) (Fails Syntax (k.Number n ∷ rest)) (le-leb n (2 ^ 63) h)

    prefixed_reads : (op : Unary) (l : ℕ) (t : Symbol) (p : Phrase) (rest : List Symbol) → 0 < lim.room → 0 < l → l ≤ 10 → Written (below_limits lim) l p → Stops l rest
        → prefixed lim rules op l (t ∷ spelled p ++ rest) ≡ Reads (above (e.Unary op) (sized p)) rest
    unfolding prefixed
    prefixed_reads op l t p rest h q r w st = if_true (nat_lt 0 lim.room) (and_then (rules.below l (spelled p ++ rest)) (λ x. pure (above (e.Unary op) x))) (Fails Deep (t ∷ spelled p ++ rest)) (lt-ltb 0 lim.room h)
        ∙ (map_right (above (e.Unary op)) (below_right l h q r)).reads p rest w st

    pub first_reads : (p : Phrase) (rest : List Symbol) → Written lim least p → Follows p rest → IsTop p → FirstReads p rest
    first_reads (Leaf t x) rest w st z = let r = leaf_reads t x rest w.proper in record { first = t; others = rest; spells = refl; same = r.0; loose = λ b l h. omega (arith, l, r.1) }
    first_reads (Negative n) rest w st z = record { first = k.Mark m.Minus; others = k.Number n ∷ rest; spells = refl; same = minus_number n rest w.proper; loose = λ b l h. omega (arith, l) }
    first_reads (Name n) rest w st z = record { first = k.Name n; others = rest; spells = refl; same = named_other n rest st.plain; loose = λ b l h. omega (arith, l) }
    first_reads (Dotted s n) rest w st z = record { first = k.Name s; others = k.Mark m.Dot ∷ k.Name n ∷ rest; spells = refl; same = named_dot s n rest; loose = λ b l h. omega (arith, l) }
    first_reads (NotOf p) rest w st z = record {
      first = k.Mark m.Not;
      others = spelled p ++ rest;
      spells = refl;
      same = if_true (nat_le least 3) (prefixed lim rules u.Not 3 (k.Mark m.Not ∷ spelled p ++ rest)) (Fails Syntax (k.Mark m.Not ∷ spelled p ++ rest)) (le-leb least 3 w.tight)
          ∙ prefixed_reads u.Not 3 (k.Mark m.Not) p rest (omega (arith, w.low)) (omega arith) (omega arith) (record { proper = w.proper.0; tight = w.proper.1; low = omega (arith, w.low); few = w.few; short = w.short }) (record { operator = below_three rest st.operator; plain = st.plain });
      loose = λ b l h. h;
    }
    first_reads (PlusOf p) rest w st z = record {
      first = k.Mark m.Plus;
      others = spelled p ++ rest;
      spells = refl;
      same = prefixed_reads u.Plus 10 (k.Mark m.Plus) p rest (omega (arith, w.low)) (omega arith) (omega arith) (record { proper = w.proper.0; tight = w.proper.1; low = omega (arith, w.low); few = w.few; short = w.short }) (record { operator = omega (arith, next_low rest); plain = st.plain });
      loose = λ b l h. omega (arith, l);
    }
    first_reads (MinusOf p) rest w st z = record {
      first = k.Mark m.Minus;
      others = spelled p ++ rest;
      spells = refl;
      same = minus_other (spelled p ++ rest) (starts_on p rest ∙ w.proper.2) (phrase_begins 10 p rest w.proper.0 w.proper.1)
          ∙ (map_right (above (e.Unary u.Minus)) (below_right 10 (omega (arith, w.low)) (omega arith) (omega arith))).reads p rest (record { proper = w.proper.0; tight = w.proper.1; low = omega (arith, w.low); few = w.few; short = w.short }) (record { operator = omega (arith, next_low rest); plain = st.plain });
      loose = λ b l h. omega (arith, l);
    }
    first_reads (With p t) rest w st z = absurd z
    first_reads (Inside p) rest w st z = record {
      first = k.Mark m.Open;
      others = (spelled p ++ k.Mark m.Close ∷ []) ++ rest;
      spells = refl;
      same = if_true (nat_lt 0 lim.opens) (parenthesized lim rules ((spelled p ++ k.Mark m.Close ∷ []) ++ rest)) (Fails Deep (k.Mark m.Open ∷ (spelled p ++ k.Mark m.Close ∷ []) ++ rest)) (lt-ltb 0 lim.opens (omega (arith, w.few)))
          ∙ (inner_right (omega (arith, w.few))).reads p rest (record { proper = w.proper; tight = least_tight p; low = w.low; few = omega (arith, w.few); short = omega (arith, w.short) }) tt;
      loose = λ b l h. omega (arith, l);
    }
    first_reads (CallNone f) rest w st z = record { first = k.Name f; others = k.Mark m.Open ∷ k.Mark m.Close ∷ rest; spells = refl; same = named_open f (k.Mark m.Close ∷ rest) (omega (arith, w.few)) ∙ call_shut f rest; loose = λ b l h. omega (arith, l) }
    first_reads (Call f all) rest w st z = record {
      first = k.Name f;
      others = k.Mark m.Open ∷ (spelled_all all ++ k.Mark m.Close ∷ []) ++ rest;
      spells = refl;
      same = named_open f ((spelled_all all ++ k.Mark m.Close ∷ []) ++ rest) (omega (arith, w.few)) ∙ call_reads f all rest (omega (arith, w.few)) (omega (arith, w.low)) (record { written = record { proper = w.proper; low = omega (arith, w.low); few = omega (arith, w.few); short = omega (arith, w.short) }; short = omega (arith, w.short) });
      loose = λ b l h. omega (arith, l);
    }
    first_reads CountAll rest w st z = record { first = k.Name count_name; others = k.Mark m.Open ∷ k.Mark m.Star ∷ k.Mark m.Close ∷ rest; spells = refl; same = named_open count_name (k.Mark m.Star ∷ k.Mark m.Close ∷ rest) (omega (arith, w.few)) ∙ call_star rest; loose = λ b l h. omega (arith, l) }
    first_reads (Cast p n ns s) rest w st z = record {
      first = k.Mark m.Cast;
      others = cast_spelled (p, (n, (ns, s))) ++ rest;
      spells = refl;
      same = if_true (nat_lt 0 lim.opens) (if nat_lt 0 lim.room then cast lim rules (cast_spelled (p, (n, (ns, s))) ++ rest) else Fails Deep (k.Mark m.Cast ∷ cast_spelled (p, (n, (ns, s))) ++ rest)) (Fails Deep (k.Mark m.Cast ∷ cast_spelled (p, (n, (ns, s))) ++ rest)) (lt-ltb 0 lim.opens (omega (arith, w.few)))
          ∙ (if_true (nat_lt 0 lim.room) (cast lim rules (cast_spelled (p, (n, (ns, s))) ++ rest)) (Fails Deep (k.Mark m.Cast ∷ cast_spelled (p, (n, (ns, s))) ++ rest)) (lt-ltb 0 lim.room (omega (arith, w.low)))
          ∙ (cast_right (omega (arith, w.few)) (omega (arith, w.low))).reads (p, (n, (ns, s))) rest (record { proper = w.proper.0; tight = least_tight p; low = omega (arith, w.low); few = omega (arith, w.few); short = omega (arith, w.short) }, w.proper.1) tt);
      loose = λ b l h. omega (arith, l);
    }
    first_reads (Case s arms o) rest w st z = record {
      first = k.Mark m.Case;
      others = case_spelled (s, (arms, o)) ++ rest;
      spells = refl;
      same = if_true (nat_lt 0 lim.room) (case lim rules (case_spelled (s, (arms, o)) ++ rest)) (Fails Deep (k.Mark m.Case ∷ case_spelled (s, (arms, o)) ++ rest)) (lt-ltb 0 lim.room (omega (arith, w.low)))
          ∙ (case_right (omega (arith, w.low))).reads (s, (arms, o)) rest (record { proper = w.proper.0; low = omega (arith, w.low); few = omega (arith, w.few); short = omega (arith, w.short) }, (record { proper = w.proper.1; low = omega (arith, w.low); few = omega (arith, w.few); short = omega (arith, w.short) }, record { proper = w.proper.2; low = omega (arith, w.low); few = omega (arith, w.few); short = omega (arith, w.short) })) tt;
      loose = λ b l h. omega (arith, l);
    }
