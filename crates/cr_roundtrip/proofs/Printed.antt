-- What is printed of a phrase is a phrase with the same tree.
use Rattle.std.proofs.Common.{◌≡◌, ℕ, zero, suc, ◌*◌, ◌≤◌, ◌<◌, ◌^◌, Bool, true, false, nat_lt, List, [], ◌∷◌, ◌++◌, Some, None, refl, ◌∙◌, ap, ℤ, pos, negsuc, neg_ℤ, arith}
use Rattle.std.proofs.lemmas.Bool.{lt-ltb}
use Rattle.cr_value.specs.declared.value.Value.TheVariants as v
use Rattle.cr_tree.specs.declared.symbol.Mark.TheVariants as m
use Rattle.cr_tree.specs.declared.symbol.Symbol.{Symbol}
use Rattle.cr_tree.specs.declared.symbol.Symbol.TheVariants as k
use Rattle.cr_tree.specs.declared.expr.Expr.{Expr}
use Rattle.cr_tree.specs.declared.expr.Expr.TheVariants as e
use Rattle.cr_tree.specs.declared.expr.Unary.TheVariants as u
use Rattle.cr_tree.specs.declared.expr.When.{roll-When}
use Rattle.cr_tree.specs.Grammar.{Operator, Or, And, Equal, DoubleEqual, Unequal, BangEqual, Is, IsNot, Like, NotLike, Less, AtMost, Greater, AtLeast, Plus, Minus, Star, Slash, Percent, Bars, Test, IsNull, NotNull, NotNullApart, Phrase, Leaf, Negative, Name, Dotted, NotOf, PlusOf, MinusOf, With, Inside, CallNone, Call, CountAll, Cast, Case, Tail, Infix, Tested, Collated, Among, Between, Phrases, One, And_more, Arms, Arm, And_arms, Perhaps, Absent, Present, spelled, spelled_tail, spelled_all, spelled_arms, spelled_perhaps, operator_words, test_words, not_words, sizes_words, names_words, leaf, tree, with_tail, tested, trees, arms_trees, tree_perhaps, meaning, binds, tail_binds, tightness, begins_with_number, IsProper, IsProperTail, AreProper, AreProperArms, IsProperPerhaps, height, height_tail, height_all, height_arms, height_perhaps, comma_count, most_commas, most_commas_tail, most_commas_all, most_commas_arms, most_commas_perhaps, opened, opened_tail, opened_all, opened_arms, opened_perhaps}
use Rattle.cr_tree.proofs.Forms.{if_true}
use Rattle.cr_roundtrip.specs.Printed.{number_phrase, one_operator, one_test, one_leaf, shielded, printed, printed_tail, printed_all, printed_arms, printed_perhaps, All, InRange, IsSeen}

-- ---- it means the same

number_means : (i : ℤ) → tree (number_phrase i) ≡ e.Literal (v.Int i)
number_means (pos n) = refl
number_means (negsuc n) = refl

leaf_means : (t : Symbol) (x : Expr) → leaf t ≡ Some x → tree (one_leaf t x) ≡ x
leaf_means (k.Bits i) x h = let same : e.Literal (v.Int i) ≡ x = cc in number_means i ∙ same
leaf_means _ x h = refl

shielded_means : (p : Phrase) → tree (shielded p) ≡ tree p
shielded_means (Leaf (k.Number n) x) = refl
shielded_means _ = refl

operator_means : (op : Operator) → meaning (one_operator op) ≡ meaning op
operator_means DoubleEqual = refl
operator_means BangEqual = refl
operator_means _ = refl

test_means : (t : Test) (x : Expr) → tested (one_test t) x ≡ tested t x
test_means NotNullApart x = refl
test_means _ x = refl

mutual
  pub means : (p : Phrase) → IsProper p → tree (printed p) ≡ tree p
  means (Leaf t x) i = leaf_means t x i
  means (Negative n) i = number_means (neg_ℤ (pos n))
  means (Name n) i = refl
  means (Dotted s n) i = refl
  means (NotOf p) i = ap (e.Unary u.Not) (means p i.0)
  means (PlusOf p) i = ap (e.Unary u.Plus) (shielded_means (printed p) ∙ means p i.0)
  means (MinusOf p) i = ap (e.Unary u.Minus) (shielded_means (printed p) ∙ means p i.0)
  means (With p t) i = ap (with_tail (printed_tail t)) (means p i.0) ∙ tail_means t i.1 (tree p)
  means (Inside p) i = means p i
  means (CallNone f) i = refl
  means (Call f all) i = ap (e.Call f) (all_mean all i)
  means CountAll i = refl
  means (Cast p n ns s) i = ap (λ x. e.Cast x (n ∷ ns)) (means p i.0)
  means (Case s arms o) i = ap (λ x. e.Case x (arms_trees (printed_arms arms)) (tree_perhaps (printed_perhaps o))) (perhaps_means s i.0)
      ∙ (ap (λ x. e.Case (tree_perhaps s) x (tree_perhaps (printed_perhaps o))) (arms_mean arms i.1) ∙ ap (e.Case (tree_perhaps s) (arms_trees arms)) (perhaps_means o i.2))

  tail_means : (t : Tail) → IsProperTail t → (x : Expr) → with_tail (printed_tail t) x ≡ with_tail t x
  tail_means (Infix op p) i x = ap (λ o. e.Binary o x (tree (printed p))) (operator_means op) ∙ ap (e.Binary (meaning op) x) (means p i.0)
  tail_means (Tested t) i x = test_means t x
  tail_means (Collated c) i x = refl
  tail_means (Among n all) i x = ap (e.In n x) (all_mean all i)
  tail_means (Between n low high) i x = ap (λ y. e.Between n x y (tree (printed high))) (means low i.0) ∙ ap (e.Between n x (tree low)) (means high i.2)

  all_mean : (all : Phrases) → AreProper all → trees (printed_all all) ≡ trees all
  all_mean (One p) i = ap (λ x. x ∷ []) (means p i)
  all_mean (And_more p all) i = ap (λ x. x ∷ trees (printed_all all)) (means p i.0) ∙ ap (λ xs. tree p ∷ xs) (all_mean all i.1)

  arms_mean : (arms : Arms) → AreProperArms arms → arms_trees (printed_arms arms) ≡ arms_trees arms
  arms_mean (Arm p q) i = ap (λ x. roll-When (record { when = x; then = tree (printed q) }) ∷ []) (means p i.0) ∙ ap (λ y. roll-When (record { when = tree p; then = y }) ∷ []) (means q i.1)
  arms_mean (And_arms p q arms) i = ap (λ x. roll-When (record { when = x; then = tree (printed q) }) ∷ arms_trees (printed_arms arms)) (means p i.0)
      ∙ (ap (λ y. roll-When (record { when = tree p; then = y }) ∷ arms_trees (printed_arms arms)) (means q i.1) ∙ ap (λ z. roll-When (record { when = tree p; then = tree q }) ∷ z) (arms_mean arms i.2))

  perhaps_means : (o : Perhaps) → IsProperPerhaps o → tree_perhaps (printed_perhaps o) ≡ tree_perhaps o
  perhaps_means Absent i = refl
  perhaps_means (Present p) i = ap Some (means p i)

-- ---- it binds most tightly of all, and is proper

abbrev Tight : Phrase → Type 0
Tight p = tightness p ≡ 11

number_tight : (i : ℤ) → Tight (number_phrase i)
number_tight (pos n) = refl
number_tight (negsuc n) = refl

leaf_tight : (t : Symbol) (x : Expr) → Tight (one_leaf t x)
leaf_tight (k.Bits i) x = number_tight i
leaf_tight _ x = refl

pub tight : (p : Phrase) → Tight (printed p)
tight (Leaf t x) = leaf_tight t x
tight (Negative n) = number_tight (neg_ℤ (pos n))
tight (Inside p) = tight p
tight _ = refl

shielded_tight : (p : Phrase) → Tight p → Tight (shielded p)
shielded_tight (Leaf (k.Number n) x) h = refl
shielded_tight (Negative n) h = refl
shielded_tight (Leaf _ x) h = h
shielded_tight _ h = h

binds_less : (op : Operator) → binds op < 11
binds_less Or = omega arith
binds_less And = omega arith
binds_less Equal = omega arith
binds_less DoubleEqual = omega arith
binds_less Unequal = omega arith
binds_less BangEqual = omega arith
binds_less Is = omega arith
binds_less IsNot = omega arith
binds_less Like = omega arith
binds_less NotLike = omega arith
binds_less Less = omega arith
binds_less AtMost = omega arith
binds_less Greater = omega arith
binds_less AtLeast = omega arith
binds_less Plus = omega arith
binds_less Minus = omega arith
binds_less Star = omega arith
binds_less Slash = omega arith
binds_less Percent = omega arith
binds_less Bars = omega arith

tail_binds_less : (t : Tail) → tail_binds t < 11
tail_binds_less (Infix op p) = binds_less op
tail_binds_less (Tested t) = omega arith
tail_binds_less (Collated c) = omega arith
tail_binds_less (Among n all) = omega arith
tail_binds_less (Between n low high) = omega arith

-- it begins with no number, where it is as tight as can be
shielded_plain : (p : Phrase) → Tight p → begins_with_number (spelled (shielded p)) ≡ false
shielded_plain (Leaf (k.Number n) x) h = refl
shielded_plain (Leaf _ x) h = refl
shielded_plain (NotOf p) h = absurd (cc)
shielded_plain (PlusOf p) h = absurd (cc)
shielded_plain (MinusOf p) h = absurd (cc)
shielded_plain (With p t) h = absurd (omega (arith, h, tail_binds_less t))
shielded_plain _ h = refl

-- ---- it is proper

pub front : (P : Symbol → Type 0) (xs ys : List Symbol) → All P (xs ++ ys) → All P xs
front P [] ys a = tt
front P (x ∷ xs) ys a = (a.0, front P xs ys a.1)

pub back : (P : Symbol → Type 0) (xs ys : List Symbol) → All P (xs ++ ys) → All P ys
back P [] ys a = a
back P (x ∷ xs) ys a = back P xs ys a.1

number_proper : (i : ℤ) → InRange i → IsProper (number_phrase i)
number_proper (pos n) h = if_true (nat_lt n (2 ^ 63)) (Some (e.Literal (v.Int (pos n)))) None (lt-ltb n (2 ^ 63) h)
number_proper (negsuc n) h = h

negative_proper : (n : ℕ) → n ≤ 2 ^ 63 → IsProper (number_phrase (neg_ℤ (pos n)))
negative_proper zero h = number_proper (pos 0) (omega arith)
negative_proper (suc n) h = h

leaf_proper : (t : Symbol) (x : Expr) → leaf t ≡ Some x → IsSeen t → IsProper (one_leaf t x)
leaf_proper (k.Bits i) x h b = number_proper i b
leaf_proper (k.Mark y) x h b = h
leaf_proper (k.Name n) x h b = h
leaf_proper (k.Text n) x h b = h
leaf_proper (k.Blob n) x h b = h
leaf_proper (k.Number n) x h b = h
leaf_proper (k.Param n) x h b = h
leaf_proper k.Other x h b = h

shielded_proper : (p : Phrase) → IsProper p → IsProper (shielded p)
shielded_proper (Leaf (k.Number n) x) h = h
shielded_proper (Negative n) h = h
shielded_proper (Leaf _ x) h = h
shielded_proper _ h = h

mutual
  pub proper : (p : Phrase) → IsProper p → All IsSeen (spelled p) → IsProper (printed p)
  proper (Leaf t x) i a = leaf_proper t x i a.0
  proper (Negative n) i a = negative_proper n i
  proper (Name n) i a = tt
  proper (Dotted s n) i a = tt
  proper (NotOf p) i a = (proper p i.0 a.1, omega (arith, tight p))
  proper (PlusOf p) i a = (shielded_proper (printed p) (proper p i.0 a.1), omega (arith, shielded_tight (printed p) (tight p)))
  proper (MinusOf p) i a = (shielded_proper (printed p) (proper p i.0 a.1), omega (arith, shielded_tight (printed p) (tight p)), shielded_plain (printed p) (tight p))
  proper (With p t) i a = (proper p i.0 (front IsSeen (spelled p) (spelled_tail t) a), tail_proper t i.1 (back IsSeen (spelled p) (spelled_tail t) a), omega (arith, tail_binds_less (printed_tail t), tight p))
  proper (Inside p) i a = proper p i (front IsSeen (spelled p) (k.Mark m.Close ∷ []) a.1)
  proper (CallNone f) i a = tt
  proper (Call f all) i a = all_proper all i (front IsSeen (spelled_all all) (k.Mark m.Close ∷ []) a.1.1)
  proper CountAll i a = tt
  proper (Cast p n ns s) i a = (proper p i.0 (front IsSeen (spelled p) _ a.1.1), tt)
  proper (Case s arms o) i a =
      let b = back IsSeen (spelled_perhaps s []) (spelled_arms arms ++ (spelled_perhaps o (k.Mark m.Else ∷ []) ++ k.Mark m.End ∷ [])) a.1 in (
        perhaps_proper s [] i.0 (front IsSeen (spelled_perhaps s []) (spelled_arms arms ++ (spelled_perhaps o (k.Mark m.Else ∷ []) ++ k.Mark m.End ∷ [])) a.1),
        arms_proper arms i.1 (front IsSeen (spelled_arms arms) (spelled_perhaps o (k.Mark m.Else ∷ []) ++ k.Mark m.End ∷ []) b),
        perhaps_proper o (k.Mark m.Else ∷ []) i.2 (front IsSeen (spelled_perhaps o (k.Mark m.Else ∷ [])) (k.Mark m.End ∷ []) (back IsSeen (spelled_arms arms) (spelled_perhaps o (k.Mark m.Else ∷ []) ++ k.Mark m.End ∷ []) b)),
      )

  tail_proper : (t : Tail) → IsProperTail t → All IsSeen (spelled_tail t) → IsProperTail (printed_tail t)
  tail_proper (Infix op p) i a = (proper p i.0 (back IsSeen (operator_words op) (spelled p) a), omega (arith, tight p, binds_less (one_operator op)))
  tail_proper (Tested t) i a = tt
  tail_proper (Collated c) i a = tt
  tail_proper (Among n all) i a = all_proper all i (front IsSeen (spelled_all all) (k.Mark m.Close ∷ []) (back IsSeen (not_words n) (k.Mark m.In ∷ k.Mark m.Open ∷ spelled_all all ++ k.Mark m.Close ∷ []) a).1.1)
  tail_proper (Between n low high) i a =
      let b = (back IsSeen (not_words n) (k.Mark m.Between ∷ spelled low ++ k.Mark m.And ∷ spelled high) a).1 in
      (proper low i.0 (front IsSeen (spelled low) (k.Mark m.And ∷ spelled high) b), omega (arith, tight low), proper high i.2 (back IsSeen (spelled low) (k.Mark m.And ∷ spelled high) b).1, omega (arith, tight high))

  all_proper : (all : Phrases) → AreProper all → All IsSeen (spelled_all all) → AreProper (printed_all all)
  all_proper (One p) i a = proper p i a
  all_proper (And_more p all) i a = (proper p i.0 (front IsSeen (spelled p) (k.Mark m.Comma ∷ spelled_all all) a), all_proper all i.1 (back IsSeen (spelled p) (k.Mark m.Comma ∷ spelled_all all) a).1)

  arms_proper : (arms : Arms) → AreProperArms arms → All IsSeen (spelled_arms arms) → AreProperArms (printed_arms arms)
  arms_proper (Arm p q) i a = (proper p i.0 (front IsSeen (spelled p) (k.Mark m.Then ∷ spelled q) a.1), proper q i.1 (back IsSeen (spelled p) (k.Mark m.Then ∷ spelled q) a.1).1)
  arms_proper (And_arms p q arms) i a =
      let b = (back IsSeen (spelled p) (k.Mark m.Then ∷ spelled q ++ spelled_arms arms) a.1).1 in
      (proper p i.0 (front IsSeen (spelled p) (k.Mark m.Then ∷ spelled q ++ spelled_arms arms) a.1), proper q i.1 (front IsSeen (spelled q) (spelled_arms arms) b), arms_proper arms i.2 (back IsSeen (spelled q) (spelled_arms arms) b))

  perhaps_proper : (o : Perhaps) (words : List Symbol) → IsProperPerhaps o → All IsSeen (spelled_perhaps o words) → IsProperPerhaps (printed_perhaps o)
  perhaps_proper Absent words i a = tt
  perhaps_proper (Present p) words i a = proper p i (back IsSeen words (spelled p) a)

-- ---- it is as high

number_high : (i : ℤ) → height (number_phrase i) ≡ 0
number_high (pos n) = refl
number_high (negsuc n) = refl

leaf_high : (t : Symbol) (x : Expr) → height (one_leaf t x) ≡ 0
leaf_high (k.Bits i) x = number_high i
leaf_high _ x = refl

shielded_high : (p : Phrase) → height (shielded p) ≡ height p
shielded_high (Leaf (k.Number n) x) = refl
shielded_high _ = refl

mutual
  pub high : (p : Phrase) → height (printed p) ≡ height p
  high (Leaf t x) = leaf_high t x
  high (Negative n) = number_high (neg_ℤ (pos n))
  high (NotOf p) = ap suc (high p)
  high (PlusOf p) = ap suc (shielded_high (printed p) ∙ high p)
  high (MinusOf p) = ap suc (shielded_high (printed p) ∙ high p)
  high (With p t) = omega (arith, high p, tail_high t)
  high (Inside p) = high p
  high (Call f all) = ap suc (all_high all)
  high (Cast p n ns s) = ap suc (high p)
  high (Case s arms o) = omega (arith, perhaps_high s, arms_high arms, perhaps_high o)
  high _ = refl

  tail_high : (t : Tail) → height_tail (printed_tail t) ≡ height_tail t
  tail_high (Infix op p) = high p
  tail_high (Tested t) = refl
  tail_high (Collated c) = refl
  tail_high (Among n all) = all_high all
  tail_high (Between n low high') = omega (arith, high low, high high')

  all_high : (all : Phrases) → height_all (printed_all all) ≡ height_all all
  all_high (One p) = high p
  all_high (And_more p all) = omega (arith, high p, all_high all)

  arms_high : (arms : Arms) → height_arms (printed_arms arms) ≡ height_arms arms
  arms_high (Arm p q) = omega (arith, high p, high q)
  arms_high (And_arms p q arms) = omega (arith, high p, high q, arms_high arms)

  perhaps_high : (o : Perhaps) → height_perhaps (printed_perhaps o) ≡ height_perhaps o
  perhaps_high Absent = refl
  perhaps_high (Present p) = high p

-- ---- its calls have as many commas

number_short : (i : ℤ) → most_commas (number_phrase i) ≡ 0
number_short (pos n) = refl
number_short (negsuc n) = refl

leaf_short : (t : Symbol) (x : Expr) → most_commas (one_leaf t x) ≡ 0
leaf_short (k.Bits i) x = number_short i
leaf_short _ x = refl

shielded_short : (p : Phrase) → most_commas (shielded p) ≡ most_commas p
shielded_short (Leaf (k.Number n) x) = refl
shielded_short _ = refl

all_count : (all : Phrases) → comma_count (printed_all all) ≡ comma_count all
all_count (One p) = refl
all_count (And_more p all) = ap suc (all_count all)

mutual
  pub short : (p : Phrase) → most_commas (printed p) ≡ most_commas p
  short (Leaf t x) = leaf_short t x
  short (Negative n) = number_short (neg_ℤ (pos n))
  short (NotOf p) = short p
  short (PlusOf p) = shielded_short (printed p) ∙ short p
  short (MinusOf p) = shielded_short (printed p) ∙ short p
  short (With p t) = omega (arith, short p, tail_short t)
  short (Inside p) = short p
  short (Call f all) = omega (arith, all_count all, all_short all)
  short (Cast p n ns s) = short p
  short (Case s arms o) = omega (arith, perhaps_short s, arms_short arms, perhaps_short o)
  short _ = refl

  tail_short : (t : Tail) → most_commas_tail (printed_tail t) ≡ most_commas_tail t
  tail_short (Infix op p) = short p
  tail_short (Tested t) = refl
  tail_short (Collated c) = refl
  tail_short (Among n all) = all_short all
  tail_short (Between n low upper) = omega (arith, short low, short upper)

  all_short : (all : Phrases) → most_commas_all (printed_all all) ≡ most_commas_all all
  all_short (One p) = short p
  all_short (And_more p all) = omega (arith, short p, all_short all)

  arms_short : (arms : Arms) → most_commas_arms (printed_arms arms) ≡ most_commas_arms arms
  arms_short (Arm p q) = omega (arith, short p, short q)
  arms_short (And_arms p q arms) = omega (arith, short p, short q, arms_short arms)

  perhaps_short : (o : Perhaps) → most_commas_perhaps (printed_perhaps o) ≡ most_commas_perhaps o
  perhaps_short Absent = refl
  perhaps_short (Present p) = short p

-- ---- its parentheses

number_few : (i : ℤ) → opened (number_phrase i) ≡ 0
number_few (pos n) = refl
number_few (negsuc n) = refl

leaf_few : (t : Symbol) (x : Expr) → opened (one_leaf t x) ≡ 0
leaf_few (k.Bits i) x = number_few i
leaf_few _ x = refl

shielded_few : (p : Phrase) → opened (shielded p) ≤ suc (opened p)
shielded_few (Leaf (k.Number n) x) = omega arith
shielded_few _ = omega arith

mutual
  pub few : (p : Phrase) → opened (printed p) ≤ suc (2 * height p)
  few (Leaf t x) = omega (arith, leaf_few t x)
  few (Negative n) = omega (arith, number_few (neg_ℤ (pos n)))
  few (Name n) = omega arith
  few (Dotted s n) = omega arith
  few (NotOf p) = omega (arith, few p)
  few (PlusOf p) = omega (arith, shielded_few (printed p), few p)
  few (MinusOf p) = omega (arith, shielded_few (printed p), few p)
  few (With p t) = omega (arith, few p, tail_few t)
  few (Inside p) = few p
  few (CallNone f) = omega arith
  few (Call f all) = omega (arith, all_few all)
  few CountAll = omega arith
  few (Cast p n ns s) = omega (arith, few p)
  few (Case s arms o) = omega (arith, perhaps_few s, arms_few arms, perhaps_few o)

  tail_few : (t : Tail) → opened_tail (printed_tail t) ≤ suc (suc (2 * height_tail t))
  tail_few (Infix op p) = omega (arith, few p)
  tail_few (Tested t) = omega arith
  tail_few (Collated c) = omega arith
  tail_few (Among n all) = omega (arith, all_few all)
  tail_few (Between n low high') = omega (arith, few low, few high')

  all_few : (all : Phrases) → opened_all (printed_all all) ≤ suc (2 * height_all all)
  all_few (One p) = few p
  all_few (And_more p all) = omega (arith, few p, all_few all)

  arms_few : (arms : Arms) → opened_arms (printed_arms arms) ≤ suc (2 * height_arms arms)
  arms_few (Arm p q) = omega (arith, few p, few q)
  arms_few (And_arms p q arms) = omega (arith, few p, few q, arms_few arms)

  perhaps_few : (o : Perhaps) → opened_perhaps (printed_perhaps o) ≤ suc (2 * height_perhaps o)
  perhaps_few Absent = omega arith
  perhaps_few (Present p) = few p

-- ---- what it is spelled with, tokens have too

pub join : (P : Symbol → Type 0) (xs ys : List Symbol) → All P xs → All P ys → All P (xs ++ ys)
join P [] ys a b = b
join P (x ∷ xs) ys a b = (a.0, join P xs ys a.1 b)

number_seen : (i : ℤ) → InRange i → All IsSeen (spelled (number_phrase i))
number_seen (pos n) h = (omega (arith, h), tt)
number_seen (negsuc n) h = (tt, (h, tt))

negative_seen : (n : ℕ) → n ≤ 2 ^ 63 → All IsSeen (spelled (number_phrase (neg_ℤ (pos n))))
negative_seen zero h = (omega arith, tt)
negative_seen (suc n) h = (tt, (h, tt))

leaf_seen : (t : Symbol) (x : Expr) → IsSeen t → All IsSeen (spelled (one_leaf t x))
leaf_seen (k.Bits i) x b = number_seen i b
leaf_seen (k.Mark y) x b = (b, tt)
leaf_seen (k.Name n) x b = (b, tt)
leaf_seen (k.Text n) x b = (b, tt)
leaf_seen (k.Blob n) x b = (b, tt)
leaf_seen (k.Number n) x b = (b, tt)
leaf_seen (k.Param n) x b = (b, tt)
leaf_seen k.Other x b = (b, tt)

shielded_seen : (p : Phrase) → All IsSeen (spelled p) → All IsSeen (spelled (shielded p))
shielded_seen (Leaf (k.Number n) x) a = (tt, (a.0, (tt, tt)))
shielded_seen (Negative n) a = (tt, (tt, (a.1.0, (tt, tt))))
shielded_seen (Leaf (k.Mark y) x) a = a
shielded_seen (Leaf (k.Name n) x) a = a
shielded_seen (Leaf (k.Text n) x) a = a
shielded_seen (Leaf (k.Blob n) x) a = a
shielded_seen (Leaf (k.Bits n) x) a = a
shielded_seen (Leaf (k.Param n) x) a = a
shielded_seen (Leaf k.Other x) a = a
shielded_seen _ a = a

within_seen : (ts : List Symbol) → All IsSeen ts → All IsSeen (k.Mark m.Open ∷ ts ++ k.Mark m.Close ∷ [])
within_seen ts a = (tt, join IsSeen ts (k.Mark m.Close ∷ []) a (tt, tt))

operator_seen : (op : Operator) → All IsSeen (operator_words (one_operator op))
operator_seen Is = (tt, tt)
operator_seen IsNot = (tt, (tt, tt))
operator_seen NotLike = (tt, (tt, tt))
operator_seen Or = (tt, tt)
operator_seen And = (tt, tt)
operator_seen Equal = (tt, tt)
operator_seen DoubleEqual = (tt, tt)
operator_seen Unequal = (tt, tt)
operator_seen BangEqual = (tt, tt)
operator_seen Like = (tt, tt)
operator_seen Less = (tt, tt)
operator_seen AtMost = (tt, tt)
operator_seen Greater = (tt, tt)
operator_seen AtLeast = (tt, tt)
operator_seen Plus = (tt, tt)
operator_seen Minus = (tt, tt)
operator_seen Star = (tt, tt)
operator_seen Slash = (tt, tt)
operator_seen Percent = (tt, tt)
operator_seen Bars = (tt, tt)

test_seen : (t : Test) → All IsSeen (test_words (one_test t))
test_seen IsNull = (tt, tt)
test_seen NotNull = (tt, tt)
test_seen NotNullApart = (tt, tt)

not_seen : (n : Bool) → All IsSeen (not_words n)
not_seen true = (tt, tt)
not_seen false = tt

mutual
  pub seen : (p : Phrase) → IsProper p → All IsSeen (spelled p) → All IsSeen (spelled (printed p))
  seen (Leaf t x) i a = leaf_seen t x a.0
  seen (Negative n) i a = negative_seen n i
  seen (Name n) i a = a
  seen (Dotted s n) i a = a
  seen (NotOf p) i a = within_seen (k.Mark m.Not ∷ spelled (printed p)) (tt, seen p i.0 a.1)
  seen (PlusOf p) i a = within_seen (k.Mark m.Plus ∷ spelled (shielded (printed p))) (tt, shielded_seen (printed p) (seen p i.0 a.1))
  seen (MinusOf p) i a = within_seen (k.Mark m.Minus ∷ spelled (shielded (printed p))) (tt, shielded_seen (printed p) (seen p i.0 a.1))
  seen (With p t) i a = within_seen (spelled (printed p) ++ spelled_tail (printed_tail t))
      (join IsSeen (spelled (printed p)) (spelled_tail (printed_tail t)) (seen p i.0 (front IsSeen (spelled p) (spelled_tail t) a)) (tail_seen t i.1 (back IsSeen (spelled p) (spelled_tail t) a)))
  seen (Inside p) i a = seen p i (front IsSeen (spelled p) (k.Mark m.Close ∷ []) a.1)
  seen (CallNone f) i a = a
  seen (Call f all) i a = (a.0, within_seen (spelled_all (printed_all all)) (all_seen all i (front IsSeen (spelled_all all) (k.Mark m.Close ∷ []) a.1.1)))
  seen CountAll i a = a
  seen (Cast p n ns s) i a =
      let b = back IsSeen (spelled p) (k.Mark m.As ∷ k.Name n ∷ names_words ns ++ (sizes_words s ++ k.Mark m.Close ∷ [])) a.1.1 in (
        tt,
        (
          tt,
          join IsSeen (spelled (printed p)) (k.Mark m.As ∷ k.Name n ∷ names_words ns ++ k.Mark m.Close ∷ []) (seen p i.0 (front IsSeen (spelled p) (k.Mark m.As ∷ k.Name n ∷ names_words ns ++ (sizes_words s ++ k.Mark m.Close ∷ [])) a.1.1))
              (tt, (b.1.0, join IsSeen (names_words ns) (k.Mark m.Close ∷ []) (front IsSeen (names_words ns) (sizes_words s ++ k.Mark m.Close ∷ []) b.1.1) (tt, tt))),
        ),
      )
  seen (Case s arms o) i a =
      let b = back IsSeen (spelled_perhaps s []) (spelled_arms arms ++ (spelled_perhaps o (k.Mark m.Else ∷ []) ++ k.Mark m.End ∷ [])) a.1 in (
        tt,
        join IsSeen (spelled_perhaps (printed_perhaps s) []) (spelled_arms (printed_arms arms) ++ (spelled_perhaps (printed_perhaps o) (k.Mark m.Else ∷ []) ++ k.Mark m.End ∷ []))
            (perhaps_seen s [] i.0 tt (front IsSeen (spelled_perhaps s []) (spelled_arms arms ++ (spelled_perhaps o (k.Mark m.Else ∷ []) ++ k.Mark m.End ∷ [])) a.1))
            (join IsSeen (spelled_arms (printed_arms arms)) (spelled_perhaps (printed_perhaps o) (k.Mark m.Else ∷ []) ++ k.Mark m.End ∷ [])
            (arms_seen arms i.1 (front IsSeen (spelled_arms arms) (spelled_perhaps o (k.Mark m.Else ∷ []) ++ k.Mark m.End ∷ []) b))
            (join IsSeen (spelled_perhaps (printed_perhaps o) (k.Mark m.Else ∷ [])) (k.Mark m.End ∷ [])
            (perhaps_seen o (k.Mark m.Else ∷ []) i.2 (tt, tt) (front IsSeen (spelled_perhaps o (k.Mark m.Else ∷ [])) (k.Mark m.End ∷ []) (back IsSeen (spelled_arms arms) (spelled_perhaps o (k.Mark m.Else ∷ []) ++ k.Mark m.End ∷ []) b))) (tt, tt))),
      )

  tail_seen : (t : Tail) → IsProperTail t → All IsSeen (spelled_tail t) → All IsSeen (spelled_tail (printed_tail t))
  tail_seen (Infix op p) i a = join IsSeen (operator_words (one_operator op)) (spelled (printed p)) (operator_seen op) (seen p i.0 (back IsSeen (operator_words op) (spelled p) a))
  tail_seen (Tested t) i a = test_seen t
  tail_seen (Collated c) i a = a
  tail_seen (Among n all) i a =
      let b = back IsSeen (not_words n) (k.Mark m.In ∷ k.Mark m.Open ∷ spelled_all all ++ k.Mark m.Close ∷ []) a in
      join IsSeen (not_words n) (k.Mark m.In ∷ k.Mark m.Open ∷ spelled_all (printed_all all) ++ k.Mark m.Close ∷ []) (not_seen n) (tt, within_seen (spelled_all (printed_all all)) (all_seen all i (front IsSeen (spelled_all all) (k.Mark m.Close ∷ []) b.1.1)))
  tail_seen (Between n low high) i a =
      let b = (back IsSeen (not_words n) (k.Mark m.Between ∷ spelled low ++ k.Mark m.And ∷ spelled high) a).1 in
      join IsSeen (not_words n) (k.Mark m.Between ∷ spelled (printed low) ++ k.Mark m.And ∷ spelled (printed high)) (not_seen n)
      (tt, join IsSeen (spelled (printed low)) (k.Mark m.And ∷ spelled (printed high)) (seen low i.0 (front IsSeen (spelled low) (k.Mark m.And ∷ spelled high) b)) (tt, seen high i.2 (back IsSeen (spelled low) (k.Mark m.And ∷ spelled high) b).1))

  all_seen : (all : Phrases) → AreProper all → All IsSeen (spelled_all all) → All IsSeen (spelled_all (printed_all all))
  all_seen (One p) i a = seen p i a
  all_seen (And_more p all) i a = join IsSeen (spelled (printed p)) (k.Mark m.Comma ∷ spelled_all (printed_all all)) (seen p i.0 (front IsSeen (spelled p) (k.Mark m.Comma ∷ spelled_all all) a)) (tt, all_seen all i.1 (back IsSeen (spelled p) (k.Mark m.Comma ∷ spelled_all all) a).1)

  arms_seen : (arms : Arms) → AreProperArms arms → All IsSeen (spelled_arms arms) → All IsSeen (spelled_arms (printed_arms arms))
  arms_seen (Arm p q) i a = (tt, join IsSeen (spelled (printed p)) (k.Mark m.Then ∷ spelled (printed q)) (seen p i.0 (front IsSeen (spelled p) (k.Mark m.Then ∷ spelled q) a.1)) (tt, seen q i.1 (back IsSeen (spelled p) (k.Mark m.Then ∷ spelled q) a.1).1))
  arms_seen (And_arms p q arms) i a =
      let b = (back IsSeen (spelled p) (k.Mark m.Then ∷ spelled q ++ spelled_arms arms) a.1).1 in (
        tt,
        join IsSeen (spelled (printed p)) (k.Mark m.Then ∷ spelled (printed q) ++ spelled_arms (printed_arms arms)) (seen p i.0 (front IsSeen (spelled p) (k.Mark m.Then ∷ spelled q ++ spelled_arms arms) a.1))
            (tt, join IsSeen (spelled (printed q)) (spelled_arms (printed_arms arms)) (seen q i.1 (front IsSeen (spelled q) (spelled_arms arms) b)) (arms_seen arms i.2 (back IsSeen (spelled q) (spelled_arms arms) b))),
      )

  perhaps_seen : (o : Perhaps) (words : List Symbol) → IsProperPerhaps o → All IsSeen words → All IsSeen (spelled_perhaps o words) → All IsSeen (spelled_perhaps (printed_perhaps o) words)
  perhaps_seen Absent words i b a = tt
  perhaps_seen (Present p) words i b a = join IsSeen words (spelled (printed p)) b (seen p i (back IsSeen words (spelled p) a))
