-- The phrase that is printed for a phrase: each operator stands in parentheses of its own, and each number is in decimal.
-- Source: this project's own.
use Rattle.std.specs.Prelude.{◌≡◌, ℕ, suc, ◌≤◌, ◌<◌, ◌^◌, true, List, [], ◌∷◌, ℤ, pos, negsuc, neg_ℤ}
use Rattle.std.specs.Str.{is_utf8, str_to_ascii_lowercase}
use Rattle.hex.specs.Hex.{IsBytes}
use Rattle.cr_lex.specs.Tokens.{is_legal}
use Rattle.cr_value.specs.declared.value.Value.TheVariants as v
use Rattle.cr_tree.specs.declared.symbol.Symbol.{Symbol}
use Rattle.cr_tree.specs.declared.symbol.Symbol.TheVariants as k
use Rattle.cr_tree.specs.declared.expr.Expr.{Expr}
use Rattle.cr_tree.specs.declared.expr.Expr.TheVariants as e
use Rattle.cr_tree.specs.Grammar.{Operator, Equal, DoubleEqual, Unequal, BangEqual, Test, NotNull, NotNullApart, NoSizes, Phrase, Leaf, Negative, Name, Dotted, NotOf, PlusOf, MinusOf, With, Inside, CallNone, Call, CountAll, Cast, Case, Tail, Infix, Tested, Collated, Among, Between, Phrases, One, And_more, Arms, Arm, And_arms, Perhaps, Absent, Present}

-- ---- numbers in decimal

abbrev pub number_phrase : ℤ → Phrase
number_phrase (pos n) = Leaf (k.Number n) (e.Literal (v.Int (pos n)))
number_phrase (negsuc n) = Negative (suc n)

-- ---- one way to write each operator

abbrev pub one_operator : Operator → Operator
one_operator DoubleEqual = Equal
one_operator BangEqual = Unequal
one_operator op = op

abbrev pub one_test : Test → Test
one_test NotNullApart = NotNull
one_test t = t

-- a literal, where it is a number in hexadecimal digits
abbrev pub one_leaf : Symbol → Expr → Phrase
one_leaf (k.Bits i) x = number_phrase i
one_leaf t x = Leaf t x

-- a sign stands before a number only with a parenthesis between them
abbrev pub shielded : Phrase → Phrase
shielded (Leaf (k.Number n) x) = Inside (Leaf (k.Number n) x)
shielded (Negative n) = Inside (Negative n)
shielded p = p

abbrev mutual
  pub printed : Phrase → Phrase
  printed (Leaf t x) = one_leaf t x
  printed (Negative n) = number_phrase (neg_ℤ (pos n))
  printed (Name n) = Name n
  printed (Dotted s n) = Dotted s n
  printed (NotOf p) = Inside (NotOf (printed p))
  printed (PlusOf p) = Inside (PlusOf (shielded (printed p)))
  printed (MinusOf p) = Inside (MinusOf (shielded (printed p)))
  printed (With p t) = Inside (With (printed p) (printed_tail t))
  printed (Inside p) = printed p
  printed (CallNone f) = CallNone f
  printed (Call f all) = Call f (printed_all all)
  printed CountAll = CountAll
  printed (Cast p n ns s) = Cast (printed p) n ns NoSizes
  printed (Case s arms o) = Case (printed_perhaps s) (printed_arms arms) (printed_perhaps o)

  pub printed_tail : Tail → Tail
  printed_tail (Infix op p) = Infix (one_operator op) (printed p)
  printed_tail (Tested t) = Tested (one_test t)
  printed_tail (Collated c) = Collated c
  printed_tail (Among n all) = Among n (printed_all all)
  printed_tail (Between n low high) = Between n (printed low) (printed high)

  pub printed_all : Phrases → Phrases
  printed_all (One p) = One (printed p)
  printed_all (And_more p all) = And_more (printed p) (printed_all all)

  pub printed_arms : Arms → Arms
  printed_arms (Arm p q) = Arm (printed p) (printed q)
  printed_arms (And_arms p q arms) = And_arms (printed p) (printed q) (printed_arms arms)

  pub printed_perhaps : Perhaps → Perhaps
  printed_perhaps Absent = Absent
  printed_perhaps (Present p) = Present (printed p)

-- ---- what tokens are seen as

-- the symbols all have it
abbrev pub All : (Symbol → Type 0) → List Symbol → Type 0
All P [] = Unit {0}
All P (t ∷ ts) = P t × All P ts

-- of 64 bits
abbrev pub InRange : ℤ → Type 0
InRange (pos n) = n < 2 ^ 63
InRange (negsuc n) = suc n ≤ 2 ^ 63

-- UTF-8 without U+0000
abbrev pub IsText : List ℕ → Type 0
IsText t = (is_utf8 t ≡ true) × (is_legal t ≡ true)

-- what a symbol is that a token has
abbrev pub IsSeen : Symbol → Type 0
IsSeen (k.Name n) = IsText n × (str_to_ascii_lowercase n ≡ n)
IsSeen (k.Text t) = IsText t
IsSeen (k.Blob b) = IsBytes b
IsSeen (k.Number n) = n ≤ 2 ^ 63
IsSeen (k.Bits i) = InRange i
IsSeen (k.Param n) = n ≤ 1000
IsSeen _ = Unit {0}
