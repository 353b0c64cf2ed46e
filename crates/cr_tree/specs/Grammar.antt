-- The grammar of expressions. A phrase is an expression as it is written, with its parentheses. Source: "SQL Language
-- Expressions" of SQLite, the part of it that this project reads, in levels.
use Rattle.std.specs.Prelude.{◌≡◌, ℕ, suc, ◌≤◌, ◌<◌, ◌^◌, max, Bool, true, false, if◌then◌else◌, nat_lt, List, [], ◌∷◌, ◌++◌, Option, Some, None, codes, pos, neg_ℤ}
use Rattle.cr_value.specs.declared.value.Value.TheVariants as v
use Rattle.cr_tree.specs.declared.symbol.Mark.TheVariants as m
use Rattle.cr_tree.specs.declared.symbol.Symbol.{Symbol}
use Rattle.cr_tree.specs.declared.symbol.Symbol.TheVariants as k
use Rattle.cr_tree.specs.declared.expr.Unary.TheVariants as u
use Rattle.cr_tree.specs.declared.expr.Binary.{Binary}
use Rattle.cr_tree.specs.declared.expr.Binary.TheVariants as b
use Rattle.cr_tree.specs.declared.expr.Expr.{Expr}
use Rattle.cr_tree.specs.declared.expr.Expr.TheVariants as e
use Rattle.cr_tree.specs.declared.expr.When.{When, roll-When}

-- operators between two operands, as they are written
pub data Operator : Type 0 where
  Or : Operator
  And : Operator
  Equal : Operator
  DoubleEqual : Operator
  Unequal : Operator
  BangEqual : Operator
  Is : Operator
  IsNot : Operator
  Like : Operator
  NotLike : Operator
  Less : Operator
  AtMost : Operator
  Greater : Operator
  AtLeast : Operator
  Plus : Operator
  Minus : Operator
  Star : Operator
  Slash : Operator
  Percent : Operator
  Bars : Operator

-- tests behind an operand
pub data Test : Type 0 where
  IsNull : Test
  NotNull : Test
  NotNullApart : Test

-- the sizes of a type
pub data Sizes : Type 0 where
  NoSizes : Sizes
  OneSize : Symbol → Sizes
  TwoSizes : Symbol → Symbol → Sizes

mutual
  pub data Phrase : Type 0 where
    -- one symbol, and what it stands for
    Leaf : Symbol → Expr → Phrase
    -- a minus and a number in decimal, one literal
    Negative : ℕ → Phrase
    Name : List ℕ → Phrase
    Dotted : List ℕ → List ℕ → Phrase
    NotOf : Phrase → Phrase
    PlusOf : Phrase → Phrase
    MinusOf : Phrase → Phrase
    With : Phrase → Tail → Phrase
    Inside : Phrase → Phrase
    CallNone : List ℕ → Phrase
    Call : List ℕ → Phrases → Phrase
    CountAll : Phrase
    -- an operand, a type's first name, its other names, and its sizes
    Cast : Phrase → List ℕ → List (List ℕ) → Sizes → Phrase
    Case : Perhaps → Arms → Perhaps → Phrase

  -- what stands behind an operand and makes a greater phrase of it
  pub data Tail : Type 0 where
    Infix : Operator → Phrase → Tail
    Tested : Test → Tail
    Collated : List ℕ → Tail
    -- whether NOT stands before it
    Among : Bool → Phrases → Tail
    Between : Bool → Phrase → Phrase → Tail

  -- one or more, with commas between
  pub data Phrases : Type 0 where
    One : Phrase → Phrases
    And_more : Phrase → Phrases → Phrases

  -- one or more arms of a CASE
  pub data Arms : Type 0 where
    Arm : Phrase → Phrase → Arms
    And_arms : Phrase → Phrase → Arms → Arms

  pub data Perhaps : Type 0 where
    Absent : Perhaps
    Present : Phrase → Perhaps

-- ---- how it is spelled

abbrev pub operator_words : Operator → List Symbol
operator_words Or = k.Mark m.Or ∷ []
operator_words And = k.Mark m.And ∷ []
operator_words Equal = k.Mark m.Equal ∷ []
operator_words DoubleEqual = k.Mark m.DoubleEqual ∷ []
operator_words Unequal = k.Mark m.Unequal ∷ []
operator_words BangEqual = k.Mark m.BangEqual ∷ []
operator_words Is = k.Mark m.Is ∷ []
operator_words IsNot = k.Mark m.Is ∷ k.Mark m.Not ∷ []
operator_words Like = k.Mark m.Like ∷ []
operator_words NotLike = k.Mark m.Not ∷ k.Mark m.Like ∷ []
operator_words Less = k.Mark m.Less ∷ []
operator_words AtMost = k.Mark m.AtMost ∷ []
operator_words Greater = k.Mark m.Greater ∷ []
operator_words AtLeast = k.Mark m.AtLeast ∷ []
operator_words Plus = k.Mark m.Plus ∷ []
operator_words Minus = k.Mark m.Minus ∷ []
operator_words Star = k.Mark m.Star ∷ []
operator_words Slash = k.Mark m.Slash ∷ []
operator_words Percent = k.Mark m.Percent ∷ []
operator_words Bars = k.Mark m.Bars ∷ []

abbrev pub test_words : Test → List Symbol
test_words IsNull = k.Mark m.IsNull ∷ []
test_words NotNull = k.Mark m.NotNull ∷ []
test_words NotNullApart = k.Mark m.Not ∷ k.Mark m.Null ∷ []

-- NOT or nothing
abbrev pub not_words : Bool → List Symbol
not_words true = k.Mark m.Not ∷ []
not_words false = []

abbrev pub sizes_words : Sizes → List Symbol
sizes_words NoSizes = []
sizes_words (OneSize a) = k.Mark m.Open ∷ a ∷ k.Mark m.Close ∷ []
sizes_words (TwoSizes a b) = k.Mark m.Open ∷ a ∷ k.Mark m.Comma ∷ b ∷ k.Mark m.Close ∷ []

abbrev pub names_words : List (List ℕ) → List Symbol
names_words [] = []
names_words (n ∷ ns) = k.Name n ∷ names_words ns

abbrev pub count_name : List ℕ
count_name = codes "count"

abbrev mutual
  pub spelled : Phrase → List Symbol
  spelled (Leaf t x) = t ∷ []
  spelled (Negative n) = k.Mark m.Minus ∷ k.Number n ∷ []
  spelled (Name n) = k.Name n ∷ []
  spelled (Dotted s n) = k.Name s ∷ k.Mark m.Dot ∷ k.Name n ∷ []
  spelled (NotOf p) = k.Mark m.Not ∷ spelled p
  spelled (PlusOf p) = k.Mark m.Plus ∷ spelled p
  spelled (MinusOf p) = k.Mark m.Minus ∷ spelled p
  spelled (With p t) = spelled p ++ spelled_tail t
  spelled (Inside p) = k.Mark m.Open ∷ spelled p ++ k.Mark m.Close ∷ []
  spelled (CallNone f) = k.Name f ∷ k.Mark m.Open ∷ k.Mark m.Close ∷ []
  spelled (Call f all) = k.Name f ∷ k.Mark m.Open ∷ spelled_all all ++ k.Mark m.Close ∷ []
  spelled CountAll = k.Name count_name ∷ k.Mark m.Open ∷ k.Mark m.Star ∷ k.Mark m.Close ∷ []
  spelled (Cast p n ns s) = k.Mark m.Cast ∷ k.Mark m.Open ∷ spelled p ++ (k.Mark m.As ∷ k.Name n ∷ names_words ns ++ (sizes_words s ++ k.Mark m.Close ∷ []))
  spelled (Case s arms o) = k.Mark m.Case ∷ spelled_perhaps s [] ++ (spelled_arms arms ++ (spelled_perhaps o (k.Mark m.Else ∷ []) ++ k.Mark m.End ∷ []))

  pub spelled_tail : Tail → List Symbol
  spelled_tail (Infix op p) = operator_words op ++ spelled p
  spelled_tail (Tested t) = test_words t
  spelled_tail (Collated c) = k.Mark m.Collate ∷ k.Name c ∷ []
  spelled_tail (Among n all) = not_words n ++ (k.Mark m.In ∷ k.Mark m.Open ∷ spelled_all all ++ k.Mark m.Close ∷ [])
  spelled_tail (Between n low high) = not_words n ++ (k.Mark m.Between ∷ spelled low ++ k.Mark m.And ∷ spelled high)

  pub spelled_all : Phrases → List Symbol
  spelled_all (One p) = spelled p
  spelled_all (And_more p all) = spelled p ++ k.Mark m.Comma ∷ spelled_all all

  pub spelled_arms : Arms → List Symbol
  spelled_arms (Arm p q) = k.Mark m.When ∷ spelled p ++ k.Mark m.Then ∷ spelled q
  spelled_arms (And_arms p q arms) = k.Mark m.When ∷ spelled p ++ (k.Mark m.Then ∷ spelled q ++ spelled_arms arms)

  -- behind these words, if it is there
  pub spelled_perhaps : Perhaps → List Symbol → List Symbol
  spelled_perhaps Absent words = []
  spelled_perhaps (Present p) words = words ++ spelled p

-- ---- what it means: parentheses are gone

-- literals, NULL and parameters
abbrev pub leaf : Symbol → Option Expr
leaf (k.Mark m.Null) = Some (e.Literal v.Null)
leaf (k.Number n) = if nat_lt n (2 ^ 63) then Some (e.Literal (v.Int (pos n))) else None
leaf (k.Bits i) = Some (e.Literal (v.Int i))
leaf (k.Text t) = Some (e.Literal (v.Text t))
leaf (k.Blob t) = Some (e.Literal (v.Blob t))
leaf (k.Param n) = Some (e.Param n)
leaf _ = None

abbrev pub meaning : Operator → Binary
meaning Or = b.Or
meaning And = b.And
meaning Equal = b.Equal
meaning DoubleEqual = b.Equal
meaning Unequal = b.Unequal
meaning BangEqual = b.Unequal
meaning Is = b.Is
meaning IsNot = b.IsNot
meaning Like = b.Like
meaning NotLike = b.NotLike
meaning Less = b.Less
meaning AtMost = b.AtMost
meaning Greater = b.Greater
meaning AtLeast = b.AtLeast
meaning Plus = b.Add
meaning Minus = b.Subtract
meaning Star = b.Multiply
meaning Slash = b.Divide
meaning Percent = b.Remainder
meaning Bars = b.Join

abbrev pub tested : Test → Expr → Expr
tested IsNull x = e.Unary u.IsNull x
tested NotNull x = e.Unary u.NotNull x
tested NotNullApart x = e.Unary u.NotNull x

abbrev mutual
  pub tree : Phrase → Expr
  tree (Leaf t x) = x
  tree (Negative n) = e.Literal (v.Int (neg_ℤ (pos n)))
  tree (Name n) = e.Column None n
  tree (Dotted s n) = e.Column (Some s) n
  tree (NotOf p) = e.Unary u.Not (tree p)
  tree (PlusOf p) = e.Unary u.Plus (tree p)
  tree (MinusOf p) = e.Unary u.Minus (tree p)
  tree (With p t) = with_tail t (tree p)
  tree (Inside p) = tree p
  tree (CallNone f) = e.Call f []
  tree (Call f all) = e.Call f (trees all)
  tree CountAll = e.CountAll
  tree (Cast p n ns s) = e.Cast (tree p) (n ∷ ns)
  tree (Case s arms o) = e.Case (tree_perhaps s) (arms_trees arms) (tree_perhaps o)

  pub with_tail : Tail → Expr → Expr
  with_tail (Infix op p) x = e.Binary (meaning op) x (tree p)
  with_tail (Tested t) x = tested t x
  with_tail (Collated c) x = e.Collate x c
  with_tail (Among n all) x = e.In n x (trees all)
  with_tail (Between n low high) x = e.Between n x (tree low) (tree high)

  pub trees : Phrases → List Expr
  trees (One p) = tree p ∷ []
  trees (And_more p all) = tree p ∷ trees all

  pub arms_trees : Arms → List When
  arms_trees (Arm p q) = roll-When (record { when = tree p; then = tree q }) ∷ []
  arms_trees (And_arms p q arms) = roll-When (record { when = tree p; then = tree q }) ∷ arms_trees arms

  pub tree_perhaps : Perhaps → Option Expr
  tree_perhaps Absent = None
  tree_perhaps (Present p) = Some (tree p)

-- ---- how tightly it binds

abbrev pub binds : Operator → ℕ
binds Or = 1
binds And = 2
binds Less = 5
binds AtMost = 5
binds Greater = 5
binds AtLeast = 5
binds Plus = 6
binds Minus = 6
binds Star = 7
binds Slash = 7
binds Percent = 7
binds Bars = 8
binds _ = 4

abbrev pub tail_binds : Tail → ℕ
tail_binds (Infix op p) = binds op
tail_binds (Tested t) = 4
tail_binds (Collated c) = 9
tail_binds (Among n all) = 4
tail_binds (Between n low high) = 4

abbrev pub tightness : Phrase → ℕ
tightness (NotOf p) = 3
tightness (PlusOf p) = 10
tightness (MinusOf p) = 10
tightness (With p t) = tail_binds t
tightness _ = 11

abbrev pub begins_with_number : List Symbol → Bool
begins_with_number (k.Number n ∷ rest) = true
begins_with_number _ = false

-- a size, as an integer
abbrev pub is_size : Symbol → Bool
is_size (k.Number n) = nat_lt n (2 ^ 63)
is_size (k.Bits i) = true
is_size _ = false

abbrev pub AreSizes : Sizes → Type 0
AreSizes NoSizes = Unit {0}
AreSizes (OneSize a) = is_size a ≡ true
AreSizes (TwoSizes a b) = (is_size a ≡ true) × (is_size b ≡ true)

-- Each part binds tightly enough for its place: what stands behind an operand groups to the left.
abbrev mutual
  pub IsProper : Phrase → Type 0
  IsProper (Leaf t x) = leaf t ≡ Some x
  IsProper (Negative n) = n ≤ 2 ^ 63
  IsProper (Name n) = Unit {0}
  IsProper (Dotted s n) = Unit {0}
  IsProper (NotOf p) = IsProper p × (3 ≤ tightness p)
  IsProper (PlusOf p) = IsProper p × (10 ≤ tightness p)
  IsProper (MinusOf p) = IsProper p × (10 ≤ tightness p) × (begins_with_number (spelled p) ≡ false)
  IsProper (With p t) = IsProper p × IsProperTail t × (tail_binds t ≤ tightness p)
  IsProper (Inside p) = IsProper p
  IsProper (CallNone f) = Unit {0}
  IsProper (Call f all) = AreProper all
  IsProper CountAll = Unit {0}
  IsProper (Cast p n ns s) = IsProper p × AreSizes s
  IsProper (Case s arms o) = IsProperPerhaps s × AreProperArms arms × IsProperPerhaps o

  pub IsProperTail : Tail → Type 0
  IsProperTail (Infix op p) = IsProper p × (binds op < tightness p)
  IsProperTail (Tested t) = Unit {0}
  IsProperTail (Collated c) = Unit {0}
  IsProperTail (Among n all) = AreProper all
  IsProperTail (Between n low high) = IsProper low × (4 < tightness low) × IsProper high × (4 < tightness high)

  pub AreProper : Phrases → Type 0
  AreProper (One p) = IsProper p
  AreProper (And_more p all) = IsProper p × AreProper all

  pub AreProperArms : Arms → Type 0
  AreProperArms (Arm p q) = IsProper p × IsProper q
  AreProperArms (And_arms p q arms) = IsProper p × IsProper q × AreProperArms arms

  pub IsProperPerhaps : Perhaps → Type 0
  IsProperPerhaps Absent = Unit {0}
  IsProperPerhaps (Present p) = IsProper p

-- ---- its limits

-- one less than its depth
abbrev mutual
  pub height : Phrase → ℕ
  height (NotOf p) = suc (height p)
  height (PlusOf p) = suc (height p)
  height (MinusOf p) = suc (height p)
  height (With p t) = suc (max (height p) (height_tail t))
  height (Inside p) = height p
  height (Call f all) = suc (height_all all)
  height (Cast p n ns s) = suc (height p)
  height (Case s arms o) = suc (max (height_perhaps s) (max (height_arms arms) (height_perhaps o)))
  height _ = 0

  pub height_tail : Tail → ℕ
  height_tail (Infix op p) = height p
  height_tail (Tested t) = 0
  height_tail (Collated c) = 0
  height_tail (Among n all) = height_all all
  height_tail (Between n low high) = max (height low) (height high)

  pub height_all : Phrases → ℕ
  height_all (One p) = height p
  height_all (And_more p all) = max (height p) (height_all all)

  pub height_arms : Arms → ℕ
  height_arms (Arm p q) = max (height p) (height q)
  height_arms (And_arms p q arms) = max (max (height p) (height q)) (height_arms arms)

  pub height_perhaps : Perhaps → ℕ
  height_perhaps Absent = 0
  height_perhaps (Present p) = height p

-- how many parentheses are open at once, those of types aside
abbrev mutual
  pub opened : Phrase → ℕ
  opened (NotOf p) = opened p
  opened (PlusOf p) = opened p
  opened (MinusOf p) = opened p
  opened (With p t) = max (opened p) (opened_tail t)
  opened (Inside p) = suc (opened p)
  opened (CallNone f) = 1
  opened (Call f all) = suc (opened_all all)
  opened CountAll = 1
  opened (Cast p n ns s) = suc (opened p)
  opened (Case s arms o) = max (opened_perhaps s) (max (opened_arms arms) (opened_perhaps o))
  opened _ = 0

  pub opened_tail : Tail → ℕ
  opened_tail (Infix op p) = opened p
  opened_tail (Tested t) = 0
  opened_tail (Collated c) = 0
  opened_tail (Among n all) = suc (opened_all all)
  opened_tail (Between n low high) = max (opened low) (opened high)

  pub opened_all : Phrases → ℕ
  opened_all (One p) = opened p
  opened_all (And_more p all) = max (opened p) (opened_all all)

  pub opened_arms : Arms → ℕ
  opened_arms (Arm p q) = max (opened p) (opened q)
  opened_arms (And_arms p q arms) = max (max (opened p) (opened q)) (opened_arms arms)

  pub opened_perhaps : Perhaps → ℕ
  opened_perhaps Absent = 0
  opened_perhaps (Present p) = opened p

-- how many commas stand between them
abbrev pub comma_count : Phrases → ℕ
comma_count (One p) = 0
comma_count (And_more p all) = suc (comma_count all)

-- the most commas between the arguments of one call
abbrev mutual
  pub most_commas : Phrase → ℕ
  most_commas (NotOf p) = most_commas p
  most_commas (PlusOf p) = most_commas p
  most_commas (MinusOf p) = most_commas p
  most_commas (With p t) = max (most_commas p) (most_commas_tail t)
  most_commas (Inside p) = most_commas p
  most_commas (Call f all) = max (comma_count all) (most_commas_all all)
  most_commas (Cast p n ns s) = most_commas p
  most_commas (Case s arms o) = max (most_commas_perhaps s) (max (most_commas_arms arms) (most_commas_perhaps o))
  most_commas _ = 0

  pub most_commas_tail : Tail → ℕ
  most_commas_tail (Infix op p) = most_commas p
  most_commas_tail (Tested t) = 0
  most_commas_tail (Collated c) = 0
  most_commas_tail (Among n all) = most_commas_all all
  most_commas_tail (Between n low high) = max (most_commas low) (most_commas high)

  pub most_commas_all : Phrases → ℕ
  most_commas_all (One p) = most_commas p
  most_commas_all (And_more p all) = max (most_commas p) (most_commas_all all)

  pub most_commas_arms : Arms → ℕ
  most_commas_arms (Arm p q) = max (most_commas p) (most_commas q)
  most_commas_arms (And_arms p q arms) = max (max (most_commas p) (most_commas q)) (most_commas_arms arms)

  pub most_commas_perhaps : Perhaps → ℕ
  most_commas_perhaps Absent = 0
  most_commas_perhaps (Present p) = most_commas p
