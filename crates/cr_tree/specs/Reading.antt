-- Reading once, from left to right, with one symbol ahead. This is how the code goes about it; what is promised of it
-- is in Grammar.
use Rattle.std.specs.Prelude.{ℕ, zero, suc, ◌-◌, ◌^◌, max, Bool, true, false, if◌then◌else◌, nat_lt, nat_le, List, [], ◌∷◌, ◌++◌, Option, Some, None, length, pos, neg_ℤ}
use Rattle.std.specs.Str.{bytes_eq}
use Rattle.cr_value.specs.declared.value.Value.TheVariants as v
use Rattle.cr_tree.specs.declared.symbol.Mark.{Mark}
use Rattle.cr_tree.specs.declared.symbol.Mark.TheVariants as m
use Rattle.cr_tree.specs.declared.symbol.Symbol.{Symbol}
use Rattle.cr_tree.specs.declared.symbol.Symbol.TheVariants as k
use Rattle.cr_tree.specs.declared.expr.Unary.{Unary}
use Rattle.cr_tree.specs.declared.expr.Unary.TheVariants as u
use Rattle.cr_tree.specs.declared.expr.Binary.{Binary}
use Rattle.cr_tree.specs.declared.expr.Binary.TheVariants as b
use Rattle.cr_tree.specs.declared.expr.Expr.{Expr}
use Rattle.cr_tree.specs.declared.expr.Expr.TheVariants as e
use Rattle.cr_tree.specs.declared.expr.When.{When, roll-When}
use Rattle.cr_tree.specs.declared.limits.LimitKind.{LimitKind}
use Rattle.cr_tree.specs.declared.limits.LimitKind.TheVariants as limits
use Rattle.cr_tree.specs.declared.limits.Limits.{Limits}
use Rattle.cr_tree.specs.Marks.{is_mark}
use Rattle.cr_tree.specs.Grammar.{leaf, is_size, count_name}

pub data Cause : Type 0 where
  Syntax : Cause
  Limit : LimitKind → Cause

abbrev pub Deep : Cause
Deep = Limit limits.Depth

-- what was read and the symbols after it, or why not and the symbols from the refused one on
pub data Outcome (A : Type 0) : Type 0 where
  Reads : A → List Symbol → Outcome A
  Fails : Cause → List Symbol → Outcome A

abbrev pub Parser : Type 0 → Type 0
Parser A = List Symbol → Outcome A

-- ---- steps

infixl 10 ◌>>=◌
abbrev pub and_then : {A B : Type 0} → Outcome A → (A → Parser B) → Outcome B
and_then (Reads a rest) f = f a rest
and_then (Fails c rest) f = Fails c rest

abbrev pub ◌>>=◌ : {A B : Type 0} → Parser A → (A → Parser B) → Parser B
p >>= f = λ ts. and_then (p ts) f

abbrev pub pure : {A : Type 0} → A → Parser A
pure a = λ ts. Reads a ts

abbrev pub refuse : {A : Type 0} → Cause → Parser A
refuse c = λ ts. Fails c ts

abbrev pub head : List Symbol → Option Symbol
head [] = None
head (t ∷ ts) = Some t

abbrev pub rest_of : List Symbol → List Symbol
rest_of [] = []
rest_of (t ∷ ts) = ts

abbrev pub look_by : {A : Type 0} → Parser A → (Symbol → Parser A) → Option Symbol → Parser A
look_by z f None = z
look_by z f (Some t) = f t

-- by the next symbol, or at the end
abbrev pub look : {A : Type 0} → Parser A → (Symbol → Parser A) → Parser A
look z f = λ ts. look_by z f (head ts) ts

-- takes a symbol
abbrev pub after : {A : Type 0} → Parser A → Parser A
after p = λ ts. p (rest_of ts)

abbrev pub when : {A : Type 0} → Bool → Parser A → Parser A → Parser A
when b p q = λ ts. if b then p ts else q ts

abbrev pub sees : Mark → List Symbol → Bool
sees x [] = false
sees x (t ∷ ts) = is_mark x t

unfoldable pub expect : Mark → Parser (Unit {0})
expect x = look (refuse Syntax) (λ t. when (is_mark x t) (after (pure tt)) (refuse Syntax))

-- takes a mark if it comes next
unfoldable pub eat : Mark → Parser Bool
eat x = look (pure false) (λ t. when (is_mark x t) (after (pure true)) (pure false))

abbrev pub name_by : Symbol → Parser (List ℕ)
name_by (k.Name n) = after (pure n)
name_by _ = refuse Syntax

unfoldable pub name : Parser (List ℕ)
name = look (refuse Syntax) name_by

abbrev pub is_name : Symbol → Bool
is_name (k.Name n) = true
is_name _ = false

abbrev pub sees_name : List Symbol → Bool
sees_name [] = false
sees_name (t ∷ ts) = is_name t

-- as many items as there are, each added to what there is; the number bounds the turns
unfoldable pub many_from : {A S : Type 0} → (Symbol → Bool) → Parser A → (S → A → S) → ℕ → S → Parser S
many_from begins item add zero s = pure s
many_from begins item add (suc n) s = look (pure s) (λ t. when (begins t) (item >>= (λ x. many_from begins item add n (add s x))) (pure s))

unfoldable pub many : {A S : Type 0} → (Symbol → Bool) → Parser A → (S → A → S) → S → Parser S
many begins item add s = λ ts. many_from begins item add (length ts) s ts

-- at most so many items more, each added to what there is; where one more begins, the limit is met
unfoldable pub up_to : {A S : Type 0} → LimitKind → (Symbol → Bool) → Parser A → (S → A → S) → ℕ → S → Parser S
up_to x begins item add zero s = look (pure s) (λ t. when (begins t) (refuse (Limit x)) (pure s))
up_to x begins item add (suc n) s = look (pure s) (λ t. when (begins t) (item >>= (λ a. up_to x begins item add n (add s a))) (pure s))

abbrev pub listed : {A : Type 0} → List A → A → List A
listed all x = all ++ x ∷ []

-- a comma and an item
abbrev pub behind : {A : Type 0} → Mark → Parser A → Parser A
behind x item = expect x >>= (λ _. item)

-- the other items of a list
abbrev pub others : {A S : Type 0} → Parser A → (S → A → S) → S → Parser S
others item add s = many (is_mark m.Comma) (behind m.Comma item) add s

-- ---- types

unfoldable pub size : Parser (Unit {0})
size = look (refuse Syntax) (λ t. when (is_size t) (after (pure tt)) (refuse Syntax))

unfoldable pub second_size : Parser (Unit {0})
second_size = look (pure tt) (λ t. when (is_mark m.Comma t) (behind m.Comma size) (pure tt))

unfoldable pub sizes : Parser (Unit {0})
sizes = look (pure tt) (λ t. when (is_mark m.Open t) (behind m.Open size >>= (λ _. second_size >>= (λ _. expect m.Close >>= (λ _. pure tt)))) (pure tt))

unfoldable pub type_words : Parser (List (List ℕ))
type_words = name >>= (λ n. many is_name name listed (n ∷ []) >>= (λ ns. sizes >>= (λ _. pure ns)))

-- ---- expressions

-- a tree and its height
abbrev pub Sized : Type 0
Sized = Expr × ℕ

abbrev pub Listed : Type 0
Listed = List Expr × ℕ

abbrev pub Armed : Type 0
Armed = List When × ℕ

abbrev pub Maybe : Type 0
Maybe = Option Expr × ℕ

-- how tightly what begins so behind an operand binds, or 0
abbrev pub binding : Symbol → ℕ
binding (k.Mark m.Or) = 1
binding (k.Mark m.And) = 2
binding (k.Mark m.Equal) = 4
binding (k.Mark m.DoubleEqual) = 4
binding (k.Mark m.Unequal) = 4
binding (k.Mark m.BangEqual) = 4
binding (k.Mark m.Is) = 4
binding (k.Mark m.In) = 4
binding (k.Mark m.Like) = 4
binding (k.Mark m.Between) = 4
binding (k.Mark m.IsNull) = 4
binding (k.Mark m.NotNull) = 4
binding (k.Mark m.Not) = 4
binding (k.Mark m.Less) = 5
binding (k.Mark m.AtMost) = 5
binding (k.Mark m.Greater) = 5
binding (k.Mark m.AtLeast) = 5
binding (k.Mark m.Plus) = 6
binding (k.Mark m.Minus) = 6
binding (k.Mark m.Star) = 7
binding (k.Mark m.Slash) = 7
binding (k.Mark m.Percent) = 7
binding (k.Mark m.Bars) = 8
binding (k.Mark m.Collate) = 9
binding _ = 0

-- the operator of one symbol, but for IS
abbrev pub operator_of : Symbol → Option Binary
operator_of (k.Mark m.Or) = Some b.Or
operator_of (k.Mark m.And) = Some b.And
operator_of (k.Mark m.Equal) = Some b.Equal
operator_of (k.Mark m.DoubleEqual) = Some b.Equal
operator_of (k.Mark m.Unequal) = Some b.Unequal
operator_of (k.Mark m.BangEqual) = Some b.Unequal
operator_of (k.Mark m.Like) = Some b.Like
operator_of (k.Mark m.Less) = Some b.Less
operator_of (k.Mark m.AtMost) = Some b.AtMost
operator_of (k.Mark m.Greater) = Some b.Greater
operator_of (k.Mark m.AtLeast) = Some b.AtLeast
operator_of (k.Mark m.Plus) = Some b.Add
operator_of (k.Mark m.Minus) = Some b.Subtract
operator_of (k.Mark m.Star) = Some b.Multiply
operator_of (k.Mark m.Slash) = Some b.Divide
operator_of (k.Mark m.Percent) = Some b.Remainder
operator_of (k.Mark m.Bars) = Some b.Join
operator_of _ = None

-- whether an expression that binds so tightly can begin so
abbrev pub begins_by : ℕ → Symbol → Option Expr → Bool
begins_by least t (Some x) = true
begins_by least (k.Mark m.Not) None = nat_le least 3
begins_by least (k.Mark m.Minus) None = true
begins_by least (k.Mark m.Plus) None = true
begins_by least (k.Mark m.Open) None = true
begins_by least (k.Mark m.Case) None = true
begins_by least (k.Mark m.Cast) None = true
begins_by least (k.Name n) None = true
begins_by least t None = false

unfoldable pub begins : ℕ → Symbol → Bool
begins least t = begins_by least t (leaf t)

abbrev pub begins_at : ℕ → Option Symbol → Bool
begins_at least None = false
begins_at least (Some t) = begins least t

-- where a tree would be too high
unfoldable pub too_high : {A : Type 0} → ℕ → Parser A
too_high least = λ ts. Fails (if begins_at least (head ts) then Deep else Syntax) ts

-- how tightly what begins so binds at least, if nothing is behind it
abbrev pub ceiling : Symbol → ℕ
ceiling (k.Mark m.Not) = 3
ceiling _ = 10

abbrev pub above : (Expr → Expr) → Sized → Sized
above f x = (f x.0, suc x.1)

abbrev pub joined : Binary → Sized → Sized → Sized
joined op l r = (e.Binary op l.0 r.0, suc (max l.1 r.1))

abbrev pub add_item : Listed → Sized → Listed
add_item all x = (all.0 ++ x.0 ∷ [], max all.1 x.1)

abbrev pub add_arm : Armed → When × ℕ → Armed
add_arm all x = (all.0 ++ x.0 ∷ [], max all.1 x.1)

-- The readers of parts: in parentheses; in parentheses and below a node; and below a node, where it binds at least so tightly.
pub record Rules : Type 0 where
  pub inside : Parser Sized
  pub argument : Parser Sized
  pub below : ℕ → Parser Sized

module _ (lim : Limits) (rules : Rules) where
  -- one or more
  unfoldable pub items : Parser Listed
  items = rules.argument >>= (λ x. others rules.argument add_item (x.0 ∷ [], x.1))

  -- one or more, as many as a call may have
  unfoldable pub arguments : Parser Listed
  arguments = rules.argument >>= (λ x. up_to limits.Arguments (is_mark m.Comma) (behind m.Comma rules.argument) add_item lim.commas (x.0 ∷ [], x.1))

  unfoldable pub called : List ℕ → Parser Sized
  called f = arguments >>= (λ all. expect m.Close >>= (λ _. pure (e.Call f all.0, suc all.1)))

  abbrev pub call_by : List ℕ → Symbol → Parser Sized
  call_by f (k.Mark m.Close) = after (pure (e.Call f [], 0))
  call_by f (k.Mark m.Star) = when (bytes_eq f count_name) (after (expect m.Close >>= (λ _. pure (e.CountAll, 0)))) (refuse Syntax)
  call_by f t = called f

  -- after the name and the parenthesis
  unfoldable pub call : List ℕ → Parser Sized
  call f = look (refuse Syntax) (call_by f)

  abbrev pub named_by : List ℕ → Symbol → Parser Sized
  named_by f (k.Mark m.Dot) = after (name >>= (λ n. pure (e.Column (Some f) n, 0)))
  named_by f (k.Mark m.Open) = when (nat_lt 0 lim.opens) (after (call f)) (refuse Deep)
  named_by f t = pure (e.Column None f, 0)

  -- after a name
  unfoldable pub named : List ℕ → Parser Sized
  named f = look (pure (e.Column None f, 0)) (named_by f)

  abbrev pub minus_by : Symbol → Parser Sized
  minus_by (k.Number n) = when (nat_le n (2 ^ 63)) (after (pure (e.Literal (v.Int (neg_ℤ (pos n))), 0))) (refuse Syntax)
  minus_by t = rules.below 10 >>= (λ x. pure (above (e.Unary u.Minus) x))

  -- after a minus
  unfoldable pub minus : Parser Sized
  minus = look (refuse Syntax) minus_by

  unfoldable pub parenthesized : Parser Sized
  parenthesized = rules.inside >>= (λ x. expect m.Close >>= (λ _. pure x))

  unfoldable pub cast : Parser Sized
  cast = expect m.Open >>= (λ _. rules.argument >>= (λ x. expect m.As >>= (λ _. type_words >>= (λ ns. expect m.Close >>= (λ _. pure (e.Cast x.0 ns, suc x.1))))))

  unfoldable pub subject : Parser Maybe
  subject = look (refuse Syntax) (λ t. when (is_mark m.When t) (pure (None, 0)) (rules.below 1 >>= (λ x. pure (Some x.0, x.1))))

  unfoldable pub otherwise : Parser Maybe
  otherwise = look (pure (None, 0)) (λ t. when (is_mark m.Else t) (behind m.Else (rules.below 1) >>= (λ x. pure (Some x.0, x.1))) (pure (None, 0)))

  unfoldable pub arm : Parser (When × ℕ)
  arm = expect m.When >>= (λ _. rules.below 1 >>= (λ x. expect m.Then >>= (λ _. rules.below 1 >>= (λ y. pure (roll-When (record { when = x.0; then = y.0 }), max x.1 y.1)))))

  unfoldable pub arms : Parser Armed
  arms = arm >>= (λ x. many (is_mark m.When) arm add_arm (x.0 ∷ [], x.1))

  -- after CASE
  unfoldable pub case : Parser Sized
  case = subject >>= (λ s. arms >>= (λ all. otherwise >>= (λ o. expect m.End >>= (λ _. pure (e.Case s.0 all.0 o.0, suc (max s.1 (max all.1 o.1)))))))

  abbrev pub leaf_by : Option Expr → Parser Sized
  leaf_by None = refuse Syntax
  leaf_by (Some x) = after (pure (x, 0))

  -- what stands before an operand, and the operand
  unfoldable pub prefixed : Unary → ℕ → Parser Sized
  prefixed op least = when (nat_lt 0 lim.room) (after (rules.below least >>= (λ x. pure (above (e.Unary op) x)))) (refuse Deep)

  abbrev pub first_by : ℕ → Symbol → Parser Sized
  first_by least (k.Mark m.Not) = when (nat_le least 3) (prefixed u.Not 3) (refuse Syntax)
  first_by least (k.Mark m.Plus) = prefixed u.Plus 10
  first_by least (k.Mark m.Minus) = after minus
  first_by least (k.Mark m.Open) = when (nat_lt 0 lim.opens) (after parenthesized) (refuse Deep)
  first_by least (k.Mark m.Case) = when (nat_lt 0 lim.room) (after case) (refuse Deep)
  first_by least (k.Mark m.Cast) = when (nat_lt 0 lim.opens) (when (nat_lt 0 lim.room) (after cast) (refuse Deep)) (refuse Deep)
  first_by least (k.Name n) = after (named n)
  first_by least t = leaf_by (leaf t)

  -- ---- what stands behind an operand

  unfoldable pub operated : Sized → ℕ → Binary → Parser Sized
  operated left least op = rules.below least >>= (λ x. pure (joined op left x))

  -- after IS
  unfoldable pub is : Sized → Parser Sized
  is left = eat m.Not >>= (λ n. operated left 5 (if n then b.IsNot else b.Is))

  -- after BETWEEN
  unfoldable pub between : Bool → Sized → Parser Sized
  between n left = rules.below 5 >>= (λ low. expect m.And >>= (λ _. rules.below 5 >>= (λ high. pure (e.Between n left.0 low.0 high.0, suc (max left.1 (max low.1 high.1))))))

  -- after IN
  unfoldable pub among : Bool → Sized → Parser Sized
  among n left = expect m.Open >>= (λ _. items >>= (λ all. expect m.Close >>= (λ _. pure (e.In n left.0 all.0, suc (max left.1 all.1)))))

  abbrev pub negated_by : Sized → Symbol → Parser Sized
  negated_by left (k.Mark m.Null) = after (pure (above (e.Unary u.NotNull) left))
  negated_by left (k.Mark m.Like) = after (operated left 5 b.NotLike)
  negated_by left (k.Mark m.Between) = after (between true left)
  negated_by left (k.Mark m.In) = when (nat_lt 0 lim.opens) (after (among true left)) (refuse Deep)
  negated_by left t = refuse Syntax

  -- after NOT
  unfoldable pub negated : Sized → Parser Sized
  negated left = look (refuse Syntax) (negated_by left)

  abbrev pub operated_by : Sized → Symbol → Option Binary → Parser Sized
  operated_by left t None = refuse Syntax
  operated_by left t (Some op) = after (operated left (suc (binding t)) op)

  abbrev pub tail_by : Sized → Symbol → Parser Sized
  tail_by left (k.Mark m.Not) = after (negated left)
  tail_by left (k.Mark m.Is) = after (is left)
  tail_by left (k.Mark m.In) = when (nat_lt 0 lim.opens) (after (among false left)) (refuse Deep)
  tail_by left (k.Mark m.Between) = after (between false left)
  tail_by left (k.Mark m.IsNull) = after (pure (above (e.Unary u.IsNull) left))
  tail_by left (k.Mark m.NotNull) = after (pure (above (e.Unary u.NotNull) left))
  tail_by left (k.Mark m.Collate) = after (name >>= (λ c. pure (e.Collate left.0 c, suc left.1)))
  tail_by left t = operated_by left t (operator_of t)

  unfoldable pub tail : Sized → Parser Sized
  tail left = look (refuse Syntax) (tail_by left)

  -- goes on from what stands to the left with what binds at least and at most so tightly
  unfoldable pub climb : ℕ → ℕ → ℕ → Sized → Parser Sized
  climb zero least most left = look (pure left) (λ t. when (nat_le least (binding t)) (when (nat_le (binding t) most) (refuse Deep) (pure left)) (pure left))
  climb (suc n) least most left =
      look (pure left) (λ t. when (nat_le least (binding t)) (when (nat_le (binding t) most)
      (when (nat_lt left.1 lim.room) (tail left >>= climb n least (binding t)) (refuse Deep))
      (pure left)) (pure left))

  unfoldable pub level : ℕ → Parser Sized
  level least = look (refuse Syntax) (λ t. first_by least t >>= climb lim.room least (ceiling t))

-- ---- with what may still be opened, and how high the tree may be

abbrev pub inside_limits : Limits → Limits
inside_limits lim = record lim { opens = lim.opens - 1 }

abbrev pub below_limits : Limits → Limits
below_limits lim = record lim { room = lim.room - 1 }

abbrev pub argument_limits : Limits → Limits
argument_limits lim = record lim { opens = lim.opens - 1; room = lim.room - 1 }

-- with these numbers of commas and joins
module _ (commas joins : ℕ) where
  unfoldable pub expr_at : ℕ → (ℕ → ℕ → Parser Sized) → ℕ → ℕ → Parser Sized
  expr_at opens inside zero = level (record { opens = opens; room = zero; commas = commas; joins = joins }) (record { inside = inside zero 1; argument = too_high 1; below = too_high })
  expr_at opens inside (suc room) =
      level (record { opens = opens; room = suc room; commas = commas; joins = joins }) (record { inside = inside (suc room) 1; argument = inside room 1; below = expr_at opens inside room })

  -- `opens` parentheses may be opened, the tree may be `room` high, and it binds at least so tightly
  unfoldable pub expr_by : ℕ → ℕ → ℕ → Parser Sized
  expr_by zero = expr_at zero (λ room least. too_high least)
  expr_by (suc opens) = expr_at (suc opens) (expr_by opens)

  unfoldable pub inside_by : ℕ → ℕ → Parser Sized
  inside_by zero room = too_high 1
  inside_by (suc opens) room = expr_by opens room 1

  unfoldable pub argument_by : ℕ → ℕ → Parser Sized
  argument_by opens zero = too_high 1
  argument_by zero (suc room) = too_high 1
  argument_by (suc opens) (suc room) = expr_by opens room 1

  unfoldable pub below_by : ℕ → ℕ → ℕ → Parser Sized
  below_by opens zero = too_high
  below_by opens (suc room) = expr_by opens room

-- an expression that binds at least so tightly
unfoldable pub expr : Limits → ℕ → Parser Sized
expr lim = expr_by lim.commas lim.joins lim.opens lim.room

-- the readers of its parts
unfoldable pub rules_of : Limits → Rules
rules_of lim = record {
  inside = inside_by lim.commas lim.joins lim.opens lim.room;
  argument = argument_by lim.commas lim.joins lim.opens lim.room;
  below = below_by lim.commas lim.joins lim.opens lim.room;
}

-- a whole expression
unfoldable pub whole : Limits → Parser Expr
whole lim = expr lim 1 >>= (λ x. pure x.0)
