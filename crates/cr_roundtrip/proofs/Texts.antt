-- The pieces of a printed expression, put together, are its layout.
use Rattle.std.proofs.Common.{◌≡◌, ℕ, Bool, true, false, if◌then◌else◌, nat_lt, ◌^◌, List, [], ◌∷◌, ◌++◌, map, Option, Some, None, ℤ, pos, negsuc, neg_ℤ, suc, refl, sym, ◌∙◌, ap, subst, append_assoc, codes}
use Rattle.std.proofs.lemmas.List.{append-nil}
use Rattle.std.specs.Option.{option_map}
use Rattle.std.specs.Fmt.{decimal, signed_decimal}
use Rattle.cr_value.specs.declared.value.Value.{Value}
use Rattle.cr_value.specs.declared.value.Value.TheVariants as v
use Rattle.cr_tree.specs.declared.symbol.Mark.TheVariants as m
use Rattle.cr_tree.specs.declared.symbol.Symbol.{Symbol}
use Rattle.cr_tree.specs.declared.symbol.Symbol.TheVariants as k
use Rattle.cr_tree.specs.declared.expr.Unary.{Unary as Sign}
use Rattle.cr_tree.specs.declared.expr.Unary.TheVariants as u
use Rattle.cr_tree.specs.declared.expr.Expr.{Expr}
use Rattle.cr_tree.specs.declared.expr.When.{When, roll-When}
use Rattle.cr_tree.specs.declared.expr.Expr.TheVariants as e
use Rattle.cr_tree.specs.declared.expr.Expr.TheVariants.{rolls-Literal, rolls-Param, rolls-Column, rolls-Unary, rolls-Binary, rolls-Collate, rolls-In, rolls-Between, rolls-Call, rolls-CountAll, rolls-Cast, rolls-Case}
use Rattle.cr_tree.specs.declared.expr.Expr.TheOpen as layer
use Rattle.cr_tree.specs.declared.expr.Expr.TheFolds.{fold-roll-Expr, fold-roll-When}
use Rattle.cr_lex.specs.Tokens.{doubled}
use Rattle.cr_tree.proofs.Forms.{if_false}
use Rattle.cr_tree.specs.Grammar.{count_name, Operator, Or, And, Equal, DoubleEqual, Unequal, BangEqual, Is, IsNot, Like, NotLike, Less, AtMost, Greater, AtLeast, Plus, Minus, Star, Slash, Percent, Bars, IsNull, NotNull, NotNullApart, Phrase, Leaf, Negative, Name, Dotted, NotOf, PlusOf, MinusOf, With, Inside, CallNone, Call, CountAll, Cast, Case, Tail, Infix, Tested, Collated, Among, Between, Phrases, One, And_more, Arms, Arm, And_arms, Perhaps, Absent, Present, leaf, tree, with_tail, trees, arms_trees, tree_perhaps, meaning, IsProper, IsProperTail, AreProper, AreProperArms, IsProperPerhaps}
use Rattle.cr_pieces.specs.Pieces.{Piece, text}
use Rattle.cr_pieces.specs.Known.{word, sign}
use Rattle.cr_pieces.specs.Known as piece
use Rattle.cr_pieces.proofs.Written.{text_joined}
use Rattle.cr_print.specs.Pieces.{name, value, in_row, listed}
use Rattle.cr_print.specs.Expressions.{Printed, operator, in_word, between_word, behind_sign, unary, column, if_any, is_integer_node, node, arm_text, expr, arm}
use Rattle.cr_print.specs.Expressions as layout
use Rattle.cr_print.proofs.Nodes.{count_all_text, binary_text, collate_text, in_text, between_text, call_text, cast_text, case_text}
use Rattle.cr_roundtrip.specs.Printed.{number_phrase, one_operator, one_leaf, shielded, printed, printed_tail, printed_all, printed_arms, printed_perhaps}
use Rattle.cr_roundtrip.proofs.Written.{opening, closing, comma, operator_pieces, not_pieces, names_pieces, pieces, tail_pieces, all_pieces, arms_pieces, perhaps_pieces}

-- ---- nodes

literal_text : (a : Value) → expr (e.Literal a) ≡ value a
literal_text a = ap expr (sym (rolls-Literal a)) ∙ ap (λ (p : Printed). p.text) (fold-roll-Expr Printed (List ℕ) node arm_text (layer.Literal a))

param_text : (n : ℕ) → expr (e.Param n) ≡ codes "?" ++ decimal n
param_text n = ap expr (sym (rolls-Param n)) ∙ ap (λ (p : Printed). p.text) (fold-roll-Expr Printed (List ℕ) node arm_text (layer.Param n))

column_text : (s : Option (List ℕ)) (n : List ℕ) → expr (e.Column s n) ≡ column s n
column_text s n = ap expr (sym (rolls-Column s n)) ∙ ap (λ (p : Printed). p.text) (fold-roll-Expr Printed (List ℕ) node arm_text (layer.Column s n))

unary_text : (op : Sign) (x : Expr) → expr (e.Unary op x) ≡ unary op (layout.printed x)
unary_text op x = ap expr (sym (rolls-Unary op x)) ∙ ap (λ (p : Printed). p.text) (fold-roll-Expr Printed (List ℕ) node arm_text (layer.Unary op x))

-- ---- spaces

abbrev pub gap : Bool → List ℕ
gap true = 32 ∷ []
gap false = []

lead : (b : Bool) (w rest : List ℕ) → (if b then 32 ∷ w else w) ++ rest ≡ gap b ++ (w ++ rest)
lead true w rest = refl
lead false w rest = refl

-- ---- leaves

pub number_text : (b : Bool) (i : ℤ) → text (pieces b (number_phrase i)) ≡ gap b ++ signed_decimal i
number_text true (pos n) = ap (λ z. 32 ∷ z) (append-nil (decimal n))
number_text false (pos n) = append-nil (decimal n)
number_text true (negsuc n) = ap (λ z. 32 ∷ 45 ∷ z) (append-nil (decimal (suc n)))
number_text false (negsuc n) = ap (λ z. 45 ∷ z) (append-nil (decimal (suc n)))

leaf_text : (b : Bool) (t : Symbol) (x : Expr) → leaf t ≡ Some x → text (pieces b (one_leaf t x)) ≡ gap b ++ expr x
leaf_text b (k.Bits i) x h = let same : e.Literal (v.Int i) ≡ x = cc in number_text b i ∙ ap (λ z. gap b ++ z) (sym (literal_text (v.Int i)) ∙ ap expr same)
leaf_text b (k.Mark m.Null) x h = let same : e.Literal v.Null ≡ x = cc in lead b (codes "NULL") [] ∙ ap (λ z. gap b ++ z) (sym (literal_text v.Null) ∙ ap expr same)
leaf_text b (k.Mark y) x h = absurd (cc)
leaf_text b (k.Name n) x h = absurd (cc)
leaf_text b (k.Text n) x h = let same : e.Literal (v.Text n) ≡ x = cc in lead b (value (v.Text n)) [] ∙ ap (λ z. gap b ++ z) (append-nil (value (v.Text n)) ∙ (sym (literal_text (v.Text n)) ∙ ap expr same))
leaf_text b (k.Blob n) x h = let same : e.Literal (v.Blob n) ≡ x = cc in lead b (value (v.Blob n)) [] ∙ ap (λ z. gap b ++ z) (append-nil (value (v.Blob n)) ∙ (sym (literal_text (v.Blob n)) ∙ ap expr same))
leaf_text b (k.Number n) x h = number_leaf (nat_lt n (2 ^ 63)) h
  where
    number_leaf : (c : Bool) → (if c then Some (e.Literal (v.Int (pos n))) else None) ≡ Some x → text (pieces b (Leaf (k.Number n) x)) ≡ gap b ++ expr x
    number_leaf true h = let same : e.Literal (v.Int (pos n)) ≡ x = cc in number_text b (pos n) ∙ ap (λ z. gap b ++ z) (sym (literal_text (v.Int (pos n))) ∙ ap expr same)
    number_leaf false h = absurd (cc)
leaf_text b (k.Param n) x h = let same : e.Param n ≡ x = cc in lead b (codes "?" ++ decimal n) [] ∙ ap (λ z. gap b ++ z) (append-nil (codes "?" ++ decimal n) ∙ (sym (param_text n) ∙ ap expr same))
leaf_text b k.Other x h = absurd (cc)

operator_text : (op : Operator) (rest : List ℕ) → text (operator_pieces (one_operator op)) ++ 32 ∷ rest ≡ operator (meaning op) ++ rest
operator_text Or rest = refl
operator_text And rest = refl
operator_text Equal rest = refl
operator_text DoubleEqual rest = refl
operator_text Unequal rest = refl
operator_text BangEqual rest = refl
operator_text Is rest = refl
operator_text IsNot rest = refl
operator_text Like rest = refl
operator_text NotLike rest = refl
operator_text Less rest = refl
operator_text AtMost rest = refl
operator_text Greater rest = refl
operator_text AtLeast rest = refl
operator_text Plus rest = refl
operator_text Minus rest = refl
operator_text Star rest = refl
operator_text Slash rest = refl
operator_text Percent rest = refl
operator_text Bars rest = refl

not_in_text : (n : Bool) (rest : List ℕ) → text (not_pieces n) ++ (codes " IN (" ++ rest) ≡ in_word n ++ rest
not_in_text true rest = refl
not_in_text false rest = refl

not_between_text : (n : Bool) (rest : List ℕ) → text (not_pieces n) ++ (codes " BETWEEN " ++ rest) ≡ between_word n ++ rest
not_between_text true rest = refl
not_between_text false rest = refl

names_text : (ns : List (List ℕ)) → text (names_pieces ns) ≡ in_row (codes " ") (codes " ") (map name ns)
names_text [] = refl
names_text (n ∷ ns) = ap (λ z. 32 ∷ name n ++ z) (names_text ns)

-- ---- what stands behind an operand

abbrev tail_text : Tail → List ℕ
tail_text (Infix op p) = operator (meaning op) ++ expr (tree p)
tail_text (Tested IsNull) = codes " ISNULL"
tail_text (Tested NotNull) = codes " NOTNULL"
tail_text (Tested NotNullApart) = codes " NOTNULL"
tail_text (Collated c) = codes " COLLATE " ++ name c
tail_text (Among n all) = in_word n ++ (listed (map expr (trees all)) ++ codes ")")
tail_text (Between n low high) = between_word n ++ (expr (tree low) ++ (codes " AND " ++ expr (tree high)))

-- ---- parts in other groups

two_groups : (a b c d : List ℕ) → ((a ++ b) ++ c) ++ d ≡ a ++ ((b ++ c) ++ d)
two_groups a b c d = simp append_assoc

three_groups : (a b c d f : List ℕ) → (((a ++ b) ++ c) ++ d) ++ f ≡ a ++ ((b ++ (c ++ d)) ++ f)
three_groups a b c d f = simp append_assoc

between_groups : (a b c d f g h : List ℕ) → (((((a ++ b) ++ c) ++ d) ++ f) ++ g) ++ h ≡ a ++ ((b ++ (c ++ (d ++ (f ++ g)))) ++ h)
between_groups a b c d f g h = simp append_assoc

in_groups : (a b c d f g : List ℕ) → (((a ++ b) ++ c) ++ d) ++ (f ++ g) ≡ a ++ ((b ++ (c ++ (d ++ f))) ++ g)
in_groups a b c d f g = simp append_assoc

four_in_row : (a b c d : List ℕ) → a ++ (b ++ (c ++ d)) ≡ ((a ++ b) ++ c) ++ d
four_in_row a b c d = simp append_assoc

five_in_row : (a b c d f : List ℕ) → a ++ (b ++ (c ++ (d ++ f))) ≡ (((a ++ b) ++ c) ++ d) ++ f
five_in_row a b c d f = simp append_assoc

six_in_row : (a b c d f g : List ℕ) → a ++ (b ++ (c ++ (d ++ (f ++ g)))) ≡ (((a ++ b) ++ c) ++ (d ++ f)) ++ g
six_in_row a b c d f g = simp append_assoc

with_text : (t : Tail) (x : Expr) → expr (with_tail t x) ≡ codes "(" ++ ((expr x ++ tail_text t) ++ codes ")")
with_text (Infix op p) x = binary_text (meaning op) x (tree p) ∙ three_groups (codes "(") (expr x) (operator (meaning op)) (expr (tree p)) (codes ")")
with_text (Tested IsNull) x = unary_text u.IsNull x ∙ ap (λ z. codes "(" ++ z) (sym (append_assoc (expr x) (codes " ISNULL") (codes ")")))
with_text (Tested NotNull) x = unary_text u.NotNull x ∙ ap (λ z. codes "(" ++ z) (sym (append_assoc (expr x) (codes " NOTNULL") (codes ")")))
with_text (Tested NotNullApart) x = unary_text u.NotNull x ∙ ap (λ z. codes "(" ++ z) (sym (append_assoc (expr x) (codes " NOTNULL") (codes ")")))
with_text (Collated c) x = collate_text x c ∙ three_groups (codes "(") (expr x) (codes " COLLATE ") (name c) (codes ")")
with_text (Among n all) x = in_text n x (trees all) ∙ in_groups (codes "(") (expr x) (in_word n) (listed (map expr (trees all))) (codes ")") (codes ")")
with_text (Between n low high) x = between_text n x (tree low) (tree high) ∙ between_groups (codes "(") (expr x) (between_word n) (expr (tree low)) (codes " AND ") (expr (tree high)) (codes ")")

-- ---- behind a sign

printed_literal : (a : Value) → layout.printed (e.Literal a) ≡ node (layer.Literal a)
printed_literal a = ap layout.printed (sym (rolls-Literal a)) ∙ fold-roll-Expr Printed (List ℕ) node arm_text (layer.Literal a)

number_shield : (i : ℤ) → text (pieces false (shielded (number_phrase i))) ≡ behind_sign (layout.printed (e.Literal (v.Int i)))
number_shield (pos n) = sym (ap behind_sign (printed_literal (v.Int (pos n))))
number_shield (negsuc n) = sym (ap behind_sign (printed_literal (v.Int (negsuc n))))

no_shield : (x : Expr) (w : List ℕ) → (layout.printed x).is_integer ≡ false → w ≡ expr x → w ≡ behind_sign (layout.printed x)
no_shield x w h i = i ∙ sym (if_false (layout.printed x).is_integer (codes "(" ++ expr x ++ codes ")") (expr x) h)

abbrev Whole : Expr → Type 0
Whole x = (layout.printed x).is_integer ≡ false

literal_whole : (a : Value) → is_integer_node (layer.Literal a) ≡ false → Whole (e.Literal a)
literal_whole a h = ap (λ (p : Printed). p.is_integer) (printed_literal a) ∙ h

param_whole : (n : ℕ) → Whole (e.Param n)
param_whole n = ap (λ (x : Expr). (layout.printed x).is_integer) (sym (rolls-Param n)) ∙ ap (λ (p : Printed). p.is_integer) (fold-roll-Expr Printed (List ℕ) node arm_text (layer.Param n))

column_whole : (s : Option (List ℕ)) (n : List ℕ) → Whole (e.Column s n)
column_whole s n = ap (λ (x : Expr). (layout.printed x).is_integer) (sym (rolls-Column s n)) ∙ ap (λ (p : Printed). p.is_integer) (fold-roll-Expr Printed (List ℕ) node arm_text (layer.Column s n))

unary_whole : (op : Sign) (x : Expr) → Whole (e.Unary op x)
unary_whole op x = ap (λ (x : Expr). (layout.printed x).is_integer) (sym (rolls-Unary op x)) ∙ ap (λ (p : Printed). p.is_integer) (fold-roll-Expr Printed (List ℕ) node arm_text (layer.Unary op x))

call_whole : (f : List ℕ) (xs : List Expr) → Whole (e.Call f xs)
call_whole f xs = ap (λ (x : Expr). (layout.printed x).is_integer) (sym (rolls-Call f xs)) ∙ ap (λ (p : Printed). p.is_integer) (fold-roll-Expr Printed (List ℕ) node arm_text (layer.Call f xs))

count_whole : Whole e.CountAll
count_whole = ap (λ (x : Expr). (layout.printed x).is_integer) (sym rolls-CountAll) ∙ ap (λ (p : Printed). p.is_integer) (fold-roll-Expr Printed (List ℕ) node arm_text layer.CountAll)

cast_whole : (x : Expr) (ns : List (List ℕ)) → Whole (e.Cast x ns)
cast_whole x ns = ap (λ (x : Expr). (layout.printed x).is_integer) (sym (rolls-Cast x ns)) ∙ ap (λ (p : Printed). p.is_integer) (fold-roll-Expr Printed (List ℕ) node arm_text (layer.Cast x ns))

case_whole : (x : Option Expr) (arms : List When) (y : Option Expr) → Whole (e.Case x arms y)
case_whole x arms y = ap (λ (x : Expr). (layout.printed x).is_integer) (sym (rolls-Case x arms y)) ∙ ap (λ (p : Printed). p.is_integer) (fold-roll-Expr Printed (List ℕ) node arm_text (layer.Case x arms y))

with_whole : (t : Tail) (x : Expr) → Whole (with_tail t x)
with_whole (Infix op p) x = ap (λ (x : Expr). (layout.printed x).is_integer) (sym (rolls-Binary (meaning op) x (tree p))) ∙ ap (λ (p : Printed). p.is_integer) (fold-roll-Expr Printed (List ℕ) node arm_text (layer.Binary (meaning op) x (tree p)))
with_whole (Tested IsNull) x = unary_whole u.IsNull x
with_whole (Tested NotNull) x = unary_whole u.NotNull x
with_whole (Tested NotNullApart) x = unary_whole u.NotNull x
with_whole (Collated c) x = ap (λ (x : Expr). (layout.printed x).is_integer) (sym (rolls-Collate x c)) ∙ ap (λ (p : Printed). p.is_integer) (fold-roll-Expr Printed (List ℕ) node arm_text (layer.Collate x c))
with_whole (Among n all) x = ap (λ (x : Expr). (layout.printed x).is_integer) (sym (rolls-In n x (trees all))) ∙ ap (λ (p : Printed). p.is_integer) (fold-roll-Expr Printed (List ℕ) node arm_text (layer.In n x (trees all)))
with_whole (Between n low high) x = ap (λ (x : Expr). (layout.printed x).is_integer) (sym (rolls-Between n x (tree low) (tree high))) ∙ ap (λ (p : Printed). p.is_integer) (fold-roll-Expr Printed (List ℕ) node arm_text (layer.Between n x (tree low) (tree high)))

abbrev IsText : Phrase → Type 0
IsText p = (b : Bool) → text (pieces b (printed p)) ≡ gap b ++ expr (tree p)

number_shield_as : (i : ℤ) (x : Expr) → e.Literal (v.Int i) ≡ x → text (pieces false (shielded (number_phrase i))) ≡ behind_sign (layout.printed x)
number_shield_as i x same = number_shield i ∙ ap (λ z. behind_sign (layout.printed z)) same

leaf_shield : (t : Symbol) (x : Expr) → leaf t ≡ Some x → text (pieces false (one_leaf t x)) ≡ expr x → text (pieces false (shielded (one_leaf t x))) ≡ behind_sign (layout.printed x)
leaf_shield (k.Bits i) x h t = number_shield_as i x (cc)
leaf_shield (k.Number n) x h t = by (nat_lt n (2 ^ 63)) h
  where
    by : (c : Bool) → (if c then Some (e.Literal (v.Int (pos n))) else None) ≡ Some x → text (pieces false (shielded (Leaf (k.Number n) x))) ≡ behind_sign (layout.printed x)
    by true h = number_shield_as (pos n) x (cc)
    by false h = absurd (cc)
leaf_shield (k.Mark m.Null) x h t = let same : e.Literal v.Null ≡ x = cc in no_shield x (text (pieces false (Leaf (k.Mark m.Null) x))) (subst Whole same (literal_whole v.Null refl)) t
leaf_shield (k.Mark y) x h t = absurd (cc)
leaf_shield (k.Name n) x h t = absurd (cc)
leaf_shield (k.Text n) x h t = let same : e.Literal (v.Text n) ≡ x = cc in no_shield x (text (pieces false (Leaf (k.Text n) x))) (subst Whole same (literal_whole (v.Text n) refl)) t
leaf_shield (k.Blob n) x h t = let same : e.Literal (v.Blob n) ≡ x = cc in no_shield x (text (pieces false (Leaf (k.Blob n) x))) (subst Whole same (literal_whole (v.Blob n) refl)) t
leaf_shield (k.Param n) x h t = let same : e.Param n ≡ x = cc in no_shield x (text (pieces false (Leaf (k.Param n) x))) (subst Whole same (param_whole n)) t
leaf_shield k.Other x h t = absurd (cc)

shield : (p : Phrase) → IsProper p → IsText p → text (pieces false (shielded (printed p))) ≡ behind_sign (layout.printed (tree p))
shield (Leaf t x) i h = leaf_shield t x i (h false)
shield (Negative n) i h = number_shield (neg_ℤ (pos n))
shield (Inside p) i h = shield p i h
shield (Name n) i h = no_shield (e.Column None n) (text (pieces false (Name n))) (column_whole None n) (h false)
shield (Dotted s n) i h = no_shield (e.Column (Some s) n) (text (pieces false (Dotted s n))) (column_whole (Some s) n) (h false)
shield (NotOf p) i h = no_shield (e.Unary u.Not (tree p)) (text (pieces false (printed (NotOf p)))) (unary_whole u.Not (tree p)) (h false)
shield (PlusOf p) i h = no_shield (e.Unary u.Plus (tree p)) (text (pieces false (printed (PlusOf p)))) (unary_whole u.Plus (tree p)) (h false)
shield (MinusOf p) i h = no_shield (e.Unary u.Minus (tree p)) (text (pieces false (printed (MinusOf p)))) (unary_whole u.Minus (tree p)) (h false)
shield (With p t) i h = no_shield (with_tail t (tree p)) (text (pieces false (printed (With p t)))) (with_whole t (tree p)) (h false)
shield (CallNone f) i h = no_shield (e.Call f []) (text (pieces false (CallNone f))) (call_whole f []) (h false)
shield (Call f all) i h = no_shield (e.Call f (trees all)) (text (pieces false (printed (Call f all)))) (call_whole f (trees all)) (h false)
shield CountAll i h = no_shield e.CountAll (text (pieces false CountAll)) count_whole (h false)
shield (Cast p n ns s) i h = no_shield (e.Cast (tree p) (n ∷ ns)) (text (pieces false (printed (Cast p n ns s)))) (cast_whole (tree p) (n ∷ ns)) (h false)
shield (Case s arms o) i h = no_shield (e.Case (tree_perhaps s) (arms_trees arms) (tree_perhaps o)) (text (pieces false (printed (Case s arms o)))) (case_whole (tree_perhaps s) (arms_trees arms) (tree_perhaps o)) (h false)

-- ---- in parentheses

within_text : (b : Bool) (ps : List Piece) (w : List ℕ) → text ps ≡ w → text (opening b ∷ ps ++ closing ∷ []) ≡ gap b ++ (codes "(" ++ (w ++ codes ")"))
within_text b ps w h = lead b (codes "(") (text (ps ++ closing ∷ [])) ∙ ap (λ z. gap b ++ (codes "(" ++ z)) (text_joined ps (closing ∷ []) ∙ ap (λ z. z ++ codes ")") h)

closed_text : (ps : List Piece) (w : List ℕ) → text ps ≡ w → text (ps ++ closing ∷ []) ≡ w ++ codes ")"
closed_text ps w h = text_joined ps (closing ∷ []) ∙ ap (λ z. z ++ codes ")") h

-- a list behind a comma
more_listed : (all : Phrases) → in_row (codes ", ") (codes ", ") (map expr (trees all)) ≡ codes ", " ++ listed (map expr (trees all))
more_listed (One p) = refl
more_listed (And_more p all) = refl

arm_is : (x y : Expr) → arm (roll-When (record { when = x; then = y })) ≡ codes " WHEN " ++ expr x ++ codes " THEN " ++ expr y
arm_is x y = fold-roll-When Printed (List ℕ) node arm_text (record { when = x; then = y })

count_named : name count_name ≡ codes "\"count\""
unfolding doubled
count_named = refl

mutual
  pub texts : (b : Bool) (p : Phrase) → IsProper p → text (pieces b (printed p)) ≡ gap b ++ expr (tree p)
  texts b (Leaf t x) i = leaf_text b t x i
  texts b (Negative n) i = number_text b (neg_ℤ (pos n)) ∙ ap (λ z. gap b ++ z) (sym (literal_text (v.Int (neg_ℤ (pos n)))))
  texts b (Name n) i = lead b (name n) [] ∙ ap (λ z. gap b ++ z) (append-nil (name n) ∙ sym (column_text None n))
  texts b (Dotted s n) i = lead b (name s) (46 ∷ name n ++ []) ∙ ap (λ z. gap b ++ z) (ap (λ z. name s ++ 46 ∷ z) (append-nil (name n)) ∙ (sym (append_assoc (name s) (codes ".") (name n)) ∙ sym (column_text (Some s) n)))
  texts b (NotOf p) i = within_text b (word false (codes "NOT") m.Not ∷ pieces true (printed p)) (codes "NOT" ++ 32 ∷ expr (tree p)) (ap (λ z. codes "NOT" ++ z) (texts true p i.0)) ∙ ap (λ z. gap b ++ z) (sym (unary_text u.Not (tree p)))
  texts b (PlusOf p) i = within_text b (sign false (codes "+") m.Plus ∷ pieces false (shielded (printed p))) (43 ∷ behind_sign (layout.printed (tree p))) (ap (λ z. 43 ∷ z) (shield p i.0 (λ c. texts c p i.0))) ∙ ap (λ z. gap b ++ z) (sym (unary_text u.Plus (tree p)))
  texts b (MinusOf p) i = within_text b (sign false (codes "-") m.Minus ∷ pieces false (shielded (printed p))) (45 ∷ behind_sign (layout.printed (tree p))) (ap (λ z. 45 ∷ z) (shield p i.0 (λ c. texts c p i.0))) ∙ ap (λ z. gap b ++ z) (sym (unary_text u.Minus (tree p)))
  texts b (With p t) i = within_text b (pieces false (printed p) ++ tail_pieces (printed_tail t)) (expr (tree p) ++ tail_text t)
      (text_joined (pieces false (printed p)) (tail_pieces (printed_tail t)) ∙ (ap (λ z. z ++ text (tail_pieces (printed_tail t))) (texts false p i.0) ∙ ap (λ z. expr (tree p) ++ z) (tail_texts t i.1)))
      ∙ ap (λ z. gap b ++ z) (sym (with_text t (tree p)))
  texts b (Inside p) i = texts b p i
  texts b (CallNone f) i = lead b (name f) (codes "()") ∙ ap (λ z. gap b ++ z) (four_in_row (name f) (codes "(") [] (codes ")") ∙ sym (call_text f []))
  texts b (Call f all) i = lead b (name f) (40 ∷ text (all_pieces false (printed_all all) ++ closing ∷ [])) ∙ ap (λ z. gap b ++ z)
      (ap (λ z. name f ++ 40 ∷ z) (closed_text (all_pieces false (printed_all all)) (listed (map expr (trees all))) (all_texts false all i)) ∙ (four_in_row (name f) (codes "(") (listed (map expr (trees all))) (codes ")") ∙ sym (call_text f (trees all))))
  texts b CountAll i = lead b (name count_name) (codes "(*)") ∙ ap (λ z. gap b ++ z) (ap (λ z. z ++ codes "(*)") count_named ∙ sym count_all_text)
  texts b (Cast p n ns s) i = lead b (codes "CAST") (40 ∷ text (pieces false (printed p) ++ (word true (codes "AS") m.As ∷ piece.name true n ∷ names_pieces ns ++ closing ∷ []))) ∙ ap (λ z. gap b ++ z)
      (ap (λ z. codes "CAST(" ++ z) (text_joined (pieces false (printed p)) (word true (codes "AS") m.As ∷ piece.name true n ∷ names_pieces ns ++ closing ∷ [])
      ∙ (ap (λ z. z ++ (codes " AS " ++ (name n ++ text (names_pieces ns ++ closing ∷ [])))) (texts false p i.0) ∙ ap (λ z. expr (tree p) ++ (codes " AS " ++ (name n ++ z))) (closed_text (names_pieces ns) (in_row (codes " ") (codes " ") (map name ns)) (names_text ns))))
      ∙ (six_in_row (codes "CAST(") (expr (tree p)) (codes " AS ") (name n) (in_row (codes " ") (codes " ") (map name ns)) (codes ")") ∙ sym (cast_text (tree p) (n ∷ ns))))
  texts b (Case s arms o) i = lead b (codes "CASE") (text (perhaps_pieces (printed_perhaps s) [] ++ (arms_pieces (printed_arms arms) ++ (perhaps_pieces (printed_perhaps o) (word true (codes "ELSE") m.Else ∷ []) ++ word true (codes "END") m.End ∷ [])))) ∙ ap (λ z. gap b ++ z)
      (ap (λ z. codes "CASE" ++ z) (text_joined (perhaps_pieces (printed_perhaps s) []) (arms_pieces (printed_arms arms) ++ (perhaps_pieces (printed_perhaps o) (word true (codes "ELSE") m.Else ∷ []) ++ word true (codes "END") m.End ∷ []))
      ∙ (ap (λ z. z ++ text (arms_pieces (printed_arms arms) ++ (perhaps_pieces (printed_perhaps o) (word true (codes "ELSE") m.Else ∷ []) ++ word true (codes "END") m.End ∷ []))) (perhaps_texts s [] i.0)
      ∙ ap (λ z. if_any (codes " ") (option_map layout.printed (tree_perhaps s)) ++ z) (text_joined (arms_pieces (printed_arms arms)) (perhaps_pieces (printed_perhaps o) (word true (codes "ELSE") m.Else ∷ []) ++ word true (codes "END") m.End ∷ [])
      ∙ (ap (λ z. z ++ text (perhaps_pieces (printed_perhaps o) (word true (codes "ELSE") m.Else ∷ []) ++ word true (codes "END") m.End ∷ [])) (arms_texts arms i.1)
      ∙ ap (λ z. in_row [] [] (map arm (arms_trees arms)) ++ z) (text_joined (perhaps_pieces (printed_perhaps o) (word true (codes "ELSE") m.Else ∷ [])) (word true (codes "END") m.End ∷ [])
      ∙ ap (λ z. z ++ codes " END") (perhaps_texts o (word true (codes "ELSE") m.Else ∷ []) i.2))))))
      ∙ (five_in_row (codes "CASE") (if_any (codes " ") (option_map layout.printed (tree_perhaps s))) (in_row [] [] (map arm (arms_trees arms))) (if_any (codes " ELSE ") (option_map layout.printed (tree_perhaps o))) (codes " END") ∙ sym (case_text (tree_perhaps s) (arms_trees arms) (tree_perhaps o))))

  tail_texts : (t : Tail) → IsProperTail t → text (tail_pieces (printed_tail t)) ≡ tail_text t
  tail_texts (Infix op p) i = text_joined (operator_pieces (one_operator op)) (pieces true (printed p)) ∙ (ap (λ z. text (operator_pieces (one_operator op)) ++ z) (texts true p i.0) ∙ operator_text op (expr (tree p)))
  tail_texts (Tested IsNull) i = refl
  tail_texts (Tested NotNull) i = refl
  tail_texts (Tested NotNullApart) i = refl
  tail_texts (Collated c) i = ap (λ z. codes " COLLATE " ++ z) (append-nil (name c))
  tail_texts (Among n all) i = text_joined (not_pieces n) (word true (codes "IN") m.In ∷ opening true ∷ all_pieces false (printed_all all) ++ closing ∷ [])
      ∙ (ap (λ z. text (not_pieces n) ++ (codes " IN (" ++ z)) (closed_text (all_pieces false (printed_all all)) (listed (map expr (trees all))) (all_texts false all i)) ∙ not_in_text n (listed (map expr (trees all)) ++ codes ")"))
  tail_texts (Between n low high) i = text_joined (not_pieces n) (word true (codes "BETWEEN") m.Between ∷ pieces true (printed low) ++ word true (codes "AND") m.And ∷ pieces true (printed high))
      ∙ (ap (λ z. text (not_pieces n) ++ (codes " BETWEEN" ++ z)) (text_joined (pieces true (printed low)) (word true (codes "AND") m.And ∷ pieces true (printed high)) ∙ (ap (λ z. z ++ (codes " AND" ++ text (pieces true (printed high)))) (texts true low i.0) ∙ ap (λ z. (32 ∷ expr (tree low)) ++ (codes " AND" ++ z)) (texts true high i.2)))
      ∙ not_between_text n (expr (tree low) ++ (codes " AND " ++ expr (tree high))))

  all_texts : (b : Bool) (all : Phrases) → AreProper all → text (all_pieces b (printed_all all)) ≡ gap b ++ listed (map expr (trees all))
  all_texts b (One p) i = texts b p i ∙ ap (λ z. gap b ++ z) (sym (append-nil (expr (tree p))))
  all_texts b (And_more p all) i = text_joined (pieces b (printed p)) (comma ∷ all_pieces true (printed_all all))
      ∙ (ap (λ z. z ++ 44 ∷ text (all_pieces true (printed_all all))) (texts b p i.0) ∙ (ap (λ z. (gap b ++ expr (tree p)) ++ 44 ∷ z) (all_texts true all i.1)
      ∙ (append_assoc (gap b) (expr (tree p)) (codes ", " ++ listed (map expr (trees all))) ∙ ap (λ z. gap b ++ (expr (tree p) ++ z)) (sym (more_listed all)))))

  arms_texts : (arms : Arms) → AreProperArms arms → text (arms_pieces (printed_arms arms)) ≡ in_row [] [] (map arm (arms_trees arms))
  arms_texts (Arm p q) i = ap (λ z. codes " WHEN" ++ z) (text_joined (pieces true (printed p)) (word true (codes "THEN") m.Then ∷ pieces true (printed q)) ∙ (ap (λ z. z ++ (codes " THEN" ++ text (pieces true (printed q)))) (texts true p i.0) ∙ ap (λ z. (32 ∷ expr (tree p)) ++ (codes " THEN" ++ z)) (texts true q i.1)))
      ∙ (four_in_row (codes " WHEN ") (expr (tree p)) (codes " THEN ") (expr (tree q)) ∙ (sym (arm_is (tree p) (tree q)) ∙ sym (append-nil (arm (roll-When (record { when = tree p; then = tree q }))))))
  arms_texts (And_arms p q arms) i = ap (λ z. codes " WHEN" ++ z) (text_joined (pieces true (printed p)) (word true (codes "THEN") m.Then ∷ pieces true (printed q) ++ arms_pieces (printed_arms arms))
      ∙ (ap (λ z. z ++ (codes " THEN" ++ text (pieces true (printed q) ++ arms_pieces (printed_arms arms)))) (texts true p i.0) ∙ ap (λ z. (32 ∷ expr (tree p)) ++ (codes " THEN" ++ z)) (text_joined (pieces true (printed q)) (arms_pieces (printed_arms arms))
      ∙ (ap (λ z. z ++ text (arms_pieces (printed_arms arms))) (texts true q i.1) ∙ ap (λ z. (32 ∷ expr (tree q)) ++ z) (arms_texts arms i.2)))))
      ∙ (five_in_row (codes " WHEN ") (expr (tree p)) (codes " THEN ") (expr (tree q)) (in_row [] [] (map arm (arms_trees arms))) ∙ ap (λ z. z ++ in_row [] [] (map arm (arms_trees arms))) (sym (arm_is (tree p) (tree q))))

  perhaps_texts : (o : Perhaps) (before : List Piece) → IsProperPerhaps o → text (perhaps_pieces (printed_perhaps o) before) ≡ if_any (text before ++ codes " ") (option_map layout.printed (tree_perhaps o))
  perhaps_texts Absent before i = refl
  perhaps_texts (Present p) before i = text_joined before (pieces true (printed p)) ∙ (ap (λ z. text before ++ z) (texts true p i) ∙ sym (append_assoc (text before) (codes " ") (expr (tree p))))
