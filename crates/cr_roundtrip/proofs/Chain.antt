-- The pieces of a printed expression stand as they are written, where what follows may follow.
use Rattle.std.proofs.Common.{◌≡◌, ℕ, Bool, true, false, ◌||◌, ◌==◌, List, [], ◌∷◌, ◌++◌, Some, ℤ, pos, negsuc, neg_ℤ, zero, suc, refl, sym, ◌∙◌, ap, subst, append_assoc, codes, arith}
use Rattle.std.proofs.lemmas.Bool.{eqb-true}
use Rattle.std.specs.Char.{is_ascii_digit}
use Rattle.std.specs.List.{list_all}
use Rattle.std.specs.Fmt.{decimal}
use Rattle.cr_lex.proofs.Parts.{both, other_than}
use Rattle.cr_tree.specs.declared.symbol.Mark.TheVariants as m
use Rattle.cr_tree.specs.declared.symbol.Symbol.{Symbol}
use Rattle.cr_tree.specs.declared.symbol.Symbol.TheVariants as k
use Rattle.cr_tree.specs.declared.expr.Expr.{Expr}
use Rattle.cr_tree.specs.Grammar.{Operator, Or, And, Equal, DoubleEqual, Unequal, BangEqual, Is, IsNot, Like, NotLike, Less, AtMost, Greater, AtLeast, Plus, Minus, Star, Slash, Percent, Bars, Test, IsNull, NotNull, NotNullApart, Phrase, Leaf, Negative, Name, Dotted, NotOf, PlusOf, MinusOf, With, Inside, CallNone, Call, CountAll, Cast, Case, Tail, Infix, Tested, Collated, Among, Between, Phrases, One, And_more, Arms, Arm, And_arms, Perhaps, Absent, Present, spelled, spelled_tail, spelled_all, spelled_arms, spelled_perhaps, operator_words, not_words, names_words, count_name, leaf, IsProper, IsProperTail, AreProper, AreProperArms, IsProperPerhaps}
use Rattle.cr_lex.specs.Marks.{words, signs}
use Rattle.cr_pieces.specs.Pieces.{Piece, text, IsPiece, AreWritten, may_follow}
use Rattle.cr_pieces.specs.Known.{name, string, blob, word, sign, number, param, after_sign}
use Rattle.cr_pieces.proofs.Follows.{all_follow}
use Rattle.cr_pieces.proofs.Written.{text_joined}
use Rattle.cr_pieces.proofs.Quoted.{name_piece, string_piece}
use Rattle.cr_pieces.proofs.Blobs.{blob_piece}
use Rattle.cr_pieces.proofs.Words.{word_piece}
use Rattle.cr_pieces.proofs.Signs.{sign_piece}
use Rattle.cr_pieces.proofs.Digits.{Digits, decimal_digits, number_piece, param_piece}
use Rattle.cr_roundtrip.specs.Printed.{number_phrase, one_operator, one_test, one_leaf, shielded, printed, printed_tail, printed_all, printed_arms, printed_perhaps, All, IsSeen}
use Rattle.cr_roundtrip.proofs.Printed.{front, back}
use Rattle.cr_roundtrip.proofs.Written.{opening, closing, comma, operator_pieces, test_pieces, not_pieces, names_pieces, pieces, tail_pieces, all_pieces, arms_pieces, perhaps_pieces}
use Rattle.cr_roundtrip.proofs.Texts.{texts}

-- ---- what may follow

-- nothing, a space, a closing parenthesis or a comma
abbrev pub calm : List ℕ → Bool
calm [] = true
calm (c ∷ cs) = c == 32 || (c == 41 || c == 44)

pub calm_follows : (next : ℕ → Bool) → next 41 ≡ true → next 44 ≡ true → (rest : List ℕ) → calm rest ≡ true → may_follow next rest ≡ true
calm_follows next a b [] h = refl
calm_follows next a b (c ∷ cs) h = at (c == 32) (c == 41) (c == 44) refl refl refl h
  where
    at : (x y z : Bool) → (c == 32) ≡ x → (c == 41) ≡ y → (c == 44) ≡ z → (x || (y || z)) ≡ true → (c == 32 || next c) ≡ true
    at true y z i j l h = ap (λ t. t || next c) i
    at false true z i j l h = ap (λ t. t || next c) i ∙ (ap next (eqb-true c 41 j) ∙ a)
    at false false true i j l h = ap (λ t. t || next c) i ∙ (ap next (eqb-true c 44 l) ∙ b)
    at false false false i j l h = absurd (cc)

-- whatever the test, what follows begins with a space
abbrev pub Spaced : List Piece → Type 0
Spaced rs = (next : ℕ → Bool) → may_follow next (text rs) ≡ true

-- what stands before what is calm
abbrev pub Chains : List Piece → Type 0
Chains ps = (qs : List Piece) → calm (text qs) ≡ true → AreWritten qs → AreWritten (ps ++ qs)

-- an expression behind a space
pub spaced : (p : Phrase) (rs : List Piece) → IsProper p → Spaced (pieces true (printed p) ++ rs)
spaced p rs i next = ap (may_follow next) (text_joined (pieces true (printed p)) rs ∙ ap (λ z. z ++ text rs) (texts true p i))

-- ---- known pieces

opening_is : (b : Bool) → IsPiece (opening b)
unfolding signs
opening_is b = sign_piece b (codes "(") m.Open refl

closing_is : IsPiece closing
unfolding signs
closing_is = sign_piece false (codes ")") m.Close refl

comma_is : IsPiece comma
unfolding signs
comma_is = sign_piece false (codes ",") m.Comma refl

anything : (mark : List ℕ) → ((c : ℕ) → after_sign mark c ≡ true) → (rest : List ℕ) → may_follow (after_sign mark) rest ≡ true
anything mark h rest = all_follow (after_sign mark) h rest

pub named : (b : Bool) (n : List ℕ) → IsSeen (k.Name n) → IsPiece (name b n)
named b n s = name_piece b n s.0.0 s.0.1 s.1

-- a closing parenthesis behind it
pub closed : (ps : List Piece) → Chains ps → Chains (ps ++ closing ∷ [])
closed ps h qs c w = subst AreWritten (sym (append_assoc ps (closing ∷ []) qs)) (h (closing ∷ qs) refl (closing_is, anything (codes ")") (λ c. refl) (text qs), w))

-- in parentheses
pub within : (b : Bool) (ps : List Piece) → Chains ps → Chains (opening b ∷ ps ++ closing ∷ [])
within b ps h qs c w = (opening_is b, anything (codes "(") (λ c. refl) (text ((ps ++ closing ∷ []) ++ qs)), closed ps h qs c w)

-- ---- leaves

minus_digits : (w rest : List ℕ) → Digits w → may_follow (after_sign (45 ∷ [])) (w ++ rest) ≡ true
minus_digits [] rest d = absurd (d.some refl)
minus_digits (c ∷ cs) rest d =
    let e = (both (is_ascii_digit c) (list_all is_ascii_digit cs) d.each).0 in
    rw (other_than is_ascii_digit c 32 e refl, other_than is_ascii_digit c 45 e refl) refl

pub number_chain : (b : Bool) (i : ℤ) → All IsSeen (spelled (number_phrase i)) → Chains (pieces b (number_phrase i))
unfolding signs
number_chain b (pos n) a qs c w = (number_piece b n (omega (arith, a.0)), calm_follows (number b n).next refl refl (text qs) c, w)
number_chain b (negsuc n) a qs c w = (sign_piece b (codes "-") m.Minus refl, minus_digits (decimal (suc n)) (text qs) (decimal_digits (suc n) (omega (arith, a.1.0))), (number_piece false (suc n) (omega (arith, a.1.0)), calm_follows (number false (suc n)).next refl refl (text qs) c, w))

leaf_chain : (b : Bool) (t : Symbol) (x : Expr) → leaf t ≡ Some x → All IsSeen (spelled (one_leaf t x)) → Chains (pieces b (one_leaf t x))
unfolding words
leaf_chain b (k.Bits i) x h a = number_chain b i a
leaf_chain b (k.Number n) x h a = λ qs c w. (number_piece b n (omega (arith, a.0)), calm_follows (number b n).next refl refl (text qs) c, w)
leaf_chain b (k.Mark m.Null) x h a = λ qs c w. (word_piece b (codes "NULL") m.Null refl, calm_follows (word b (codes "NULL") m.Null).next refl refl (text qs) c, w)
leaf_chain b (k.Mark y) x h a = absurd (cc)
leaf_chain b (k.Name n) x h a = absurd (cc)
leaf_chain b (k.Text n) x h a = λ qs c w. (string_piece b n a.0.0 a.0.1, calm_follows (string b n).next refl refl (text qs) c, w)
leaf_chain b (k.Blob n) x h a = λ qs c w. (blob_piece b n a.0, calm_follows (blob b n).next refl refl (text qs) c, w)
leaf_chain b (k.Param n) x h a = λ qs c w. (param_piece b n a.0, calm_follows (param b n).next refl refl (text qs) c, w)
leaf_chain b k.Other x h a = absurd (cc)

-- no minus stands first behind a sign
minus_follows : (p : Phrase) (rs : List Piece) → IsProper p → may_follow (after_sign (45 ∷ [])) (text (pieces false (shielded (printed p)) ++ rs)) ≡ true
minus_follows (Leaf (k.Bits (pos n)) x) rs i = refl
minus_follows (Leaf (k.Bits (negsuc n)) x) rs i = refl
minus_follows (Leaf (k.Number n) x) rs i = refl
minus_follows (Leaf (k.Mark y) x) rs i = refl
minus_follows (Leaf (k.Name n) x) rs i = absurd (cc)
minus_follows (Leaf (k.Text n) x) rs i = refl
minus_follows (Leaf (k.Blob n) x) rs i = refl
minus_follows (Leaf (k.Param n) x) rs i = refl
minus_follows (Leaf k.Other x) rs i = absurd (cc)
minus_follows (Negative zero) rs i = refl
minus_follows (Negative (suc n)) rs i = refl
minus_follows (Name n) rs i = refl
minus_follows (Dotted s n) rs i = refl
minus_follows (NotOf p) rs i = refl
minus_follows (PlusOf p) rs i = refl
minus_follows (MinusOf p) rs i = refl
minus_follows (With p t) rs i = refl
minus_follows (Inside p) rs i = minus_follows p rs i
minus_follows (CallNone f) rs i = refl
minus_follows (Call f all) rs i = refl
minus_follows CountAll rs i = refl
minus_follows (Cast p n ns s) rs i = refl
minus_follows (Case s arms o) rs i = refl

shielded_chain : (p : Phrase) → Chains (pieces false p) → Chains (pieces false (shielded p))
shielded_chain (Leaf (k.Number n) x) h = within false (pieces false (Leaf (k.Number n) x)) h
shielded_chain (Negative n) h = within false (pieces false (Negative n)) h
shielded_chain (Leaf (k.Mark y) x) h = h
shielded_chain (Leaf (k.Name n) x) h = h
shielded_chain (Leaf (k.Text n) x) h = h
shielded_chain (Leaf (k.Blob n) x) h = h
shielded_chain (Leaf (k.Bits n) x) h = h
shielded_chain (Leaf (k.Param n) x) h = h
shielded_chain (Leaf k.Other x) h = h
shielded_chain (Name n) h = h
shielded_chain (Dotted s n) h = h
shielded_chain (NotOf p) h = h
shielded_chain (PlusOf p) h = h
shielded_chain (MinusOf p) h = h
shielded_chain (With p t) h = h
shielded_chain (Inside p) h = h
shielded_chain (CallNone f) h = h
shielded_chain (Call f all) h = h
shielded_chain CountAll h = h
shielded_chain (Cast p n ns s) h = h
shielded_chain (Case s arms o) h = h

-- ---- operators

operator_written : (op : Operator) (rs : List Piece) → Spaced rs → AreWritten rs → AreWritten (operator_pieces (one_operator op) ++ rs)
unfolding words signs
operator_written Or rs sp w = (word_piece true (codes "OR") m.Or refl, sp _, w)
operator_written And rs sp w = (word_piece true (codes "AND") m.And refl, sp _, w)
operator_written Equal rs sp w = (sign_piece true (codes "=") m.Equal refl, sp _, w)
operator_written DoubleEqual rs sp w = (sign_piece true (codes "=") m.Equal refl, sp _, w)
operator_written Unequal rs sp w = (sign_piece true (codes "<>") m.Unequal refl, sp _, w)
operator_written BangEqual rs sp w = (sign_piece true (codes "<>") m.Unequal refl, sp _, w)
operator_written Is rs sp w = (word_piece true (codes "IS") m.Is refl, sp _, w)
operator_written IsNot rs sp w = (word_piece true (codes "IS") m.Is refl, refl, (word_piece true (codes "NOT") m.Not refl, sp _, w))
operator_written Like rs sp w = (word_piece true (codes "LIKE") m.Like refl, sp _, w)
operator_written NotLike rs sp w = (word_piece true (codes "NOT") m.Not refl, refl, (word_piece true (codes "LIKE") m.Like refl, sp _, w))
operator_written Less rs sp w = (sign_piece true (codes "<") m.Less refl, sp _, w)
operator_written AtMost rs sp w = (sign_piece true (codes "<=") m.AtMost refl, sp _, w)
operator_written Greater rs sp w = (sign_piece true (codes ">") m.Greater refl, sp _, w)
operator_written AtLeast rs sp w = (sign_piece true (codes ">=") m.AtLeast refl, sp _, w)
operator_written Plus rs sp w = (sign_piece true (codes "+") m.Plus refl, sp _, w)
operator_written Minus rs sp w = (sign_piece true (codes "-") m.Minus refl, sp _, w)
operator_written Star rs sp w = (sign_piece true (codes "*") m.Star refl, sp _, w)
operator_written Slash rs sp w = (sign_piece true (codes "/") m.Slash refl, sp _, w)
operator_written Percent rs sp w = (sign_piece true (codes "%") m.Percent refl, sp _, w)
operator_written Bars rs sp w = (sign_piece true (codes "||") m.Bars refl, sp _, w)

test_chain : (t : Test) → Chains (test_pieces (one_test t))
unfolding words
test_chain IsNull qs c w = (word_piece true (codes "ISNULL") m.IsNull refl, calm_follows (word true (codes "ISNULL") m.IsNull).next refl refl (text qs) c, w)
test_chain NotNull qs c w = (word_piece true (codes "NOTNULL") m.NotNull refl, calm_follows (word true (codes "NOTNULL") m.NotNull).next refl refl (text qs) c, w)
test_chain NotNullApart qs c w = (word_piece true (codes "NOTNULL") m.NotNull refl, calm_follows (word true (codes "NOTNULL") m.NotNull).next refl refl (text qs) c, w)

not_written : (n : Bool) (rs : List Piece) → Spaced rs → AreWritten rs → AreWritten (not_pieces n ++ rs)
unfolding words
not_written true rs sp w = (word_piece true (codes "NOT") m.Not refl, sp _, w)
not_written false rs sp w = w

names_chain : (ns : List (List ℕ)) → All IsSeen (names_words ns) → Chains (names_pieces ns)
names_chain [] a qs c w = w
names_chain (n ∷ []) a qs c w = (named true n a.0, calm_follows (name true n).next refl refl (text qs) c, w)
names_chain (n ∷ o ∷ ns) a qs c w = (named true n a.0, refl, names_chain (o ∷ ns) a.1 qs c w)

-- what stands behind an operand stands behind a space
tail_calm : (t : Tail) (rs : List Piece) → calm (text (tail_pieces (printed_tail t) ++ rs)) ≡ true
tail_calm (Infix Or p) rs = refl
tail_calm (Infix And p) rs = refl
tail_calm (Infix Equal p) rs = refl
tail_calm (Infix DoubleEqual p) rs = refl
tail_calm (Infix Unequal p) rs = refl
tail_calm (Infix BangEqual p) rs = refl
tail_calm (Infix Is p) rs = refl
tail_calm (Infix IsNot p) rs = refl
tail_calm (Infix Like p) rs = refl
tail_calm (Infix NotLike p) rs = refl
tail_calm (Infix Less p) rs = refl
tail_calm (Infix AtMost p) rs = refl
tail_calm (Infix Greater p) rs = refl
tail_calm (Infix AtLeast p) rs = refl
tail_calm (Infix Plus p) rs = refl
tail_calm (Infix Minus p) rs = refl
tail_calm (Infix Star p) rs = refl
tail_calm (Infix Slash p) rs = refl
tail_calm (Infix Percent p) rs = refl
tail_calm (Infix Bars p) rs = refl
tail_calm (Tested IsNull) rs = refl
tail_calm (Tested NotNull) rs = refl
tail_calm (Tested NotNullApart) rs = refl
tail_calm (Collated c) rs = refl
tail_calm (Among true all) rs = refl
tail_calm (Among false all) rs = refl
tail_calm (Between true low high) rs = refl
tail_calm (Between false low high) rs = refl

-- an arm, or what stands behind the arms
arms_spaced : (arms : Arms) (rs : List Piece) → Spaced (arms_pieces (printed_arms arms) ++ rs)
arms_spaced (Arm p q) rs next = refl
arms_spaced (And_arms p q arms) rs next = refl

else_pieces : Perhaps → List Piece
else_pieces o = perhaps_pieces (printed_perhaps o) (word true (codes "ELSE") m.Else ∷ []) ++ word true (codes "END") m.End ∷ []

else_spaced : (o : Perhaps) (rs : List Piece) → Spaced (else_pieces o ++ rs)
unfolding else_pieces
else_spaced Absent rs next = refl
else_spaced (Present p) rs next = refl

spaced_calm : (rs : List Piece) → Spaced rs → calm (text rs) ≡ true
spaced_calm rs sp = at (text rs) (λ next. sp next)
  where
    at : (w : List ℕ) → ((next : ℕ → Bool) → may_follow next w ≡ true) → calm w ≡ true
    at [] h = refl
    at (c ∷ cs) h = by (c == 32) (h (λ c. false))
      where
        by : (x : Bool) → (x || false) ≡ true → (x || (c == 41 || c == 44)) ≡ true
        by true e = refl
        by false e = absurd (cc)

pub joined : (ps rs qs : List Piece) → AreWritten (ps ++ (rs ++ qs)) → AreWritten ((ps ++ rs) ++ qs)
joined ps rs qs w = subst AreWritten (sym (append_assoc ps rs qs)) w

arms_first : (arms : Arms) (o : Perhaps) (qs : List Piece) → Spaced ((arms_pieces (printed_arms arms) ++ else_pieces o) ++ qs)
arms_first (Arm p q) o qs next = refl
arms_first (And_arms p q arms) o qs next = refl

shielded_back : (p : Phrase) → All IsSeen (spelled (shielded p)) → All IsSeen (spelled p)
shielded_back (Leaf (k.Number n) x) a = (a.1.0, tt)
shielded_back (Negative n) a = (tt, (a.1.1.0, tt))
shielded_back (Leaf (k.Mark y) x) a = a
shielded_back (Leaf (k.Name n) x) a = a
shielded_back (Leaf (k.Text n) x) a = a
shielded_back (Leaf (k.Blob n) x) a = a
shielded_back (Leaf (k.Bits n) x) a = a
shielded_back (Leaf (k.Param n) x) a = a
shielded_back (Leaf k.Other x) a = a
shielded_back (Name n) a = a
shielded_back (Dotted s n) a = a
shielded_back (NotOf p) a = a
shielded_back (PlusOf p) a = a
shielded_back (MinusOf p) a = a
shielded_back (With p t) a = a
shielded_back (Inside p) a = a
shielded_back (CallNone f) a = a
shielded_back (Call f all) a = a
shielded_back CountAll a = a
shielded_back (Cast p n ns s) a = a
shielded_back (Case s arms o) a = a

mutual
  unfolding words signs else_pieces

  pub chain : (b : Bool) (p : Phrase) → IsProper p → All IsSeen (spelled (printed p)) → Chains (pieces b (printed p))
  chain b (Leaf t x) i a = leaf_chain b t x i a
  chain b (Negative n) i a = number_chain b (neg_ℤ (pos n)) a
  chain b (Name n) i a = λ qs c w. (named b n a.0, calm_follows (name b n).next refl refl (text qs) c, w)
  chain b (Dotted s n) i a = λ qs c w. (named b s a.0, refl, (sign_piece false (codes ".") m.Dot refl, refl, (named false n a.1.1.0, calm_follows (name false n).next refl refl (text qs) c, w)))
  chain b (NotOf p) i a = within b (word false (codes "NOT") m.Not ∷ pieces true (printed p)) (λ qs c w. (word_piece false (codes "NOT") m.Not refl, spaced p qs i.0 _, chain true p i.0 (front IsSeen (spelled (printed p)) (k.Mark m.Close ∷ []) a.1.1) qs c w))
  chain b (PlusOf p) i a = within b (sign false (codes "+") m.Plus ∷ pieces false (shielded (printed p))) (λ qs c w. (
    sign_piece false (codes "+") m.Plus refl,
    anything (codes "+") (λ c. refl) (text (pieces false (shielded (printed p)) ++ qs)),
    shielded_chain (printed p) (chain false p i.0 (shielded_back (printed p) (front IsSeen (spelled (shielded (printed p))) (k.Mark m.Close ∷ []) a.1.1))) qs c w,
  ))
  chain b (MinusOf p) i a = within b (sign false (codes "-") m.Minus ∷ pieces false (shielded (printed p))) (λ qs c w. (
    sign_piece false (codes "-") m.Minus refl,
    minus_follows p qs i.0,
    shielded_chain (printed p) (chain false p i.0 (shielded_back (printed p) (front IsSeen (spelled (shielded (printed p))) (k.Mark m.Close ∷ []) a.1.1))) qs c w,
  ))
  chain b (With p t) i a =
      let parts = front IsSeen (spelled (printed p) ++ spelled_tail (printed_tail t)) (k.Mark m.Close ∷ []) a.1 in
      within b (pieces false (printed p) ++ tail_pieces (printed_tail t)) (λ qs c w. joined (pieces false (printed p)) (tail_pieces (printed_tail t)) qs
      (chain false p i.0 (front IsSeen (spelled (printed p)) (spelled_tail (printed_tail t)) parts) (tail_pieces (printed_tail t) ++ qs) (tail_calm t qs) (tail_chain t i.1 (back IsSeen (spelled (printed p)) (spelled_tail (printed_tail t)) parts) qs c w)))
  chain b (Inside p) i a = chain b p i a
  chain b (CallNone f) i a = λ qs c w. (named b f a.0, refl, (opening_is false, refl, (closing_is, anything (codes ")") (λ c. refl) (text qs), w)))
  chain b (Call f all) i a = λ qs c w. (named b f a.0, refl, within false (all_pieces false (printed_all all)) (all_chain false all i (front IsSeen (spelled_all (printed_all all)) (k.Mark m.Close ∷ []) a.1.1)) qs c w)
  chain b CountAll i a = λ qs c w. (named b count_name a.0, refl, (opening_is false, refl, (sign_piece false (codes "*") m.Star refl, refl, (closing_is, anything (codes ")") (λ c. refl) (text qs), w))))
  chain b (Cast p n ns s) i a = λ qs c w.
      let rest = k.Mark m.As ∷ k.Name n ∷ names_words ns ++ k.Mark m.Close ∷ [] in
      let behind = word true (codes "AS") m.As ∷ name true n ∷ names_pieces ns ++ closing ∷ [] in
      let parts = (back IsSeen (spelled (printed p)) rest a.1.1).1 in (
        word_piece b (codes "CAST") m.Cast refl,
        refl,
        (
          opening_is false,
          anything (codes "(") (λ c. refl) (text ((pieces false (printed p) ++ behind) ++ qs)),
          joined (pieces false (printed p)) behind qs (chain false p i.0 (front IsSeen (spelled (printed p)) rest a.1.1) (behind ++ qs) refl
              (word_piece true (codes "AS") m.As refl, refl, closed (name true n ∷ names_pieces ns) (names_chain (n ∷ ns) (parts.0, front IsSeen (names_words ns) (k.Mark m.Close ∷ []) parts.1)) qs c w)),
        ),
      )
  chain b (Case s arms o) i a = λ qs c w.
      let last = spelled_perhaps (printed_perhaps o) (k.Mark m.Else ∷ []) ++ k.Mark m.End ∷ [] in
      let behind = back IsSeen (spelled_perhaps (printed_perhaps s) []) (spelled_arms (printed_arms arms) ++ last) a.1 in
      let ended = else_chain o i.2 (back IsSeen (spelled_arms (printed_arms arms)) last behind) qs c w in
      let armed = arms_chain arms i.1 (front IsSeen (spelled_arms (printed_arms arms)) last behind) (else_pieces o ++ qs) (spaced_calm (else_pieces o ++ qs) (else_spaced o qs)) ended in
      case_chain b s arms o i.0 (front IsSeen (spelled_perhaps (printed_perhaps s) []) (spelled_arms (printed_arms arms) ++ last) a.1) qs armed

  case_chain : (b : Bool) (s : Perhaps) (arms : Arms) (o : Perhaps) → IsProperPerhaps s → All IsSeen (spelled_perhaps (printed_perhaps s) []) → (qs : List Piece) → AreWritten (arms_pieces (printed_arms arms) ++ (else_pieces o ++ qs))
      → AreWritten ((word b (codes "CASE") m.Case ∷ perhaps_pieces (printed_perhaps s) [] ++ (arms_pieces (printed_arms arms) ++ else_pieces o)) ++ qs)
  case_chain b Absent arms o i a qs w = (word_piece b (codes "CASE") m.Case refl, arms_first arms o qs _, joined (arms_pieces (printed_arms arms)) (else_pieces o) qs w)
  case_chain b (Present p) arms o i a qs w =
      let behind = arms_pieces (printed_arms arms) ++ else_pieces o in (
        word_piece b (codes "CASE") m.Case refl,
        ap (may_follow (word b (codes "CASE") m.Case).next) (ap text (append_assoc (pieces true (printed p)) behind qs)) ∙ spaced p (behind ++ qs) i _,
        joined (pieces true (printed p)) behind qs (chain true p i a (behind ++ qs) (spaced_calm (behind ++ qs) (arms_first arms o qs)) (joined (arms_pieces (printed_arms arms)) (else_pieces o) qs w)),
      )

  else_chain : (o : Perhaps) → IsProperPerhaps o → All IsSeen (spelled_perhaps (printed_perhaps o) (k.Mark m.Else ∷ []) ++ k.Mark m.End ∷ []) → Chains (else_pieces o)
  else_chain Absent i a = λ qs c w. (word_piece true (codes "END") m.End refl, calm_follows (word true (codes "END") m.End).next refl refl (text qs) c, w)
  else_chain (Present p) i a = λ qs c w.
      let end = word true (codes "END") m.End ∷ [] in (
        word_piece true (codes "ELSE") m.Else refl,
        ap (may_follow (word true (codes "ELSE") m.Else).next) (ap text (append_assoc (pieces true (printed p)) end qs)) ∙ spaced p (end ++ qs) i _,
        joined (pieces true (printed p)) end qs (chain true p i (front IsSeen (spelled (printed p)) (k.Mark m.End ∷ []) a.1) (end ++ qs) refl (word_piece true (codes "END") m.End refl, calm_follows (word true (codes "END") m.End).next refl refl (text qs) c, w)),
      )

  tail_chain : (t : Tail) → IsProperTail t → All IsSeen (spelled_tail (printed_tail t)) → Chains (tail_pieces (printed_tail t))
  tail_chain (Infix op p) i a = λ qs c w. joined (operator_pieces (one_operator op)) (pieces true (printed p)) qs
      (operator_written op (pieces true (printed p) ++ qs) (spaced p qs i.0) (chain true p i.0 (back IsSeen (operator_words (one_operator op)) (spelled (printed p)) a) qs c w))
  tail_chain (Tested t) i a = test_chain t
  tail_chain (Collated c) i a = λ qs d w. (word_piece true (codes "COLLATE") m.Collate refl, refl, (named true c a.1.0, calm_follows (name true c).next refl refl (text qs) d, w))
  tail_chain (Among n all) i a = λ qs c w.
      let items = all_pieces false (printed_all all) ++ closing ∷ [] in
      let parts = back IsSeen (not_words n) (k.Mark m.In ∷ k.Mark m.Open ∷ spelled_all (printed_all all) ++ k.Mark m.Close ∷ []) a in
      joined (not_pieces n) (word true (codes "IN") m.In ∷ opening true ∷ items) qs (not_written n (word true (codes "IN") m.In ∷ opening true ∷ items ++ qs) (λ next. refl)
      (word_piece true (codes "IN") m.In refl, refl, within true (all_pieces false (printed_all all)) (all_chain false all i (front IsSeen (spelled_all (printed_all all)) (k.Mark m.Close ∷ []) parts.1.1)) qs c w))
  tail_chain (Between n low high) i a = λ qs c w.
      let upper = word true (codes "AND") m.And ∷ pieces true (printed high) in
      let parts = (back IsSeen (not_words n) (k.Mark m.Between ∷ spelled (printed low) ++ k.Mark m.And ∷ spelled (printed high)) a).1 in
      joined (not_pieces n) (word true (codes "BETWEEN") m.Between ∷ pieces true (printed low) ++ upper) qs (not_written n (word true (codes "BETWEEN") m.Between ∷ (pieces true (printed low) ++ upper) ++ qs) (λ next. refl) (
        word_piece true (codes "BETWEEN") m.Between refl,
        ap (may_follow (word true (codes "BETWEEN") m.Between).next) (ap text (append_assoc (pieces true (printed low)) upper qs)) ∙ spaced low (upper ++ qs) i.0 _,
        joined (pieces true (printed low)) upper qs (chain true low i.0 (front IsSeen (spelled (printed low)) (k.Mark m.And ∷ spelled (printed high)) parts) (upper ++ qs) refl
            (word_piece true (codes "AND") m.And refl, spaced high qs i.2 _, chain true high i.2 (back IsSeen (spelled (printed low)) (k.Mark m.And ∷ spelled (printed high)) parts).1 qs c w)),
      ))

  all_chain : (b : Bool) (all : Phrases) → AreProper all → All IsSeen (spelled_all (printed_all all)) → Chains (all_pieces b (printed_all all))
  all_chain b (One p) i a = chain b p i a
  all_chain b (And_more p all) i a = λ qs c w.
      let others = comma ∷ all_pieces true (printed_all all) in
      joined (pieces b (printed p)) others qs (chain b p i.0 (front IsSeen (spelled (printed p)) (k.Mark m.Comma ∷ spelled_all (printed_all all)) a) (others ++ qs) refl
      (comma_is, anything (codes ",") (λ c. refl) (text (all_pieces true (printed_all all) ++ qs)), all_chain true all i.1 (back IsSeen (spelled (printed p)) (k.Mark m.Comma ∷ spelled_all (printed_all all)) a).1 qs c w))

  arms_chain : (arms : Arms) → AreProperArms arms → All IsSeen (spelled_arms (printed_arms arms)) → Chains (arms_pieces (printed_arms arms))
  arms_chain (Arm p q) i a = λ qs c w.
      let behind = word true (codes "THEN") m.Then ∷ pieces true (printed q) in (
        word_piece true (codes "WHEN") m.When refl,
        ap (may_follow (word true (codes "WHEN") m.When).next) (ap text (append_assoc (pieces true (printed p)) behind qs)) ∙ spaced p (behind ++ qs) i.0 _,
        joined (pieces true (printed p)) behind qs (chain true p i.0 (front IsSeen (spelled (printed p)) (k.Mark m.Then ∷ spelled (printed q)) a.1) (behind ++ qs) refl
            (word_piece true (codes "THEN") m.Then refl, spaced q qs i.1 _, chain true q i.1 (back IsSeen (spelled (printed p)) (k.Mark m.Then ∷ spelled (printed q)) a.1).1 qs c w)),
      )
  arms_chain (And_arms p q arms) i a = λ qs c w.
      let behind = word true (codes "THEN") m.Then ∷ pieces true (printed q) ++ arms_pieces (printed_arms arms) in
      let parts = (back IsSeen (spelled (printed p)) (k.Mark m.Then ∷ spelled (printed q) ++ spelled_arms (printed_arms arms)) a.1).1 in (
        word_piece true (codes "WHEN") m.When refl,
        ap (may_follow (word true (codes "WHEN") m.When).next) (ap text (append_assoc (pieces true (printed p)) behind qs)) ∙ spaced p (behind ++ qs) i.0 _,
        joined (pieces true (printed p)) behind qs (chain true p i.0 (front IsSeen (spelled (printed p)) (k.Mark m.Then ∷ spelled (printed q) ++ spelled_arms (printed_arms arms)) a.1) (behind ++ qs) refl (
          word_piece true (codes "THEN") m.Then refl,
          ap (may_follow (word true (codes "THEN") m.Then).next) (ap text (append_assoc (pieces true (printed q)) (arms_pieces (printed_arms arms)) qs)) ∙ spaced q (arms_pieces (printed_arms arms) ++ qs) i.1 _,
          joined (pieces true (printed q)) (arms_pieces (printed_arms arms)) qs (chain true q i.1 (front IsSeen (spelled (printed q)) (spelled_arms (printed_arms arms)) parts) (arms_pieces (printed_arms arms) ++ qs) (spaced_calm (arms_pieces (printed_arms arms) ++ qs) (arms_spaced arms qs))
              (arms_chain arms i.2 (back IsSeen (spelled (printed q)) (spelled_arms (printed_arms arms)) parts) qs c w)),
        )),
      )
