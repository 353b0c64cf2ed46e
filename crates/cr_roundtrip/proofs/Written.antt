-- The pieces that a printed expression is written with: they have its symbols.
use Rattle.std.proofs.Common.{◌≡◌, ℕ, Bool, true, false, List, [], ◌∷◌, ◌++◌, Some, ℤ, pos, negsuc, neg_ℤ, refl, ◌∙◌, ap, codes}
use Rattle.cr_tree.specs.declared.symbol.Mark.TheVariants as m
use Rattle.cr_tree.specs.declared.symbol.Symbol.{Symbol}
use Rattle.cr_tree.specs.declared.symbol.Symbol.TheVariants as k
use Rattle.cr_tree.specs.declared.expr.Expr.{Expr}
use Rattle.cr_tree.specs.Grammar.{Operator, Or, And, Equal, DoubleEqual, Unequal, BangEqual, Is, IsNot, Like, NotLike, Less, AtMost, Greater, AtLeast, Plus, Minus, Star, Slash, Percent, Bars, Test, IsNull, NotNull, NotNullApart, Phrase, Leaf, Negative, Name, Dotted, NotOf, PlusOf, MinusOf, With, Inside, CallNone, Call, CountAll, Cast, Case, Tail, Infix, Tested, Collated, Among, Between, Phrases, One, And_more, Arms, Arm, And_arms, Perhaps, Absent, Present, spelled, spelled_tail, spelled_all, spelled_arms, spelled_perhaps, operator_words, test_words, not_words, names_words, count_name, leaf, IsProper, IsProperTail, AreProper, AreProperArms, IsProperPerhaps}
use Rattle.cr_pieces.specs.Pieces.{Piece, symbols}
use Rattle.cr_pieces.specs.Known.{name, string, blob, word, sign, number, param}
use Rattle.cr_pieces.proofs.Written.{symbols_joined}
use Rattle.cr_roundtrip.specs.Printed.{number_phrase, one_operator, one_test, one_leaf, shielded, printed, printed_tail, printed_all, printed_arms, printed_perhaps}

-- ---- the pieces

abbrev pub opening : Bool → Piece
opening b = sign b (codes "(") m.Open

abbrev pub closing : Piece
closing = sign false (codes ")") m.Close

abbrev pub comma : Piece
comma = sign false (codes ",") m.Comma

abbrev pub leaf_pieces : Bool → Symbol → List Piece
leaf_pieces b (k.Mark x) = word b (codes "NULL") x ∷ []
leaf_pieces b (k.Text t) = string b t ∷ []
leaf_pieces b (k.Blob t) = blob b t ∷ []
leaf_pieces b (k.Number n) = number b n ∷ []
leaf_pieces b (k.Param n) = param b n ∷ []
leaf_pieces b _ = []

abbrev pub operator_pieces : Operator → List Piece
operator_pieces Or = word true (codes "OR") m.Or ∷ []
operator_pieces And = word true (codes "AND") m.And ∷ []
operator_pieces Equal = sign true (codes "=") m.Equal ∷ []
operator_pieces DoubleEqual = sign true (codes "==") m.DoubleEqual ∷ []
operator_pieces Unequal = sign true (codes "<>") m.Unequal ∷ []
operator_pieces BangEqual = sign true (codes "!=") m.BangEqual ∷ []
operator_pieces Is = word true (codes "IS") m.Is ∷ []
operator_pieces IsNot = word true (codes "IS") m.Is ∷ word true (codes "NOT") m.Not ∷ []
operator_pieces Like = word true (codes "LIKE") m.Like ∷ []
operator_pieces NotLike = word true (codes "NOT") m.Not ∷ word true (codes "LIKE") m.Like ∷ []
operator_pieces Less = sign true (codes "<") m.Less ∷ []
operator_pieces AtMost = sign true (codes "<=") m.AtMost ∷ []
operator_pieces Greater = sign true (codes ">") m.Greater ∷ []
operator_pieces AtLeast = sign true (codes ">=") m.AtLeast ∷ []
operator_pieces Plus = sign true (codes "+") m.Plus ∷ []
operator_pieces Minus = sign true (codes "-") m.Minus ∷ []
operator_pieces Star = sign true (codes "*") m.Star ∷ []
operator_pieces Slash = sign true (codes "/") m.Slash ∷ []
operator_pieces Percent = sign true (codes "%") m.Percent ∷ []
operator_pieces Bars = sign true (codes "||") m.Bars ∷ []

abbrev pub test_pieces : Test → List Piece
test_pieces IsNull = word true (codes "ISNULL") m.IsNull ∷ []
test_pieces NotNull = word true (codes "NOTNULL") m.NotNull ∷ []
test_pieces NotNullApart = word true (codes "NOT") m.Not ∷ word true (codes "NULL") m.Null ∷ []

abbrev pub not_pieces : Bool → List Piece
not_pieces true = word true (codes "NOT") m.Not ∷ []
not_pieces false = []

-- each apart
abbrev pub names_pieces : List (List ℕ) → List Piece
names_pieces [] = []
names_pieces (n ∷ ns) = name true n ∷ names_pieces ns

-- The flag says whether a space stands before the first.
abbrev mutual
  pub pieces : Bool → Phrase → List Piece
  pieces b (Leaf t x) = leaf_pieces b t
  pieces b (Negative n) = sign b (codes "-") m.Minus ∷ number false n ∷ []
  pieces b (Name n) = name b n ∷ []
  pieces b (Dotted s n) = name b s ∷ sign false (codes ".") m.Dot ∷ name false n ∷ []
  pieces b (NotOf p) = word b (codes "NOT") m.Not ∷ pieces true p
  pieces b (PlusOf p) = sign b (codes "+") m.Plus ∷ pieces false p
  pieces b (MinusOf p) = sign b (codes "-") m.Minus ∷ pieces false p
  pieces b (With p t) = pieces b p ++ tail_pieces t
  pieces b (Inside p) = opening b ∷ pieces false p ++ closing ∷ []
  pieces b (CallNone f) = name b f ∷ opening false ∷ closing ∷ []
  pieces b (Call f all) = name b f ∷ opening false ∷ all_pieces false all ++ closing ∷ []
  pieces b CountAll = name b count_name ∷ opening false ∷ sign false (codes "*") m.Star ∷ closing ∷ []
  pieces b (Cast p n ns s) = word b (codes "CAST") m.Cast ∷ opening false ∷ pieces false p ++ (word true (codes "AS") m.As ∷ name true n ∷ names_pieces ns ++ closing ∷ [])
  pieces b (Case s arms o) = word b (codes "CASE") m.Case ∷ perhaps_pieces s [] ++ (arms_pieces arms ++ (perhaps_pieces o (word true (codes "ELSE") m.Else ∷ []) ++ word true (codes "END") m.End ∷ []))

  pub tail_pieces : Tail → List Piece
  tail_pieces (Infix op p) = operator_pieces op ++ pieces true p
  tail_pieces (Tested t) = test_pieces t
  tail_pieces (Collated c) = word true (codes "COLLATE") m.Collate ∷ name true c ∷ []
  tail_pieces (Among n all) = not_pieces n ++ (word true (codes "IN") m.In ∷ opening true ∷ all_pieces false all ++ closing ∷ [])
  tail_pieces (Between n low high) = not_pieces n ++ (word true (codes "BETWEEN") m.Between ∷ pieces true low ++ word true (codes "AND") m.And ∷ pieces true high)

  pub all_pieces : Bool → Phrases → List Piece
  all_pieces b (One p) = pieces b p
  all_pieces b (And_more p all) = pieces b p ++ comma ∷ all_pieces true all

  pub arms_pieces : Arms → List Piece
  arms_pieces (Arm p q) = word true (codes "WHEN") m.When ∷ pieces true p ++ word true (codes "THEN") m.Then ∷ pieces true q
  arms_pieces (And_arms p q arms) = word true (codes "WHEN") m.When ∷ pieces true p ++ (word true (codes "THEN") m.Then ∷ pieces true q ++ arms_pieces arms)

  pub perhaps_pieces : Perhaps → List Piece → List Piece
  perhaps_pieces Absent before = []
  perhaps_pieces (Present p) before = before ++ pieces true p

-- ---- their symbols

spell : (ps qs : List Piece) (xs ys : List Symbol) → symbols ps ≡ xs → symbols qs ≡ ys → symbols (ps ++ qs) ≡ xs ++ ys
spell ps qs xs ys h i = symbols_joined ps qs ∙ (ap (λ z. z ++ symbols qs) h ∙ ap (λ z. xs ++ z) i)

pub number_spelled : (b : Bool) (i : ℤ) → symbols (pieces b (number_phrase i)) ≡ spelled (number_phrase i)
number_spelled b (pos n) = refl
number_spelled b (negsuc n) = refl

leaf_spelled : (b : Bool) (t : Symbol) (x : Expr) → leaf t ≡ Some x → symbols (pieces b (one_leaf t x)) ≡ spelled (one_leaf t x)
leaf_spelled b (k.Bits i) x h = number_spelled b i
leaf_spelled b (k.Mark y) x h = refl
leaf_spelled b (k.Name n) x h = absurd (cc)
leaf_spelled b (k.Text n) x h = refl
leaf_spelled b (k.Blob n) x h = refl
leaf_spelled b (k.Number n) x h = refl
leaf_spelled b (k.Param n) x h = refl
leaf_spelled b k.Other x h = absurd (cc)

shielded_spelled : (b : Bool) (p : Phrase) → ((c : Bool) → symbols (pieces c p) ≡ spelled p) → symbols (pieces b (shielded p)) ≡ spelled (shielded p)
shielded_spelled b (Leaf (k.Number n) x) h = refl
shielded_spelled b (Negative n) h = refl
shielded_spelled b (Leaf (k.Mark y) x) h = h b
shielded_spelled b (Leaf (k.Name n) x) h = h b
shielded_spelled b (Leaf (k.Text n) x) h = h b
shielded_spelled b (Leaf (k.Blob n) x) h = h b
shielded_spelled b (Leaf (k.Bits n) x) h = h b
shielded_spelled b (Leaf (k.Param n) x) h = h b
shielded_spelled b (Leaf k.Other x) h = h b
shielded_spelled b (Name n) h = h b
shielded_spelled b (Dotted s n) h = h b
shielded_spelled b (NotOf p) h = h b
shielded_spelled b (PlusOf p) h = h b
shielded_spelled b (MinusOf p) h = h b
shielded_spelled b (With p t) h = h b
shielded_spelled b (Inside p) h = h b
shielded_spelled b (CallNone f) h = h b
shielded_spelled b (Call f all) h = h b
shielded_spelled b CountAll h = h b
shielded_spelled b (Cast p n ns s) h = h b
shielded_spelled b (Case s arms o) h = h b

operator_spelled : (op : Operator) → symbols (operator_pieces (one_operator op)) ≡ operator_words (one_operator op)
operator_spelled Or = refl
operator_spelled And = refl
operator_spelled Equal = refl
operator_spelled DoubleEqual = refl
operator_spelled Unequal = refl
operator_spelled BangEqual = refl
operator_spelled Is = refl
operator_spelled IsNot = refl
operator_spelled Like = refl
operator_spelled NotLike = refl
operator_spelled Less = refl
operator_spelled AtMost = refl
operator_spelled Greater = refl
operator_spelled AtLeast = refl
operator_spelled Plus = refl
operator_spelled Minus = refl
operator_spelled Star = refl
operator_spelled Slash = refl
operator_spelled Percent = refl
operator_spelled Bars = refl

test_spelled : (t : Test) → symbols (test_pieces (one_test t)) ≡ test_words (one_test t)
test_spelled IsNull = refl
test_spelled NotNull = refl
test_spelled NotNullApart = refl

not_spelled : (n : Bool) → symbols (not_pieces n) ≡ not_words n
not_spelled true = refl
not_spelled false = refl

names_spelled : (ns : List (List ℕ)) → symbols (names_pieces ns) ≡ names_words ns
names_spelled [] = refl
names_spelled (n ∷ ns) = ap (λ z. k.Name n ∷ z) (names_spelled ns)

within_spelled : (ps : List Piece) (xs : List Symbol) → symbols ps ≡ xs → symbols (ps ++ closing ∷ []) ≡ xs ++ k.Mark m.Close ∷ []
within_spelled ps xs h = spell ps (closing ∷ []) xs (k.Mark m.Close ∷ []) h refl

mutual
  pub have : (b : Bool) (p : Phrase) → IsProper p → symbols (pieces b (printed p)) ≡ spelled (printed p)
  have b (Leaf t x) i = leaf_spelled b t x i
  have b (Negative n) i = number_spelled b (neg_ℤ (pos n))
  have b (Name n) i = refl
  have b (Dotted s n) i = refl
  have b (NotOf p) i = ap (λ z. k.Mark m.Open ∷ z) (within_spelled (word false (codes "NOT") m.Not ∷ pieces true (printed p)) (k.Mark m.Not ∷ spelled (printed p)) (ap (λ z. k.Mark m.Not ∷ z) (have true p i.0)))
  have b (PlusOf p) i = ap (λ z. k.Mark m.Open ∷ z) (within_spelled (sign false (codes "+") m.Plus ∷ pieces false (shielded (printed p))) (k.Mark m.Plus ∷ spelled (shielded (printed p))) (ap (λ z. k.Mark m.Plus ∷ z) (shielded_spelled false (printed p) (λ c. have c p i.0))))
  have b (MinusOf p) i = ap (λ z. k.Mark m.Open ∷ z) (within_spelled (sign false (codes "-") m.Minus ∷ pieces false (shielded (printed p))) (k.Mark m.Minus ∷ spelled (shielded (printed p))) (ap (λ z. k.Mark m.Minus ∷ z) (shielded_spelled false (printed p) (λ c. have c p i.0))))
  have b (With p t) i = ap (λ z. k.Mark m.Open ∷ z) (within_spelled (pieces false (printed p) ++ tail_pieces (printed_tail t)) (spelled (printed p) ++ spelled_tail (printed_tail t))
      (spell (pieces false (printed p)) (tail_pieces (printed_tail t)) (spelled (printed p)) (spelled_tail (printed_tail t)) (have false p i.0) (tail_has t i.1)))
  have b (Inside p) i = have b p i
  have b (CallNone f) i = refl
  have b (Call f all) i = ap (λ z. k.Name f ∷ k.Mark m.Open ∷ z) (within_spelled (all_pieces false (printed_all all)) (spelled_all (printed_all all)) (all_have false all i))
  have b CountAll i = refl
  have b (Cast p n ns s) i = ap (λ z. k.Mark m.Cast ∷ k.Mark m.Open ∷ z)
      (spell (pieces false (printed p)) (word true (codes "AS") m.As ∷ name true n ∷ names_pieces ns ++ closing ∷ []) (spelled (printed p)) (k.Mark m.As ∷ k.Name n ∷ names_words ns ++ k.Mark m.Close ∷ []) (have false p i.0)
      (ap (λ z. k.Mark m.As ∷ k.Name n ∷ z) (within_spelled (names_pieces ns) (names_words ns) (names_spelled ns))))
  have b (Case s arms o) i = ap (λ z. k.Mark m.Case ∷ z)
      (spell (perhaps_pieces (printed_perhaps s) []) (arms_pieces (printed_arms arms) ++ (perhaps_pieces (printed_perhaps o) (word true (codes "ELSE") m.Else ∷ []) ++ word true (codes "END") m.End ∷ []))
      (spelled_perhaps (printed_perhaps s) []) (spelled_arms (printed_arms arms) ++ (spelled_perhaps (printed_perhaps o) (k.Mark m.Else ∷ []) ++ k.Mark m.End ∷ []))
      (perhaps_has s [] [] refl i.0)
      (spell (arms_pieces (printed_arms arms)) (perhaps_pieces (printed_perhaps o) (word true (codes "ELSE") m.Else ∷ []) ++ word true (codes "END") m.End ∷ [])
      (spelled_arms (printed_arms arms)) (spelled_perhaps (printed_perhaps o) (k.Mark m.Else ∷ []) ++ k.Mark m.End ∷ [])
      (arms_have arms i.1)
      (spell (perhaps_pieces (printed_perhaps o) (word true (codes "ELSE") m.Else ∷ [])) (word true (codes "END") m.End ∷ []) (spelled_perhaps (printed_perhaps o) (k.Mark m.Else ∷ [])) (k.Mark m.End ∷ []) (perhaps_has o (word true (codes "ELSE") m.Else ∷ []) (k.Mark m.Else ∷ []) refl i.2) refl)))

  tail_has : (t : Tail) → IsProperTail t → symbols (tail_pieces (printed_tail t)) ≡ spelled_tail (printed_tail t)
  tail_has (Infix op p) i = spell (operator_pieces (one_operator op)) (pieces true (printed p)) (operator_words (one_operator op)) (spelled (printed p)) (operator_spelled op) (have true p i.0)
  tail_has (Tested t) i = test_spelled t
  tail_has (Collated c) i = refl
  tail_has (Among n all) i = spell (not_pieces n) (word true (codes "IN") m.In ∷ opening true ∷ all_pieces false (printed_all all) ++ closing ∷ []) (not_words n) (k.Mark m.In ∷ k.Mark m.Open ∷ spelled_all (printed_all all) ++ k.Mark m.Close ∷ []) (not_spelled n)
      (ap (λ z. k.Mark m.In ∷ k.Mark m.Open ∷ z) (within_spelled (all_pieces false (printed_all all)) (spelled_all (printed_all all)) (all_have false all i)))
  tail_has (Between n low high) i = spell (not_pieces n) (word true (codes "BETWEEN") m.Between ∷ pieces true (printed low) ++ word true (codes "AND") m.And ∷ pieces true (printed high)) (not_words n) (k.Mark m.Between ∷ spelled (printed low) ++ k.Mark m.And ∷ spelled (printed high)) (not_spelled n)
      (ap (λ z. k.Mark m.Between ∷ z) (spell (pieces true (printed low)) (word true (codes "AND") m.And ∷ pieces true (printed high)) (spelled (printed low)) (k.Mark m.And ∷ spelled (printed high)) (have true low i.0) (ap (λ z. k.Mark m.And ∷ z) (have true high i.2))))

  all_have : (b : Bool) (all : Phrases) → AreProper all → symbols (all_pieces b (printed_all all)) ≡ spelled_all (printed_all all)
  all_have b (One p) i = have b p i
  all_have b (And_more p all) i = spell (pieces b (printed p)) (comma ∷ all_pieces true (printed_all all)) (spelled (printed p)) (k.Mark m.Comma ∷ spelled_all (printed_all all)) (have b p i.0) (ap (λ z. k.Mark m.Comma ∷ z) (all_have true all i.1))

  arms_have : (arms : Arms) → AreProperArms arms → symbols (arms_pieces (printed_arms arms)) ≡ spelled_arms (printed_arms arms)
  arms_have (Arm p q) i = ap (λ z. k.Mark m.When ∷ z) (spell (pieces true (printed p)) (word true (codes "THEN") m.Then ∷ pieces true (printed q)) (spelled (printed p)) (k.Mark m.Then ∷ spelled (printed q)) (have true p i.0) (ap (λ z. k.Mark m.Then ∷ z) (have true q i.1)))
  arms_have (And_arms p q arms) i = ap (λ z. k.Mark m.When ∷ z) (spell (pieces true (printed p)) (word true (codes "THEN") m.Then ∷ pieces true (printed q) ++ arms_pieces (printed_arms arms)) (spelled (printed p)) (k.Mark m.Then ∷ spelled (printed q) ++ spelled_arms (printed_arms arms)) (have true p i.0)
      (ap (λ z. k.Mark m.Then ∷ z) (spell (pieces true (printed q)) (arms_pieces (printed_arms arms)) (spelled (printed q)) (spelled_arms (printed_arms arms)) (have true q i.1) (arms_have arms i.2))))

  perhaps_has : (o : Perhaps) (before : List Piece) (words : List Symbol) → symbols before ≡ words → IsProperPerhaps o → symbols (perhaps_pieces (printed_perhaps o) before) ≡ spelled_perhaps (printed_perhaps o) words
  perhaps_has Absent before words h i = refl
  perhaps_has (Present p) before words h i = spell before (pieces true (printed p)) words (spelled (printed p)) h (have true p i)
