-- Signs.
use Rattle.std.proofs.Common.{◌≡◌, ℕ, ◌==◌, Bool, true, false, not, ◌&&◌, ◌||◌, List, [], ◌∷◌, ◌++◌, length, Some, refl, ap, ◌∙◌}
use Rattle.std.specs.List.{list_all}
use Rattle.std.specs.Char.{is_ascii_digit, is_ascii_alphabetic}
use Rattle.cr_lex.specs.declared.token.TokenKind.TheVariants as t
use Rattle.cr_lex.specs.Texts.{is_blank, is_sign, is_pair}
use Rattle.cr_lex.specs.Reading.{first_is, sign_token, token_at, blank_len}
use Rattle.cr_lex.proofs.Parts.{both}
use Rattle.cr_lex.proofs.Classes.{sign_is, pair_is}
use Rattle.cr_tree.specs.declared.symbol.Mark.{Mark}
use Rattle.cr_lex.specs.Marks.{marked, signs}
use Rattle.cr_pieces.specs.Pieces.{may_follow, IsPiece}
use Rattle.cr_pieces.specs.Known.{after_sign, sign}
use Rattle.cr_pieces.proofs.Follows.{neither, not_true, passes}
use Rattle.cr_pieces.proofs.Tables.{as_written, no_letters}

-- one sign or a pair
is_written : List ℕ → Bool
is_written [] = false
is_written (a ∷ []) = is_sign a
is_written (a ∷ b ∷ []) = is_pair a b
is_written (a ∷ b ∷ c ∷ cs) = false

abbrev is_plain : List ℕ → Bool
is_plain w = is_written w && list_all (λ c. not (is_ascii_alphabetic c)) w

all_written : list_all (λ (e : List ℕ × Mark). is_plain e.0) signs ≡ true
unfolding signs is_written
all_written = refl

marked_sign : (w : List ℕ) (mark : Mark) → marked signs w ≡ Some mark → is_written w ≡ true
marked_sign w mark e =
    let a = as_written is_plain signs w mark all_written e in
    let parts = both (is_written a.0) (list_all (λ c. not (is_ascii_alphabetic c)) a.0) a.1 in
    ap is_written (no_letters a.0 w parts.1 a.2) ∙ parts.0

-- ---- read

abbrev Read : List ℕ → List ℕ → Type 0
Read w rest = (token_at (w ++ rest) ≡ (t.Op, length w)) × (blank_len (w ++ rest) ≡ 0)

-- what cannot follow a sign
record Free (a c : ℕ) : Type 0 where
  no_pair : is_pair a c ≡ false
  no_line : (a == 45 && c == 45) ≡ false
  no_block : (a == 47 && c == 42) ≡ false
  no_point : (a == 46 && is_ascii_digit c) ≡ false

free : (a c : ℕ) → after_sign (a ∷ []) 32 ≡ true → (c == 32 || after_sign (a ∷ []) c) ≡ true → Free a c
free a c space fits =
    let none = not_true (is_pair a c || ((a == 45 && c == 45) || ((a == 47 && c == 42) || (a == 46 && is_ascii_digit c)))) (passes (after_sign (a ∷ [])) c space fits) in
    let x = neither (is_pair a c) ((a == 45 && c == 45) || ((a == 47 && c == 42) || (a == 46 && is_ascii_digit c))) none in
    let y = neither (a == 45 && c == 45) ((a == 47 && c == 42) || (a == 46 && is_ascii_digit c)) x.1 in
    let z = neither (a == 47 && c == 42) (a == 46 && is_ascii_digit c) y.1 in
    record { no_pair = x.0; no_line = y.0; no_block = z.0; no_point = z.1 }

one : (a : ℕ) → is_sign a ≡ true → is_blank a ≡ false → after_sign (a ∷ []) 32 ≡ true → (rest : List ℕ) → may_follow (after_sign (a ∷ [])) rest ≡ true
    → (sign_token (a ∷ rest) ≡ (t.Op, 1)) × (blank_len (a ∷ rest) ≡ 0)
unfolding sign_token blank_len
one a sign plain space [] fits = (rw sign refl, rw plain refl)
one a sign plain space (c ∷ cs) fits =
    let f = free a c space fits in
    (rw (f.no_pair, sign) refl, rw (f.no_line, f.no_block, plain) refl)

no_digit : (rest : List ℕ) → may_follow (after_sign (46 ∷ [])) rest ≡ true → first_is is_ascii_digit rest ≡ false
no_digit [] fits = refl
no_digit (c ∷ cs) fits = let f = free 46 c refl fits in f.no_point

point : (rest : List ℕ) → may_follow (after_sign (46 ∷ [])) rest ≡ true → Read (46 ∷ []) rest
unfolding token_at
point rest fits = let o = one 46 refl refl refl rest fits in (rw (no_digit rest fits) o.0, o.1)

single : (a : ℕ) → is_sign a ≡ true → (rest : List ℕ) → may_follow (after_sign (a ∷ [])) rest ≡ true → Read (a ∷ []) rest
unfolding token_at
single a e = sign_is (λ (c : ℕ). (rest : List ℕ) → may_follow (after_sign (c ∷ [])) rest ≡ true → Read (c ∷ []) rest)
    (one 40 refl refl refl) (one 41 refl refl refl) (one 44 refl refl refl) (one 59 refl refl refl) point (one 42 refl refl refl) (one 43 refl refl refl)
    (one 45 refl refl refl) (one 47 refl refl refl) (one 37 refl refl refl) (one 60 refl refl refl) (one 62 refl refl refl) (one 61 refl refl refl) a e

pair : (a b : ℕ) → is_pair a b ≡ true → (rest : List ℕ) → Read (a ∷ b ∷ []) rest
unfolding token_at sign_token blank_len
pair a b e = pair_is (λ (c d : ℕ). (rest : List ℕ) → Read (c ∷ d ∷ []) rest)
    (λ rest. (refl, refl)) (λ rest. (refl, refl)) (λ rest. (refl, refl)) (λ rest. (refl, refl)) (λ rest. (refl, refl)) (λ rest. (refl, refl)) a b e

sign_read : (w rest : List ℕ) → is_written w ≡ true → may_follow (after_sign w) rest ≡ true → Read w rest
unfolding is_written
sign_read [] rest e fits = absurd cc
sign_read (a ∷ []) rest e fits = single a e rest fits
sign_read (a ∷ b ∷ []) rest e fits = pair a b e rest
sign_read (a ∷ b ∷ c ∷ cs) rest e fits = absurd cc

sign_some : (w : List ℕ) → is_written w ≡ true → w ≡ [] → ⊥
unfolding is_written
sign_some [] e none = cc
sign_some (c ∷ cs) e none = cc

pub sign_piece : (apart : Bool) (w : List ℕ) (mark : Mark) → marked signs w ≡ Some mark → IsPiece (sign apart w mark)
sign_piece apart w mark e =
    let is = marked_sign w mark e in
    record {
      some = sign_some w is;
      no_blank = λ rest fits. (sign_read w rest is fits).1;
      one_token = λ rest fits. (sign_read w rest is fits).0;
      one_symbol = λ greatest. rw e refl;
    }
