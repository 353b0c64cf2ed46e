-- The words of the grammar.
use Rattle.std.proofs.Common.{◌≡◌, ℕ, suc, ◌+◌, ◌≤◌, ◌==◌, Bool, true, false, cond, leb, ◌&&◌, ◌||◌, List, [], ◌∷◌, ◌++◌, length, drop, Some, refl, ap, ◌∙◌, arith}
use Rattle.std.specs.Prelude.{slice_index}
use Rattle.std.specs.List.{prefix_len, list_all}
use Rattle.std.specs.Char.{is_ascii_uppercase}
use Rattle.std.proofs.lemmas.Bool.{leb-true}
use Rattle.cr_lex.specs.declared.token.TokenKind.TheVariants as t
use Rattle.cr_lex.specs.Texts.{is_start, is_more}
use Rattle.cr_lex.specs.Tokens.{Each}
use Rattle.cr_lex.specs.Reading.{first_is, blob_token, token_at, blank_len}
use Rattle.cr_lex.proofs.Parts.{both, other_than, run_exact}
use Rattle.cr_lex.proofs.Classes.{start_no_digit}
use Rattle.cr_tree.specs.declared.symbol.Mark.{Mark}
use Rattle.cr_tree.specs.declared.symbol.Symbol.TheVariants as k
use Rattle.cr_lex.specs.Marks.{marked, words}
use Rattle.cr_lex.specs.Symbols.{symbol}
use Rattle.cr_pieces.specs.Pieces.{IsPiece}
use Rattle.cr_pieces.specs.Known.{word}
use Rattle.cr_pieces.proofs.Follows.{begins_blank, no_blank_at, passed_over, stops}
use Rattle.cr_pieces.proofs.Tables.{as_written, letters}

-- two letters of upper case or more
is_capitals : List ℕ → Bool
is_capitals w = leb 2 (length w) && list_all is_ascii_uppercase w

all_capitals : list_all (λ (e : List ℕ × Mark). is_capitals e.0) words ≡ true
unfolding words is_capitals
all_capitals = refl

-- two letters or more
record Letters (w : List ℕ) : Type 0 where
  long : 2 ≤ length w
  each : list_all is_start w ≡ true

marked_letters : (w : List ℕ) (mark : Mark) → marked words w ≡ Some mark → Letters w
unfolding is_capitals
marked_letters w mark e =
    let a = as_written is_capitals words w mark all_capitals e in
    let parts = both (leb 2 (length a.0)) (list_all is_ascii_uppercase a.0) a.1 in
    let l = letters a.0 w parts.1 a.2 in
    record { long = omega (arith, leb-true 2 (length a.0) parts.0, l.1); each = l.0 }

-- ---- read

each_more : (w : List ℕ) → list_all is_start w ≡ true → Each is_more w
each_more [] e = refl
each_more (c ∷ cs) e = let parts = both (is_start c) (list_all is_start cs) e in rw parts.0 (each_more cs parts.1)

word_first : (c : ℕ) (cs : List ℕ) → is_start c ≡ true → token_at (c ∷ cs) ≡ cond ((c == 120 || c == 88) && first_is (λ q. q == 39) cs) (blob_token (drop 1 cs)) (t.Ident, 1 + prefix_len is_more cs)
unfolding token_at
word_first c cs e =
    rw (other_than is_start c 39 e refl, other_than is_start c 34 e refl, other_than is_start c 96 e refl, other_than is_start c 91 e refl, start_no_digit c e, other_than is_start c 46 e refl, e) refl

word_read : (w rest : List ℕ) → Letters w → first_is is_more rest ≡ false → token_at (w ++ rest) ≡ (t.Ident, length w)
word_read [] rest l stop = absurd (omega (arith, l.long))
word_read (c ∷ []) rest l stop = absurd (omega (arith, l.long))
word_read (c ∷ d ∷ more) rest l stop =
    let parts = both (is_start c) (list_all is_start (d ∷ more)) l.each in
    let second = (both (is_start d) (list_all is_start more) parts.1).0 in
    let run = run_exact is_more (d ∷ more) rest (each_more (d ∷ more) parts.1) stop in
    let long : 1 + prefix_len is_more ((d ∷ more) ++ rest) ≡ suc (suc (length more)) = omega (arith, run) in
    word_first c ((d ∷ more) ++ rest) parts.0
    ∙ passed_over (c == 120 || c == 88) (d == 39) (blob_token (more ++ rest)) (t.Ident, 1 + prefix_len is_more ((d ∷ more) ++ rest)) (other_than is_start d 39 second refl)
    ∙ ap (λ (n : ℕ). (t.Ident, n)) long

start_no_blank : (c : ℕ) → is_start c ≡ true → begins_blank c ≡ false
start_no_blank c e =
    rw (other_than is_start c 9 e refl, other_than is_start c 10 e refl, other_than is_start c 12 e refl, other_than is_start c 13 e refl, other_than is_start c 32 e refl, other_than is_start c 45 e refl, other_than is_start c 47 e refl) refl

word_no_blank : (w rest : List ℕ) → Letters w → blank_len (w ++ rest) ≡ 0
word_no_blank [] rest l = absurd (omega (arith, l.long))
word_no_blank (c ∷ cs) rest l = no_blank_at c (cs ++ rest) (start_no_blank c (both (is_start c) (list_all is_start cs) l.each).0)

word_some : (w : List ℕ) → Letters w → w ≡ [] → ⊥
word_some w l e = let none : length w ≡ 0 = ap length e in omega (arith, l.long, none)

first_starts : (w : List ℕ) → Letters w → is_start (slice_index w 0) ≡ true
first_starts [] l = absurd (omega (arith, l.long))
first_starts (c ∷ cs) l = (both (is_start c) (list_all is_start cs) l.each).0

word_means : (greatest : ℕ) (w : List ℕ) (mark : Mark) → marked words w ≡ Some mark → is_start (slice_index w 0) ≡ true → symbol t.Ident greatest w ≡ k.Mark mark
word_means greatest w mark e start =
    rw (other_than is_start (slice_index w 0) 34 start refl, other_than is_start (slice_index w 0) 96 start refl, other_than is_start (slice_index w 0) 91 start refl, e) refl

pub word_piece : (apart : Bool) (w : List ℕ) (mark : Mark) → marked words w ≡ Some mark → IsPiece (word apart w mark)
word_piece apart w mark e =
    let l = marked_letters w mark e in
    record {
      some = word_some w l;
      no_blank = λ rest fits. word_no_blank w rest l;
      one_token = λ rest fits. word_read w rest l (stops is_more rest refl fits);
      one_symbol = λ greatest. word_means greatest w mark e (first_starts w l);
    }
