-- Blobs.
use Rattle.std.proofs.Common.{◌≡◌, ℕ, suc, ◌+◌, ◌-◌, ◌/◌, ◌%◌, ◌<◌, ◌==◌, Bool, true, false, cond, not, ltb, ◌||◌, List, [], ◌∷◌, ◌++◌, length, take, slice_index, Option, Some, None, refl, ap, ◌∙◌, append_assoc, arith}
use Rattle.std.specs.List.{prefix_len, list_all}
use Rattle.std.specs.Char.{is_ascii_hexdigit}
use Rattle.std.specs.Int.{is_in_range}
use Rattle.std.proofs.lemmas.Bool.{eq-eqb, lt-ltb}
use Rattle.std.proofs.lemmas.List.{length-append}
use Rattle.hex.specs.Hex.{IsBytes, hex_digit_value, upper_digits, encode_with, encode_upper, decode_of}
use Rattle.hex.proofs.HexLemmas.{IsDigits, IsDigits-upper_digits, length-encode_with, decode_of-encode_upper}
use Rattle.cr_lex.specs.declared.token.TokenKind.TheVariants as t
use Rattle.cr_lex.specs.Tokens.{Each}
use Rattle.cr_lex.specs.Reading.{blob_token, token_at}
use Rattle.cr_lex.proofs.Parts.{both, other_than, run_exact, take_front}
use Rattle.cr_tree.specs.declared.symbol.Symbol.TheVariants as k
use Rattle.cr_lex.specs.Symbols.{symbol, decoded}
use Rattle.cr_pieces.specs.Pieces.{IsPiece}
use Rattle.cr_pieces.specs.Known.{blob}
use Rattle.cr_pieces.proofs.Follows.{no_blank_at}

-- ---- the digits of bytes

one_of : (x y z : Bool) (a b c d : ℕ) → ◌≡◌ {A = Option ℕ} (cond x (Some a) (cond y (Some b) (cond z (Some c) None))) (Some d) → ((z || x) || y) ≡ true
one_of true y true a b c d e = refl
one_of true y false a b c d e = refl
one_of false true true a b c d e = refl
one_of false true false a b c d e = refl
one_of false false true a b c d e = refl
one_of false false false a b c d e = absurd cc

hex_digit : (c d : ℕ) → hex_digit_value c ≡ Some d → is_ascii_hexdigit c ≡ true
hex_digit c d e = one_of (is_in_range 65 70 c) (is_in_range 97 102 c) (is_in_range 48 57 c) (c - 55) (c - 87) (c - 48) d e

each_hex : (digits : List ℕ) → IsDigits digits → (bytes : List ℕ) → IsBytes bytes → Each is_ascii_hexdigit (encode_with digits bytes)
unfolding encode_with
each_hex digits are [] h = refl
each_hex digits are (b ∷ bytes) h =
    let fits : b < 256 = h 0 in
    let high : b / 16 < 16 = omega arith in
    let low : b % 16 < 16 = omega arith in
    rw (hex_digit (slice_index digits (b / 16)) (b / 16) (are (b / 16) high), hex_digit (slice_index digits (b % 16)) (b % 16) (are (b % 16) low)) (each_hex digits are bytes (λ i. h (suc i)))

even : (bytes : List ℕ) → (length (encode_upper bytes) % 2 == 0) ≡ true
even bytes = let len = length-encode_with upper_digits bytes in eq-eqb (length (encode_upper bytes) % 2) 0 (omega (arith, len))

-- ---- read

no_quote : (w : List ℕ) → Each is_ascii_hexdigit w → Each (λ c. not (c == 39)) w
no_quote [] e = refl
no_quote (c ∷ cs) e = let parts = both (is_ascii_hexdigit c) (list_all is_ascii_hexdigit cs) e in rw (other_than is_ascii_hexdigit c 39 parts.0 refl) (no_quote cs parts.1)

blob_read : (w rest : List ℕ) → Each is_ascii_hexdigit w → (length w % 2 == 0) ≡ true → token_at (88 ∷ 39 ∷ ((w ++ 39 ∷ []) ++ rest)) ≡ (t.Blob, suc (suc (length (w ++ 39 ∷ []))))
unfolding token_at blob_token
blob_read w rest each is_even =
    let body = w ++ 39 ∷ [] in
    let cs = body ++ rest in
    let split : cs ≡ w ++ 39 ∷ rest = append_assoc w (39 ∷ []) rest in
    let n : prefix_len (λ c. not (c == 39)) cs ≡ length w = ap (prefix_len (λ c. not (c == 39))) split ∙ run_exact (λ c. not (c == 39)) w (39 ∷ rest) (no_quote w each) refl in
    let m : length w + 1 ≡ length body = omega (arith, length-append w (39 ∷ [])) in
    let lt : ltb (length w) (length cs) ≡ true = lt-ltb _ _ (omega (arith, m, length-append body rest)) in
    let taken : take (length w) cs ≡ w = ap (take (length w)) split ∙ take_front w (39 ∷ rest) in
    let long : length w + 3 ≡ suc (suc (length body)) = omega (arith, m) in
    rw (n, lt, taken, is_even, each) (ap (λ (i : ℕ). (t.Blob, i)) long)

-- ---- what is inside

within : (w : List ℕ) (quote : ℕ) → take (length (w ++ quote ∷ []) - 1) (w ++ quote ∷ []) ≡ w
within w quote =
    let n : length (w ++ quote ∷ []) - 1 ≡ length w = omega (arith, length-append w (quote ∷ [])) in
    ap (λ (i : ℕ). take i (w ++ quote ∷ [])) n ∙ take_front w (quote ∷ [])

blob_means : (greatest : ℕ) (bytes : List ℕ) → IsBytes bytes → symbol t.Blob greatest (88 ∷ 39 ∷ encode_upper bytes ++ 39 ∷ []) ≡ k.Blob bytes
blob_means greatest bytes h = ap (λ (w : List ℕ). decoded (decode_of w)) (within (encode_upper bytes) 39) ∙ ap decoded (decode_of-encode_upper bytes h)

pub blob_piece : (apart : Bool) (bytes : List ℕ) → IsBytes bytes → IsPiece (blob apart bytes)
blob_piece apart bytes h = record {
  some = λ e. cc;
  no_blank = λ rest fits. no_blank_at 88 (39 ∷ ((encode_upper bytes ++ 39 ∷ []) ++ rest)) refl;
  one_token = λ rest fits. blob_read (encode_upper bytes) rest (each_hex upper_digits IsDigits-upper_digits bytes h) (even bytes);
  one_symbol = λ greatest. blob_means greatest bytes h;
}
