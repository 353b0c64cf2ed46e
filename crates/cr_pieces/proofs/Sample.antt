-- A known text is put together of tokens.
use Rattle.std.proofs.Common.{◌≡◌, ℕ, zero, suc, true, false, List, [], ◌∷◌, refl, arith}
use Rattle.std.specs.Prelude.{codes}
use Rattle.std.specs.Fmt.{digits}
use Rattle.std.specs.Char.{is_ascii}
use Rattle.std.specs.List.{list_all}
use Rattle.std.specs.Str.{IsAscii, is_utf8}
use Rattle.std.proofs.lemmas.Bool.{ltb-true}
use Rattle.std.proofs.lemmas.Str.{IsUtf8-from_ascii, is_utf8-from_IsUtf8}
use Rattle.cr_lex.proofs.Parts.{both}
use Rattle.hex.specs.Hex.{IsBytes, encode_with}
use Rattle.cr_lex.specs.Tokens.{doubled}
use Rattle.cr_tree.specs.declared.symbol.Mark.TheVariants as m
use Rattle.cr_lex.specs.Marks.{words, signs}
use Rattle.cr_pieces.specs.Pieces.{text, AreWritten}
use Rattle.cr_pieces.specs.Sample.{sample}
use Rattle.cr_pieces.proofs.Quoted.{name_piece, string_piece}
use Rattle.cr_pieces.proofs.Blobs.{blob_piece}
use Rattle.cr_pieces.proofs.Words.{word_piece}
use Rattle.cr_pieces.proofs.Signs.{sign_piece}
use Rattle.cr_pieces.proofs.Digits.{number_piece, param_piece}

pub sample_text : text sample ≡ codes "SELECT \"a\"\"b\", 'it''s', X'0AFF', -10 WHERE \"t\".\"c\" <= ?7"
unfolding sample doubled encode_with digits
sample_text = refl

ascii : (w : List ℕ) → list_all is_ascii w ≡ true → IsAscii w
ascii [] e i = omega arith
ascii (c ∷ cs) e zero = ltb-true c 128 (both (is_ascii c) (list_all is_ascii cs) e).0
ascii (c ∷ cs) e (suc i) = ascii cs (both (is_ascii c) (list_all is_ascii cs) e).1 i

utf8 : (w : List ℕ) → list_all is_ascii w ≡ true → is_utf8 w ≡ true
utf8 w e = is_utf8-from_IsUtf8 w (IsUtf8-from_ascii w (ascii w e))

two_bytes : IsBytes (10 ∷ 255 ∷ [])
two_bytes zero = omega arith
two_bytes (suc zero) = omega arith
two_bytes (suc (suc i)) = omega arith

pub sample_written : AreWritten sample
unfolding sample words signs digits
sample_written = (
  word_piece false (codes "SELECT") m.Select refl,
  refl,
  (
    name_piece true (codes "a\"b") (utf8 (codes "a\"b") refl) refl refl,
    refl,
    (
      sign_piece false (codes ",") m.Comma refl,
      refl,
      (
        string_piece true (codes "it's") (utf8 (codes "it's") refl) refl,
        refl,
        (
          sign_piece false (codes ",") m.Comma refl,
          refl,
          (
            blob_piece true (10 ∷ 255 ∷ []) two_bytes,
            refl,
            (
              sign_piece false (codes ",") m.Comma refl,
              refl,
              (
                sign_piece true (codes "-") m.Minus refl,
                refl,
                (
                  number_piece false 10 (omega arith),
                  refl,
                  (
                    word_piece true (codes "WHERE") m.Where refl,
                    refl,
                    (
                      name_piece true (codes "t") (utf8 (codes "t") refl) refl refl,
                      refl,
                      (
                        sign_piece false (codes ".") m.Dot refl,
                        refl,
                        (
                          name_piece false (codes "c") (utf8 (codes "c") refl) refl refl,
                          refl,
                          (
                            sign_piece true (codes "<=") m.AtMost refl,
                            refl,
                            (param_piece true 7 (omega arith), refl, tt),
                          ),
                        ),
                      ),
                    ),
                  ),
                ),
              ),
            ),
          ),
        ),
      ),
    ),
  ),
)
