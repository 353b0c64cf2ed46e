-- Laws of texts that are put together of tokens. Source: this project's own.
use Rattle.std.specs.Prelude.{◌≡◌, ℕ, ℤ, ◌≤◌, Bool, List, Some, IsTrue, FitsSigned, codes}
use Rattle.std.specs.Int.{w64}
use Rattle.std.specs.Fmt.{signed_decimal}
use Rattle.std.specs.Str.{is_utf8, str_to_ascii_lowercase}
use Rattle.hex.specs.Hex.{IsBytes}
use Rattle.cr_lex.specs.declared.token.Token.{Token}
use Rattle.cr_lex.specs.Tokens.{IsTokens, is_legal}
use Rattle.cr_tree.specs.declared.symbol.Mark.{Mark}
use Rattle.cr_tree.specs.declared.symbol.Symbol.{Symbol}
use Rattle.cr_lex.specs.Marks.{marked, words, signs}
use Rattle.cr_lex.specs.Symbols.{symbols_of}
use Rattle.cr_pieces.specs.Pieces.{Piece, text, symbols, tokens, IsPiece, AreWritten}
use Rattle.cr_pieces.specs.Spelled.{Spells}
use Rattle.cr_pieces.specs.Known.{name, string, word, sign, number, blob, param, after_number, integer}
use Rattle.cr_pieces.specs.Sample.{sample}

-- What is written so has just these tokens, and they have these symbols.
abbrev pub WrittenIsRead : Type 0
WrittenIsRead = (ps : List Piece) → AreWritten ps → IsTokens (text ps) 0 (tokens 0 ps) × (symbols_of (text ps) (tokens 0 ps) ≡ symbols ps)

-- So has each list of tokens of such a text, however it was found.
abbrev pub ReadOneWay : Type 0
ReadOneWay = (ps : List Piece) → AreWritten ps → (found : List Token) → IsTokens (text ps) 0 found → (found ≡ tokens 0 ps) × (symbols_of (text ps) found ≡ symbols ps)

-- What spells symbols has these, however its tokens were found.
abbrev pub SpelledIsRead : Type 0
SpelledIsRead = (bytes : List ℕ) (wanted : List Symbol) (next : ℕ → Bool) → Spells bytes wanted next → (found : List Token) → IsTokens bytes 0 found → symbols_of bytes found ≡ wanted

abbrev pub SampleIsWritten : Type 0
SampleIsWritten = AreWritten sample × (text sample ≡ codes "SELECT \"a\"\"b\", 'it''s', X'0AFF', -10 WHERE \"t\".\"c\" <= ?7")

-- a name without letters of upper case
abbrev pub NamesArePieces : Type 0
NamesArePieces = (apart : Bool) (w : List ℕ) → IsTrue (is_utf8 w) → IsTrue (is_legal w) → str_to_ascii_lowercase w ≡ w → IsPiece (name apart w)

abbrev pub StringsArePieces : Type 0
StringsArePieces = (apart : Bool) (w : List ℕ) → IsTrue (is_utf8 w) → IsTrue (is_legal w) → IsPiece (string apart w)

-- a word that the grammar marks, in whatever case it is written
abbrev pub WordsArePieces : Type 0
WordsArePieces = (apart : Bool) (w : List ℕ) (mark : Mark) → marked words w ≡ Some mark → IsPiece (word apart w mark)

abbrev pub SignsArePieces : Type 0
SignsArePieces = (apart : Bool) (w : List ℕ) (mark : Mark) → marked signs w ≡ Some mark → IsPiece (sign apart w mark)

abbrev pub NumbersArePieces : Type 0
NumbersArePieces = (apart : Bool) (n : ℕ) → n ≤ 9223372036854775808 → IsPiece (number apart n)

abbrev pub BlobsArePieces : Type 0
BlobsArePieces = (apart : Bool) (bytes : List ℕ) → IsBytes bytes → IsPiece (blob apart bytes)

abbrev pub ParamsArePieces : Type 0
ParamsArePieces = (apart : Bool) (n : ℕ) → n ≤ 1000 → IsPiece (param apart n)

-- an integer as it is printed
abbrev pub IntegersAreSpelled : Type 0
IntegersAreSpelled = (z : ℤ) → FitsSigned w64 z → Spells (signed_decimal z) (integer z) after_number
