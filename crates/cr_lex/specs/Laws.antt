-- Laws of tokens and their symbols. Source: this project's own.
use Rattle.std.specs.Prelude.{◌≡◌, ℕ, ◌&&◌, not, List, [], ◌∷◌, ◌++◌, length, slice_range}
use Rattle.std.specs.List.{AllByRecursion}
use Rattle.std.specs.Str.{IsUtf8, IsCharBoundary, is_utf8, str_to_ascii_lowercase}
use Rattle.cr_lex.specs.declared.token.Token.{Token}
use Rattle.cr_lex.specs.Tokens.{IsTokens, doubled}
use Rattle.cr_tree.specs.Reading.{is_name}
use Rattle.cr_lex.specs.Marks.{is_keyword}
use Rattle.cr_lex.specs.Spelling.{inside, undoubled}
use Rattle.cr_lex.specs.Symbols.{symbols_of, word_symbol}

-- ---- tokens

-- a text has at most one list of tokens
abbrev pub OneList : Type 0
OneList = (text : List ℕ) (some others : List Token) → IsTokens text 0 some → IsTokens text 0 others → some ≡ others

-- It begins and ends at a character's boundary, so that the slice of the text that it is, is UTF-8 too.
abbrev pub IsOfWholeCharacters : List ℕ → Token → Type 0
IsOfWholeCharacters text t = IsCharBoundary text t.from × IsCharBoundary text t.to × IsUtf8 (slice_range text t.from t.to)

-- each token of a text in UTF-8 is
abbrev pub TokensCutNoCharacter : Type 0
TokensCutNoCharacter = (text : List ℕ) (tokens : List Token) → IsUtf8 text → IsTokens text 0 tokens → AllByRecursion (IsOfWholeCharacters text) tokens

-- ---- symbols

-- what was put in quotes comes out of them
abbrev pub QuotesComeOff : Type 0
QuotesComeOff = (quote : ℕ) (w : List ℕ) → undoubled quote (inside 1 (quote ∷ doubled quote w ++ quote ∷ [])) ≡ w

-- a word that is in UTF-8 is a name just where it is no keyword
abbrev pub KeywordsAreNoNames : Type 0
KeywordsAreNoNames = (w : List ℕ) → is_name (word_symbol w) ≡ (not (is_keyword w) && is_utf8 (str_to_ascii_lowercase w))

-- each token has one symbol
abbrev pub OneEach : Type 0
OneEach = (source : List ℕ) (tokens : List Token) → length (symbols_of source tokens) ≡ length tokens
