-- Texts that are put together of tokens. Source: this project's own.
use Rattle.std.specs.Prelude.{◌≡◌, ◌≢◌, ℕ, ◌+◌, Bool, true, ◌||◌, ◌==◌, List, [], ◌∷◌, ◌++◌, length, IsTrue, if◌then◌else◌}
use Rattle.cr_lex.specs.declared.token.TokenKind.{TokenKind}
use Rattle.cr_lex.specs.declared.token.Token.{Token}
use Rattle.cr_lex.specs.Reading.{token_at, blank_len}
use Rattle.cr_tree.specs.declared.symbol.Symbol.{Symbol}
use Rattle.cr_lex.specs.Symbols as s

-- A token as it is written: whether a space stands before it, its kind, its bytes, the symbol that it has, and which bytes
-- may stand right behind it.
pub record Piece : Type 0 where
  pub apart : Bool
  pub kind : TokenKind
  pub bytes : List ℕ
  pub symbol : Symbol
  pub next : ℕ → Bool

-- ---- what is put together

-- behind a space, if it stands apart
abbrev pub written : Piece → List ℕ
written p = if p.apart then 32 ∷ p.bytes else p.bytes

abbrev pub text : List Piece → List ℕ
text [] = []
text (p ∷ ps) = written p ++ text ps

abbrev pub symbols : List Piece → List Symbol
symbols [] = []
symbols (p ∷ ps) = p.symbol ∷ symbols ps

-- where the bytes of a piece begin that is written at a place
abbrev pub start : ℕ → Piece → ℕ
start at p = if p.apart then at + 1 else at

abbrev pub token : ℕ → Piece → Token
token from p = record { kind = p.kind; from = from; to = from + length p.bytes }

-- from a place on
abbrev pub tokens : ℕ → List Piece → List Token
tokens at [] = []
tokens at (p ∷ ps) = token (start at p) p ∷ tokens (start at p + length p.bytes) ps

-- ---- what is written so

-- nothing, or what begins with a space or with a byte that passes
abbrev pub may_follow : (ℕ → Bool) → List ℕ → Bool
may_follow next [] = true
may_follow next (c ∷ cs) = c == 32 || next c

-- Before all that may follow, the bytes are one token of the kind, and wherever they stand they have the symbol.
pub record IsPiece (p : Piece) : Type 0 where
  pub some : p.bytes ≢ []
  pub no_blank : (rest : List ℕ) → IsTrue (may_follow p.next rest) → blank_len (p.bytes ++ rest) ≡ 0
  pub one_token : (rest : List ℕ) → IsTrue (may_follow p.next rest) → token_at (p.bytes ++ rest) ≡ (p.kind, length p.bytes)
  pub one_symbol : (greatest : ℕ) → s.symbol p.kind greatest p.bytes ≡ p.symbol

-- Each is a token by itself, and may stand before what follows it.
abbrev pub AreWritten : List Piece → Type 0
AreWritten [] = Unit {0}
AreWritten (p ∷ ps) = IsPiece p × IsTrue (may_follow p.next (text ps)) × AreWritten ps

-- the last of the pieces may stand before what follows
abbrev pub may_end : List Piece → List ℕ → Bool
may_end [] rest = true
may_end (p ∷ []) rest = may_follow p.next rest
may_end (p ∷ q ∷ ps) rest = may_end (q ∷ ps) rest

-- the pieces behind a space
abbrev pub spaced : List Piece → List Piece
spaced [] = []
spaced (p ∷ ps) = record p { apart = true } ∷ ps
