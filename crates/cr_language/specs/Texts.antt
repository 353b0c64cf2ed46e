-- The tokens of a text, one after another: each text has some. Source: this project's own.
use Rattle.std.specs.Prelude.{ℕ, zero, suc, ◌+◌, nat_lt, List, [], ◌∷◌, length, drop, if◌then◌else◌}
use Rattle.cr_lex.specs.declared.token.Token.{Token}
use Rattle.cr_lex.specs.declared.token.TokenKind.{TokenKind}
use Rattle.cr_lex.specs.Tokens.{IsTokens}
use Rattle.cr_lex.specs.Reading.{token_at, blank_len}

-- a gap goes on behind the blank or comment at its front, and ends where there is none
abbrev pub gap_on : (ℕ → ℕ) → ℕ → ℕ → ℕ
gap_on further from zero = from
gap_on further from (suc n) = further (from + suc n)

-- where the gap from a place on ends, in so many turns
unfoldable pub gap_in : ℕ → List ℕ → ℕ → ℕ
gap_in zero text from = from
gap_in (suc n) text from = gap_on (gap_in n text) from (blank_len (drop from text))

abbrev pub gap_end : List ℕ → ℕ → ℕ
gap_end text from = gap_in (length text) text from

abbrev pub token : ℕ → TokenKind × ℕ → Token
token at t = record { kind = t.0; from = at; to = at + t.1 }

-- the token at a place, and those behind it
abbrev pub token_and : (ℕ → List Token) → List ℕ → ℕ → List Token
token_and further text at = token at (token_at (drop at text)) ∷ further (at + (token_at (drop at text)).1)

abbrev pub tokens_from : (ℕ → List Token) → List ℕ → ℕ → List Token
tokens_from further text at = if nat_lt at (length text) then token_and further text at else []

-- the tokens from a place on, in so many turns
unfoldable pub tokens_in : ℕ → List ℕ → ℕ → List Token
tokens_in zero text from = []
tokens_in (suc n) text from = tokens_from (tokens_in n text) text (gap_end text from)

abbrev pub tokens_of : List ℕ → List Token
tokens_of text = tokens_in (suc (length text)) text 0

-- they are the text's
abbrev pub TextsHaveTokens : Type 0
TextsHaveTokens = (text : List ℕ) → IsTokens text 0 (tokens_of text)
