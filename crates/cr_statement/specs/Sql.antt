-- The statement at the front of a script's tokens, and how it is refused. Source: this project's own.
use Rattle.std.specs.Prelude.{◌≡◌, ℕ, ◌-◌, Bool, ◌&&◌, not, List, length, slice_get, Option, Some, None, Result, Ok, Err, codes}
use Rattle.std.specs.List.{take_while}
use Rattle.std.specs.Option.{option_map_or}
use Rattle.std.specs.Str.{bytes_eq}
use Rattle.cr_lex.specs.declared.token.Token.{Token}
use Rattle.cr_lex.specs.Spelling.{spelling}
use Rattle.cr_lex.specs.Symbols.{symbols_of}
use Rattle.cr_lex.specs.Outside.{is_op, outside_of}
use Rattle.cr_tree.specs.declared.limits.LimitKind.{LimitKind}
use Rattle.cr_tree.specs.declared.limits.TheConstants.{LIMITS}
use Rattle.cr_tree.specs.declared.symbol.Symbol.{Symbol}
use Rattle.cr_tree.specs.Judging.{IsRead, IsBadPlace}
use Rattle.cr_parse.specs.declared.error.ParseError.{ParseError}
use Rattle.cr_parse.specs.declared.error.ParseError.TheVariants as p
use Rattle.cr_parse.specs.Judge.{judge}
use Rattle.cr_tree.specs.declared.statement.Statement.{Statement}
use Rattle.cr_statement.specs.Statements as language
use Rattle.cr_statement.specs.Whole as whole
use Rattle.cr_statement.specs.declared.error.SqlError.{SqlError}
use Rattle.cr_statement.specs.declared.error.SqlError.TheVariants as s

-- ---- which tokens

-- the token is the sign `;`
abbrev pub is_semicolon : List ℕ → Token → Bool
is_semicolon source token = is_op token.kind && bytes_eq (spelling source token) (codes ";")

-- the tokens before the first `;`, or all
abbrev pub statement_tokens : List ℕ → List Token → List Token
statement_tokens source tokens = take_while (λ t. not (is_semicolon source t)) tokens

-- what the grammar sees of them
abbrev pub statement_symbols : List ℕ → List Token → List Symbol
statement_symbols source tokens = symbols_of source (statement_tokens source tokens)

-- They are a statement with this tree, within the limits, and are so many.
abbrev pub IsStatement : List ℕ → List Token → Statement → ℕ → Type 0
IsStatement source tokens tree n = IsRead language.statement (statement_symbols source tokens) tree × (n ≡ length (statement_tokens source tokens))

-- ---- refusals

-- the byte where a token begins, or, past the end, where the last one ends
abbrev pub place_of : List Token → ℕ → ℕ
place_of tokens at = option_map_or (λ t. t.from) (slice_get tokens at) (option_map_or (λ t. t.to) (slice_get tokens (length tokens - 1)) 0)

-- the word by which a token of the statement is told as out of this SQL
abbrev pub word_of : List ℕ → List Token → ℕ → Option (List ℕ)
word_of source tokens at = outside_of source (statement_tokens source tokens) at

-- The statement goes wrong at a token that is not out of this SQL, or at its end; and this is the byte.
pub record IsSyntaxAt (source : List ℕ) (tokens : List Token) (place : ℕ) : Type 0 where
  pub at : ℕ
  pub bad : IsBadPlace language.statement (statement_symbols source tokens) at
  pub no_word : word_of source tokens at ≡ None
  pub stands : place ≡ place_of tokens at

-- It goes wrong at a token that is out of this SQL, by this word.
pub record IsOutOfProfile (source : List ℕ) (tokens : List Token) (word : List ℕ) : Type 0 where
  pub at : ℕ
  pub bad : IsBadPlace language.statement (statement_symbols source tokens) at
  pub named : word_of source tokens at ≡ Some word

-- ---- answers

-- what the parser says of the statement's symbols
abbrev pub judged : List ℕ → List Token → Result Statement ParseError
judged source tokens = judge (statement_symbols source tokens) (whole.statement LIMITS (statement_symbols source tokens))

-- why a statement is refused, the word as a text
pub data Refusal : Type 0 where
  Memory : Refusal
  Syntax : ℕ → Refusal
  OutOfProfile : List ℕ → Refusal
  Limit : LimitKind → Refusal

-- how a statement is refused that goes wrong at so many tokens from its front
abbrev pub refused : List ℕ → List Token → ℕ → Refusal
refused source tokens at = option_map_or OutOfProfile (word_of source tokens at) (Syntax (place_of tokens at))

-- what is told of a statement of which the parser says so
abbrev pub told : List ℕ → List Token → Result Statement ParseError → Result (Statement × ℕ) Refusal
told source tokens (Ok tree) = Ok (tree, length (statement_tokens source tokens))
told source tokens (Err (p.Syntax at)) = Err (refused source tokens at)
told source tokens (Err (p.Limit which)) = Err (Limit which)
told source tokens (Err p.Memory) = Err Memory

-- what an error says
abbrev pub says : SqlError → Refusal
says s.Memory = Memory
says (s.Syntax place) = Syntax place
says (s.OutOfProfile word) = OutOfProfile word.now
says (s.Limit which) = Limit which

-- what an answer says
abbrev pub answers : Result (Statement × ℕ) SqlError → Result (Statement × ℕ) Refusal
answers (Ok x) = Ok x
answers (Err e) = Err (says e)
