-- A script, statement by statement. Source: SQLite's "An Introduction To The SQLite C/C++ Interface": each call reads one
-- statement and tells where the next one begins. That empty statements are left out is this project's own.
use Rattle.std.specs.Prelude.{ℕ, zero, suc, ◌+◌, List, [], ◌∷◌, length, drop, Option, Some, None, Result, Ok, Err}
use Rattle.std.specs.List.{prefix_len}
use Rattle.cr_lex.specs.declared.token.Token.{Token}
use Rattle.cr_tree.specs.declared.statement.Statement.{Statement}
use Rattle.cr_statement.specs.declared.error.SqlError.{SqlError}
use Rattle.cr_statement.specs.Sql.{Refusal, is_semicolon, judged, told, says}

-- how many `;` stand at the front
abbrev pub semicolons : List ℕ → List Token → ℕ
semicolons source tokens = prefix_len (is_semicolon source) tokens

-- what is told of a statement that stands behind so many tokens
abbrev pub behind : ℕ → Result (Statement × ℕ) Refusal → Result (Option (Statement × ℕ)) Refusal
behind n (Ok x) = Ok (Some (x.0, n + x.1))
behind n (Err r) = Err r

abbrev pub next_at : List ℕ → ℕ → List Token → Result (Option (Statement × ℕ)) Refusal
next_at source n [] = Ok None
next_at source n (t ∷ ts) = behind n (told source (t ∷ ts) (judged source (t ∷ ts)))

-- The next statement, and how many tokens stand up to its end; or why it is refused; or none, where no token but `;` is
-- left.
abbrev pub next : List ℕ → List Token → Result (Option (Statement × ℕ)) Refusal
next source tokens = next_at source (semicolons source tokens) (drop (semicolons source tokens) tokens)

-- what an answer says
abbrev pub says_next : Result (Option (Statement × ℕ)) SqlError → Result (Option (Statement × ℕ)) Refusal
says_next (Ok x) = Ok x
says_next (Err e) = Err (says e)

-- a statement of a script, or why none is read from there on
pub data Piece : Type 0 where
  Reads : Statement → Piece
  Refused : Refusal → Piece

-- what the next statement comes to, where these are the pieces of other tokens
abbrev pub piece_and : (List Token → List Piece) → List Token → Result (Option (Statement × ℕ)) Refusal → List Piece
piece_and further tokens (Ok None) = []
piece_and further tokens (Ok (Some x)) = Reads x.0 ∷ further (drop x.1 tokens)
piece_and further tokens (Err r) = Refused r ∷ []

-- the pieces of a script, in so many turns
unfoldable pub pieces_in : ℕ → List ℕ → List Token → List Piece
pieces_in zero source tokens = []
pieces_in (suc n) source tokens = piece_and (pieces_in n source) tokens (next source tokens)

-- its statements in order, up to the first that is refused
abbrev pub pieces : List ℕ → List Token → List Piece
pieces source tokens = pieces_in (length tokens) source tokens
