-- Laws of answers about statements. Source: this project's own.
use Rattle.std.specs.Prelude.{◌≡◌, ◌≢◌, ℕ, List, Result, Err, IfOk}
use Rattle.std.specs.Borrow.{Bor}
use Rattle.cr_lex.specs.declared.token.Token.{Token}
use Rattle.cr_tree.specs.declared.limits.LimitKind.{LimitKind}
use Rattle.cr_tree.specs.declared.statement.Statement.{Statement}
use Rattle.cr_tree.specs.Judging.{MeetsLimit}
use Rattle.cr_statement.specs.Statements as language
use Rattle.cr_statement.specs.declared.error.SqlError.{SqlError}
use Rattle.cr_statement.specs.declared.error.SqlError.TheVariants as s
use Rattle.cr_statement.specs.Sql.{statement_symbols, judged, told, answers, IsStatement, IsSyntaxAt, IsOutOfProfile}

-- An answer about the statement at the front of a source's tokens is true by the grammar, or tells that memory ran out.
pub record IsTrueAnswer (source : List ℕ) (tokens : List Token) (r : Result (Statement × ℕ) SqlError) : Type 0 where
  pub read : IfOk r (λ x. IsStatement source tokens x.0 x.1)
  pub syntax : (at : ℕ) → r ≡ Err (s.Syntax at) → IsSyntaxAt source tokens at
  pub outside : (word : Bor (List ℕ)) → r ≡ Err (s.OutOfProfile word) → IsOutOfProfile source tokens word.now
  pub limit : (which : LimitKind) → r ≡ Err (s.Limit which) → MeetsLimit which language.statement (statement_symbols source tokens)

-- it says what is told of the outcome that is judged
abbrev pub SaysJudged : List ℕ → List Token → Result (Statement × ℕ) SqlError → Type 0
SaysJudged source tokens r = answers r ≡ told source tokens (judged source tokens)

-- no answer is true by the grammar but the one that is judged, unless memory ran out
abbrev pub TrueAnswersAreJudged : Type 0
TrueAnswersAreJudged = (source : List ℕ) (tokens : List Token) (r : Result (Statement × ℕ) SqlError) → r ≢ Err s.Memory → IsTrueAnswer source tokens r → SaysJudged source tokens r

-- and that one is
abbrev pub JudgedAnswersAreTrue : Type 0
JudgedAnswersAreTrue = (source : List ℕ) (tokens : List Token) (r : Result (Statement × ℕ) SqlError) → SaysJudged source tokens r → IsTrueAnswer source tokens r
