use Rattle.std.proofs.Common.{◌≡◌, ◌+◌, drop, not}
use Rattle.std.specs.List.{prefix_len}
use Rattle.cr_statement.specs.Sql.{is_semicolon}
use Rattle.cr_statement.proofs.sql.statement_len.Given as goal

abbrev pub invariant-loop-at : goal.invariant-loop-at
invariant-loop-at l = prefix_len (λ t. not (is_semicolon l.source t)) l.tokens ≡ l.at + prefix_len (λ t. not (is_semicolon l.source t)) (drop l.at l.tokens)
