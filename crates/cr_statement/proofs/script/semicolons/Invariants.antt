use Rattle.std.proofs.Common.{◌≡◌, ◌+◌, drop}
use Rattle.std.specs.List.{prefix_len}
use Rattle.cr_statement.specs.Sql.{is_semicolon}
use Rattle.cr_statement.proofs.script.semicolons.Given as goal

abbrev pub invariant-loop-at : goal.invariant-loop-at
invariant-loop-at l = prefix_len (is_semicolon l.source) l.tokens ≡ l.at + prefix_len (is_semicolon l.source) (drop l.at l.tokens)
