use Rattle.std.proofs.Common.{◌≡◌, drop}
use Rattle.std.specs.Str.{str_eq_ignore_ascii_case}
use Rattle.std.specs.Map.{lookup}
use Rattle.cr_lex.proofs.marks.marked.Given as goal

abbrev pub invariant-loop-written : goal.invariant-loop-written
invariant-loop-written l = lookup (λ written. str_eq_ignore_ascii_case written.now l.word) (drop l.written-index l.table) ≡ lookup (λ written. str_eq_ignore_ascii_case written.now l.word) l.table
