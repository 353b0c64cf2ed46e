use Rattle.std.proofs.Common.{◌≡◌, drop, map}
use Rattle.std.specs.Str.{str_eq_ignore_ascii_case}
use Rattle.std.specs.List.{find}
use Rattle.cr_lex.proofs.marks.written.Given as goal

abbrev pub invariant-loop-written : goal.invariant-loop-written
invariant-loop-written l = find (λ written. str_eq_ignore_ascii_case written l.word) (map (λ w. w.now) (drop l.written-index l.words)) ≡ find (λ written. str_eq_ignore_ascii_case written l.word) (map (λ w. w.now) l.words)
