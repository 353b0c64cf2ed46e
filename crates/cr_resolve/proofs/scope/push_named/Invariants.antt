use Rattle.std.proofs.Common.{◌≡◌, ◌++◌, ◌+◌, drop}
use Rattle.cr_resolve.specs.Scope.{named_from}
use Rattle.cr_resolve.proofs.scope.push_named.Given as goal

abbrev pub invariant-loop-place : goal.invariant-loop-place
invariant-loop-place l =
    l.fitting.items ++ named_from l.name l.source l.place (l.from + l.place) (drop l.place l.columns) ≡ l.fn.fitting.items ++ named_from l.name l.source 0 l.from l.columns
