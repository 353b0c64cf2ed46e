use Rattle.std.proofs.Common.{◌≡◌, ◌++◌, [], map, drop}
use Rattle.std.specs.String.{string_bytes}
use Rattle.cr_print.specs.Pieces.{in_row}
use Rattle.cr_print.specs.Layout.{join}
use Rattle.cr_print.proofs.select.push_joins.Given as goal

abbrev pub invariant-loop-join : goal.invariant-loop-join
invariant-loop-join l =
    string_bytes l.out ++ in_row [] [] (map join (drop l.join-index l.joins)) ≡ string_bytes l.fn.out ++ in_row [] [] (map join l.joins)
