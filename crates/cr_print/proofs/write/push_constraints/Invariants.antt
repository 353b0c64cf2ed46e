use Rattle.std.proofs.Common.{◌≡◌, ◌++◌, [], map, drop}
use Rattle.std.specs.String.{string_bytes}
use Rattle.cr_print.specs.Pieces.{in_row}
use Rattle.cr_print.specs.Layout.{constraint}
use Rattle.cr_print.proofs.write.push_constraints.Given as goal

abbrev pub invariant-loop-it : goal.invariant-loop-it
invariant-loop-it l =
    string_bytes l.out ++ in_row [] [] (map constraint (drop l.it-index l.all)) ≡ string_bytes l.fn.out ++ in_row [] [] (map constraint l.all)
