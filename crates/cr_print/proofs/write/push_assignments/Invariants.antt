use Rattle.std.proofs.Common.{◌≡◌, ◌++◌, [], map, drop}
use Rattle.std.specs.Str.{IsUtf8}
use Rattle.std.specs.String.{string_bytes}
use Rattle.cr_print.specs.Pieces.{in_row}
use Rattle.cr_print.specs.Layout.{assignment}
use Rattle.cr_print.proofs.write.push_assignments.Given as goal

abbrev pub invariant-loop-it : goal.invariant-loop-it
invariant-loop-it l = record {
  written : string_bytes l.out ++ in_row l.before l.between (map assignment (drop l.it-index l.all))
      ≡ string_bytes l.fn.out ++ in_row [] l.between (map assignment l.all);
  utf8 : IsUtf8 l.before;
}
