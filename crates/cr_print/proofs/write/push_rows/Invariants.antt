use Rattle.std.proofs.Common.{◌≡◌, ◌++◌, [], map, drop}
use Rattle.std.specs.Str.{IsUtf8}
use Rattle.std.specs.String.{string_bytes}
use Rattle.cr_print.specs.Pieces.{in_row}
use Rattle.cr_print.specs.Layout.{row}
use Rattle.cr_print.proofs.write.push_rows.Given as goal

abbrev pub invariant-loop-row : goal.invariant-loop-row
invariant-loop-row l = record {
  written : string_bytes l.out ++ in_row l.before l.between (map row (drop l.row-index l.rows))
      ≡ string_bytes l.fn.out ++ in_row [] l.between (map row l.rows);
  utf8 : IsUtf8 l.before;
}
