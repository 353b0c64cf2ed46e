use Rattle.std.proofs.Common.{◌≡◌, ◌++◌, [], map, drop}
use Rattle.std.specs.Str.{IsUtf8}
use Rattle.std.specs.String.{string_bytes}
use Rattle.cr_print.specs.Pieces.{in_row}
use Rattle.cr_print.specs.Layout.{column}
use Rattle.cr_print.proofs.write.push_all_columns.Given as goal

abbrev pub invariant-loop-column : goal.invariant-loop-column
invariant-loop-column l = record {
  written : string_bytes l.out ++ in_row l.before l.between (map column (drop l.column-index l.columns))
      ≡ string_bytes l.fn.out ++ in_row [] l.between (map column l.columns);
  utf8 : IsUtf8 l.before;
}
