use Rattle.std.proofs.Common.{◌≡◌, ◌++◌, [], map, drop}
use Rattle.std.specs.Str.{IsUtf8}
use Rattle.std.specs.String.{string_bytes}
use Rattle.cr_print.specs.Pieces.{name, in_row}
use Rattle.cr_print.proofs.pieces.push_names.Given as goal

abbrev pub invariant-loop-text : goal.invariant-loop-text
invariant-loop-text l = record {
  written : string_bytes l.out ++ in_row l.before l.between (map name (drop l.text-index l.names))
      ≡ string_bytes l.fn.out ++ in_row [] l.between (map name l.names);
  utf8 : IsUtf8 l.before;
}
