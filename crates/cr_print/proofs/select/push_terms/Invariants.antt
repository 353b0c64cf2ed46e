use Rattle.std.proofs.Common.{◌≡◌, ◌++◌, [], map, drop}
use Rattle.std.specs.Str.{IsUtf8}
use Rattle.std.specs.String.{string_bytes}
use Rattle.cr_print.specs.Pieces.{in_row}
use Rattle.cr_print.specs.Layout.{term}
use Rattle.cr_print.proofs.select.push_terms.Given as goal

abbrev pub invariant-loop-term : goal.invariant-loop-term
invariant-loop-term l = record {
  written : string_bytes l.out ++ in_row l.before l.between (map term (drop l.term-index l.terms))
      ≡ string_bytes l.fn.out ++ in_row [] l.between (map term l.terms);
  utf8 : IsUtf8 l.before;
}
