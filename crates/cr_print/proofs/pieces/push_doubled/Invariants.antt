use Rattle.std.proofs.Common.{◌≡◌, ◌++◌, length}
use Rattle.std.specs.Str.{IsUtf8}
use Rattle.std.specs.String.{string_bytes}
use Rattle.cr_lex.specs.Tokens.{doubled}
use Rattle.cr_print.proofs.pieces.push_doubled.Given as goal

abbrev pub invariant-loop-before : goal.invariant-loop-before
invariant-loop-before l = record {
  written : string_bytes l.out ++ doubled l.quote l.rest ≡ string_bytes l.fn.out ++ doubled l.quote l.text;
  utf8 : IsUtf8 l.rest;
}

abbrev pub decreases-loop-before : goal.decreases-loop-before
decreases-loop-before l = length l.rest
