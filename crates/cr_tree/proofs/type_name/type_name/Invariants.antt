use Rattle.std.proofs.Common.{◌≡◌, ◌++◌, drop}
use Rattle.std.specs.List.{join_with_byte}
use Rattle.std.specs.Str.{IsUtf8}
use Rattle.std.specs.String.{string_bytes}
use Rattle.cr_tree.proofs.Joined.{left}
use Rattle.cr_tree.proofs.type_name.type_name.Given as goal

abbrev pub invariant-loop-word : goal.invariant-loop-word
invariant-loop-word l = record {
  written : string_bytes l.name ++ left l.between (drop l.word-index l.words) ≡ join_with_byte 32 l.words;
  utf8 : IsUtf8 l.between;
}
