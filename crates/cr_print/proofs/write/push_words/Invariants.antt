use Rattle.std.proofs.Common.{◌≡◌, ◌++◌, map, drop}
use Rattle.std.specs.String.{string_bytes}
use Rattle.cr_print.specs.Pieces.{name, in_row}
use Rattle.cr_print.proofs.write.push_words.Given as goal

abbrev pub invariant-loop-word : goal.invariant-loop-word
invariant-loop-word l =
    string_bytes l.out ++ in_row l.before l.before (map name (drop l.word-index l.words)) ≡ string_bytes l.fn.out ++ in_row l.before l.before (map name l.words)
