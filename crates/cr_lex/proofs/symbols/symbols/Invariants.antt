use Rattle.std.proofs.Common.{◌≡◌, ◌++◌, drop}
use Rattle.std.specs.List.{scan}
use Rattle.cr_lex.specs.Symbols.{symbol_of, greatest_of, symbols_of}
use Rattle.cr_lex.proofs.symbols.symbols.Given as goal

abbrev pub invariant-loop-token : goal.invariant-loop-token
invariant-loop-token l = l.found.items ++ scan (greatest_of l.source) (symbol_of l.source) l.greatest (drop l.token-index l.tokens) ≡ symbols_of l.source l.tokens
