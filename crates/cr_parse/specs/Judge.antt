-- What an outcome comes to, for the whole of some symbols.
use Rattle.std.specs.Prelude.{ℕ, ◌-◌, List, [], ◌∷◌, length, Result, Ok, Err}
use Rattle.cr_tree.specs.declared.symbol.Symbol.{Symbol}
use Rattle.cr_tree.specs.Reading.{Outcome, Reads, Fails, Syntax, Limit}
use Rattle.cr_parse.specs.declared.fault.Fault.{Fault}
use Rattle.cr_parse.specs.declared.fault.Fault.TheVariants as f
use Rattle.cr_parse.specs.declared.error.ParseError.{ParseError}
use Rattle.cr_parse.specs.declared.error.ParseError.TheVariants as p

abbrev pub judge : {A : Type 0} → List Symbol → Outcome A → Result A ParseError
judge ts (Reads x []) = Ok x
judge ts (Reads x (t ∷ rest)) = Err (p.Syntax (length ts - length (t ∷ rest)))
judge ts (Fails Syntax rest) = Err (p.Syntax (length ts - length rest))
judge ts (Fails (Limit x) rest) = Err (p.Limit x)

-- how a fault is told that stands behind so many symbols
abbrev pub refusal : Fault → ℕ → ParseError
refusal f.Memory n = p.Memory
refusal f.Syntax n = p.Syntax n
refusal (f.Limit x) n = p.Limit x
