-- What it is that a function value reads what a parser does.
use Rattle.std.specs.Prelude.{List, Result}
use Rattle.std.specs.declared.alloc.Global.{Global}
use denote.Ref.{MutBor}
use Rattle.cr_tree.specs.declared.symbol.Symbol.{Symbol}
use Rattle.cr_tree.specs.Reading.{Parser}
use Rattle.cr_parse.specs.declared.fault.Fault.{Fault}
use Rattle.cr_parse.specs.Given.{Gives}

abbrev pub ReadsAs : {A : Type 0} → Parser A → (Global → MutBor (List Symbol) → Result A Fault → MutBor (List Symbol) → Type 0) → Type 0
ReadsAs {A} p post = (alloc : Global) (old new : MutBor (List Symbol)) (res : Result A Fault) → post alloc old res new → Gives (λ x. x) (p old.now) res new.now
