-- What it is that a function value makes of a row's values what a function does.
use Rattle.std.specs.Prelude.{◌≡◌, Result, IfOk}
use denote.Ref.{Bor}
use Rattle.sqlite.specs.Order.{Row}
use Rattle.sqlite.specs.declared.error.Error.{Error}

abbrev pub MakesAs : {T : Type 0} → (Row → T) → (Bor Row → Result T Error → Type 0) → Type 0
MakesAs {T} f post = (row : Bor Row) (made : Result T Error) → post row made → IfOk made (λ t. t ≡ f row.now)
