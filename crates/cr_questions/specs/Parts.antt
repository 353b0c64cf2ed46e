-- What a part of an expression brings, without its node.
use Rattle.std.specs.Prelude.{ℕ, List, Option}
use Rattle.std.specs.Option.{option_or}
use Rattle.cr_term.specs.declared.expr.When.{When}
use Rattle.cr_term.specs.Operands.{explicit_collation}

-- the leftmost COLLATE in an arm of a CASE
abbrev pub explicit_of_arm : When → Option (List ℕ)
explicit_of_arm w = option_or (explicit_collation w.when) (explicit_collation w.then)
