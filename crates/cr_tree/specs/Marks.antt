-- Which mark a symbol is.
use Rattle.std.specs.Prelude.{Bool, false}
use denote.Enum.Bare.{sameb}
use Rattle.cr_tree.specs.contracts.symbol.Mark.{the_type}
use Rattle.cr_tree.specs.declared.symbol.Mark.{Mark}
use Rattle.cr_tree.specs.declared.symbol.Symbol.{Symbol}
use Rattle.cr_tree.specs.declared.symbol.Symbol.TheVariants as k

-- `==` on marks
unfoldable pub same_mark : Mark → Mark → Bool
same_mark = sameb the_type

abbrev pub is_mark : Mark → Symbol → Bool
is_mark m (k.Mark n) = same_mark m n
is_mark m _ = false
