-- Terms that are true only where a column of a table has one value, which is known before the table's rows are gone through.
-- Source: "Datatypes In SQLite", sections 4.2 and 7; that such a term picks the rows that are tested is this project's own.
use Rattle.std.specs.Prelude.{◌≡◌, ℕ, ◌-◌, Bool, true, false, not, ◌&&◌, nat_lt, nat_le, cond, List, Option, Some, None}
use Rattle.std.specs.Option.{option_and_then, option_map, option_or}
use Rattle.std.specs.Ordering.{is_eq}
use Rattle.cr_value.specs.declared.value.Value.{Value}
use Rattle.cr_value.specs.declared.affinity.Affinity.{Affinity}
use Rattle.cr_value.specs.Affinity.{applied}
use Rattle.cr_value.specs.Bytes.{bytes_cmp}
use Rattle.cr_value.specs.Order.{value_cmp}
use Rattle.cr_lattice.specs.Check.{same_bytes}
use Rattle.cr_term.specs.declared.operator.Comparison.TheVariants.{Equal}
use Rattle.cr_term.specs.declared.operator.Adjusted.{Adjusted}
use Rattle.cr_term.specs.declared.operator.Adjusted.TheVariants.{Neither, Left, Right}
use Rattle.cr_term.specs.declared.expr.Expr.{Expr, out-Expr}
use Rattle.cr_term.specs.declared.expr.Expr.TheOpen.{Expr-F, When-F, Literal, Param, Column, Compare, Collate}
use Rattle.cr_term.specs.declared.expr.Expr.TheFolds.{fold-Expr}
use Rattle.cr_term.specs.Operands.{binary}
use Rattle.cr_term.specs.Same.{Layer}
use Rattle.cr_scalar.specs.Host.{Host}
use Rattle.cr_scalar.specs.Numbers.{is_null}
use Rattle.cr_exec.specs.declared.equality.Equality.{Equality}

-- ---- operands, possibly under COLLATE

abbrev pub no_arm : {A : Type 0} → When-F A (Unit {0}) → Unit {0}
no_arm w = tt

abbrev pub own_layer : ℕ → Expr-F (Option ℕ) (Unit {0}) → Option ℕ
own_layer start (Column c) = cond (nat_le start c.at) (Some (c.at - start)) None
own_layer start (Collate x name) = x
own_layer start _ = None

-- the place of a column in the rows of a table whose columns begin at a place of the combination
abbrev pub own_place : ℕ → Expr → Option ℕ
own_place start = fold-Expr (Option ℕ) (Unit {0}) (own_layer start) no_arm

abbrev pub known_layer : ℕ → Expr-F Bool (Unit {0}) → Bool
known_layer start (Literal v) = true
known_layer start (Param n) = true
known_layer start (Column c) = nat_lt c.at start
known_layer start (Collate x name) = x
known_layer start _ = false

-- a literal, a parameter, or a column of a table further left
abbrev pub is_known : ℕ → Expr → Bool
is_known start = fold-Expr Bool (Unit {0}) (known_layer start) no_arm

-- ---- terms

-- which affinity the right operand takes on, where the left one stays as it is
abbrev pub right_takes : Adjusted → Option (Option Affinity)
right_takes Neither = Some None
right_takes (Left a) = None
right_takes (Right a) = Some (Some a)

-- and the left operand, where the right one stays
abbrev pub left_takes : Adjusted → Option (Option Affinity)
left_takes Neither = Some None
left_takes (Left a) = Some (Some a)
left_takes (Right a) = None

-- the value of the column at this place is to be that of the operand, after it took on the affinity
pub record Sought : Type 0 where
  pub place : ℕ
  pub wanted : Expr
  pub takes : Option Affinity

abbrev pub sought : Equality → Sought
sought e = record { place = e.place; wanted = e.wanted.now; takes = e.takes }

abbrev pub side : ℕ → Expr → Expr → Option (Option Affinity) → Option Sought
side start x y takes =
    cond (is_known start y) (option_and_then (λ p. option_map (λ a. record { place = p; wanted = y; takes = a }) takes) (own_place start x)) None

abbrev pub equality_in : ℕ → Layer → Option Sought
equality_in start (Compare Equal m x y) =
    cond (same_bytes m.collation binary) (option_or (side start x y (right_takes m.adjusted)) (side start y x (left_takes m.adjusted))) None
equality_in start _ = None

-- What a term asks of the rows of a table whose columns begin at a place of the combination, where it is `column = operand`
-- or `operand = column`, byte by byte, and leaves the column's value as it is.
abbrev pub equality : ℕ → Expr → Option Sought
equality start e = equality_in start (out-Expr e)

-- ---- values

abbrev pub taken_on : Option Affinity → Value → Value
taken_on None v = v
taken_on (Some a) v = applied a v

-- equal to a value in a comparison: a NULL is equal to nothing
abbrev pub is_equal : Value → Value → Bool
is_equal v w = not (is_null v) && is_eq (value_cmp v w)

-- ---- the collation BINARY

-- it is the order of bytes
abbrev pub OrdersBytes : Host → Type 0
OrdersBytes host = (s t : List ℕ) → host.order binary s t ≡ bytes_cmp s t
