-- Which key the terms of a WHERE ask for: the values that `column = constant` gives to the key columns, and in a join
-- `column = column` beside a row of another table. Source: this project's own.
use Rattle.std.specs.Prelude.{ℕ, ◌+◌, ◌-◌, ◌==◌, Bool, false, not, ◌&&◌, nat_lt, nat_le, cond, List, [], ◌∷◌, length, get_or, slice_get, Option, Some, None}
use Rattle.std.specs.List.{list_any, position}
use Rattle.std.specs.Option.{option_and_then, option_map, option_map_or, option_or}
use Rattle.cr_value.specs.declared.value.Value.{Value}
use Rattle.cr_value.specs.declared.value.Value.TheVariants.{Null}
use Rattle.cr_value.specs.Affinity.{applied}
use Rattle.cr_value.specs.Packing.{packed, size_limit}
use Rattle.cr_lattice.specs.declared.table.TableDef.{TableDef}
use Rattle.cr_lattice.specs.Check.{same_bytes, is_key_column, stands_at}
use Rattle.cr_delta.specs.Key.{key_places}
use Rattle.cr_term.specs.declared.expr.Column.{Column as Field}
use Rattle.cr_term.specs.declared.operator.Comparison.TheVariants.{Equal}
use Rattle.cr_term.specs.declared.operator.Adjusted.{Adjusted}
use Rattle.cr_term.specs.declared.operator.Adjusted.TheVariants.{Neither, Left, Right}
use Rattle.cr_term.specs.declared.expr.Expr.{Expr, out-Expr}
use Rattle.cr_term.specs.declared.expr.Expr.TheOpen.{Expr-F, When-F, Literal, Param, Column, Compare, Collate}
use Rattle.cr_term.specs.declared.expr.Expr.TheFolds.{fold-Expr}
use Rattle.cr_term.specs.declared.query.Assignment.{Assignment}
use Rattle.cr_term.specs.declared.query.Update.{Update}
use Rattle.cr_term.specs.Operands.{binary}
use Rattle.cr_term.specs.Same.{Layer}
use Rattle.cr_scalar.specs.Numbers.{is_null}
use Rattle.cr_bags.specs.Bags.{gather, single}
use Rattle.cr_sought.specs.declared.beside.Beside.{Beside as Borrowed}
use Rattle.cr_sought.specs.declared.joined.Partner.{Partner}
use Rattle.cr_sought.specs.declared.telling.Given.{Given}
use Rattle.cr_sought.specs.declared.telling.Telling.{Telling}

-- ---- operands

abbrev pub no_arm : {A : Type 0} → When-F A (Unit {0}) → Unit {0}
no_arm w = tt

abbrev pub column_layer : Expr-F (Option Field) (Unit {0}) → Option Field
column_layer (Column c) = Some c
column_layer (Collate x name) = x
column_layer _ = None

-- the column that an operand is, possibly under COLLATE
abbrev pub column_under : Expr → Option Field
column_under = fold-Expr (Option Field) (Unit {0}) column_layer no_arm

abbrev pub constant_layer : List Value → Expr-F (Option Value) (Unit {0}) → Option Value
constant_layer params (Literal v) = Some v
constant_layer params (Param n) = Some (get_or params (n - 1) Null)
constant_layer params (Collate x name) = x
constant_layer params _ = None

-- the value of a literal or a parameter, possibly under COLLATE
abbrev pub constant : List Value → Expr → Option Value
constant params = fold-Expr (Option Value) (Unit {0}) (constant_layer params) no_arm

-- the operand is the column at this place of the row
abbrev pub is_column : ℕ → Expr → Bool
is_column at x = option_map_or (λ c. c.at == at) (column_under x) false

-- ---- a row of another table

-- a row, and the place of its first column in a combination
pub record Beside : Type 0 where
  pub start : ℕ
  pub row : List Value

abbrev pub standing : Borrowed → Beside
standing b = record { start = b.start; row = b.row.now }

-- no row of another table
abbrev pub alone : Beside
alone = record { start = 0; row = [] }

-- the value of the column at a place of the combination, where that row has one there
abbrev pub held : Beside → ℕ → Option Value
held b at = cond (nat_lt at b.start) None (slice_get b.row (at - b.start))

-- the value of a literal or a parameter, or of a column of that row, possibly under COLLATE
abbrev pub known : Beside → List Value → Expr → Option Value
known b params e = option_or (constant params e) (option_and_then (λ c. held b c.at) (column_under e))

-- ---- terms that pin a column

-- what a comparison makes of its right operand, where it leaves the left one as it is
abbrev pub on_right : Adjusted → Value → Option Value
on_right Neither v = Some v
on_right (Left a) v = None
on_right (Right a) v = Some (applied a v)

-- and of its left operand, where it leaves the right one
abbrev pub on_left : Adjusted → Value → Option Value
on_left Neither v = Some v
on_left (Left a) v = Some (applied a v)
on_left (Right a) v = None

abbrev pub pin_in : Beside → List Value → ℕ → Layer → Option Value
pin_in b params at (Compare Equal m x y) =
    cond (same_bytes m.collation binary)
    (cond (is_column at x) (option_and_then (on_right m.adjusted) (known b params y))
    (cond (is_column at y) (option_and_then (on_left m.adjusted) (known b params x)) None))
    None
pin_in b params at _ = None

-- The only value of the column at this place on which the term can be true beside the row, where the term is
-- `column = operand` or `operand = column`, byte by byte, and leaves the column's value as it is.
abbrev pub pin : Beside → List Value → ℕ → Expr → Option Value
pin b params at e = pin_in b params at (out-Expr e)

-- by the first term that pins it
abbrev pub pinned : Beside → List Value → List Expr → ℕ → Option Value
pinned b params [] at = None
pinned b params (e ∷ es) at = option_or (pin b params at e) (pinned b params es at)

-- ---- the key

-- what is told of the columns of a combination, where that at a place has this value
abbrev pub given : ℕ → Value → (ℕ → Option Value) → ℕ → Option Value
given place v told at = cond (at == place) (Some v) (told at)

abbrev pub given_first : Option Given → (ℕ → Option Value) → ℕ → Option Value
given_first None told at = told at
given_first (Some g) told at = given g.at g.value.now told at

-- the value that a column is told to have: given, or else pinned
abbrev pub tells : Telling → ℕ → Option Value
tells t = given_first t.given (pinned (standing t.beside) t.params.now t.terms.now)

-- the value that the key column at a place of the key is told to have, if a column stands there; the columns of the table begin
-- at this place of a combination
abbrev pub sought_part : (ℕ → Option Value) → ℕ → TableDef → ℕ → Option (List Value)
sought_part told base def place =
    option_map_or (λ at. option_map single (told (base + at))) (position (stands_at place) def.columns) (Some [])

-- the values that all key columns are told to have, in the order of their places in the key
abbrev pub sought_values : (ℕ → Option Value) → ℕ → TableDef → Option (List Value)
sought_values told base def = gather (sought_part told base def) key_places

-- some values, none of them NULL
abbrev pub can_pack : List Value → Bool
can_pack vs = nat_lt 0 (length vs) && not (list_any is_null vs)

-- the key that values are packed as, where they can be, within the limit of a key
abbrev pub key_from : List Value → Option (List ℕ)
key_from vs = cond (can_pack vs && nat_le (length (packed vs)) size_limit) (Some (packed vs)) None

-- the key of the row that is joined where its key has these values: of none where one is NULL
abbrev pub joined_key : List Value → Option (Option (List ℕ))
joined_key vs = cond (list_any is_null vs) (Some None) (option_map Some (key_from vs))

abbrev pub key_or_none : Option (List ℕ) → List (List ℕ)
key_or_none None = []
key_or_none (Some pk) = single pk

-- the key of the rows of a table whose columns are told, or that there is none
abbrev pub keys_told : (ℕ → Option Value) → ℕ → TableDef → Option (List (List ℕ))
keys_told told base def = option_map key_or_none (option_and_then joined_key (sought_values told base def))

-- The keys of the rows of a table that can be joined with a row of another, where the terms tell them.
abbrev pub keys_beside : ℕ → TableDef → List Value → List Expr → Beside → Option (List (List ℕ))
keys_beside base def params terms b = keys_told (pinned b params terms) base def

-- with each row of another
abbrev pub keys_by : ℕ → TableDef → List Value → List Expr → Partner → Option (List (List ℕ))
keys_by base def params terms p = gather (λ r. keys_beside base def params terms (record { start = p.start; row = r })) p.rows

-- by the first of other tables by which the terms tell them
abbrev pub joined_keys : ℕ → TableDef → List Value → List Expr → List Partner → Option (List (List ℕ))
joined_keys base def params terms [] = None
joined_keys base def params terms (p ∷ ps) = option_or (keys_by base def params terms p) (joined_keys base def params terms ps)

-- ---- assignments

-- the column at a place is a key column
abbrev pub is_of_key : TableDef → ℕ → Bool
is_of_key def at = option_map_or is_key_column (slice_get def.columns at) false

abbrev pub is_to_key : TableDef → Assignment → Bool
is_to_key def a = is_of_key def a.column

-- an UPDATE gives a value to a key column of its table
abbrev pub assigns_key : Update → Bool
assigns_key w = list_any (is_to_key w.relation.definition) w.assignments
