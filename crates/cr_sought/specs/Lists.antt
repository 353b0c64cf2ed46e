-- Which keys the terms of a WHERE ask for, by a list of constants too. The list stands in the first term that isn't quiet: what is
-- tested before it can have no fault. Source: this project's own.
use Rattle.std.specs.Prelude.{ℕ, ◌-◌, ◌&&◌, nat_le, nat_lt, Bool, false, not, cond, find, get_or, List, length, Option, Some, None}
use Rattle.std.specs.Option.{option_and_then, option_map, option_or}
use Rattle.cr_value.specs.declared.value.Value.{Value}
use Rattle.cr_value.specs.declared.value.Value.TheVariants.{Null}
use Rattle.cr_value.specs.Packing.{size_limit}
use Rattle.cr_value.specs.Size.{value_len}
use Rattle.cr_lattice.specs.declared.table.TableDef.{TableDef}
use Rattle.cr_lattice.specs.Check.{same_bytes}
use Rattle.cr_term.specs.declared.operator.Adjusted.{Adjusted}
use Rattle.cr_term.specs.declared.expr.Expr.{Expr, out-Expr}
use Rattle.cr_term.specs.declared.expr.Expr.TheOpen.{Literal, Param, Column, In}
use Rattle.cr_term.specs.Operands.{binary}
use Rattle.cr_term.specs.Same.{Layer}
use Rattle.cr_term.specs.Terms.{quiet}
use Rattle.cr_bags.specs.Bags.{each, gather}
use Rattle.cr_sought.specs.Sought.{alone, given, is_of_key, keys_told, on_right, pinned}

-- the most items of a list by which rows are looked up
abbrev pub most_items : ℕ
most_items = 1000

abbrev pub within_limit : Value → Option Value
within_limit v = cond (nat_le (value_len v) size_limit) (Some v) None

abbrev pub item_in : List Value → Layer → Option Value
item_in params (Literal v) = within_limit v
item_in params (Param n) = within_limit (get_or params (n - 1) Null)
item_in params _ = None

-- the value of a literal or a parameter, which is no larger than any value may be
abbrev pub item : List Value → Expr → Option Value
item params e = item_in params (out-Expr e)

-- what the comparisons make of the items, where they leave the operand as it is
abbrev pub items_of : List Value → Adjusted → List Expr → Option (List Value)
items_of params a = each (λ e. option_and_then (on_right a) (item params e))

abbrev pub place_in : Layer → Option ℕ
place_in (Column c) = Some c.at
place_in _ = None

abbrev pub list_in : List Value → Layer → Option (ℕ × List Value)
list_in params (In false m x items) =
    cond (same_bytes m.collation binary && nat_le (length items) most_items)
    (option_and_then (λ at. option_map (λ vs. (at, vs)) (items_of params m.adjusted items)) (place_in (out-Expr x)))
    None
list_in params _ = None

-- The column and its only values on which a term can be true, where the term is `column IN (constants)`, byte by byte.
abbrev pub list_of : List Value → Expr → Option (ℕ × List Value)
list_of params e = list_in params (out-Expr e)

abbrev pub first_not_quiet : List Expr → Option Expr
first_not_quiet = find (λ e. not (quiet e))

-- the column at a place of a combination is one of the key of the table whose columns begin there
abbrev pub is_key_at : ℕ → TableDef → ℕ → Bool
is_key_at base def at = cond (nat_lt at base) false (is_of_key def (at - base))

-- the keys of the rows in which a column of the key has one of these values, and the others those that the terms pin them to
abbrev pub keys_in : ℕ → TableDef → List Value → List Expr → ℕ × List Value → Option (List (List ℕ))
keys_in base def params terms l =
    cond (is_key_at base def l.0) (gather (λ v. keys_told (given l.0 v (pinned alone params terms)) base def) l.1) None

-- The packed keys of the only rows of the table on which the terms can be true, where a list tells them; the columns of the
-- table begin at this place of a combination.
unfoldable pub listed_keys : ℕ → TableDef → List Value → List Expr → Option (List (List ℕ))
listed_keys base def params terms = option_and_then (keys_in base def params terms) (option_and_then (list_of params) (first_not_quiet terms))

-- The packed keys of the only rows of the table on which the terms can be true, where they tell them: that of the values to which
-- they pin each column of the key, or else those that a list tells.
unfoldable pub sought_keys : TableDef → List Value → List Expr → Option (List (List ℕ))
sought_keys def params terms = option_or (keys_told (pinned alone params terms) 0 def) (listed_keys 0 def params terms)
