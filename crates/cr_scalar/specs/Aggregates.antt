-- Aggregates over the argument rows of a group. Source: SQLite's "Built-in Aggregate Functions"; that a host's step sees
-- its rows in their order, and that of values which a collation leaves tied the least by bytes is given, is this project's own.
use Rattle.std.specs.Prelude.{ℕ, ℤ, pos, ◌+ℤ◌, Bool, true, false, not, List, [], ◌∷◌, length, map, filter, Option, Result, Ok}
use Rattle.std.specs.Option.{option_map_or}
use Rattle.std.specs.declared.cmp.Ordering.{Ordering}
use Rattle.std.specs.Ordering.{is_lt, then_cmp, flip_args}
use Rattle.cr_bags.specs.Bags.{sort}
use Rattle.std.specs.Cmp.Lexicographic.{slice_cmp}
use Rattle.cr_value.specs.declared.value.Value.{Value}
use Rattle.cr_value.specs.declared.value.Value.TheVariants.{Null, Int}
use Rattle.cr_value.specs.Order.{value_cmp}
use Rattle.cr_term.specs.declared.operator.Aggregate.{Aggregate}
use Rattle.cr_term.specs.declared.operator.Aggregate.TheVariants.{CountAll, Count, Max, Min, Sum, Host}
use Rattle.cr_scalar.specs.Meaning.{Outcome, Meant, and_then, of_host}
use Rattle.cr_scalar.specs.Numbers.{is_null, number_of, in_range}
use Rattle.cr_scalar.specs.Compare.{Orders, value_cmp_by}
use Rattle.cr_scalar.specs.Functions.{first, extreme}

-- rows by their values from left to right, BINARY
abbrev pub row_cmp : List Value → List Value → Ordering
row_cmp = slice_cmp value_cmp

-- in ascending order; rows that tie are equal
abbrev pub in_order : List (List Value) → List (List Value)
in_order rows = sort row_cmp rows

abbrev pub or_zero : Option ℤ → ℤ
or_zero n = option_map_or (λ z. z) n (pos 0)

-- the number of a row's first value, 0 of NULL
abbrev pub number_in : List Value → Outcome ℤ
number_in row = and_then (number_of (first row)) (λ n. Ok (or_zero n))

-- the exact sum of numbers, or that one is none
abbrev pub total : List Value → Outcome ℤ
total [] = Ok (pos 0)
total (v ∷ vs) = and_then (number_of v) (λ n. and_then (total vs) (λ z. Ok (or_zero n +ℤ z)))

-- of no values NULL
abbrev pub sum_of : List Value → Meant
sum_of [] = Ok Null
sum_of (v ∷ vs) = and_then (total (v ∷ vs)) in_range

-- the values of the first argument that aren't NULL
abbrev pub values : List (List Value) → List Value
values rows = filter (λ v. not (is_null v)) (map first rows)

-- greater, where the greatest is wanted, or less; of values that the collation leaves tied the least by bytes
abbrev pub ranks_before : (List ℕ → List ℕ → Ordering) → Bool → Value → Value → Bool
ranks_before order true = λ v w. is_lt (then_cmp (flip_args (value_cmp_by order)) value_cmp v w)
ranks_before order false = λ v w. is_lt (then_cmp (value_cmp_by order) value_cmp v w)

-- what an aggregate gives of its argument rows; `host` is a host's fold over rows in order
abbrev pub aggregate_of : Orders → (List ℕ → List (List Value) → Result Value (List ℕ)) → Aggregate → List (List Value) → Meant
aggregate_of order host CountAll rows = Ok (Int (pos (length rows)))
aggregate_of order host Count rows = Ok (Int (pos (length (values rows))))
aggregate_of order host (Max c) rows = Ok (extreme (ranks_before (order c) true) (values rows))
aggregate_of order host (Min c) rows = Ok (extreme (ranks_before (order c) false) (values rows))
aggregate_of order host Sum rows = sum_of (values rows)
aggregate_of order host (Host name) rows = of_host (host name (in_order rows))
