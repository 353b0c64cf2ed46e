-- A table of the numbers from 1 to a last one: its column and its rows, what it chooses of constraints, and which of its
-- numbers it reads then. Source: this project's own.
use Rattle.std.specs.Prelude.{ℕ, zero, suc, ◌+◌, ◌*◌, ◌%◌, ◌/◌, ◌==◌, ℤ, pos, negsuc, max, min, Bool, true, false, cond, ◌&&◌, not, codes, List, [], ◌∷◌, ◌++◌, map, slice_get, position, Option, Some, None}
use Rattle.std.specs.Option.{option_map_or}
use Rattle.cr_value.specs.declared.value.Value.{Value}
use Rattle.cr_value.specs.declared.value.Value.TheVariants.{Null, Int, Text, Blob}
use Rattle.cr_value.specs.declared.affinity.Affinity.TheVariants.{Integer}
use Rattle.cr_lattice.specs.declared.table.ColumnDef.{ColumnDef}
use Rattle.cr_bags.specs.Bags.{single}
use Rattle.cr_query.specs.Query.{Row}
use Rattle.cr_module.specs.declared.plan.Argument.{Argument}
use Rattle.cr_module.specs.declared.plan.Choice.{Choice}
use Rattle.cr_module.specs.declared.plan.Comparison.{Comparison}
use Rattle.cr_module.specs.declared.plan.Comparison.TheVariants.{Eq, Gt, Le, Lt, Ge}
use Rattle.cr_module.specs.declared.plan.Constraint.{Constraint}
use Rattle.cr_module.specs.Lawful.{value_at}
use Rattle.embedding.specs.declared.counted.Span.{Span}

-- ---- the table

abbrev pub number_column : ColumnDef
number_column = record { name = codes "v"; affinity = Integer; collation = codes "binary"; not_null = false; key = None; default = Null }

-- so many rows of one number each, which ascend from a first one
unfoldable pub numbers : ℕ → ℕ → List Row
numbers first zero = []
numbers first (suc n) = single (Int (pos first)) ∷ numbers (suc first) n

-- ---- what is chosen

-- an equality does, and bounds from above too
abbrev pub bounds_below : Comparison → Bool
bounds_below Eq = true
bounds_below Gt = true
bounds_below Le = false
bounds_below Lt = false
bounds_below Ge = true

-- a usable constraint on the column that bounds it from below, or one that bounds it from above alone
abbrev pub is_lower : Constraint → Bool
is_lower c = c.usable && (c.column == 0) && bounds_below c.op

abbrev pub is_upper : Constraint → Bool
is_upper c = c.usable && (c.column == 0) && not (bounds_below c.op)

abbrev pub place_of : Option ℕ → List ℕ
place_of None = []
place_of (Some at) = single at

-- the first that bounds from below, and the first that bounds from above
abbrev pub places : Option ℕ → Option ℕ → List ℕ
places lower upper = place_of lower ++ place_of upper

-- a digit to the base 6; 0 is none
abbrev pub digit : Comparison → ℕ
digit Eq = 1
digit Gt = 2
digit Le = 3
digit Lt = 4
digit Ge = 5

-- comparisons as one number to the base 6, the last digit for the first
abbrev pub digits : List Comparison → ℕ
digits [] = 0
digits (op ∷ ops) = digit op + 6 * digits ops

abbrev pub op_at : List Constraint → ℕ → Comparison
op_at cs at = option_map_or (λ c. c.op) (slice_get cs at) Eq

abbrev pub passed : ℕ → Argument
passed at = record { constraint = at; omit = false }

-- these constraints, by an index that tells their comparisons
abbrev pub choice_at : ℕ → List Constraint → List ℕ → Choice
choice_at cost cs ats = record { args = map passed ats; index = pos (digits (map (op_at cs) ats)); cost = cost; consumed = false }

abbrev pub choice_of : ℕ → List Constraint → Choice
choice_of cost cs = choice_at cost cs (places (position is_lower cs) (position is_upper cs))

-- ---- what is read

-- the number, or 0 for one below
abbrev pub natural : ℤ → ℕ
natural (pos n) = n
natural (negsuc n) = 0

-- the numbers of a span that compare so to a number, 0 standing for all below 1
abbrev pub cut_at : Comparison → ℕ → Span → Span
cut_at Eq n s = record { start = max s.start n; end = min s.end (n + 1) }
cut_at Gt n s = record { start = max s.start (n + 1); end = s.end }
cut_at Le n s = record { start = s.start; end = min s.end (n + 1) }
cut_at Lt n s = record { start = s.start; end = min s.end n }
cut_at Ge n s = record { start = max s.start n; end = s.end }

-- all where the argument is no number
abbrev pub cut : Comparison → Value → Span → Span
cut op Null s = s
cut op (Int z) s = cut_at op (natural z) s
cut op (Text t) s = s
cut op (Blob b) s = s

-- the comparison that a digit tells
abbrev pub op_of : ℕ → Comparison
op_of n = cond (n == 1) Eq (cond (n == 2) Gt (cond (n == 3) Le (cond (n == 4) Lt Ge)))

-- what the arguments leave of a span, by the comparisons that an index tells
abbrev pub part : ℕ → List Value → Span → Span
part index [] s = s
part index (v ∷ vs) s = part (index / 6) vs (cut (op_of (index % 6)) v s)

abbrev pub whole : ℕ → Span
whole last = record { start = 1; end = last + 1 }

-- the number behind the last one that a cursor reads, which is its one argument, within the table
abbrev pub end_of : ℕ → List Value → ℕ
end_of last args = min (last + 1) (number_of (value_at 0 args)) where
  number_of : Value → ℕ
  number_of (Int z) = natural z
  number_of _ = 0
