-- Comparisons. Source: "Datatypes In SQLite", sections 4 and 7.
use Rattle.std.specs.Prelude.{ℕ, Bool, true, false, not, ◌&&◌, ◌||◌, List, Option, Some, None, if◌then◌else◌}
use Rattle.std.specs.declared.cmp.Ordering.{Ordering}
use Rattle.std.specs.declared.cmp.Ordering.TheVariants as o
use Rattle.std.specs.Ordering.{int_cmp}
use Rattle.cr_value.specs.Bytes.{bytes_cmp}
use Rattle.cr_value.specs.Affinity.{applied}
use Rattle.cr_value.specs.declared.value.Value.{Value}
use Rattle.cr_value.specs.declared.value.Value.TheVariants.{Null, Int, Text, Blob}
use Rattle.cr_term.specs.declared.operator.Adjusted.{Adjusted}
use Rattle.cr_term.specs.declared.operator.Adjusted.TheVariants.{Neither, Left, Right}
use Rattle.cr_term.specs.declared.operator.Meeting.{Meeting}
use Rattle.cr_term.specs.declared.operator.Comparison.{Comparison}
use Rattle.cr_term.specs.declared.operator.Comparison.TheVariants as c
use Rattle.cr_scalar.specs.Numbers.{is_null}

-- the order of two texts under the collation of a name
abbrev pub Orders : Type 0
Orders = List ℕ → List ℕ → List ℕ → Ordering

-- NULL, then integers, then texts by a collation, then blobs
abbrev pub value_cmp_by : (List ℕ → List ℕ → Ordering) → Value → Value → Ordering
value_cmp_by order Null Null = o.Equal
value_cmp_by order Null b = o.Less
value_cmp_by order (Int m) Null = o.Greater
value_cmp_by order (Int m) (Int n) = int_cmp m n
value_cmp_by order (Int m) b = o.Less
value_cmp_by order (Text s) (Text t) = order s t
value_cmp_by order (Text s) (Blob t) = o.Less
value_cmp_by order (Text s) b = o.Greater
value_cmp_by order (Blob s) (Blob t) = bytes_cmp s t
value_cmp_by order (Blob s) b = o.Greater

abbrev pub adjusted_left : Adjusted → Value → Value
adjusted_left Neither v = v
adjusted_left (Left a) v = applied a v
adjusted_left (Right a) v = v

abbrev pub adjusted_right : Adjusted → Value → Value
adjusted_right Neither v = v
adjusted_right (Left a) v = v
adjusted_right (Right a) v = applied a v

abbrev pub meets : Orders → Meeting → Value → Value → Ordering
meets order m a b = value_cmp_by (order m.collation) (adjusted_left m.adjusted a) (adjusted_right m.adjusted b)

-- the order of the operands passes the comparison
abbrev pub passes : Comparison → Ordering → Bool
passes c.Less o.Less = true
passes c.Less o.Equal = false
passes c.Less o.Greater = false
passes c.AtMost o.Less = true
passes c.AtMost o.Equal = true
passes c.AtMost o.Greater = false
passes c.Greater o.Less = false
passes c.Greater o.Equal = false
passes c.Greater o.Greater = true
passes c.AtLeast o.Less = false
passes c.AtLeast o.Equal = true
passes c.AtLeast o.Greater = true
passes c.Equal o.Less = false
passes c.Equal o.Equal = true
passes c.Equal o.Greater = false
passes c.Unequal o.Less = true
passes c.Unequal o.Equal = false
passes c.Unequal o.Greater = true
passes c.Is o.Less = false
passes c.Is o.Equal = true
passes c.Is o.Greater = false
passes c.IsNot o.Less = true
passes c.IsNot o.Equal = false
passes c.IsNot o.Greater = true

-- NULL is a value like others
abbrev pub takes_null : Comparison → Bool
takes_null c.Less = false
takes_null c.AtMost = false
takes_null c.Greater = false
takes_null c.AtLeast = false
takes_null c.Equal = false
takes_null c.Unequal = false
takes_null c.Is = true
takes_null c.IsNot = true

abbrev pub compared : Orders → Comparison → Meeting → Value → Value → Option Bool
compared order op m a b =
    if not (takes_null op) && (is_null a || is_null b) then None else Some (passes op (meets order m a b))
