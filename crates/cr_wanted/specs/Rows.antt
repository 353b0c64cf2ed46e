-- What a write makes of one row.
use Rattle.std.specs.Prelude.{ℕ, not, cond, map, List, [], Option, Some, option_map}
use Rattle.std.specs.Option.{option_and_then}
use Rattle.std.specs.Borrow.{Bor}
use Rattle.cr_lattice.specs.declared.table.ColumnDef.{ColumnDef}
use Rattle.cr_term.specs.declared.expr.Expr.{Expr}
use Rattle.cr_term.specs.declared.query.Assignment.{Assignment}
use Rattle.cr_bags.specs.Bags.{each, single}
use Rattle.cr_query.specs.Query.{Row, Meaning, all_true}
use Rattle.cr_query.specs.Writes.{put_all}
use Rattle.cr_meaning.specs.View.{Ordered, plain}
use Rattle.cr_exec.specs.Scopes.{there}

-- an assignment's expression, and the place of its column
abbrev pub assigned_expr : Assignment → Ordered
assigned_expr a = plain a.value

abbrev pub place_of : Assignment → ℕ
place_of a = a.column

-- the row, where columns take the values of expressions over it
abbrev pub assigned_by : Meaning Ordered → List ColumnDef → List ℕ → List (Bor Expr) → Row → Option Row
assigned_by m cols places exprs row = option_map (λ vs. put_all cols places vs row) (each (λ e. m.value e row) (map there exprs))

-- the same where all terms are true on it; any other row stays
abbrev pub updated_by : Meaning Ordered → List ColumnDef → List (Bor Expr) → List ℕ → List (Bor Expr) → Row → Option Row
updated_by m cols terms places exprs row = option_and_then (λ b. cond b (assigned_by m cols places exprs row) (Some row)) (all_true m (map there terms) row)

-- the row, unless all terms are true on it
abbrev pub kept_by : Meaning Ordered → List (Bor Expr) → Row → Option (List Row)
kept_by m terms row = option_map (λ b. cond b (single row) []) (option_map not (all_true m (map there terms) row))
