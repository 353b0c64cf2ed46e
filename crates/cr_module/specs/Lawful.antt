-- What a lawful module chooses and gives. Source: "The Virtual Table Mechanism Of SQLite"; that a row comes at most as
-- often as it is there, and that values compare under BINARY without affinity, is this project's own.
use Rattle.std.specs.Prelude.{◌≡◌, ◌⊎◌, ℕ, ℤ, Bool, true, false, not, ◌&&◌, ◌||◌, List, [], ◌∷◌, length, slice_get, unwrap_or, Result, Ok, Err}
use Rattle.std.specs.List.{AllByRecursion}
use Rattle.std.specs.Option.{option_map_or}
use Rattle.std.specs.declared.cmp.Ordering.{Ordering}
use Rattle.std.specs.declared.cmp.Ordering.TheVariants.{Equal}
use Rattle.std.specs.Ordering.{is_eq, is_lt, is_gt, is_le, is_ge, then_cmp}
use Rattle.cr_value.specs.declared.value.Value.{Value}
use Rattle.cr_value.specs.declared.value.Value.TheVariants.{Null}
use Rattle.cr_value.specs.Order.{value_cmp}
use Rattle.cr_lattice.specs.Check.{is_null}
use Rattle.cr_bags.specs.Bags.{sort}
use Rattle.cr_query.specs.Query.{Row, directed}
use Rattle.cr_query.specs.Plans.{Gives}
use Rattle.cr_module.specs.declared.plan.Comparison.{Comparison}
use Rattle.cr_module.specs.declared.plan.Comparison.TheVariants.{Eq, Gt, Le, Lt, Ge}
use Rattle.cr_module.specs.declared.plan.Constraint.{Constraint}
use Rattle.cr_module.specs.declared.plan.Order.{Order}
use Rattle.cr_module.specs.declared.plan.Argument.{Argument}
use Rattle.cr_module.specs.declared.plan.Choice.{Choice}
use Rattle.cr_lattice.specs.declared.table.ColumnDef.{ColumnDef}
use Rattle.cr_module.specs.declared.module.UpdateError.{UpdateError}
use Rattle.cr_module.specs.declared.module.UpdateError.TheVariants.{Memory}

abbrev pub stands : Comparison → Ordering → Bool
stands Eq o = is_eq o
stands Gt o = is_gt o
stands Le o = is_le o
stands Lt o = is_lt o
stands Ge o = is_ge o

-- neither is NULL, and they compare so
abbrev pub compares : Comparison → Value → Value → Bool
compares op v arg = not (is_null v || is_null arg) && stands op (value_cmp v arg)

abbrev pub value_at : ℕ → Row → Value
value_at i row = unwrap_or (slice_get row i) Null

abbrev pub meets_one : List Constraint → Argument → Value → Row → Bool
meets_one cs a v row = option_map_or (λ c. compares c.op (value_at c.column row) v) (slice_get cs a.constraint) true

-- the row meets each constraint whose argument is passed, or of these each that is omitted
abbrev pub meets_all : List Constraint → List Argument → List Value → Row → Bool
meets_all cs [] vs row = true
meets_all cs (a ∷ rest) [] row = true
meets_all cs (a ∷ rest) (v ∷ vs) row = meets_one cs a v row && meets_all cs rest vs row

abbrev pub meets_omitted : List Constraint → List Argument → List Value → Row → Bool
meets_omitted cs [] vs row = true
meets_omitted cs (a ∷ rest) [] row = true
meets_omitted cs (a ∷ rest) (v ∷ vs) row = (not a.omit || meets_one cs a v row) && meets_omitted cs rest vs row

abbrev pub is_usable_at : List Constraint → ℕ → Bool
is_usable_at cs i = option_map_or (λ c. c.usable) (slice_get cs i) false

-- only usable constraints become arguments
abbrev pub IsChoice : List Constraint → Choice → Type 0
IsChoice cs choice = AllByRecursion (λ a. is_usable_at cs a.constraint ≡ true) choice.args

abbrev pub order_cmp : List Order → Row → Row → Ordering
order_cmp [] a b = Equal
order_cmp (o ∷ os) a b = then_cmp (λ a b. directed o.descending value_cmp (value_at o.column a) (value_at o.column b)) (order_cmp os) a b

-- What is read of a module with these rows, once these constraints and orders were offered and this was chosen.
pub record IsRead (rows : List Row) (cs : List Constraint) (os : List Order) (choice : Choice) (args : List Value) (got : List Row) : Type 0 where
  pub gives : Gives (meets_all cs choice.args args) rows got
  pub omitted : AllByRecursion (λ row. meets_omitted cs choice.args args row ≡ true) got
  pub ordered : choice.consumed ≡ true → sort (order_cmp os) got ≡ got

-- An index and its arguments are all that a reading gets, so it is right for every offer for which they were chosen.
abbrev pub IsFiltered : (List Constraint → List Order → Choice) → List Row → ℤ → List Value → List Row → Type 0
IsFiltered best rows index args got =
    (cs : List Constraint) (os : List Order) → (best cs os).index ≡ index → length args ≡ length (best cs os).args → IsRead rows cs os (best cs os) args got

-- ---- cursors

-- each row has a value for each column
abbrev pub AreWide : List ColumnDef → List Row → Type 0
AreWide columns rows = AllByRecursion (λ row. length row ≡ length columns) rows

-- no row is left
abbrev pub is_at_end : List Row → Bool
is_at_end [] = true
is_at_end (row ∷ rows) = false

abbrev pub first_row : List Row → Row
first_row [] = []
first_row (row ∷ rows) = row

abbrev pub rest_of : List Row → List Row
rest_of [] = []
rest_of (row ∷ rows) = rows

abbrev pub head_value : ℕ → List Row → Value
head_value at rows = value_at at (first_row rows)

-- ---- updates

-- what becomes of lists of rows that are handed over one after another: the rows that are there then, or why one isn't taken
abbrev pub Updates : Type 0
Updates = List (List Row) → Result (List Row) UpdateError

-- the same of further ones, behind these rows
abbrev pub behind : List Row → Updates → Updates
behind rows updates more = updates (rows ∷ more)

-- the module has the rows that it is to have, or says why not, or memory ran out
abbrev pub IsUpdated : Result (List Row) UpdateError → List Row → Result (Unit {0}) UpdateError → Type 0
IsUpdated wanted rows (Ok u) = wanted ≡ Ok rows
IsUpdated wanted rows (Err e) = (e ≡ Memory) ⊎ (wanted ≡ Err e)

-- its rows are as they were, and so is what it would make of rows that it takes
pub record Stays (rows : List Row) (updates : Updates) (new : List Row) (updates_new : Updates) : Type 0 where
  pub rows_stay : new ≡ rows
  pub updates_stay : updates_new ≡ updates
