-- Tables of which only the rows are gone through that a term asks for beside a combination of the tables to the left. Source:
-- this project's own.
use Rattle.std.specs.Prelude.{◌≡◌, ℕ, Bool, false, nat_lt, cond, filter, map, length, get_or, List, [], ◌∷◌, Option, Some, None, IfSome}
use Rattle.std.specs.List.{list_all, list_any}
use Rattle.std.specs.List.Sorted.{IsSortedBy}
use Rattle.std.specs.Option.{option_and_then, option_map_or, option_or}
use Rattle.std.specs.Ordering.{is_lt}
use Rattle.std.specs.Borrow.{Bor}
use Rattle.std.specs.declared.cmp.Ordering.{Ordering}
use Rattle.cr_value.specs.declared.value.Value.{Value}
use Rattle.cr_value.specs.declared.value.Value.TheVariants.{Null}
use Rattle.cr_value.specs.Order.{value_cmp}
use Rattle.cr_value.specs.declared.affinity.Affinity.{Affinity}
use Rattle.cr_term.specs.declared.expr.Expr.{Expr}
use Rattle.cr_term.specs.declared.query.Joined.{Joined}
use Rattle.cr_term.specs.Terms.{plain as is_plain}
use Rattle.cr_scalar.specs.Host.{Host}
use Rattle.cr_query.specs.Query.{Row}
use Rattle.cr_meaning.specs.View.{Ordered, plain}
use Rattle.cr_meaning.specs.Meaning.{at_row}
use Rattle.cr_exec.specs.declared.index.Index.{Index}
use Rattle.cr_exec.specs.declared.source.LookUp.{LookUp}
use Rattle.cr_exec.specs.declared.source.Source.{Source}
use Rattle.cr_exec.specs.Equalities.{Sought, OrdersBytes, equality, is_equal, sought, taken_on}
use Rattle.cr_exec.specs.Groups.{row_there}
use Rattle.cr_exec.specs.Tails.{with_quiet_first}
use Rattle.cr_exec.specs.Values.{HasValue}

-- ---- rows by a value

abbrev pub cell : ℕ → Row → Value
cell place r = get_or r place Null

abbrev pub at_place : ℕ → Bor Row → Value
at_place place r = cell place r.now

abbrev pub by_place : ℕ → Bor Row → Bor Row → Ordering
by_place place a b = value_cmp (at_place place a) (at_place place b)

abbrev pub IsInOrder : Index → Type 0
IsInOrder index = IsSortedBy (λ a b. is_lt (by_place index.place a b)) index.rows.items

-- those with a value at the place
abbrev pub with_value : ℕ → Value → List Row → List Row
with_value place v rows = filter (λ r. is_equal v (cell place r)) rows

-- rows in order, of which those of a value stand as in the table
pub record IsIndexOf (place : ℕ) (rows : List Row) (index : Index) : Type 0 where
  pub placed : index.place ≡ place
  pub in_order : IsInOrder index
  pub found : (v : Value) → map row_there (filter (λ r. is_equal v (at_place place r)) index.rows.items) ≡ with_value place v rows

-- ---- what the terms ask

abbrev pub is_wide : ℕ → List Row → Bool
is_wide place rows = list_all (λ r. nat_lt place (length r)) rows

-- where each row has a value at the place
abbrev pub where_wide : List Row → Sought → Option Sought
where_wide rows q = cond (is_wide q.place rows) (Some q) None

-- by the first term that asks for a value
abbrev pub asked : ℕ → List Row → List Ordered → Option Sought
asked start rows [] = None
asked start rows (e ∷ es) = option_or (option_and_then (where_wide rows) (equality start e.expr)) (asked start rows es)

-- the value that is asked for beside a combination
pub record Wants (params : List Value) (c : Row) (wanted : Expr) (takes : Option Affinity) (v : Value) : Type 0 where
  pub own : Value
  pub taken : v ≡ taken_on takes own
  pub value : (host : Host) → HasValue is_plain (at_row None host params c) wanted own

-- ---- look-ups

pub record IsLookUpOf (start : ℕ) (terms : List Ordered) (rows : List Row) (l : LookUp) : Type 0 where
  pub starts : l.start ≡ start
  pub asks : asked start rows terms ≡ Some (sought l.equality)
  pub index : IsIndexOf l.equality.place rows l.index

-- ---- the tables of FROM

abbrev pub join_of : Source → Joined
join_of s = s.join.now

abbrev pub rows_of : Source → List Row
rows_of s = map row_there s.rows.items

abbrev pub joined_rows : Source → Joined × List Row
joined_rows s = (s.join.now, rows_of s)

abbrev pub is_left : Source → Bool
is_left s = s.join.now.is_left

-- a value that is looked up beside a combination
pub record IsWanted (params : List Value) (c : Row) (s : Source) (v : Value) : Type 0 where
  pub by : LookUp
  pub there : s.look_up ≡ Some by
  pub beside : length c ≡ by.start
  pub wanted : Wants params c by.equality.wanted.now by.equality.takes v

-- the rows that a look-up of a value finds, or all
abbrev pub rows_with : Source → Option Value → List Row
rows_with s None = rows_of s
rows_with s (Some v) = option_map_or (λ l. with_value l.equality.place v (rows_of s)) s.look_up (rows_of s)

-- the terms that are tested on the combinations with a table's rows: those of the query, or those of a LEFT JOIN's ON
abbrev pub terms_on : List Ordered → Joined → List Ordered
terms_on terms j = cond j.is_left (with_quiet_first (map plain j.on)) terms

-- A look-up by these terms, under an order of bytes. Where a LEFT JOIN stands further right, its ON is tested on each
-- combination before the query's terms are, and may fault.
pub record IsSound (host : Host) (terms : List Ordered) (later : List Source) (j : Joined) (rows : List Row) (l : LookUp) : Type 0 where
  pub bytes : OrdersBytes host
  pub by_terms : IsLookUpOf l.start (terms_on terms j) rows l
  pub no_left_follows : j.is_left ≡ false → list_any is_left later ≡ false

abbrev pub AreSound : Host → List Ordered → List Source → Type 0
AreSound host terms [] = Unit {0}
AreSound host terms (s ∷ ss) = IfSome s.look_up (IsSound host terms ss s.join.now (rows_of s)) × AreSound host terms ss

-- terms with the quiet ones first
pub record IsQuietFirst (terms : List Ordered) : Type 0 where
  pub of : List Ordered
  pub are : terms ≡ with_quiet_first of
