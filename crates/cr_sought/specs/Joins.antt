-- A join of which a table is looked up by the keys that its terms tell beside the rows of tables further left. Source: this
-- project's own.
use Rattle.std.specs.Prelude.{◌≡◌, ◌⊎◌, ℕ, ◌+◌, nat_le, Bool, true, false, not, ◌||◌, cond, List, [], ◌∷◌, ◌++◌, length, Some}
use Rattle.std.specs.List.{list_all, AllByRecursion}
use Rattle.cr_value.specs.declared.value.Value.{Value}
use Rattle.cr_lattice.specs.declared.change.Change.{Change}
use Rattle.cr_lattice.specs.declared.table.TableDef.{TableDef}
use Rattle.cr_lattice.specs.Profile.{has_key}
use Rattle.cr_lattice.specs.Rows.{rows}
use Rattle.cr_term.specs.declared.expr.Expr.{Expr}
use Rattle.cr_term.specs.declared.query.Joined.{Joined}
use Rattle.cr_term.specs.declared.query.Query.{Query}
use Rattle.cr_term.specs.Terms.{quiet}
use Rattle.cr_scalar.specs.Host.{Host}
use Rattle.cr_bags.specs.Bags.{single}
use Rattle.cr_query.specs.Query.{Row, answer, nulls}
use Rattle.cr_meaning.specs.View as view
use Rattle.cr_meaning.specs.Meaning.{IsLimit, Regard, regarded}
use Rattle.cr_exec.specs.Equalities.{OrdersBytes}
use Rattle.cr_touched.specs.Parts.{is_key_of, part}
use Rattle.cr_touched.specs.Shown.{AreKeptOf}
use Rattle.cr_sought.specs.declared.joined.Partner.{Partner}
use Rattle.cr_sought.specs.Lists.{listed_keys}
use Rattle.cr_sought.specs.Sought.{joined_keys}

abbrev pub width : Joined → ℕ
width j = length j.relation.definition.columns

-- the number of columns of tables
abbrev pub widths : List Joined → ℕ
widths [] = 0
widths (j ∷ js) = width j + widths js

-- tables have these rows, each as wide as its table
abbrev pub AreWide : List Joined → List (List Row) → Type 0
AreWide [] [] = Unit {0}
AreWide [] (t ∷ ts) = ⊥
AreWide (j ∷ js) [] = ⊥
AreWide (j ∷ js) (t ∷ ts) = AllByRecursion (λ r. length r ≡ width j) t × AreWide js ts

-- ---- the tables by whose rows others are looked up

-- the most rows of a table by which others are looked up
abbrev pub most_rows : ℕ
most_rows = 4096

-- without rows of another table
abbrev pub no_row : Partner
no_row = record { start = 0; rows = single [] }

-- the rows of a table and, of one that a LEFT JOIN brings, the NULLs in the place of one
abbrev pub partner_rows : Joined → List Row → List Row
partner_rows j t = t ++ cond j.is_left (single (nulls (width j))) []

-- a table whose columns begin there, unless it has too many rows
abbrev pub partner : ℕ → Joined → List Row → List Partner
partner start j t = cond (nat_le (length t) most_rows) (single (record { start = start; rows = partner_rows j t })) []

-- tables of which the first begins there
abbrev pub partners_from : ℕ → List Joined → List (List Row) → List Partner
partners_from start [] ts = []
partners_from start (j ∷ js) [] = []
partners_from start (j ∷ js) (t ∷ ts) = partner start j t ++ partners_from (start + width j) js ts

abbrev pub partners : List Joined → List (List Row) → List Partner
partners js ts = no_row ∷ partners_from 0 js ts

-- ---- terms that tell keys

-- the ON of a LEFT JOIN never faults
abbrev pub is_safe : Joined → Bool
is_safe j = not j.is_left || list_all quiet j.on

-- the ON of a join never faults, whatever brings the table
abbrev pub has_quiet_on : Joined → Bool
has_quiet_on j = list_all quiet j.on

-- the terms by which rows of a table may be left out of a join: its ON, and WHERE unless a LEFT JOIN brings it
abbrev pub MayLeaveOut : Query → Joined → List Expr → Type 0
MayLeaveOut q j terms = (terms ≡ j.on) ⊎ ((j.is_left ≡ false) × (terms ≡ q.filter))

-- Where no ON of a LEFT JOIN can fault, a SELECT answers the same over what is kept of the keys that terms tell beside the rows of
-- the tables further left as over all that is kept of a table, faults included.
abbrev pub JoinsByKeys : Type 0
JoinsByKeys =
    (host : Host) (params : List Value) (regard : Regard) (def : TableDef) (q : Query) (before : List Joined) (j : Joined)
    (after : List Joined) (front : List (List Row)) (kept : List Change) (back : List (List Row)) (terms : List Expr)
    (keys : List (List ℕ))
    → OrdersBytes host → has_key def ≡ true → AreKeptOf def kept
    → q.joined ≡ before ++ (j ∷ after) → list_all is_safe q.joined ≡ true → AreWide before front → MayLeaveOut q j terms
    → joined_keys (widths before) def params terms (partners before front) ≡ Some keys
    → answer (regarded regard host params) (view.query q) (front ++ (rows kept def ∷ back))
    ≡ answer (regarded regard host params) (view.query q) (front ++ (rows (part def.name (is_key_of keys) kept) def ∷ back))

-- So it is over what is kept of the keys that a list in WHERE tells, of a table that no LEFT JOIN brings, where no ON can fault.
abbrev pub JoinsByList : Type 0
JoinsByList =
    (host : Host) (params : List Value) (regard : Regard) (def : TableDef) (q : Query) (before : List Joined) (j : Joined)
    (after : List Joined) (front : List (List Row)) (kept : List Change) (back : List (List Row)) (keys : List (List ℕ))
    → IsLimit regard.most → OrdersBytes host → has_key def ≡ true → AreKeptOf def kept
    → q.joined ≡ before ++ (j ∷ after) → list_all has_quiet_on q.joined ≡ true → AreWide before front → j.is_left ≡ false
    → listed_keys (widths before) def params q.filter ≡ Some keys
    → answer (regarded regard host params) (view.query q) (front ++ (rows kept def ∷ back))
    ≡ answer (regarded regard host params) (view.query q) (front ++ (rows (part def.name (is_key_of keys) kept) def ∷ back))
