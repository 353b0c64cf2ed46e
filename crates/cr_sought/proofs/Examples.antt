-- Which keys terms ask for, on known examples. The tables are `t(id INTEGER PRIMARY KEY, name TEXT)` and
-- `p(room INTEGER, name TEXT, PRIMARY KEY (room, name))`.
use Rattle.std.specs.Prelude.{◌≡◌, refl, ℕ, pos, true, false, List, [], ◌∷◌, codes, Option, Some, None}
use Rattle.cr_value.specs.declared.value.Value.TheVariants.{Null, Int, Text}
use Rattle.cr_value.specs.declared.affinity.Affinity.{Affinity}
use Rattle.cr_value.specs.declared.affinity.Affinity.TheVariants as affinity
use Rattle.cr_value.specs.Affinity.{int_of_text}
use Rattle.cr_value.specs.Packing.{packed}
use Rattle.cr_lattice.specs.declared.table.ColumnDef.{ColumnDef}
use Rattle.cr_lattice.specs.declared.table.TableDef.{TableDef}
use Rattle.cr_term.specs.declared.operator.Comparison.TheVariants as c
use Rattle.cr_term.specs.declared.operator.Adjusted.TheVariants.{Right}
use Rattle.cr_term.specs.declared.operator.Meeting.{Meeting}
use Rattle.cr_term.specs.declared.expr.Expr.{Expr, out-roll-Expr}
use Rattle.cr_term.specs.declared.expr.Expr.TheFolds.{fold-roll-Expr}
use Rattle.cr_term.specs.Nodes as e
use Rattle.cr_term.specs.Operands.{binary, comparison}
use Rattle.cr_sought.specs.declared.joined.Partner.{Partner}
use Rattle.cr_sought.specs.Joins.{no_row}
use Rattle.cr_sought.specs.Lists.{listed_keys, sought_keys}
use Rattle.cr_sought.specs.Sought.{alone, joined_keys, pin}

ruleset folds = (fold-roll-Expr, out-roll-Expr)

abbrev nocase : List ℕ
nocase = codes "nocase"

abbrev field : ℕ → Affinity → Expr
field at a = e.Column (record { source = 0; place = at; at = at; affinity = a; collation = binary })

abbrev column : List ℕ → Affinity → Option ℕ → ColumnDef
column name a key = record { name = name; affinity = a; collation = binary; not_null = false; key = key; default = Null }

abbrev id : Expr
id = field 0 affinity.Integer

abbrev name : Expr
name = field 1 affinity.Text

abbrev text : List ℕ → Expr
text t = e.Literal (Text t)

abbrev one : Expr
one = e.Literal (Int (pos 1))

-- ---- one column

-- id = 1
key_of_a_number : pin alone [] 0 (comparison c.Equal id one) ≡ Some (Int (pos 1))
key_of_a_number = simp folds refl

-- '1' = id: the text takes on NUMERIC
key_of_a_text : pin alone [] 0 (comparison c.Equal (text (codes "1")) id) ≡ Some (Int (pos 1))
unfolding int_of_text
key_of_a_text = simp folds refl

-- name = ?2
by_parameter : pin alone (Null ∷ Text (codes "b") ∷ []) 1 (comparison c.Equal name (e.Param 2)) ≡ Some (Text (codes "b"))
by_parameter = simp folds refl

-- name = 'a' COLLATE NOCASE, name = id, id IS 1 and id < 1 pin nothing, and id = 1 does not pin the name
no_nocase : pin alone [] 1 (comparison c.Equal name (e.Collate (text (codes "a")) nocase)) ≡ None
no_nocase = simp folds refl

no_column : pin alone [] 1 (comparison c.Equal name id) ≡ None
no_column = simp folds refl

no_is : pin alone [] 0 (comparison c.Is id one) ≡ None
no_is = simp folds refl

no_less : pin alone [] 0 (comparison c.Less id one) ≡ None
no_less = simp folds refl

no_other : pin alone [] 1 (comparison c.Equal id one) ≡ None
no_other = simp folds refl

-- ---- keys

abbrev t : TableDef
t = record { name = codes "t"; columns = column (codes "id") affinity.Integer (Some 1) ∷ column (codes "name") affinity.Text None ∷ [] }

abbrev p : TableDef
p = record {
  name = codes "p";
  columns = column (codes "room") affinity.Integer (Some 2) ∷ column (codes "name") affinity.Text (Some 1) ∷ [];
}

-- id = 1 AND id = 2: by the first
first_term : sought_keys t [] (comparison c.Equal id one ∷ comparison c.Equal id (e.Literal (Int (pos 2))) ∷ [])
    ≡ Some (packed (Int (pos 1) ∷ []) ∷ [])
unfolding sought_keys listed_keys
first_term = simp folds refl

-- room = 1 AND name = 'a', in the order of the key
two_columns : sought_keys p [] (comparison c.Equal id one ∷ comparison c.Equal name (text (codes "a")) ∷ [])
    ≡ Some (packed (Text (codes "a") ∷ Int (pos 1) ∷ []) ∷ [])
unfolding sought_keys listed_keys
two_columns = simp folds refl

-- room = 1 alone; and id = NULL: no row's
one_of_two : sought_keys p [] (comparison c.Equal id one ∷ []) ≡ None
unfolding sought_keys listed_keys
one_of_two = simp folds refl

no_null : sought_keys t [] (comparison c.Equal id (e.Literal Null) ∷ []) ≡ Some []
unfolding sought_keys listed_keys
no_null = simp folds refl

-- ---- lists

abbrev meeting : Meeting
meeting = record { collation = binary; adjusted = Right affinity.Integer }

-- room IN (2, ?1, NULL), behind a term that is quiet, and name = 'a'
abbrev rooms : Expr
rooms = e.In false meeting id (e.Literal (Int (pos 2)) ∷ e.Param 1 ∷ e.Literal Null ∷ [])

abbrev is_a : Expr
is_a = comparison c.Equal name (text (codes "a"))

by_list : sought_keys p (Int (pos 7) ∷ []) (is_a ∷ rooms ∷ [])
    ≡ Some (packed (Text (codes "a") ∷ Int (pos 2) ∷ []) ∷ packed (Text (codes "a") ∷ Int (pos 7) ∷ []) ∷ [])
unfolding sought_keys listed_keys int_of_text
by_list = simp folds refl

-- NOT IN tells nothing, nor does a list behind a term that can have a fault, nor one that holds a column
not_in : sought_keys t [] (e.In true meeting id (one ∷ []) ∷ []) ≡ None
unfolding sought_keys listed_keys
not_in = simp folds refl

behind : sought_keys t [] (e.In false meeting name (one ∷ []) ∷ e.In false meeting id (one ∷ []) ∷ []) ≡ None
unfolding sought_keys listed_keys
behind = simp folds refl

of_a_column : sought_keys t [] (e.In false meeting id (one ∷ name ∷ []) ∷ []) ≡ None
unfolding sought_keys listed_keys
of_a_column = simp folds refl

-- ---- joined tables

-- a row of `t` and behind it the columns of `p`, whose room is that of the row and whose name is told
abbrev room : Expr
room = field 2 affinity.Integer

abbrev other_name : Expr
other_name = field 3 affinity.Text

abbrev rows_of_t : Partner
rows_of_t = record { start = 0; rows = (Int (pos 1) ∷ Text (codes "b") ∷ []) ∷ (Int (pos 2) ∷ Null ∷ []) ∷ [] }

-- room = t.id AND name = t.name: no row where that is NULL
beside_rows : joined_keys 2 p [] (comparison c.Equal room id ∷ comparison c.Equal other_name name ∷ []) (rows_of_t ∷ [])
    ≡ Some (packed (Text (codes "b") ∷ Int (pos 1) ∷ []) ∷ [])
beside_rows = simp folds refl

-- room = t.id AND name = 'a', and without rows of another table
constants_too : joined_keys 2 p [] (comparison c.Equal room id ∷ comparison c.Equal other_name (text (codes "a")) ∷ []) (rows_of_t ∷ [])
    ≡ Some (packed (Text (codes "a") ∷ Int (pos 1) ∷ []) ∷ packed (Text (codes "a") ∷ Int (pos 2) ∷ []) ∷ [])
constants_too = simp folds refl

by_constants : joined_keys 2 p [] (comparison c.Equal room one ∷ comparison c.Equal other_name (text (codes "a")) ∷ []) (no_row ∷ [])
    ≡ Some (packed (Text (codes "a") ∷ Int (pos 1) ∷ []) ∷ [])
by_constants = simp folds refl

-- room = t.id alone
one_of_two_beside : joined_keys 2 p [] (comparison c.Equal room id ∷ []) (rows_of_t ∷ []) ≡ None
one_of_two_beside = simp folds refl
