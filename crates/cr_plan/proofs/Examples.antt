-- What known terms and orders are offered as. The table is `t(id INTEGER PRIMARY KEY, name TEXT)`.
use Rattle.std.specs.Prelude.{◌≡◌, refl, ℕ, pos, Bool, true, false, List, [], ◌∷◌, codes, Some, None}
use Rattle.std.specs.Fmt.{signed_decimal}
use Rattle.cr_value.specs.declared.value.Value.TheVariants.{Null, Int, Text}
use Rattle.cr_value.specs.declared.affinity.Affinity.{Affinity}
use Rattle.cr_value.specs.declared.affinity.Affinity.TheVariants as affinity
use Rattle.cr_value.specs.Affinity.{int_of_text}
use Rattle.cr_term.specs.declared.operator.Comparison.TheVariants as c
use Rattle.cr_term.specs.declared.operator.Arithmetic.TheVariants as arithmetic
use Rattle.cr_term.specs.declared.operator.Unary.TheVariants as unary
use Rattle.cr_term.specs.declared.expr.Expr.{Expr, out-roll-Expr}
use Rattle.cr_term.specs.declared.expr.Expr.TheFolds.{fold-roll-Expr}
use Rattle.cr_term.specs.declared.query.Held.TheVariants as held
use Rattle.cr_term.specs.declared.query.Joined.{Joined}
use Rattle.cr_term.specs.declared.query.OrderTerm.{OrderTerm}
use Rattle.cr_term.specs.declared.query.Query.{Query}
use Rattle.cr_term.specs.Nodes as e
use Rattle.cr_term.specs.Operands.{binary, comparison}
use Rattle.cr_module.specs.declared.plan.Argument.{Argument}
use Rattle.cr_module.specs.declared.plan.Choice.{Choice}
use Rattle.cr_module.specs.declared.plan.Comparison.TheVariants.{Eq, Gt, Le, Lt, Ge}
use Rattle.cr_lattice.specs.declared.table.ColumnDef.{ColumnDef}
use Rattle.cr_plan.specs.declared.offer.Columns.{Columns}
use Rattle.cr_plan.specs.Offers.{against, arguments, offer, offers}
use Rattle.cr_plan.specs.Orders.{orders_for}
use Rattle.cr_plan.specs.Told.{offers_to, told_terms}

ruleset folds = (fold-roll-Expr, out-roll-Expr)

abbrev nocase : List ℕ
nocase = codes "nocase"

abbrev field : ℕ → Affinity → Expr
field at a = e.Column (record { source = 0; place = at; at = at; affinity = a; collation = binary })

abbrev id : Expr
id = field 0 affinity.Integer

abbrev name : Expr
name = field 1 affinity.Text

abbrev text : List ℕ → Expr
text t = e.Literal (Text t)

abbrev number : ℕ → Expr
number n = e.Literal (Int (pos n))

-- the columns of the table where it stands alone, and behind three of others
abbrev alone : Columns
alone = record { start = 0; count = 2 }

abbrev behind_three : Columns
behind_three = record { start = 3; count = 2 }

-- ---- what is offered

-- id = 1
equal : offer alone [] (comparison c.Equal id (number 1)) ≡ Some (against 0 Eq (Int (pos 1)))
equal = simp folds refl

-- id = '1': the text takes on NUMERIC
equal_to_a_text : offer alone [] (comparison c.Equal id (text (codes "1"))) ≡ Some (against 0 Eq (Int (pos 1)))
unfolding int_of_text
equal_to_a_text = simp folds refl

-- id > 'x': what is no number stays a text
above_a_text : offer alone [] (comparison c.Greater id (text (codes "x"))) ≡ Some (against 0 Gt (Text (codes "x")))
unfolding int_of_text
above_a_text = simp folds refl

-- name = 5: the number takes on TEXT, which are its digits
equal_to_a_number : offer alone [] (comparison c.Equal name (number 5)) ≡ Some (against 1 Eq (Text (signed_decimal (pos 5))))
equal_to_a_number = simp folds refl

-- 'x' < name and 7 >= id: turned round
below_the_column : offer alone [] (comparison c.Less (text (codes "x")) name) ≡ Some (against 1 Gt (Text (codes "x")))
below_the_column = simp folds refl

from_the_column : offer alone [] (comparison c.AtLeast (number 7) id) ≡ Some (against 0 Le (Int (pos 7)))
from_the_column = simp folds refl

-- name <= ?2, and id >= ?3 where there is no such value
by_parameter : offer alone (Null ∷ Text (codes "b") ∷ []) (comparison c.AtMost name (e.Param 2)) ≡ Some (against 1 Le (Text (codes "b")))
by_parameter = simp folds refl

by_no_value : offer alone (Null ∷ Text (codes "b") ∷ []) (comparison c.AtLeast id (e.Param 3)) ≡ Some (against 0 Ge Null)
by_no_value = simp folds refl

-- id IS 5 and 5 IS id are equalities
is_a_number : offer alone [] (comparison c.Is id (number 5)) ≡ Some (against 0 Eq (Int (pos 5)))
is_a_number = simp folds refl

number_is : offer alone [] (comparison c.Is (number 5) id) ≡ Some (against 0 Eq (Int (pos 5)))
number_is = simp folds refl

-- name = 'a' COLLATE BINARY
under_binary : offer alone [] (comparison c.Equal name (e.Collate (text (codes "a")) binary)) ≡ Some (against 1 Eq (Text (codes "a")))
under_binary = simp folds refl

-- ---- what is not

-- id <> 1, id = name, id + 0 = 1 and 1 = 1
unequal : offer alone [] (comparison c.Unequal id (number 1)) ≡ None
unequal = simp folds refl

two_columns : offer alone [] (comparison c.Equal id name) ≡ None
two_columns = simp folds refl

no_column : offer alone [] (comparison c.Equal (e.Arithmetic arithmetic.Add id (number 0)) (number 1)) ≡ None
no_column = simp folds refl

two_constants : offer alone [] (comparison c.Equal (number 1) (number 1)) ≡ None
two_constants = simp folds refl

-- name COLLATE NOCASE = 'x'
under_nocase : offer alone [] (comparison c.Equal (e.Collate name nocase) (text (codes "x"))) ≡ None
under_nocase = simp folds refl

-- name IS ?1, name IS NOT 'x', and both spellings of name IS NULL
is_a_parameter : offer alone (Text (codes "x") ∷ []) (comparison c.Is name (e.Param 1)) ≡ None
is_a_parameter = simp folds refl

is_not : offer alone [] (comparison c.IsNot name (text (codes "x"))) ≡ None
is_not = simp folds refl

is_a_null : offer alone [] (comparison c.Is name (e.Literal Null)) ≡ None
is_a_null = simp folds refl

null_test : offer alone [] (e.Unary unary.IsNull name) ≡ None
null_test = simp folds refl

-- ---- several terms

-- WHERE id < 9 AND name <> 'x' AND 'a' <= name
abbrev terms : List Expr
terms = comparison c.Less id (number 9) ∷ comparison c.Unequal name (text (codes "x")) ∷ comparison c.AtMost (text (codes "a")) name ∷ []

in_their_order : offers alone [] terms ≡ against 0 Lt (Int (pos 9)) ∷ against 1 Ge (Text (codes "a")) ∷ []
in_their_order = simp folds refl

-- ---- queries

abbrev ordered : Bool → Bool → List OrderTerm → Query
ordered is_grouped is_distinct order = record {
  is_distinct = is_distinct;
  results = [];
  joined = [];
  filter = [];
  is_grouped = is_grouped;
  groups = [];
  having = None;
  order = order;
  limit = None;
  offset = 0;
}

-- ---- beside other tables

-- the table's id = 1 behind three columns, and where one of these is 1, or one behind its own
equal_behind : offer behind_three [] (comparison c.Equal (field 3 affinity.Integer) (number 1)) ≡ Some (against 0 Eq (Int (pos 1)))
equal_behind = simp folds refl

name_behind : offer behind_three [] (comparison c.Equal (field 4 affinity.Text) (text (codes "a"))) ≡ Some (against 1 Eq (Text (codes "a")))
name_behind = simp folds refl

column_before : offer behind_three [] (comparison c.Equal (field 2 affinity.Integer) (number 1)) ≡ None
column_before = simp folds refl

column_after : offer behind_three [] (comparison c.Equal (field 5 affinity.Integer) (number 1)) ≡ None
column_after = simp folds refl

abbrev column_named : List ℕ → ColumnDef
column_named called = record { name = called; affinity = affinity.Integer; collation = binary; not_null = false; key = None; default = Null }

abbrev table : List ℕ → Bool → List Expr → Joined
table called is_left on = record {
  relation = record {
    definition = record {
      name = called;
      columns = column_named (codes "id") ∷ column_named (codes "name") ∷ [];
    };
    held = held.Module 1;
  };
  is_left = is_left;
  on = on;
}

abbrev joining : List Joined → List Expr → Query
joining joined filter = record (ordered false false []) { joined = joined; filter = filter }

abbrev one : Expr
one = comparison c.Equal id (number 1)

abbrev two : Expr
two = comparison c.Greater (field 2 affinity.Integer) (number 2)

abbrev three : Expr
three = comparison c.Less (field 2 affinity.Integer) (number 3)

abbrev t : Joined
t = table (codes "t") false []

abbrev u : Joined
u = table (codes "u") false (two ∷ [])

-- FROM t JOIN u ON u.id > 2 WHERE t.id = 1 AND u.id < 3: each table is told all terms, and its own are offered it
told_both : told_terms (joining (t ∷ u ∷ []) (one ∷ three ∷ [])) u ≡ two ∷ one ∷ three ∷ []
told_both = refl

to_the_first : offers_to [] (joining (t ∷ u ∷ []) (one ∷ three ∷ [])) (codes "t") ≡ against 0 Eq (Int (pos 1)) ∷ []
to_the_first = simp folds refl

to_the_second : offers_to [] (joining (t ∷ u ∷ []) (one ∷ three ∷ [])) (codes "u") ≡ against 0 Gt (Int (pos 2)) ∷ against 0 Lt (Int (pos 3)) ∷ []
to_the_second = simp folds refl

-- FROM t LEFT JOIN u ON u.id > 2 WHERE t.id = 1 AND u.id < 3: the ON alone, and that to u alone
abbrev brought : Joined
brought = table (codes "u") true (two ∷ [])

to_the_brought : offers_to [] (joining (t ∷ brought ∷ []) (one ∷ three ∷ [])) (codes "u") ≡ against 0 Gt (Int (pos 2)) ∷ []
to_the_brought = simp folds refl

beside_a_left_join : offers_to [] (joining (t ∷ brought ∷ []) (one ∷ three ∷ [])) (codes "t") ≡ []
beside_a_left_join = refl

-- a table that stands twice, and one that does not stand there
to_one_that_stands_twice : offers_to [] (joining (t ∷ t ∷ []) (one ∷ [])) (codes "t") ≡ []
to_one_that_stands_twice = refl

to_none : offers_to [] (joining (t ∷ u ∷ []) (one ∷ [])) (codes "v") ≡ []
to_none = refl

-- ---- what is passed

abbrev choosing : List Argument → Choice
choosing args = record { args = args; index = pos 0; cost = 1; consumed = false }

abbrev argument : ℕ → Argument
argument at = record { constraint = at; omit = false }

-- in the order of the choice, one of them twice, and NULL for a constraint that was not offered
as_chosen : arguments (choosing (argument 1 ∷ argument 0 ∷ argument 1 ∷ argument 2 ∷ []))
    (against 0 Lt (Int (pos 9)) ∷ against 1 Ge (Text (codes "a")) ∷ [])
    ≡ Text (codes "a") ∷ Int (pos 9) ∷ Text (codes "a") ∷ Null ∷ []
as_chosen = refl

-- ---- orders

abbrev by : Expr → List ℕ → Bool → OrderTerm
by x collation descending = record { result = None; expr = x; collation = collation; is_descending = descending }

abbrev falling_name : OrderTerm
falling_name = by name binary true

abbrev rising_id : OrderTerm
rising_id = by id binary false

-- ORDER BY name DESC, id
two_orders : orders_for (ordered false false (falling_name ∷ rising_id ∷ []))
    ≡ record { column = 1; descending = true } ∷ record { column = 0; descending = false } ∷ []
two_orders = simp folds refl

-- ORDER BY id, name COLLATE NOCASE and ORDER BY id, id + 1: none of the two terms
no_nocase_order : orders_for (ordered false false (rising_id ∷ by (e.Collate name nocase) nocase false ∷ [])) ≡ []
no_nocase_order = simp folds refl

no_sum : orders_for (ordered false false (rising_id ∷ by (e.Arithmetic arithmetic.Add id (number 1)) binary false ∷ [])) ≡ []
no_sum = simp folds refl

-- in a join
no_join : orders_for (record (ordered false false (rising_id ∷ [])) { joined = t ∷ u ∷ [] }) ≡ []
no_join = refl

-- with groups, and beside DISTINCT
no_groups : orders_for (ordered true false (rising_id ∷ [])) ≡ []
no_groups = refl

no_distinct : orders_for (ordered false true (rising_id ∷ [])) ≡ []
no_distinct = refl
