-- Definitions on known examples. Each says in its comment what SQL it is.
use Rattle.std.specs.Prelude.{◌≡◌, refl, ℕ, pos, ◌&&◌, ◌||◌, true, false, List, [], ◌∷◌, codes, Option, Some, None, Ok, Err, if◌then◌else◌}
use Rattle.std.specs.Option.{is_some}
use Rattle.std.specs.Str.{bytes_eq}
use Rattle.std.specs.Fmt.{digits}
use Rattle.cr_value.specs.declared.value.Value.TheVariants.{Null, Int, Text}
use Rattle.cr_value.specs.declared.affinity.Affinity.TheVariants as affinity
use Rattle.cr_value.specs.Affinity.{affinity_of_type, has_word}
use Rattle.cr_lattice.specs.declared.table.TableDef.{TableDef}
use Rattle.cr_lattice.specs.declared.catalog.Catalog.{Catalog}
use Rattle.cr_host.specs.declared.arity.Arity.TheVariants.{Exactly}
use Rattle.cr_host.specs.declared.function.Definition.TheVariants as defined
use Rattle.cr_host.specs.Registry.{function_for, order_for}
use Rattle.cr_host.specs.Samples.{bylen}
use Rattle.cr_host.specs.declared.meaning.Action.TheVariants as action
use Rattle.cr_host.specs.declared.meaning.Auth.TheVariants as auth
use Rattle.cr_tree.specs.declared.expr.Binary.TheVariants as op
use Rattle.cr_tree.specs.declared.expr.Expr.{Expr as Tree, roll-Expr as roll-Tree, out-roll-Expr as out-roll-Tree}
use Rattle.cr_tree.specs.declared.expr.Expr.TheOpen as tree
use Rattle.cr_tree.specs.declared.expr.Expr.TheFolds.{fold-roll-Expr as fold-roll-Tree}
use Rattle.cr_tree.specs.declared.statement.Shown.{Shown}
use Rattle.cr_tree.specs.declared.statement.Shown.TheVariants as shows
use Rattle.cr_tree.specs.declared.statement.JoinKind.TheVariants.{Comma as comma, Left as left-join}
use Rattle.cr_tree.specs.declared.statement.Tables.{Tables}
use Rattle.cr_tree.specs.declared.statement.Select.{Select}
use Rattle.cr_tree.specs.declared.statement.Constraint.TheVariants as has
use Rattle.cr_tree.specs.declared.statement.Statement.TheVariants as s
use Rattle.cr_term.specs.declared.expr.Expr.{Expr, out-roll-Expr}
use Rattle.cr_term.specs.declared.expr.Expr.TheFolds.{fold-roll-Expr}
use Rattle.cr_term.specs.declared.operator.Comparison.TheVariants as c
use Rattle.cr_term.specs.declared.query.Resolved.TheVariants as r
use Rattle.cr_term.specs.declared.query.Held.TheVariants as held
use Rattle.cr_term.specs.declared.query.Relation.{Relation}
use Rattle.cr_term.specs.declared.operator.Adjusted.TheVariants.{Neither}
use Rattle.cr_term.specs.Operands.{comparison}
use Rattle.cr_term.specs.Nodes as e
use Rattle.cr_term.specs.At.{at_is}
use Rattle.cr_resolve.specs.declared.refusal.Refusal.TheVariants.{NoSuchTable, NoSuchColumn, AmbiguousColumn, NoSuchFunction, WrongArity, NoSuchCollation, BadName, TableExists, Misaggregate, OutOfProfile, Denied}
use Rattle.cr_resolve.specs.declared.refusal.Outside.TheVariants as outside
use Rattle.cr_resolve.specs.Known.{Known}
use Rattle.cr_questions.specs.Questions.{Answers, ask, questions, left, left_of}
use Rattle.cr_resolve.specs.Parameters.{fits}
use Rattle.cr_resolve.specs.Writes.{insert_row, targets}
use Rattle.cr_resolve.specs.Resolve.{complaints, resolved, read}

-- ---- a table t(id INT PRIMARY KEY, name TEXT DEFAULT 'none'), and a host with half and bylen

abbrev t : TableDef
t = record {
  name = codes "t";
  columns =
      record { name = codes "id"; affinity = affinity.Integer; collation = codes "binary"; not_null = false; key = Some 1; default = Null }
      ∷ record { name = codes "name"; affinity = affinity.Text; collation = codes "binary"; not_null = false; key = None; default = Text (codes "none") } ∷ [];
}

abbrev catalog : Catalog
catalog = record { tables = record { definition = t; is_replicated = true } ∷ []; modules = []; site = 10 ∷ []; db_version = pos 3 }

abbrev known : Known
known = record {
  catalog = catalog;
  function_of = λ name count. function_for name count (record { name = codes "half"; arity = Exactly 1; definition = defined.Scalar 0 } ∷ record { name = codes "xorall"; arity = Exactly 1; definition = defined.Aggregate 1 } ∷ []);
  has_function = λ name. bytes_eq name (codes "half") || bytes_eq name (codes "xorall");
  has_collation = λ name. is_some (order_for (λ n. bylen) name (record { name = codes "bylen"; number = 0 } ∷ []));
}

abbrev all_ok : Answers
all_ok action a b = auth.Ok

-- READ of t.name is ignored
abbrev ignores_name : Answers
ignores_name action.Read a b = if bytes_eq a (codes "t") && bytes_eq b (codes "name") then auth.Ignore else auth.Ok
ignores_name action a b = auth.Ok

abbrev denies_name : Answers
denies_name action.Read a b = if bytes_eq a (codes "t") && bytes_eq b (codes "name") then auth.Deny else auth.Ok
denies_name action a b = auth.Ok

abbrev ignores_update : Answers
ignores_update action.Update a b = auth.Ignore
ignores_update action a b = auth.Ok

abbrev the_t : Relation
the_t = record { held = held.Table 0 true; definition = t }

abbrev the_name : Expr
the_name = e.Column (record { source = 0; place = 1; at = 1; affinity = affinity.Text; collation = codes "binary" })

-- ---- trees

abbrev name : List ℕ → Tree
name n = roll-Tree (tree.Column None n)

abbrev of : List ℕ → List ℕ → Tree
of q n = roll-Tree (tree.Column (Some q) n)

abbrev int : ℕ → Tree
int n = roll-Tree (tree.Literal (Int (pos n)))

abbrev text : List ℕ → Tree
text t = roll-Tree (tree.Literal (Text t))

abbrev call : List ℕ → List Tree → Tree
call f args = roll-Tree (tree.Call f args)

abbrev show : Tree → Shown
show x = shows.One x None

abbrev from : List ℕ → Option Tables
from name = Some (record { first = record { table = name; alias = None }; joins = [] })

abbrev plain : List Shown → Option Tables → Select
plain shown tables = record { distinct = false; shown = shown; from = tables; filter = None; group = None; having = None; order = None; limit = None }

-- how folds compute
ruleset folds = (fold-roll-Tree, out-roll-Tree, fold-roll-Expr, out-roll-Expr, at_is)

-- SELECT nope, nofn(1) FROM zz
table_comes_first : complaints known (s.Select (plain (show (name (codes "nope")) ∷ show (call (codes "nofn") (int 1 ∷ [])) ∷ []) (from (codes "zz")))) ≡ NoSuchTable (codes "zz") ∷ NoSuchColumn (codes "nope") ∷ NoSuchFunction (codes "nofn") ∷ []
table_comes_first = simp folds refl

-- SELECT nofn(1), nope FROM t
source_order : complaints known (s.Select (plain (show (call (codes "nofn") (int 1 ∷ [])) ∷ show (name (codes "nope")) ∷ []) (from (codes "t")))) ≡ NoSuchFunction (codes "nofn") ∷ NoSuchColumn (codes "nope") ∷ []
source_order = simp folds refl

-- SELECT half(nope, 1) FROM t: the name and its count come before the arguments
name_before_arguments : complaints known (s.Select (plain (show (call (codes "half") (name (codes "nope") ∷ int 1 ∷ [])) ∷ []) (from (codes "t")))) ≡ WrongArity (codes "half") ∷ []
name_before_arguments = simp folds refl

-- SELECT nope COLLATE zz FROM t
collate_after_its_operand : complaints known (s.Select (plain (show (roll-Tree (tree.Collate (name (codes "nope")) (codes "zz"))) ∷ []) (from (codes "t")))) ≡ NoSuchColumn (codes "nope") ∷ NoSuchCollation (codes "zz") ∷ []
collate_after_its_operand = simp folds refl

-- SELECT *
star_wants_a_table : complaints known (s.Select (plain (shows.All ∷ []) None)) ≡ NoSuchColumn (codes "*") ∷ []
star_wants_a_table = refl

-- SELECT a.* FROM t
star_of_no_source : complaints known (s.Select (plain (shows.AllOf (codes "a") ∷ []) (from (codes "t")))) ≡ NoSuchTable (codes "a") ∷ []
star_of_no_source = refl

-- SELECT u.id FROM t
qualified_name : complaints known (s.Select (plain (show (of (codes "u") (codes "id")) ∷ []) (from (codes "t")))) ≡ NoSuchColumn (codes "u.id") ∷ []
qualified_name = simp folds refl

-- SELECT id FROM t, t AS u
two_fit : complaints known (s.Select (plain (show (name (codes "id")) ∷ []) (Some (record { first = record { table = codes "t"; alias = None }; joins = record { kind = comma; source = record { table = codes "t"; alias = Some (codes "u") }; on = None } ∷ [] })))) ≡ AmbiguousColumn (codes "id") ∷ []
two_fit = simp folds refl

-- SELECT u.id FROM t, t AS u
alias_alone : complaints known (s.Select (plain (show (of (codes "u") (codes "id")) ∷ []) (Some (record { first = record { table = codes "t"; alias = None }; joins = record { kind = comma; source = record { table = codes "t"; alias = Some (codes "u") }; on = None } ∷ [] })))) ≡ []
alias_alone = simp folds refl

-- SELECT crsql_as_crr('t'), 1: elsewhere there is no such function
marking_stands_alone : complaints known (s.Select (plain (show (call (codes "crsql_as_crr") (text (codes "t") ∷ [])) ∷ show (int 1) ∷ []) None)) ≡ NoSuchFunction (codes "crsql_as_crr") ∷ []
marking_stands_alone = simp folds refl

-- SELECT count() FROM t
count_wants_an_argument : complaints known (s.Select (plain (show (call (codes "count") []) ∷ []) (from (codes "t")))) ≡ WrongArity (codes "count") ∷ []
count_wants_an_argument = simp folds refl

-- SELECT crsql_site_id(1)
own_function_wrong_count : complaints known (s.Select (plain (show (call (codes "crsql_site_id") (int 1 ∷ [])) ∷ []) None)) ≡ WrongArity (codes "crsql_site_id") ∷ []
own_function_wrong_count = simp folds refl

-- SELECT id FROM t WHERE sum(id) = 1
aggregate_in_where : complaints known (s.Select (record (plain (show (name (codes "id")) ∷ []) (from (codes "t"))) { filter = Some (roll-Tree (tree.Binary op.Equal (call (codes "sum") (name (codes "id") ∷ [])) (int 1))) })) ≡ Misaggregate ∷ []
aggregate_in_where = simp folds refl

-- SELECT sum(count(id)) FROM t
aggregate_in_aggregate : complaints known (s.Select (plain (show (call (codes "sum") (call (codes "count") (name (codes "id") ∷ []) ∷ [])) ∷ []) (from (codes "t")))) ≡ Misaggregate ∷ []
aggregate_in_aggregate = simp folds refl

-- SELECT sum(sum(id)), nope FROM t
names_before_misaggregate : complaints known (s.Select (plain (show (call (codes "sum") (call (codes "sum") (name (codes "id") ∷ []) ∷ [])) ∷ show (name (codes "nope")) ∷ []) (from (codes "t")))) ≡ NoSuchColumn (codes "nope") ∷ Misaggregate ∷ []
names_before_misaggregate = simp folds refl

-- SELECT id, count(*) FROM t
bare_column : complaints known (s.Select (plain (show (name (codes "id")) ∷ show (roll-Tree tree.CountAll) ∷ []) (from (codes "t")))) ≡ Misaggregate ∷ []
bare_column = simp folds refl

-- SELECT id FROM t HAVING 1
having_alone_groups : complaints known (s.Select (record (plain (show (name (codes "id")) ∷ []) (from (codes "t"))) { having = Some (int 1) })) ≡ Misaggregate ∷ []
having_alone_groups = simp folds refl

-- SELECT id FROM t ORDER BY count(*)
order_groups : complaints known (s.Select (record (plain (show (name (codes "id")) ∷ []) (from (codes "t"))) { order = Some (record { expr = roll-Tree tree.CountAll; descending = false } ∷ []) })) ≡ Misaggregate ∷ []
order_groups = simp folds refl

-- SELECT id + 1 FROM t GROUP BY id + 1
grouped_term_may_stand : complaints known (s.Select (record (plain (show (roll-Tree (tree.Binary op.Add (name (codes "id")) (int 1))) ∷ []) (from (codes "t"))) { group = Some (roll-Tree (tree.Binary op.Add (name (codes "id")) (int 1)) ∷ []) })) ≡ []
grouped_term_may_stand = simp folds refl

-- SELECT t.id FROM t GROUP BY id COLLATE nocase
qualified_is_equal : complaints known (s.Select (record (plain (show (of (codes "t") (codes "id")) ∷ []) (from (codes "t"))) { group = Some (roll-Tree (tree.Collate (name (codes "id")) (codes "nocase")) ∷ []) })) ≡ []
qualified_is_equal = simp folds refl

-- SELECT id FROM t GROUP BY 2: no such result
group_by_number : complaints known (s.Select (record (plain (show (name (codes "id")) ∷ []) (from (codes "t"))) { group = Some (int 2 ∷ []) })) ≡ NoSuchColumn (codes "2") ∷ Misaggregate ∷ []
unfolding digits
group_by_number = simp folds refl

-- SELECT count(id) FROM t GROUP BY 1
group_by_aggregate : complaints known (s.Select (record (plain (show (call (codes "count") (name (codes "id") ∷ [])) ∷ []) (from (codes "t"))) { group = Some (int 1 ∷ []) })) ≡ Misaggregate ∷ []
group_by_aggregate = simp folds refl

-- SELECT DISTINCT name FROM t ORDER BY name COLLATE nocase
distinct_order : complaints known (s.Select (record (plain (show (name (codes "name")) ∷ []) (from (codes "t"))) { distinct = true; order = Some (record { expr = roll-Tree (tree.Collate (name (codes "name")) (codes "nocase")); descending = false } ∷ []) })) ≡ OutOfProfile outside.Distinct ∷ []
distinct_order = simp folds refl

-- SELECT DISTINCT name FROM t ORDER BY 1, name
distinct_by_number : complaints known (s.Select (record (plain (show (name (codes "name")) ∷ []) (from (codes "t"))) { distinct = true; order = Some (record { expr = int 1; descending = false } ∷ record { expr = name (codes "name"); descending = false } ∷ []) })) ≡ []
distinct_by_number = simp folds refl

-- SELECT nope, CAST(1 AS REAL) FROM zz
cast_first : complaints known (s.Select (plain (show (name (codes "nope")) ∷ show (roll-Tree (tree.Cast (int 1) (codes "real" ∷ []))) ∷ []) (from (codes "zz")))) ≡ OutOfProfile outside.Real ∷ NoSuchTable (codes "zz") ∷ NoSuchColumn (codes "nope") ∷ []
unfolding affinity_of_type has_word
cast_first = simp folds refl

-- SELECT id AS name, name AS x FROM t ORDER BY name, zz
alias_first : complaints known (s.Select (record (plain (shows.One (name (codes "id")) (Some (codes "name")) ∷ shows.One (name (codes "name")) (Some (codes "x")) ∷ []) (from (codes "t"))) { order = Some (record { expr = name (codes "name"); descending = false } ∷ record { expr = name (codes "zz"); descending = false } ∷ []) })) ≡ NoSuchColumn (codes "zz") ∷ []
alias_first = simp folds refl

-- SELECT half(id), * FROM t: a call before its arguments, `*` in place, and no READ of the table
asked_in_order : questions (read known (s.Select (plain (show (call (codes "half") (name (codes "id") ∷ [])) ∷ shows.All ∷ []) (from (codes "t"))))).made ≡ ask action.Select [] [] ∷ ask action.Function [] (codes "half") ∷ ask action.Read (codes "t") (codes "id") ∷ ask action.Read (codes "t") (codes "id") ∷ ask action.Read (codes "t") (codes "name") ∷ []
asked_in_order = simp folds refl

-- SELECT 1 FROM t: READ of no column
table_is_asked : questions (read known (s.Select (plain (show (int 1) ∷ []) (from (codes "t"))))).made ≡ ask action.Select [] [] ∷ ask action.Read (codes "t") [] ∷ []
table_is_asked = simp folds refl

-- SELECT name, nope FROM t, with READ of t.name denied
names_before_denials : resolved known denies_name (s.Select (plain (show (name (codes "name")) ∷ show (name (codes "nope")) ∷ []) (from (codes "t")))) ≡ Err (NoSuchColumn (codes "nope"))
names_before_denials = simp folds refl

-- SELECT name FROM t, with READ of t.name denied
denied_read : resolved known denies_name (s.Select (plain (show (name (codes "name")) ∷ []) (from (codes "t")))) ≡ Err (Denied (ask action.Read (codes "t") (codes "name")))
denied_read = simp folds refl

-- SELECT 1 FROM t LEFT JOIN t AS u ON u.id = v.id, t AS v
left_sees_to_its_left : complaints known (s.Select (plain (show (int 1) ∷ []) (Some (record { first = record { table = codes "t"; alias = None }; joins = record { kind = left-join; source = record { table = codes "t"; alias = Some (codes "u") }; on = Some (roll-Tree (tree.Binary op.Equal (of (codes "u") (codes "id")) (of (codes "v") (codes "id")))) } ∷ record { kind = comma; source = record { table = codes "t"; alias = Some (codes "v") }; on = None } ∷ [] })))) ≡ NoSuchColumn (codes "v.id") ∷ []
left_sees_to_its_left = simp folds refl

-- SELECT 1 FROM t LEFT JOIN t AS u ON u.id = t.id + 1, t AS v
left_sees_its_own : complaints known (s.Select (plain (show (int 1) ∷ []) (Some (record { first = record { table = codes "t"; alias = None }; joins = record { kind = left-join; source = record { table = codes "t"; alias = Some (codes "u") }; on = Some (roll-Tree (tree.Binary op.Equal (of (codes "u") (codes "id")) (roll-Tree (tree.Binary op.Add (of (codes "t") (codes "id")) (int 1))))) } ∷ record { kind = comma; source = record { table = codes "t"; alias = Some (codes "v") }; on = None } ∷ [] })))) ≡ []
left_sees_its_own = simp folds refl

-- SELECT id FROM t GROUP BY id HAVING name
having_wants_terms : complaints known (s.Select (record (plain (show (name (codes "id")) ∷ []) (from (codes "t"))) { group = Some (name (codes "id") ∷ []); having = Some (name (codes "name")) })) ≡ Misaggregate ∷ []
having_wants_terms = simp folds refl

-- CREATE TABLE t(id INT PRIMARY KEY)
create_taken : complaints known (s.Create (record { if_not_exists = false; table = codes "t"; columns = record { name = codes "id"; type_words = codes "int" ∷ []; constraints = has.PrimaryKey ∷ [] } ∷ []; key = None })) ≡ TableExists (codes "t") ∷ []
unfolding affinity_of_type has_word
create_taken = refl

-- ALTER TABLE t ADD n INT DEFAULT 7
adds_column : complaints known (s.Alter (record { table = codes "t"; column = record { name = codes "n"; type_words = codes "int" ∷ []; constraints = has.Default (Int (pos 7)) ∷ [] } })) ≡ []
unfolding affinity_of_type has_word
adds_column = refl

-- ALTER TABLE t ADD name
column_is_there : complaints known (s.Alter (record { table = codes "t"; column = record { name = codes "name"; type_words = []; constraints = [] } })) ≡ AmbiguousColumn (codes "name") ∷ []
unfolding affinity_of_type has_word
column_is_there = refl

-- ALTER TABLE zz ADD n INT PRIMARY KEY COLLATE zz: the profile, then the table, then the collation
added_in_order : complaints known (s.Alter (record { table = codes "zz"; column = record { name = codes "n"; type_words = codes "int" ∷ []; constraints = has.PrimaryKey ∷ has.Collate (codes "zz") ∷ [] } })) ≡ OutOfProfile outside.PrimaryKey ∷ NoSuchTable (codes "zz") ∷ NoSuchCollation (codes "zz") ∷ []
unfolding affinity_of_type has_word
added_in_order = refl

-- CREATE TABLE u(id INT)
create_without_key : complaints known (s.Create (record { if_not_exists = false; table = codes "u"; columns = record { name = codes "id"; type_words = codes "int" ∷ []; constraints = [] } ∷ []; key = None })) ≡ OutOfProfile outside.PrimaryKey ∷ []
unfolding affinity_of_type has_word
create_without_key = refl

-- CREATE TABLE u(id INT PRIMARY KEY, PRIMARY KEY(id))
two_keys : complaints known (s.Create (record { if_not_exists = false; table = codes "u"; columns = record { name = codes "id"; type_words = codes "int" ∷ []; constraints = has.PrimaryKey ∷ [] } ∷ []; key = Some (codes "id" ∷ []) })) ≡ OutOfProfile outside.PrimaryKey ∷ []
unfolding affinity_of_type has_word
two_keys = refl

-- CREATE TABLE u(id INT, PRIMARY KEY(nope)): a name, and no fault of the profile
key_of_no_column : complaints known (s.Create (record { if_not_exists = false; table = codes "u"; columns = record { name = codes "id"; type_words = codes "int" ∷ []; constraints = [] } ∷ []; key = Some (codes "nope" ∷ []) })) ≡ NoSuchColumn (codes "nope") ∷ []
unfolding affinity_of_type has_word
key_of_no_column = refl

-- CREATE TABLE u(id TEXT PRIMARY KEY COLLATE zz COLLATE binary): the last one counts
last_collate_counts : complaints known (s.Create (record { if_not_exists = false; table = codes "u"; columns = record { name = codes "id"; type_words = codes "text" ∷ []; constraints = has.PrimaryKey ∷ has.Collate (codes "zz") ∷ has.Collate (codes "binary") ∷ [] } ∷ []; key = None })) ≡ []
unfolding affinity_of_type has_word
last_collate_counts = refl

-- CREATE TABLE t(a DOUBLE): before the key, before the name
real_comes_first : complaints known (s.Create (record { if_not_exists = false; table = codes "t"; columns = record { name = codes "a"; type_words = codes "double" ∷ []; constraints = [] } ∷ []; key = None })) ≡ OutOfProfile outside.Real ∷ OutOfProfile outside.PrimaryKey ∷ TableExists (codes "t") ∷ []
unfolding affinity_of_type has_word
real_comes_first = refl

-- CREATE TABLE crsql_x(id INT PRIMARY KEY)
reserved_name : complaints known (s.Create (record { if_not_exists = false; table = codes "crsql_x"; columns = record { name = codes "id"; type_words = codes "int" ∷ []; constraints = has.PrimaryKey ∷ [] } ∷ []; key = None })) ≡ BadName (codes "crsql_x") ∷ []
unfolding affinity_of_type has_word
reserved_name = refl

-- INSERT INTO t VALUES(): of two columns none
row_of_another_width : (insert_row known (codes "t") 2 []).bad ≡ WrongArity (codes "t") ∷ []
row_of_another_width = refl

-- INSERT INTO t(id, id, nope) ..
column_named_twice : (targets t [] (codes "id" ∷ codes "id" ∷ codes "nope" ∷ [])).bad ≡ AmbiguousColumn (codes "id") ∷ NoSuchColumn (codes "nope") ∷ []
column_named_twice = refl

-- SELECT crsql_as_crr('T')
marks_a_table : resolved known all_ok (s.Select (plain (show (call (codes "crsql_as_crr") (text (codes "T") ∷ [])) ∷ []) None)) ≡ Ok (r.MarkReplicated (record { relation = the_t; is_ignored = false }))
marks_a_table = simp folds refl

-- name COLLATE nocase IS NULL, with READ of t.name ignored: NULL brings no affinity, and the term stays quiet
ignored_leaves_nothing : left ignores_name (the_t ∷ []) (comparison c.Is (e.Collate the_name (codes "nocase")) (e.Literal Null)) ≡ e.Compare c.Is (record { adjusted = Neither; collation = codes "nocase" }) (e.Collate (e.Literal Null) (codes "nocase")) (e.Literal Null)
ignored_leaves_nothing = simp folds refl

-- name = 5, with READ of t.name ignored: nothing is adjusted
ignored_meets_anew : left ignores_name (the_t ∷ []) (comparison c.Equal the_name (e.Literal (Int (pos 5)))) ≡ e.Compare c.Equal (record { adjusted = Neither; collation = codes "binary" }) (e.Literal Null) (e.Literal (Int (pos 5)))
ignored_meets_anew = simp folds refl

-- UPDATE t SET name = half(1), with UPDATE of t.name ignored: its value is gone too
ignored_assignment : left_of ignores_update (r.Update (record { relation = the_t; assignments = record { column = 1; value = e.Host (codes "half") (e.Literal (Int (pos 1)) ∷ []) } ∷ []; filter = [] })) ≡ r.Update (record { relation = the_t; assignments = []; filter = [] })
ignored_assignment = refl

-- SELECT ?2 FROM t WHERE ?1: two values fit, and no other number of them
parameters_are_counted : fits (s.Select (record (plain (show (roll-Tree (tree.Param 2)) ∷ []) (from (codes "t"))) { filter = Some (roll-Tree (tree.Param 1)) })) 2 ≡ true
parameters_are_counted = simp folds refl

-- SELECT ?0, ?1 with one value
no_parameter_zero : fits (s.Select (plain (show (roll-Tree (tree.Param 0)) ∷ show (roll-Tree (tree.Param 1)) ∷ []) None)) 1 ≡ false
no_parameter_zero = simp folds refl
