-- What the authorizer is asked about a statement, in order, and what its answers make of the statement.
-- Source: "Compile-Time Authorization Callbacks" of SQLite's C interface; the order of the questions is this project's own.
use Rattle.std.specs.Prelude.{ℕ, Bool, true, false, not, List, [], ◌∷◌, ◌++◌, map, filter, find, get_or, codes, Option, Some, None, if◌then◌else◌}
use Rattle.std.specs.Option.{option_map, option_to_list}
use Rattle.std.specs.List.{flat_map, list_any}
use Rattle.std.specs.Str.{bytes_eq}
use Rattle.cr_value.specs.declared.value.Value.TheVariants.{Null}
use Rattle.cr_value.specs.declared.affinity.Affinity.TheVariants.{Blob}
use Rattle.cr_lattice.specs.declared.table.ColumnDef.{ColumnDef}
use Rattle.cr_host.specs.declared.meaning.Action.{Action}
use Rattle.cr_host.specs.declared.meaning.Action.TheVariants as action
use Rattle.cr_host.specs.declared.meaning.Auth.{Auth}
use Rattle.cr_host.specs.declared.meaning.Auth.TheVariants as auth
use Rattle.cr_term.specs.declared.expr.Column.{Column as Field}
use Rattle.cr_term.specs.declared.operator.BuiltIn.{BuiltIn as Own}
use Rattle.cr_term.specs.declared.operator.BuiltIn.TheVariants as b
use Rattle.cr_term.specs.declared.operator.Aggregate.{Aggregate as Kind}
use Rattle.cr_term.specs.declared.operator.Aggregate.TheVariants as k
use Rattle.cr_term.specs.declared.expr.When.{When}
use Rattle.cr_term.specs.declared.expr.Expr.{Expr}
use Rattle.cr_term.specs.Nodes as e
use Rattle.cr_term.specs.declared.expr.Expr.TheOpen.{Expr-F, When-F, Column, BuiltIn, Host, Aggregate, SiteId, DbVersion}
use Rattle.cr_term.specs.declared.expr.Expr.TheFolds.{fold-Expr}
use Rattle.cr_term.specs.declared.query.Held.TheVariants as held
use Rattle.cr_term.specs.declared.query.Relation.{Relation}
use Rattle.cr_term.specs.declared.query.Joined.{Joined}
use Rattle.cr_term.specs.declared.query.OrderTerm.{OrderTerm}
use Rattle.cr_term.specs.declared.query.Query.{Query}
use Rattle.cr_term.specs.declared.query.Insert.{Insert}
use Rattle.cr_term.specs.declared.query.Update.{Update}
use Rattle.cr_term.specs.declared.query.Resolved.{Resolved}
use Rattle.cr_term.specs.declared.query.Resolved.TheVariants as s
use Rattle.cr_term.specs.Operands.{collation_of}
use Rattle.cr_term.specs.Parts.{parts, arm, columns}
use Rattle.cr_term.specs.Build.{built}
use Rattle.cr_term.specs.declared.query.ResultColumn.{ResultColumn}
use Rattle.cr_questions.specs.declared.question.Question.{Question}

abbrev pub Name : Type 0
Name = List ℕ

-- what an authorizer answers
abbrev pub Answers : Type 0
Answers = Action → Name → Name → Auth

abbrev pub result_column : Expr → ResultColumn
result_column x = record { expr = x; collation = collation_of (x ∷ []) }

abbrev pub ask : Action → Name → Name → Question
ask a x y = record { action = a; a = x; b = y }

abbrev pub is_denied : Auth → Bool
is_denied auth.Ok = false
is_denied auth.Deny = true
is_denied auth.Ignore = false

abbrev pub is_ignored : Auth → Bool
is_ignored auth.Ok = false
is_ignored auth.Deny = false
is_ignored auth.Ignore = true

abbrev pub denied : Answers → Question → Bool
denied answers q = is_denied (answers q.action q.a q.b)

abbrev pub ignored : Answers → Question → Bool
ignored answers q = is_ignored (answers q.action q.a q.b)

-- ---- columns and calls

abbrev pub no_column : ColumnDef
no_column = record { name = []; affinity = Blob; collation = []; not_null = false; key = None; default = Null }

abbrev pub no_table : Relation
no_table = record { held = held.Module 0; definition = record { name = []; columns = [] } }

abbrev pub relation_at : List Relation → Field → Relation
relation_at relations c = get_or relations c.source no_table

abbrev pub read_of : List Relation → Field → Question
read_of relations c = let r : Relation = relation_at relations c in ask action.Read r.definition.name (get_or r.definition.columns c.place no_column).name

abbrev pub own_name : Own → Name
own_name b.Abs = codes "abs"
own_name b.Coalesce = codes "coalesce"
own_name b.Hex = codes "hex"
own_name b.IfNull = codes "ifnull"
own_name b.Length = codes "length"
own_name b.Lower = codes "lower"
own_name (b.Max n) = codes "max"
own_name (b.Min n) = codes "min"
own_name (b.NullIf n) = codes "nullif"
own_name b.TypeOf = codes "typeof"
own_name b.Upper = codes "upper"

abbrev pub kind_name : Kind → Name
kind_name k.CountAll = codes "count"
kind_name k.Count = codes "count"
kind_name (k.Max n) = codes "max"
kind_name (k.Min n) = codes "min"
kind_name k.Sum = codes "sum"
kind_name (k.Host name) = name

abbrev pub call_of : Name → Question
call_of name = ask action.Function [] name

-- the question about one node, if it is a column or a call
abbrev pub question_of : {A C : Type 0} → List Relation → Expr-F A C → Option Question
question_of relations (Column c) = Some (read_of relations c)
question_of relations (BuiltIn f args) = Some (call_of (own_name f))
question_of relations (Host name args) = Some (call_of name)
question_of relations (Aggregate kind args) = Some (call_of (kind_name kind))
question_of relations (SiteId bytes) = Some (call_of (codes "crsql_site_id"))
question_of relations (DbVersion n) = Some (call_of (codes "crsql_db_version"))
question_of relations _ = None

-- ---- questions of an expression, from left to right, a call's before those of its arguments

abbrev pub questions_node : List Relation → Expr-F (List Question) (List Question) → List Question
questions_node relations n = option_to_list (question_of relations n) ++ parts n

abbrev pub asked : List Relation → Expr → List Question
asked relations = fold-Expr (List Question) (List Question) (questions_node relations) arm

abbrev pub asked_all : List Relation → List Expr → List Question
asked_all relations es = flat_map (asked relations) es

-- ---- questions of a statement

abbrev pub relations_of : Query → List Relation
relations_of q = map (λ j. j.relation) q.joined

-- the expressions of a query, in source order
abbrev pub exprs_of : Query → List Expr
exprs_of q = map (λ r. r.expr) q.results ++ flat_map (λ j. j.on) q.joined ++ q.filter ++ map (λ g. g.expr) q.groups ++ option_to_list q.having ++ map (λ t. t.expr) q.order

-- a column of that table is referred to, in whichever source
abbrev pub is_read : List Relation → List Field → Name → Bool
is_read relations fields name = list_any (λ c. bytes_eq name (relation_at relations c).definition.name) fields

-- of the tables that no column is referred to of
abbrev pub bare_reads : List Relation → List Field → List Question
bare_reads relations fields = map (λ r. ask action.Read r.definition.name []) (filter (λ r. not (is_read relations fields r.definition.name)) relations)

abbrev pub select_questions : Query → List Question
select_questions q = ask action.Select [] [] ∷ asked_all (relations_of q) (exprs_of q) ++ bare_reads (relations_of q) (flat_map columns (exprs_of q))

abbrev pub update_of : Relation → ℕ → Question
update_of r at = ask action.Update r.definition.name (get_or r.definition.columns at no_column).name

abbrev pub update_questions : Update → List Question
update_questions u = map (λ a. update_of u.relation a.column) u.assignments ++ asked_all (u.relation ∷ []) (map (λ a. a.value) u.assignments ++ u.filter)

abbrev pub questions : Resolved → List Question
questions (s.Select q) = select_questions q
questions (s.MarkReplicated m) = ask action.Select [] [] ∷ call_of (codes "crsql_as_crr") ∷ []
questions (s.Insert i) = ask action.Insert i.relation.definition.name [] ∷ asked_all [] (flat_map (λ row. row) i.rows)
questions (s.Update u) = update_questions u
questions (s.Delete d) = ask action.Delete d.relation.definition.name [] ∷ asked_all (d.relation ∷ []) d.filter
questions (s.Create c) = ask action.CreateTable c.definition.name [] ∷ []
questions (s.Alter a) = ask action.AlterTable a.relation.definition.name [] ∷ []
questions s.Begin = ask action.Transaction (codes "BEGIN") [] ∷ []
questions s.Commit = ask action.Transaction (codes "COMMIT") [] ∷ []
questions s.Rollback = ask action.Transaction (codes "ROLLBACK") [] ∷ []

abbrev pub first_denied : Answers → List Question → Option Question
first_denied answers qs = find (denied answers) qs

-- ---- what IGNORE leaves of a statement

abbrev pub is_gone : Answers → Option Question → Bool
is_gone answers None = false
is_gone answers (Some q) = ignored answers q

-- NULL in the place of a column or a call, and how operands meet is decided again
abbrev pub left_node : Answers → List Relation → Expr-F Expr When → Expr
left_node answers relations n = if is_gone answers (question_of relations n) then e.Literal Null else built n

abbrev pub left_arm : When-F Expr When → When
left_arm w = record { meeting = w.meeting; when = w.when; then = w.then }

abbrev pub left : Answers → List Relation → Expr → Expr
left answers relations = fold-Expr Expr When (left_node answers relations) left_arm

abbrev pub left_joined : (Expr → Expr) → Joined → Joined
left_joined f j = record j { on = map f j.on }

abbrev pub left_order : (Expr → Expr) → OrderTerm → OrderTerm
left_order f t = let x : Expr = f t.expr in record { result = t.result; expr = x; collation = collation_of (x ∷ []); is_descending = t.is_descending }

-- grouped as it was, in the same classes
abbrev pub left_query : (Expr → Expr) → Query → Query
left_query f q = record {
  is_distinct = q.is_distinct;
  results = map (λ r. result_column (f r.expr)) q.results;
  joined = map (left_joined f) q.joined;
  filter = map f q.filter;
  is_grouped = q.is_grouped;
  groups = map (λ g. record { expr = f g.expr; collation = g.collation }) q.groups;
  having = option_map f q.having;
  order = map (left_order f) q.order;
  limit = q.limit;
  offset = q.offset;
}

abbrev pub left_insert : Answers → Insert → Insert
left_insert answers i = record {
  relation = i.relation;
  columns = i.columns;
  rows = map (map (left answers [])) i.rows;
  is_ignored = ignored answers (ask action.Insert i.relation.definition.name []);
}

abbrev pub left_update : Answers → Update → Update
left_update answers u = record {
  relation = u.relation;
  assignments = map (λ a. record { column = a.column; value = left answers (u.relation ∷ []) a.value }) (filter (λ a. not (ignored answers (update_of u.relation a.column))) u.assignments);
  filter = map (left answers (u.relation ∷ [])) u.filter;
}

abbrev pub left_of : Answers → Resolved → Resolved
left_of answers (s.Select q) = s.Select (left_query (left answers (relations_of q)) q)
left_of answers (s.MarkReplicated m) = s.MarkReplicated (record { relation = m.relation; is_ignored = ignored answers (call_of (codes "crsql_as_crr")) })
left_of answers (s.Insert i) = s.Insert (left_insert answers i)
left_of answers (s.Update u) = s.Update (left_update answers u)
left_of answers (s.Delete d) = s.Delete (record { relation = d.relation; filter = map (left answers (d.relation ∷ [])) d.filter })
left_of answers (s.Create c) = s.Create c
left_of answers (s.Alter a) = s.Alter a
left_of answers s.Begin = s.Begin
left_of answers s.Commit = s.Commit
left_of answers s.Rollback = s.Rollback
