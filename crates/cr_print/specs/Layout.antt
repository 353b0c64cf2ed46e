-- Statements as SQL text, one line a production. Source: SQLite's "SQL As Understood By SQLite"; which of its spellings
-- is written is this project's own.
use Rattle.std.specs.Prelude.{ℕ, ℤ, Bool, true, false, List, [], ◌++◌, map, Option, Some, None, codes}
use Rattle.std.specs.Fmt.{signed_decimal}
use Rattle.cr_tree.specs.declared.expr.Expr.{Expr}
use Rattle.cr_tree.specs.declared.statement.Shown.{Shown}
use Rattle.cr_tree.specs.declared.statement.Shown.TheVariants as shows
use Rattle.cr_tree.specs.declared.statement.Source.{Source}
use Rattle.cr_tree.specs.declared.statement.JoinKind.{JoinKind}
use Rattle.cr_tree.specs.declared.statement.JoinKind.TheVariants as kind
use Rattle.cr_tree.specs.declared.statement.Join.{Join}
use Rattle.cr_tree.specs.declared.statement.Tables.{Tables}
use Rattle.cr_tree.specs.declared.statement.Term.{Term}
use Rattle.cr_tree.specs.declared.statement.Limit.{Limit}
use Rattle.cr_tree.specs.declared.statement.Select.{Select}
use Rattle.cr_tree.specs.declared.statement.Insert.{Insert}
use Rattle.cr_tree.specs.declared.statement.Assignment.{Assignment}
use Rattle.cr_tree.specs.declared.statement.Update.{Update}
use Rattle.cr_tree.specs.declared.statement.Delete.{Delete}
use Rattle.cr_tree.specs.declared.statement.Constraint.{Constraint}
use Rattle.cr_tree.specs.declared.statement.Constraint.TheVariants as has
use Rattle.cr_tree.specs.declared.statement.Column.{Column}
use Rattle.cr_tree.specs.declared.statement.Create.{Create}
use Rattle.cr_tree.specs.declared.statement.Alter.{Alter}
use Rattle.cr_tree.specs.declared.statement.Mode.{Mode}
use Rattle.cr_tree.specs.declared.statement.Mode.TheVariants as m
use Rattle.cr_tree.specs.declared.statement.Statement.{Statement}
use Rattle.cr_tree.specs.declared.statement.Statement.TheVariants as s
use Rattle.cr_print.specs.Pieces.{name, value, in_row, listed}
use Rattle.cr_print.specs.Expressions.{expr}

-- ---- what several statements have

-- words and an expression, if there is one
abbrev pub clause : List ℕ → Option Expr → List ℕ
clause before None = []
clause before (Some e) = before ++ expr e

abbrev pub alias : Option (List ℕ) → List ℕ
alias None = []
alias (Some a) = codes " AS " ++ name a

-- ---- SELECT

abbrev pub distinct : Bool → List ℕ
distinct true = codes "SELECT DISTINCT "
distinct false = codes "SELECT "

abbrev pub shown : Shown → List ℕ
shown shows.All = codes "*"
shown (shows.AllOf t) = name t ++ codes ".*"
shown (shows.One e a) = expr e ++ alias a

abbrev pub source : Source → List ℕ
source t = name t.table ++ alias t.alias

abbrev pub join_word : JoinKind → List ℕ
join_word kind.Comma = codes ", "
join_word kind.Inner = codes " INNER JOIN "
join_word kind.Cross = codes " CROSS JOIN "
join_word kind.Left = codes " LEFT JOIN "

abbrev pub join : Join → List ℕ
join j = join_word j.kind ++ source j.source ++ clause (codes " ON ") j.on

abbrev pub from : Option Tables → List ℕ
from None = []
from (Some t) = codes " FROM " ++ source t.first ++ in_row [] [] (map join t.joins)

abbrev pub group : Option (List Expr) → List ℕ
group None = []
group (Some terms) = codes " GROUP BY " ++ listed (map expr terms)

abbrev pub descending : Bool → List ℕ
descending true = codes " DESC"
descending false = []

abbrev pub term : Term → List ℕ
term t = expr t.expr ++ descending t.descending

abbrev pub order : Option (List Term) → List ℕ
order None = []
order (Some terms) = codes " ORDER BY " ++ listed (map term terms)

abbrev pub offset : Option ℤ → List ℕ
offset None = []
offset (Some n) = codes " OFFSET " ++ signed_decimal n

abbrev pub limit : Option Limit → List ℕ
limit None = []
limit (Some l) = codes " LIMIT " ++ signed_decimal l.count ++ offset l.offset

abbrev pub results : Select → List ℕ
results q = distinct q.distinct ++ listed (map shown q.shown)

abbrev pub groups : Select → List ℕ
groups q = group q.group ++ clause (codes " HAVING ") q.having

abbrev pub select : Select → List ℕ
select q = results q ++ from q.from ++ clause (codes " WHERE ") q.filter ++ groups q ++ order q.order ++ limit q.limit

-- ---- INSERT, UPDATE and DELETE

abbrev pub columns : Option (List (List ℕ)) → List ℕ
columns None = []
columns (Some names) = codes " (" ++ listed (map name names) ++ codes ")"

abbrev pub row : List Expr → List ℕ
row values = codes "(" ++ listed (map expr values) ++ codes ")"

abbrev pub into : Insert → List ℕ
into i = codes "INSERT INTO " ++ name i.table ++ columns i.columns

abbrev pub insert : Insert → List ℕ
insert i = into i ++ codes " VALUES " ++ listed (map row i.rows)

abbrev pub assignment : Assignment → List ℕ
assignment a = name a.column ++ codes " = " ++ expr a.value

abbrev pub update : Update → List ℕ
update u = codes "UPDATE " ++ name u.table ++ codes " SET " ++ listed (map assignment u.assignments) ++ clause (codes " WHERE ") u.filter

abbrev pub delete : Delete → List ℕ
delete d = codes "DELETE FROM " ++ name d.table ++ clause (codes " WHERE ") d.filter

-- ---- CREATE TABLE

abbrev pub constraint : Constraint → List ℕ
constraint has.PrimaryKey = codes " PRIMARY KEY"
constraint has.NotNull = codes " NOT NULL"
constraint (has.Default v) = codes " DEFAULT " ++ value v
constraint (has.Collate c) = codes " COLLATE " ++ name c

abbrev pub column : Column → List ℕ
column c = name c.name ++ in_row (codes " ") (codes " ") (map name c.type_words) ++ in_row [] [] (map constraint c.constraints)

abbrev pub key : Option (List (List ℕ)) → List ℕ
key None = []
key (Some names) = codes ", PRIMARY KEY (" ++ listed (map name names) ++ codes ")"

abbrev pub create_word : Bool → List ℕ
create_word true = codes "CREATE TABLE IF NOT EXISTS "
create_word false = codes "CREATE TABLE "

abbrev pub create : Create → List ℕ
create c = create_word c.if_not_exists ++ name c.table ++ codes " (" ++ listed (map column c.columns) ++ key c.key ++ codes ")"

-- ---- ALTER TABLE

abbrev pub alter : Alter → List ℕ
alter a = codes "ALTER TABLE " ++ name a.table ++ codes " ADD COLUMN " ++ column a.column

-- ---- statements

abbrev pub begin : Option Mode → List ℕ
begin None = codes "BEGIN"
begin (Some m.Deferred) = codes "BEGIN DEFERRED"
begin (Some m.Immediate) = codes "BEGIN IMMEDIATE"
begin (Some m.Exclusive) = codes "BEGIN EXCLUSIVE"

abbrev pub statement : Statement → List ℕ
statement (s.Select q) = select q
statement (s.Insert i) = insert i
statement (s.Update u) = update u
statement (s.Delete d) = delete d
statement (s.Create c) = create c
statement (s.Alter a) = alter a
statement (s.Begin mode) = begin mode
statement s.Commit = codes "COMMIT"
statement s.Rollback = codes "ROLLBACK"
