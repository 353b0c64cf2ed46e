-- The grammar of statements. Source: "SQL As Understood By SQLite", the part of it that this project reads.
use Rattle.std.specs.Prelude.{ℕ, ◌-◌, ◌^◌, ℤ, pos, neg_ℤ, negsuc, Bool, true, false, if◌then◌else◌, nat_lt, nat_le, int_le, List, Option, Some, None}
use Rattle.cr_value.specs.declared.value.Value.{Value}
use Rattle.cr_value.specs.declared.value.Value.TheVariants as v
use Rattle.cr_tree.specs.declared.symbol.Mark.{Mark}
use Rattle.cr_tree.specs.declared.symbol.Mark.TheVariants as m
use Rattle.cr_tree.specs.declared.symbol.Symbol.{Symbol}
use Rattle.cr_tree.specs.declared.symbol.Symbol.TheVariants as k
use Rattle.cr_tree.specs.declared.expr.Expr.{Expr}
use Rattle.cr_tree.specs.declared.statement.Shown.{Shown}
use Rattle.cr_tree.specs.declared.statement.Shown.TheVariants as s
use Rattle.cr_tree.specs.declared.statement.Source.{Source}
use Rattle.cr_tree.specs.declared.statement.JoinKind.{JoinKind}
use Rattle.cr_tree.specs.declared.statement.JoinKind.TheVariants as j
use Rattle.cr_tree.specs.declared.statement.Join.{Join}
use Rattle.cr_tree.specs.declared.statement.Tables.{Tables}
use Rattle.cr_tree.specs.declared.statement.Term.{Term}
use Rattle.cr_tree.specs.declared.statement.Limit.{Limit}
use Rattle.cr_tree.specs.declared.statement.Select.{Select}
use Rattle.cr_tree.specs.declared.statement.Insert.{Insert}
use Rattle.cr_tree.specs.declared.statement.Assignment.{Assignment}
use Rattle.cr_tree.specs.declared.statement.Update.{Update}
use Rattle.cr_tree.specs.declared.statement.Delete.{Delete}
use Rattle.cr_tree.specs.declared.statement.Constraint.{Constraint}
use Rattle.cr_tree.specs.declared.statement.Constraint.TheVariants as c
use Rattle.cr_tree.specs.declared.statement.Column.{Column}
use Rattle.cr_tree.specs.declared.statement.Create.{Create}
use Rattle.cr_tree.specs.declared.statement.Alter.{Alter}
use Rattle.cr_tree.specs.declared.statement.Mode.{Mode}
use Rattle.cr_tree.specs.declared.statement.Mode.TheVariants as o
use Rattle.cr_tree.specs.declared.statement.Statement.{Statement}
use Rattle.cr_tree.specs.declared.statement.Statement.TheVariants as t
use Rattle.cr_tree.specs.Language.{Language, expr}
use Rattle.cr_statement.specs.Languages.{◌◁◌, ◌▷◌, ◌⊗◌, ◌⟨$⟩◌, ◌∣◌, mark, maybe, maybe_mark, nothing, many, up_to, commas, name, one_of, sizes}

-- ---- numbers and literals

abbrev pub int_of : Symbol → Option ℤ
int_of (k.Number n) = if nat_lt n (2 ^ 63) then Some (pos n) else None
int_of (k.Bits i) = Some i
int_of _ = None

-- behind a minus
abbrev pub negative_of : Symbol → Option ℤ
negative_of (k.Number n) = if nat_le n (2 ^ 63) then Some (neg_ℤ (pos n)) else None
negative_of (k.Bits i) = if int_le i (negsuc (2 ^ 63 - 1)) then None else Some (neg_ℤ i)
negative_of _ = None

abbrev pub int : Language ℤ
int = one_of int_of

abbrev pub negative : Language ℤ
negative = m.Minus ◁ one_of negative_of

abbrev pub count : Language ℤ
count = negative ∣ int

abbrev pub plain_of : Symbol → Option Value
plain_of (k.Text x) = Some (v.Text x)
plain_of (k.Blob x) = Some (v.Blob x)
plain_of (k.Mark m.Null) = Some v.Null
plain_of (k.Number n) = if nat_lt n (2 ^ 63) then Some (v.Int (pos n)) else None
plain_of (k.Bits i) = Some (v.Int i)
plain_of _ = None

-- a sign and an integer, or a value by itself
abbrev pub literal : Language Value
literal = (v.Int ⟨$⟩ negative) ∣ (v.Int ⟨$⟩ m.Plus ◁ int) ∣ one_of plain_of

-- ---- SELECT

-- the one mark, or the other or nothing
abbrev pub flag : Mark → Mark → Language Bool
flag on off = mark on true ∣ ((λ b. false) ⟨$⟩ maybe_mark off)

-- `[[AS] name]`
abbrev pub alias : Language (Option (List ℕ))
alias = maybe ((λ x. x.1) ⟨$⟩ maybe_mark m.As ⊗ name)

abbrev pub shown : Language Shown
shown = mark m.Star s.All ∣ (s.AllOf ⟨$⟩ name ▷ m.Dot ▷ m.Star) ∣ ((λ x. s.One x.0 x.1) ⟨$⟩ expr ⊗ alias)

abbrev pub source : Language Source
source = (λ x. record { table = x.0; alias = x.1 }) ⟨$⟩ name ⊗ alias

-- a table and what stands behind ON
abbrev pub joined : JoinKind → Language Join
joined kind = (λ x. record { kind = kind; source = x.0; on = x.1 }) ⟨$⟩ m.Join ◁ source ⊗ maybe (m.On ◁ expr)

abbrev pub join : Language Join
join =
    ((λ x. record { kind = j.Comma; source = x; on = None }) ⟨$⟩ m.Comma ◁ source)
    ∣ ((λ x. x.1) ⟨$⟩ m.Left ◁ maybe_mark m.Outer ⊗ joined j.Left)
    ∣ (m.Inner ◁ joined j.Inner)
    ∣ (m.Cross ◁ joined j.Cross)
    ∣ joined j.Inner

abbrev pub tables : Language Tables
tables = (λ x. record { first = x.0; joins = x.1 }) ⟨$⟩ source ⊗ up_to (λ lim. lim.joins) join

abbrev pub filter : Language (Option Expr)
filter = maybe (m.Where ◁ expr)

abbrev pub term : Language Term
term = (λ x. record { expr = x.0; descending = x.1 }) ⟨$⟩ expr ⊗ flag m.Desc m.Asc

abbrev pub limit : Language Limit
limit = (λ x. record { count = x.0; offset = x.1 }) ⟨$⟩ m.Limit ◁ count ⊗ maybe (m.Offset ◁ count)

abbrev pub select : Language Select
select = (λ x. record { distinct = x.0; shown = x.1.0; from = x.1.1.0; filter = x.1.1.1.0; group = x.1.1.1.1.0; having = x.1.1.1.1.1.0; order = x.1.1.1.1.1.1.0; limit = x.1.1.1.1.1.1.1 })
    ⟨$⟩ m.Select ◁ flag m.Distinct m.All ⊗ commas shown ⊗ maybe (m.From ◁ tables) ⊗ filter ⊗ maybe (m.Group ◁ m.By ◁ commas expr) ⊗ maybe (m.Having ◁ expr)
    ⊗ maybe (m.Order ◁ m.By ◁ commas term) ⊗ maybe limit

-- ---- writes

abbrev pub names : Language (List (List ℕ))
names = commas name

abbrev pub row : Language (List Expr)
row = m.Open ◁ commas expr ▷ m.Close

abbrev pub insert : Language Insert
insert = (λ x. record { table = x.0; columns = x.1.0; rows = x.1.1 }) ⟨$⟩ m.Insert ◁ m.Into ◁ name ⊗ maybe (m.Open ◁ names ▷ m.Close) ⊗ m.Values ◁ commas row

abbrev pub assignment : Language Assignment
assignment = (λ x. record { column = x.0; value = x.1 }) ⟨$⟩ name ⊗ m.Equal ◁ expr

abbrev pub update : Language Update
update = (λ x. record { table = x.0; assignments = x.1.0; filter = x.1.1 }) ⟨$⟩ m.Update ◁ name ⊗ m.Set ◁ commas assignment ⊗ filter

abbrev pub delete : Language Delete
delete = (λ x. record { table = x.0; filter = x.1 }) ⟨$⟩ m.Delete ◁ m.From ◁ name ⊗ filter

-- ---- CREATE TABLE

abbrev pub constraint : Language Constraint
constraint = (m.Primary ◁ mark m.Key c.PrimaryKey) ∣ (m.Not ◁ mark m.Null c.NotNull) ∣ (c.Default ⟨$⟩ m.Default ◁ literal) ∣ (c.Collate ⟨$⟩ m.Collate ◁ name)

abbrev pub column : Language Column
column = (λ x. record { name = x.0; type_words = x.1.0; constraints = x.1.1.1 }) ⟨$⟩ name ⊗ many name ⊗ sizes ⊗ many constraint

abbrev pub key : Language (List (List ℕ))
key = m.Comma ◁ m.Primary ◁ m.Key ◁ m.Open ◁ names ▷ m.Close

-- `[IF NOT EXISTS]`
abbrev pub if_not_exists : Language Bool
if_not_exists = (m.If ◁ m.Not ◁ mark m.Exists true) ∣ nothing false

abbrev pub create : Language Create
create = (λ x. record { if_not_exists = x.0; table = x.1.0; columns = x.1.1.0; key = x.1.1.1 })
    ⟨$⟩ m.Create ◁ m.Table ◁ if_not_exists ⊗ name ⊗ m.Open ◁ (commas column ⊗ maybe key) ▷ m.Close

-- ---- ALTER TABLE

abbrev pub alter : Language Alter
alter = (λ x. record { table = x.0; column = x.1 }) ⟨$⟩ m.Alter ◁ m.Table ◁ name ⊗ m.Add ◁ ((λ x. x.1) ⟨$⟩ maybe_mark m.Column ⊗ column)

-- ---- transactions

abbrev pub mode_of : Symbol → Option Mode
mode_of (k.Mark m.Deferred) = Some o.Deferred
mode_of (k.Mark m.Immediate) = Some o.Immediate
mode_of (k.Mark m.Exclusive) = Some o.Exclusive
mode_of _ = None

abbrev pub begin : Language Statement
begin = (λ x. t.Begin x.0) ⟨$⟩ m.Begin ◁ maybe (one_of mode_of) ⊗ maybe_mark m.Transaction

-- a word, and perhaps TRANSACTION
abbrev pub ended : Mark → Statement → Language Statement
ended x s = (λ b. s) ⟨$⟩ x ◁ maybe_mark m.Transaction

abbrev pub transaction : Language Statement
transaction = begin ∣ ended m.Commit t.Commit ∣ ended m.End t.Commit ∣ ended m.Rollback t.Rollback

-- ---- the whole

-- what shows nothing
abbrev pub command : Language Statement
command = (t.Insert ⟨$⟩ insert) ∣ (t.Update ⟨$⟩ update) ∣ (t.Delete ⟨$⟩ delete) ∣ transaction

abbrev pub statement : Language Statement
statement = (t.Select ⟨$⟩ select) ∣ (t.Create ⟨$⟩ create) ∣ (t.Alter ⟨$⟩ alter) ∣ command
