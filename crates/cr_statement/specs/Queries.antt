-- Reading a SELECT, as Reading does the other statements.
use Rattle.std.specs.Prelude.{ℕ, ℤ, Bool, true, false, ◌&&◌, ◌||◌, List, [], ◌∷◌, Option, None}
use Rattle.cr_tree.specs.declared.limits.LimitKind.TheVariants as limits
use Rattle.cr_tree.specs.declared.limits.Limits.{Limits}
use Rattle.cr_tree.specs.declared.symbol.Mark.{Mark}
use Rattle.cr_tree.specs.declared.symbol.Mark.TheVariants as m
use Rattle.cr_tree.specs.declared.symbol.Symbol.{Symbol}
use Rattle.cr_tree.specs.declared.symbol.Symbol.TheVariants as k
use Rattle.cr_tree.specs.declared.expr.Expr.{Expr}
use Rattle.cr_tree.specs.Marks.{is_mark}
use Rattle.cr_tree.specs.Reading.{Parser, pure, eat, name, is_name, sees, sees_name, rest_of, behind, listed, up_to, whole}
use Rattle.cr_tree.specs.declared.statement.Shown.{Shown}
use Rattle.cr_tree.specs.declared.statement.Shown.TheVariants as s
use Rattle.cr_tree.specs.declared.statement.Source.{Source}
use Rattle.cr_tree.specs.declared.statement.JoinKind.{JoinKind}
use Rattle.cr_tree.specs.declared.statement.JoinKind.TheVariants as j
use Rattle.cr_tree.specs.declared.statement.Join.{Join}
use Rattle.cr_tree.specs.declared.statement.Tables.{Tables}
use Rattle.cr_tree.specs.declared.statement.Term.{Term}
use Rattle.cr_tree.specs.declared.statement.Limit.{Limit}
use Rattle.cr_tree.specs.declared.statement.Select.{Select}
use Rattle.cr_statement.specs.Reading.{made, before, both, optional, choose, ahead, commas, one_of, filter}
use Rattle.cr_statement.specs.Statements as grammar

abbrev pub begins_alias : Symbol → Bool
begins_alias t = is_mark m.As t || is_name t

unfoldable pub alias : Parser (Option (List ℕ))
alias = optional begins_alias (made (λ x. x.1) (both (eat m.As) name))

-- a name, a dot and a star come next
abbrev pub sees_starred : List Symbol → Bool
sees_starred ts = sees_name ts && (sees m.Dot (rest_of ts) && sees m.Star (rest_of (rest_of ts)))

unfoldable pub starred : Parser Shown
starred = made s.AllOf (before m.Star (before m.Dot name))

unfoldable pub labelled : Limits → Parser Shown
labelled lim = made (λ x. s.One x.0 x.1) (both (whole lim) alias)

unfoldable pub shown : Limits → Parser Shown
shown lim = choose (is_mark m.Star) (behind m.Star (pure s.All)) (ahead sees_starred starred (labelled lim))

unfoldable pub source : Parser Source
source = made (λ x. record { table = x.0; alias = x.1 }) (both name alias)

unfoldable pub joined : JoinKind → Limits → Parser Join
joined kind lim = made (λ x. record { kind = kind; source = x.0; on = x.1 }) (both (behind m.Join source) (optional (is_mark m.On) (behind m.On (whole lim))))

abbrev pub begins_join : Symbol → Bool
begins_join (k.Mark m.Comma) = true
begins_join (k.Mark m.Left) = true
begins_join (k.Mark m.Inner) = true
begins_join (k.Mark m.Cross) = true
begins_join (k.Mark m.Join) = true
begins_join _ = false

abbrev pub sees_join : List Symbol → Bool
sees_join [] = false
sees_join (t ∷ ts) = begins_join t

unfoldable pub comma_join : Parser Join
comma_join = made (λ x. record { kind = j.Comma; source = x; on = None }) (behind m.Comma source)

unfoldable pub left_join : Limits → Parser Join
left_join lim = made (λ x. x.1) (both (behind m.Left (eat m.Outer)) (joined j.Left lim))

-- JOIN, and perhaps INNER or CROSS before it
unfoldable pub plain_join : Limits → Parser Join
plain_join lim =
    choose (is_mark m.Inner) (behind m.Inner (joined j.Inner lim))
    (choose (is_mark m.Cross) (behind m.Cross (joined j.Cross lim))
    (joined j.Inner lim))

unfoldable pub join : Limits → Parser Join
join lim = choose (is_mark m.Comma) comma_join (choose (is_mark m.Left) (left_join lim) (plain_join lim))

unfoldable pub tables : Limits → Parser Tables
tables lim = made (λ x. record { first = x.0; joins = x.1 }) (both source (up_to limits.Tables begins_join (join lim) listed lim.joins []))

-- the one mark, or the other or nothing
unfoldable pub flag : Mark → Mark → Parser Bool
flag on off = choose (is_mark on) (behind on (pure true)) (made (λ _. false) (eat off))

unfoldable pub term : Limits → Parser Term
term lim = made (λ x. record { expr = x.0; descending = x.1 }) (both (whole lim) (flag m.Desc m.Asc))

unfoldable pub count : Parser ℤ
count = choose (is_mark m.Minus) (behind m.Minus (one_of grammar.negative_of)) (one_of grammar.int_of)

unfoldable pub limit : Parser Limit
limit = made (λ x. record { count = x.0; offset = x.1 }) (both (behind m.Limit count) (optional (is_mark m.Offset) (behind m.Offset count)))

unfoldable pub group : Limits → Parser (Option (List Expr))
group lim = optional (is_mark m.Group) (behind m.Group (behind m.By (commas (whole lim))))

unfoldable pub having : Limits → Parser (Option Expr)
having lim = optional (is_mark m.Having) (behind m.Having (whole lim))

unfoldable pub order : Limits → Parser (Option (List Term))
order lim = optional (is_mark m.Order) (behind m.Order (behind m.By (commas (term lim))))

unfoldable pub from : Limits → Parser (Option Tables)
from lim = optional (is_mark m.From) (behind m.From (tables lim))

unfoldable pub limited : Parser (Option Limit)
limited = optional (is_mark m.Limit) limit

unfoldable pub sources : Limits → Parser (Option Tables × Option Expr)
sources lim = both (from lim) (filter lim)

unfoldable pub grouping : Limits → Parser (Option (List Expr) × Option Expr)
grouping lim = both (group lim) (having lim)

unfoldable pub ending : Limits → Parser (Option (List Term) × Option Limit)
ending lim = both (order lim) limited

abbrev pub regrouped : {A B C : Type 0} → (A × B) × C → A × (B × C)
regrouped x = (x.0.0, (x.0.1, x.1))

-- what stands behind what is shown
unfoldable pub clauses : Limits → Parser (Option Tables × (Option Expr × (Option (List Expr) × (Option Expr × (Option (List Term) × Option Limit)))))
clauses lim = made regrouped (both (sources lim) (made regrouped (both (grouping lim) (ending lim))))

unfoldable pub select : Limits → Parser Select
select lim = made (λ x. record { distinct = x.0; shown = x.1.0; from = x.1.1.0; filter = x.1.1.1.0; group = x.1.1.1.1.0; having = x.1.1.1.1.1.0; order = x.1.1.1.1.1.1.0; limit = x.1.1.1.1.1.1.1 })
    (both (behind m.Select (flag m.Distinct m.All)) (both (commas (shown lim)) (clauses lim)))
