-- Reading a statement once, from left to right, with one symbol ahead. This is how the code goes about it; what is
-- promised of it is in Statements.
use Rattle.std.specs.Prelude.{ℕ, zero, suc, Bool, List, [], ◌∷◌, length, Option, Some, None, is_some, if◌then◌else◌}
use Rattle.cr_tree.specs.declared.limits.Limits.{Limits}
use Rattle.cr_tree.specs.declared.symbol.Mark.{Mark}
use Rattle.cr_tree.specs.declared.symbol.Mark.TheVariants as m
use Rattle.cr_tree.specs.declared.symbol.Symbol.{Symbol}
use Rattle.cr_tree.specs.declared.expr.Expr.{Expr}
use Rattle.cr_tree.specs.Marks.{is_mark}
use Rattle.cr_tree.specs.Reading.{Parser, Syntax, ◌>>=◌, pure, refuse, look, after, when, expect, eat, name, listed, behind, others, whole}
use Rattle.cr_tree.specs.declared.statement.Insert.{Insert}
use Rattle.cr_tree.specs.declared.statement.Assignment.{Assignment}
use Rattle.cr_tree.specs.declared.statement.Update.{Update}
use Rattle.cr_tree.specs.declared.statement.Delete.{Delete}
use Rattle.cr_tree.specs.declared.statement.Mode.{Mode}
use Rattle.cr_tree.specs.declared.statement.Statement.{Statement}
use Rattle.cr_tree.specs.declared.statement.Statement.TheVariants as t
use Rattle.cr_statement.specs.Statements as grammar

-- ---- steps

-- what this makes of what is read
abbrev pub made : {A B : Type 0} → (A → B) → Parser A → Parser B
made h p = p >>= (λ a. pure (h a))

-- before a mark
abbrev pub before : {A : Type 0} → Mark → Parser A → Parser A
before x p = p >>= (λ a. expect x >>= (λ _. pure a))

-- one after the other
abbrev pub both : {A B : Type 0} → Parser A → Parser B → Parser (A × B)
both p q = p >>= (λ a. q >>= (λ b. pure (a, b)))

-- it if it begins so, or nothing
abbrev pub optional : {A : Type 0} → (Symbol → Bool) → Parser A → Parser (Option A)
optional b p = look (pure None) (λ t. when (b t) (made (λ a. Some a) p) (pure None))

-- the one if it begins so, and else the other
abbrev pub choose : {A : Type 0} → (Symbol → Bool) → Parser A → Parser A → Parser A
choose b p q = look q (λ t. when (b t) p q)

-- the one if this comes next, and else the other
abbrev pub ahead : {A : Type 0} → (List Symbol → Bool) → Parser A → Parser A → Parser A
ahead b p q = λ ts. if b ts then p ts else q ts

abbrev pub by_option : {A B : Type 0} → B → (A → B) → Option A → B
by_option b f None = b
by_option b f (Some a) = f a

-- each that is found behind the last, added to what there is; the number bounds the turns
unfoldable pub found_from : {A : Type 0} → Parser (Option A) → ℕ → List A → Parser (List A)
found_from p zero all = pure all
found_from p (suc n) all = p >>= by_option (pure all) (λ x. found_from p n (listed all x))

unfoldable pub found : {A : Type 0} → Parser (Option A) → List A → Parser (List A)
found p all = λ ts. found_from p (length ts) all ts

-- one or more, with commas between
unfoldable pub commas : {A : Type 0} → Parser A → Parser (List A)
commas p = p >>= (λ a. others p listed (a ∷ []))

abbrev pub told : {A : Type 0} → Option A → Parser A
told None = refuse Syntax
told (Some a) = after (pure a)

-- a symbol with a meaning
abbrev pub one_of : {A : Type 0} → (Symbol → Option A) → Parser A
one_of means = look (refuse Syntax) (λ t. told (means t))

-- ---- writes

unfoldable pub filter : Limits → Parser (Option Expr)
filter lim = optional (is_mark m.Where) (behind m.Where (whole lim))

unfoldable pub names : Parser (List (List ℕ))
names = behind m.Open (before m.Close (commas name))

unfoldable pub columns : Parser (Option (List (List ℕ)))
columns = optional (is_mark m.Open) names

unfoldable pub row : Limits → Parser (List Expr)
row lim = behind m.Open (before m.Close (commas (whole lim)))

unfoldable pub insert : Limits → Parser Insert
insert lim = made (λ x. record { table = x.0; columns = x.1.0; rows = x.1.1 }) (both (behind m.Insert (behind m.Into name)) (both columns (behind m.Values (commas (row lim)))))

unfoldable pub assignment : Limits → Parser Assignment
assignment lim = made (λ x. record { column = x.0; value = x.1 }) (both name (behind m.Equal (whole lim)))

unfoldable pub update : Limits → Parser Update
update lim = made (λ x. record { table = x.0; assignments = x.1.0; filter = x.1.1 }) (both (behind m.Update name) (both (behind m.Set (commas (assignment lim))) (filter lim)))

unfoldable pub delete : Limits → Parser Delete
delete lim = made (λ x. record { table = x.0; filter = x.1 }) (both (behind m.Delete (behind m.From name)) (filter lim))

-- ---- transactions

unfoldable pub mode : Parser (Option Mode)
mode = optional (λ t. is_some (grammar.mode_of t)) (one_of grammar.mode_of)

unfoldable pub begin : Parser Statement
begin = made (λ x. t.Begin x.0) (both (behind m.Begin mode) (eat m.Transaction))

unfoldable pub ended : {A : Type 0} → Mark → A → Parser A
ended x s = made (λ _. s) (behind x (eat m.Transaction))

unfoldable pub transaction : Parser Statement
transaction =
    choose (is_mark m.Begin) begin
    (choose (is_mark m.Commit) (ended m.Commit t.Commit)
    (choose (is_mark m.End) (ended m.End t.Commit)
    (ended m.Rollback t.Rollback)))

-- ---- what shows nothing

unfoldable pub command : Limits → Parser Statement
command lim =
    choose (is_mark m.Insert) (made t.Insert (insert lim))
    (choose (is_mark m.Update) (made t.Update (update lim))
    (choose (is_mark m.Delete) (made t.Delete (delete lim))
    transaction))
