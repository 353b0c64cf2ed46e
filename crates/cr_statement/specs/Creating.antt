-- Reading a CREATE TABLE and an ALTER TABLE, as Reading does the other statements.
use Rattle.std.specs.Prelude.{ℕ, Bool, true, false, ◌&&◌, List, [], ◌∷◌, Option, Some, None}
use Rattle.cr_value.specs.declared.value.Value.{Value}
use Rattle.cr_value.specs.declared.value.Value.TheVariants as v
use Rattle.cr_tree.specs.declared.symbol.Mark.TheVariants as m
use Rattle.cr_tree.specs.declared.symbol.Symbol.{Symbol}
use Rattle.cr_tree.specs.declared.symbol.Symbol.TheVariants as k
use Rattle.cr_tree.specs.Marks.{is_mark}
use Rattle.cr_tree.specs.Reading.{Parser, ◌>>=◌, pure, eat, name, is_name, sees, sees_name, rest_of, behind, sizes}
use Rattle.cr_tree.specs.declared.statement.Constraint.{Constraint}
use Rattle.cr_tree.specs.declared.statement.Constraint.TheVariants as c
use Rattle.cr_tree.specs.declared.statement.Column.{Column}
use Rattle.cr_tree.specs.declared.statement.Create.{Create}
use Rattle.cr_tree.specs.declared.statement.Alter.{Alter}
use Rattle.cr_statement.specs.Reading.{made, before, both, optional, choose, ahead, found, one_of, names}
use Rattle.cr_statement.specs.Statements as grammar

unfoldable pub literal : Parser Value
literal = choose (is_mark m.Minus) (made v.Int (behind m.Minus (one_of grammar.negative_of))) (choose (is_mark m.Plus) (made v.Int (behind m.Plus (one_of grammar.int_of))) (one_of grammar.plain_of))

unfoldable pub constraint : Parser Constraint
constraint =
    choose (is_mark m.Primary) (behind m.Primary (behind m.Key (pure c.PrimaryKey)))
    (choose (is_mark m.Not) (behind m.Not (behind m.Null (pure c.NotNull)))
    (choose (is_mark m.Default) (made c.Default (behind m.Default literal))
    (made c.Collate (behind m.Collate name))))

abbrev pub begins_constraint : Symbol → Bool
begins_constraint (k.Mark m.Primary) = true
begins_constraint (k.Mark m.Not) = true
begins_constraint (k.Mark m.Default) = true
begins_constraint (k.Mark m.Collate) = true
begins_constraint _ = false

unfoldable pub type_words : Parser (List (List ℕ))
type_words = found (optional is_name name) []

unfoldable pub constraints : Parser (List Constraint)
constraints = found (optional begins_constraint constraint) []

unfoldable pub column : Parser Column
column = made (λ x. record { name = x.0; type_words = x.1.0; constraints = x.1.1.1 }) (both name (both type_words (both sizes constraints)))

-- a comma and a name come next
abbrev pub sees_column : List Symbol → Bool
sees_column ts = sees m.Comma ts && sees_name (rest_of ts)

unfoldable pub next_column : Parser (Option Column)
next_column = ahead sees_column (made (λ c. Some c) (behind m.Comma column)) (pure None)

unfoldable pub columns : Parser (List Column)
columns = column >>= (λ c. found next_column (c ∷ []))

unfoldable pub key : Parser (Option (List (List ℕ)))
key = optional (is_mark m.Comma) (behind m.Comma (behind m.Primary (behind m.Key names)))

unfoldable pub body : Parser (List Column × Option (List (List ℕ)))
body = behind m.Open (before m.Close (both columns key))

unfoldable pub if_not_exists : Parser Bool
if_not_exists = choose (is_mark m.If) (behind m.If (behind m.Not (behind m.Exists (pure true)))) (pure false)

unfoldable pub create : Parser Create
create = made (λ x. record { if_not_exists = x.0; table = x.1.0; columns = x.1.1.0; key = x.1.1.1 }) (both (behind m.Create (behind m.Table if_not_exists)) (both name body))

unfoldable pub alter : Parser Alter
alter = made (λ x. record { table = x.0; column = x.1 }) (both (behind m.Alter (behind m.Table name)) (behind m.Add (made (λ x. x.1) (both (eat m.Column) column))))
