-- The words and signs of the grammar, each with its mark. Source: this project's own choice among the words of SQLite's
-- "SQLite Keywords" and the operators of its "SQL Language Expressions".
use Rattle.std.specs.Prelude.{ℕ, Bool, ◌||◌, List, [], ◌∷◌, Option, is_some, codes}
use Rattle.std.specs.List.{find}
use Rattle.std.specs.Str.{str_eq_ignore_ascii_case}
use Rattle.std.specs.Map.{lookup}
use Rattle.cr_tree.specs.declared.symbol.Mark.{Mark}
use Rattle.cr_tree.specs.declared.symbol.Mark.TheVariants as m

-- the mark beside the first entry that is written so, ASCII case ignored
abbrev pub marked : List (List ℕ × Mark) → List ℕ → Option Mark
marked table w = lookup (λ written. str_eq_ignore_ascii_case written w) table

unfoldable pub words : List (List ℕ × Mark)
words = (codes "ADD", m.Add) ∷ (codes "ALL", m.All) ∷ (codes "ALTER", m.Alter) ∷ (codes "AND", m.And) ∷ (codes "AS", m.As) ∷ (codes "ASC", m.Asc) ∷ (codes "BEGIN", m.Begin) ∷ (codes "BETWEEN", m.Between) ∷ (codes "BY", m.By) ∷ (codes "CASE", m.Case) ∷ (codes "CAST", m.Cast) ∷ (codes "COLLATE", m.Collate) ∷ (codes "COLUMN", m.Column) ∷ (codes "COMMIT", m.Commit) ∷ (codes "CREATE", m.Create) ∷ (codes "CROSS", m.Cross) ∷ (codes "DEFAULT", m.Default) ∷ (codes "DEFERRED", m.Deferred) ∷ (codes "DELETE", m.Delete) ∷ (codes "DESC", m.Desc) ∷ (codes "DISTINCT", m.Distinct) ∷ (codes "ELSE", m.Else) ∷ (codes "END", m.End) ∷ (codes "EXCLUSIVE", m.Exclusive) ∷ (codes "EXISTS", m.Exists) ∷ (codes "FROM", m.From) ∷ (codes "GROUP", m.Group) ∷ (codes "HAVING", m.Having) ∷ (codes "IF", m.If) ∷ (codes "IMMEDIATE", m.Immediate) ∷ (codes "IN", m.In) ∷ (codes "INNER", m.Inner) ∷ (codes "INSERT", m.Insert) ∷ (codes "INTO", m.Into) ∷ (codes "IS", m.Is) ∷ (codes "ISNULL", m.IsNull) ∷ (codes "JOIN", m.Join) ∷ (codes "KEY", m.Key) ∷ (codes "LEFT", m.Left) ∷ (codes "LIKE", m.Like) ∷ (codes "LIMIT", m.Limit) ∷ (codes "NOT", m.Not) ∷ (codes "NOTNULL", m.NotNull) ∷ (codes "NULL", m.Null) ∷ (codes "OFFSET", m.Offset) ∷ (codes "ON", m.On) ∷ (codes "OR", m.Or) ∷ (codes "ORDER", m.Order) ∷ (codes "OUTER", m.Outer) ∷ (codes "PRIMARY", m.Primary) ∷ (codes "ROLLBACK", m.Rollback) ∷ (codes "SELECT", m.Select) ∷ (codes "SET", m.Set) ∷ (codes "TABLE", m.Table) ∷ (codes "THEN", m.Then) ∷ (codes "TRANSACTION", m.Transaction) ∷ (codes "UPDATE", m.Update) ∷ (codes "VALUES", m.Values) ∷ (codes "WHEN", m.When) ∷ (codes "WHERE", m.Where) ∷ []

unfoldable pub signs : List (List ℕ × Mark)
signs = (codes "(", m.Open) ∷ (codes ")", m.Close) ∷ (codes ",", m.Comma) ∷ (codes ".", m.Dot) ∷ (codes "*", m.Star) ∷ (codes "+", m.Plus) ∷ (codes "-", m.Minus) ∷ (codes "/", m.Slash) ∷ (codes "%", m.Percent) ∷ (codes "||", m.Bars) ∷ (codes "<", m.Less) ∷ (codes "<=", m.AtMost) ∷ (codes ">", m.Greater) ∷ (codes ">=", m.AtLeast) ∷ (codes "=", m.Equal) ∷ (codes "==", m.DoubleEqual) ∷ (codes "<>", m.Unequal) ∷ (codes "!=", m.BangEqual) ∷ []

-- the words of SQL that stand outside of the grammar, and EXISTS, which stands in it at one place alone
unfoldable pub outside_words : List (List ℕ)
outside_words = codes "ATTACH" ∷ codes "AUTOINCREMENT" ∷ codes "CHECK" ∷ codes "CONSTRAINT" ∷ codes "DETACH" ∷ codes "DROP" ∷ codes "ESCAPE" ∷ codes "EXCEPT" ∷ codes "EXISTS" ∷ codes "EXPLAIN" ∷ codes "FOREIGN" ∷ codes "FULL" ∷ codes "GLOB" ∷ codes "INDEX" ∷ codes "INTERSECT" ∷ codes "NATURAL" ∷ codes "PRAGMA" ∷ codes "REFERENCES" ∷ codes "REGEXP" ∷ codes "RETURNING" ∷ codes "RIGHT" ∷ codes "SAVEPOINT" ∷ codes "TRIGGER" ∷ codes "UNION" ∷ codes "UNIQUE" ∷ codes "USING" ∷ codes "WINDOW" ∷ codes "WITH" ∷ []

-- a word of SQL that is outside of the grammar, or EXISTS; what is quoted is none, since no word begins with a quote
unfoldable pub outside_word : List ℕ → Option (List ℕ)
outside_word w = find (λ written. str_eq_ignore_ascii_case written w) outside_words

-- a word of the grammar, or of SQL outside of it
abbrev pub is_keyword : List ℕ → Bool
is_keyword w = is_some (marked words w) || is_some (outside_word w)
