-- The greatest number of a parameter that stands in a statement, wherever it stands in it; 0 where none does. Source:
-- "Number Of SQL Parameters" of SQLite's C interface.
use Rattle.std.specs.Prelude.{ℕ, max, List, [], ◌∷◌, map, Option, Some, None}
use Rattle.cr_tree.specs.declared.expr.Expr.{Expr}
use Rattle.cr_tree.specs.declared.expr.When.{When}
use Rattle.cr_tree.specs.declared.expr.Expr.TheOpen.{Expr-F, When-F, Param, Unary, Binary, Collate, In, Between, Call, Cast, Case}
use Rattle.cr_tree.specs.declared.expr.Expr.TheFolds.{fold-Expr, fold-When}
use Rattle.cr_tree.specs.declared.statement.Shown.{Shown}
use Rattle.cr_tree.specs.declared.statement.Shown.TheVariants as shown
use Rattle.cr_tree.specs.declared.statement.Join.{Join}
use Rattle.cr_tree.specs.declared.statement.Tables.{Tables}
use Rattle.cr_tree.specs.declared.statement.Term.{Term}
use Rattle.cr_tree.specs.declared.statement.Select.{Select}
use Rattle.cr_tree.specs.declared.statement.Insert.{Insert}
use Rattle.cr_tree.specs.declared.statement.Assignment.{Assignment}
use Rattle.cr_tree.specs.declared.statement.Update.{Update}
use Rattle.cr_tree.specs.declared.statement.Delete.{Delete}
use Rattle.cr_tree.specs.declared.statement.Statement.{Statement}
use Rattle.cr_tree.specs.declared.statement.Statement.TheVariants as t

-- the greatest of some numbers, or 0
abbrev pub greatest : List ℕ → ℕ
greatest [] = 0
greatest (n ∷ ns) = max n (greatest ns)

-- the greatest that some parts have
abbrev pub of_all : {A : Type 0} → (A → ℕ) → List A → ℕ
of_all f xs = greatest (map f xs)

-- what a part has, if it is there
abbrev pub if_any : {A : Type 0} → (A → ℕ) → Option A → ℕ
if_any f None = 0
if_any f (Some x) = f x

-- ---- expressions

-- one node, with what its parts have
abbrev pub node : Expr-F ℕ ℕ → ℕ
node (Param n) = n
node (Unary op x) = x
node (Binary op x y) = max x y
node (Collate x c) = x
node (In n x items) = max x (greatest items)
node (Between n x low high) = max x (max low high)
node (Call f args) = greatest args
node (Cast x words) = x
node (Case x arms y) = max (if_any (λ n. n) x) (max (greatest arms) (if_any (λ n. n) y))
node _ = 0

abbrev pub arm_node : When-F ℕ ℕ → ℕ
arm_node w = max w.when w.then

abbrev pub of_expr : Expr → ℕ
of_expr = fold-Expr ℕ ℕ node arm_node

abbrev pub of_arm : When → ℕ
of_arm = fold-When ℕ ℕ node arm_node

-- ---- statements

abbrev pub of_shown : Shown → ℕ
of_shown (shown.One x name) = of_expr x
of_shown _ = 0

abbrev pub of_join : Join → ℕ
of_join j = if_any of_expr j.on

abbrev pub of_tables : Tables → ℕ
of_tables t = of_all of_join t.joins

abbrev pub of_term : Term → ℕ
of_term t = of_expr t.expr

abbrev pub of_select : Select → ℕ
of_select s =
    greatest (of_all of_shown s.shown
    ∷ if_any of_tables s.from
    ∷ if_any of_expr s.filter
    ∷ if_any (of_all of_expr) s.group
    ∷ if_any of_expr s.having
    ∷ if_any (of_all of_term) s.order
    ∷ [])

abbrev pub of_insert : Insert → ℕ
of_insert i = of_all (of_all of_expr) i.rows

abbrev pub of_assignment : Assignment → ℕ
of_assignment a = of_expr a.value

abbrev pub of_update : Update → ℕ
of_update u = max (of_all of_assignment u.assignments) (if_any of_expr u.filter)

abbrev pub of_delete : Delete → ℕ
of_delete d = if_any of_expr d.filter

abbrev pub greatest_parameter : Statement → ℕ
greatest_parameter (t.Select s) = of_select s
greatest_parameter (t.Insert i) = of_insert i
greatest_parameter (t.Update u) = of_update u
greatest_parameter (t.Delete d) = of_delete d
greatest_parameter _ = 0
