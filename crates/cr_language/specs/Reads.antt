-- Which columns an accepted statement looks at: those whose READ is answered with OK. Source: "Compile-Time Authorization
-- Callbacks" of SQLite's C interface.
use Rattle.std.specs.Prelude.{◌≡◌, ℕ, zero, suc, ◌+◌, List, [], ◌∷◌, ◌++◌, length, map, slice_get, Some, Ok}
use Rattle.std.specs.List.{AllByRecursion, flat_map}
use Rattle.cr_lattice.specs.declared.table.ColumnDef.{ColumnDef}
use Rattle.cr_host.specs.declared.meaning.Action.TheVariants.{Read}
use Rattle.cr_host.specs.declared.meaning.Auth.TheVariants as auth
use Rattle.cr_tree.specs.declared.statement.Statement.{Statement}
use Rattle.cr_term.specs.declared.expr.Column.{Column as Field}
use Rattle.cr_term.specs.declared.expr.Expr.{Expr}
use Rattle.cr_term.specs.declared.query.Relation.{Relation}
use Rattle.cr_term.specs.declared.query.Resolved.{Resolved}
use Rattle.cr_term.specs.declared.query.Resolved.TheVariants as r
use Rattle.cr_term.specs.Parts.{columns}
use Rattle.cr_questions.specs.Questions.{Answers, relations_of, exprs_of}
use Rattle.cr_resolve.specs.Known.{Known}
use Rattle.cr_resolve.specs.Resolve.{resolved}

-- the tables whose columns may stand in a statement
abbrev pub tables_of : Resolved → List Relation
tables_of (r.Select q) = relations_of q
tables_of (r.Update u) = u.relation ∷ []
tables_of (r.Delete d) = d.relation ∷ []
tables_of _ = []

-- its expressions
abbrev pub exprs_in : Resolved → List Expr
exprs_in (r.Select q) = exprs_of q
exprs_in (r.Insert i) = flat_map (λ row. row) i.rows
exprs_in (r.Update u) = map (λ a. a.value) u.assignments ++ u.filter
exprs_in (r.Delete d) = d.filter
exprs_in _ = []

-- the place of a table's first column among the columns of all
abbrev pub first_place : List Relation → ℕ → ℕ
first_place [] n = 0
first_place (t ∷ ts) zero = 0
first_place (t ∷ ts) (suc n) = length t.definition.columns + first_place ts n

-- it is a column of one of these tables, and its READ is answered with OK
pub record MayBeRead (answers : Answers) (tables : List Relation) (c : Field) : Type 0 where
  pub table : Relation
  pub column : ColumnDef
  pub is_of : slice_get tables c.source ≡ Some table
  pub is_in : slice_get table.definition.columns c.place ≡ Some column
  pub at : c.at ≡ first_place tables c.source + c.place
  pub is_allowed : answers Read table.definition.name column.name ≡ auth.Ok

-- Whatever the authorizer answers, each column that stands in an accepted statement may be read.
abbrev pub ReadsAreAllowed : Type 0
ReadsAreAllowed = (known : Known) (answers : Answers) (x : Statement) (y : Resolved) → resolved known answers x ≡ Ok y
    → AllByRecursion (MayBeRead answers (tables_of y)) (flat_map columns (exprs_in y))
