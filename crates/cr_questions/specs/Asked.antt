-- Questions as they are asked, of texts and tables that stand elsewhere.
use Rattle.std.specs.Prelude.{Bool, true, false, ◌||◌, List, [], ◌∷◌, ◌++◌, map, Option}
use Rattle.std.specs.Option.{option_or}
use Rattle.std.specs.List.{flat_map}
use Rattle.cr_host.specs.declared.meaning.Action.TheVariants.{Read}
use Rattle.cr_term.specs.declared.expr.Column.{Column as Field}
use Rattle.cr_term.specs.declared.expr.When.{When}
use Rattle.cr_term.specs.declared.expr.Expr.{Expr, out-Expr, map-Expr}
use Rattle.cr_term.specs.declared.expr.Expr.TheOpen.{Expr-F, When-F, Column}
use Rattle.cr_term.specs.declared.expr.Expr.TheFolds.{fold-Expr, fold-When}
use Rattle.cr_term.specs.declared.query.Joined.{Joined as Source}
use Rattle.cr_term.specs.declared.query.Query.{Query}
use Rattle.cr_term.specs.declared.query.Relation.{Relation}
use Rattle.cr_term.specs.Parts.{parts, arm, columns}
use Rattle.cr_questions.specs.declared.question.Question.{Question}
use Rattle.cr_questions.specs.declared.question.Asked.{Asked}
use Rattle.cr_questions.specs.declared.sources.Sources.{Sources}
use Rattle.cr_questions.specs.declared.sources.Sources.TheVariants.{Joined, One, Empty}
use Rattle.cr_questions.specs.Questions.{Name, Answers, question_of, questions_node, asked, first_denied, is_read, ask, relations_of, exprs_of}

-- the question, without where its texts stand
abbrev pub told : Asked → Question
told q = record { action = q.action; a = q.a.now; b = q.b.now }

-- the tables of a statement, in order
abbrev pub relations : Sources → List Relation
relations (Joined joined) = map (λ j. j.relation) joined.now
relations (One relation) = relation.now ∷ []
relations Empty = []

-- the question about an expression's own node
abbrev pub own_question : List Relation → Expr → Option Question
own_question tables e = question_of tables (out-Expr e)

-- what the parts of an expression have, under a fold
abbrev pub parts_of : {A : Type 0} → (Expr-F (List A) (List A) → List A) → Expr → List A
parts_of {A} node e = parts (map-Expr Expr (When-F Expr (Unit {0})) (List A) (List A) (fold-Expr (List A) (List A) node arm) (fold-When (List A) (List A) node arm) (out-Expr e))

-- the questions about an expression's parts
abbrev pub part_questions : List Relation → Expr → List Question
part_questions tables = parts_of (questions_node tables)

-- those about an arm of a CASE
abbrev pub arm_questions : List Relation → When → List Question
arm_questions tables w = asked tables w.when ++ asked tables w.then

-- what was found, else the first question that is denied
unfoldable pub or_first_denied : Answers → Option Question → List Question → Option Question
or_first_denied answers found qs = option_or found (first_denied answers qs)

-- ---- columns that are referred to

-- the column that an expression is
abbrev pub own_columns : {A C : Type 0} → Expr-F A C → List Field
own_columns (Column c) = c ∷ []
own_columns _ = []

-- found already, or a column of that table is among them
unfoldable pub or_is_read : List Relation → Name → Bool → List Field → Bool
or_is_read tables name found fields = found || is_read tables fields name

-- the columns in an arm of a CASE
abbrev pub arm_columns : When → List Field
arm_columns w = columns w.when ++ columns w.then

-- ---- tables that no column is referred to of

-- the question about a table, unless a column of it is referred to
abbrev pub bare_read_of : Bool → Relation → List Question
bare_read_of true r = []
bare_read_of false r = ask Read r.definition.name [] ∷ []

-- that about a source of a query
abbrev pub bare_read_in : Query → Source → List Question
bare_read_in q j = bare_read_of (is_read (relations_of q) (flat_map columns (exprs_of q)) j.relation.definition.name) j.relation
