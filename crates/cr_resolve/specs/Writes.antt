-- What INSERT, UPDATE and DELETE are once their names are resolved. Source: SQLite's documents of these statements.
use Rattle.std.specs.Prelude.{ℕ, false, not, ◌==◌, ◌||◌, List, [], ◌∷◌, ◌++◌, length, map, position, Option, Some, None}
use Rattle.std.specs.Option.{option_map}
use Rattle.std.specs.List.{list_any, range_with_len}
use Rattle.std.specs.Str.{bytes_eq}
use Rattle.cr_lattice.specs.declared.table.TableDef.{TableDef}
use Rattle.cr_tree.specs.declared.expr.Expr.{Expr as Tree}
use Rattle.cr_tree.specs.declared.statement.Insert.{Insert as InsertTree}
use Rattle.cr_tree.specs.declared.statement.Assignment.{Assignment as AssignmentTree}
use Rattle.cr_tree.specs.declared.statement.Update.{Update as UpdateTree}
use Rattle.cr_tree.specs.declared.statement.Delete.{Delete as DeleteTree}
use Rattle.cr_term.specs.declared.expr.Expr.{Expr}
use Rattle.cr_term.specs.declared.query.Relation.{Relation}
use Rattle.cr_term.specs.declared.query.Insert.{Insert}
use Rattle.cr_term.specs.declared.query.Assignment.{Assignment}
use Rattle.cr_term.specs.declared.query.Update.{Update}
use Rattle.cr_term.specs.declared.query.Delete.{Delete}
use Rattle.cr_term.specs.Terms.{terms_of}
use Rattle.cr_questions.specs.Questions.{Name}
use Rattle.cr_resolve.specs.declared.refusal.Refusal.{Refusal}
use Rattle.cr_resolve.specs.declared.refusal.Refusal.TheVariants.{NoSuchColumn, AmbiguousColumn, WrongArity, Misaggregate}
use Rattle.cr_resolve.specs.Reading.{Read, fine, refused, with_both, also, each, if_any, when}
use Rattle.cr_resolve.specs.Known.{Known, table}
use Rattle.cr_resolve.specs.Scope.{Source}
use Rattle.cr_resolve.specs.Expressions.{expr}

-- the place of a column that gets a value
abbrev pub place_or : Name → Option ℕ → Read ℕ
place_or name (Some at) = fine at
place_or name None = refused (NoSuchColumn name) 0

abbrev pub target : TableDef → Name → Read ℕ
target def name = place_or name (position (λ c. bytes_eq name c.name) def.columns)

-- the name stands before
abbrev pub repeated : List Name → Name → List Refusal
repeated before name = when (list_any (bytes_eq name) before) (AmbiguousColumn name)

abbrev pub target_after : TableDef → List Name → Name → Read ℕ
target_after def before name = also (λ at. repeated before name) (target def name)

-- an aggregate may stand nowhere in a write
abbrev pub without_aggregates : {A : Type 0} → Read A → Read A
without_aggregates r = record { bad = r.bad ++ when r.misplaced Misaggregate; misplaced = false; made = r.made }

-- ---- INSERT

abbrev pub targets : TableDef → List Name → List Name → Read (List ℕ)
targets def before [] = fine []
targets def before (n ∷ ns) = with_both (λ at ats. at ∷ ats) (target_after def before n) (targets def (n ∷ before) ns)

-- without a list of names all columns in their order
abbrev pub insert_columns : TableDef → Option (List Name) → Read (List ℕ)
insert_columns def None = fine (range_with_len 0 (length def.columns))
insert_columns def (Some names) = targets def [] names

abbrev pub width : TableDef → Option (List Name) → ℕ
width def None = length def.columns
width def (Some names) = length names

-- its width first, then its values, which see no column
abbrev pub insert_row : Known → Name → ℕ → List Tree → Read (List Expr)
insert_row known name count row =
    let values : Read (List Expr) = each (map (expr known [] false) row) in
    record { bad = when (not (length row == count)) (WrongArity name) ++ values.bad; misplaced = values.misplaced; made = values.made }

abbrev pub insert : Known → InsertTree → Read Insert
insert known i =
    let relation : Read Relation = table known i.table in
    let def : TableDef = relation.made.definition in
    let columns : Read (List ℕ) = insert_columns def i.columns in
    let rows : Read (List (List Expr)) = each (map (insert_row known i.table (width def i.columns)) i.rows) in
    without_aggregates (record { bad = relation.bad ++ columns.bad ++ rows.bad; misplaced = rows.misplaced; made = record { relation = relation.made; columns = columns.made; rows = rows.made; is_ignored = false } })

-- ---- UPDATE and DELETE

abbrev pub sources : Name → Relation → List Source
sources name relation = record { name = name; relation = relation } ∷ []

abbrev pub assignments : Known → List Source → TableDef → List Name → List AssignmentTree → Read (List Assignment)
assignments known ss def before [] = fine []
assignments known ss def before (a ∷ rest) =
    with_both (λ x xs. x ∷ xs)
    (with_both (λ at value. record { column = at; value = value }) (target_after def before a.column) (expr known ss false a.value))
    (assignments known ss def (a.column ∷ before) rest)

abbrev pub update : Known → UpdateTree → Read Update
update known u =
    let relation : Read Relation = table known u.table in
    let ss : List Source = sources u.table relation.made in
    let values : Read (List Assignment) = assignments known ss relation.made.definition [] u.assignments in
    let filter : Read (Option Expr) = if_any (option_map (expr known ss false) u.filter) in
    without_aggregates (record { bad = relation.bad ++ values.bad ++ filter.bad; misplaced = values.misplaced || filter.misplaced; made = record { relation = relation.made; assignments = values.made; filter = terms_of filter.made } })

abbrev pub delete : Known → DeleteTree → Read Delete
delete known d =
    let relation : Read Relation = table known d.table in
    let filter : Read (Option Expr) = if_any (option_map (expr known (sources d.table relation.made) false) d.filter) in
    without_aggregates (record { bad = relation.bad ++ filter.bad; misplaced = filter.misplaced; made = record { relation = relation.made; filter = terms_of filter.made } })
