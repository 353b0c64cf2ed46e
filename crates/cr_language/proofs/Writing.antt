-- The columns of a write's expressions are those of its table; an INSERT's have none.
use Rattle.std.proofs.Common.{ℕ, false, List, [], ◌∷◌, ◌++◌, map}
use Rattle.std.specs.Option.{option_map}
use Rattle.std.specs.List.{AllByRecursion, flat_map}
use Rattle.cr_lattice.specs.declared.table.TableDef.{TableDef}
use Rattle.cr_tree.specs.declared.expr.Expr.{Expr as Tree}
use Rattle.cr_tree.specs.declared.statement.Insert.{Insert as InsertTree}
use Rattle.cr_tree.specs.declared.statement.Assignment.{Assignment as AssignmentTree}
use Rattle.cr_tree.specs.declared.statement.Update.{Update as UpdateTree}
use Rattle.cr_tree.specs.declared.statement.Delete.{Delete as DeleteTree}
use Rattle.cr_term.specs.declared.expr.Column.{Column as Field}
use Rattle.cr_term.specs.declared.expr.Expr.{Expr}
use Rattle.cr_term.specs.declared.query.Assignment.{Assignment}
use Rattle.cr_term.specs.Parts.{columns}
use Rattle.cr_term.specs.Terms.{terms_of}
use Rattle.cr_questions.specs.Questions.{Name}
use Rattle.cr_resolve.specs.Reading.{each, if_any}
use Rattle.cr_resolve.specs.Known.{Known, table}
use Rattle.cr_resolve.specs.declared.scope.Source.{Source}
use Rattle.cr_resolve.specs.Expressions.{expr}
use Rattle.cr_resolve.specs.Writes.{width, insert_row, insert, sources, assignments, update, delete}
use Rattle.cr_language.proofs.Members.{all_append, all_map, all_in_flat}
use Rattle.cr_language.proofs.Resolving.{Sees, expr_has}
use Rattle.cr_language.proofs.Selecting.{each_made, on_has}

module _ (known : Known) (P : Field → Type 0) where
  abbrev Has : Expr → Type 0
  Has x = AllByRecursion P (columns x)

  row_has : (name : Name) (count : ℕ) (row : List Tree) → AllByRecursion Has (insert_row known name count row).made
  row_has name count row = each_made Has (expr known [] false) (λ t. expr_has known P [] false t tt) row

  pub insert_has : (i : InsertTree) → AllByRecursion Has (flat_map (λ row. row) (insert known i).made.rows)
  insert_has i =
      let def = (table known i.table).made.definition in
      let rows = each (map (insert_row known i.table (width def i.columns)) i.rows) in
      all_in_flat Has (λ row. row) rows.made (each_made (AllByRecursion Has) (insert_row known i.table (width def i.columns)) (row_has i.table (width def i.columns)) i.rows)

  assigned_have : (ss : List Source) → Sees known P ss → (def : TableDef) (before : List Name) (more : List AssignmentTree) → AllByRecursion (λ a. Has a.value) (assignments known ss def before more).made
  assigned_have ss sees def before [] = tt
  assigned_have ss sees def before (a ∷ rest) = (expr_has known P ss false a.value sees, assigned_have ss sees def (a.column ∷ before) rest)

  pub update_has : (u : UpdateTree) → Sees known P (sources u.table (table known u.table).made) → AllByRecursion Has (map (λ a. a.value) (update known u).made.assignments ++ (update known u).made.filter)
  update_has u sees =
      let relation = (table known u.table).made in
      let ss = sources u.table relation in
      let values = (assignments known ss relation.definition [] u.assignments).made in
      all_append Has (map (λ a. a.value) values) (terms_of (if_any (option_map (expr known ss false) u.filter)).made)
      (all_map Has (λ (a : Assignment). a.value) values (assigned_have ss sees relation.definition [] u.assignments)) (on_has known P ss sees u.filter)

  pub delete_has : (d : DeleteTree) → Sees known P (sources d.table (table known d.table).made) → AllByRecursion Has (delete known d).made.filter
  delete_has d sees = on_has known P (sources d.table (table known d.table).made) sees d.filter
