-- What a write wants with a limit on values it wants without, whenever the one meaning refines the other.
use Rattle.std.proofs.Common.{not, cond, List, [], ◌++◌, map, Some, option_map}
use Rattle.cr_lattice.specs.declared.table.ColumnDef.{ColumnDef}
use Rattle.cr_bags.specs.Bags.{each, single}
use Rattle.cr_query.specs.Queries.{Assignment, Insert, Update, Delete}
use Rattle.cr_query.specs.Query.{Row, Meaning, Refines, holds}
use Rattle.cr_query.specs.Writes.{put_all, defaults, inserted, inserted_rows, assigned, updated, wanted_by_insert, wanted_by_update, wanted_by_delete}
use Rattle.cr_query.proofs.Refining.{Gains, same, by_map, by_then, by_cond, by_gather, by_each, holds_refines}

module _ {E : Type 0} (m n : Meaning E) (r : Refines m n) where
  inserted_refines : (cols : List ColumnDef) (i : Insert E) (es : List E) → Gains (inserted m cols i.places es) (inserted n cols i.places es)
  inserted_refines cols i es =
      by_map (λ vs. put_all cols i.places vs (defaults cols)) (each (λ e. m.value e []) es) (each (λ e. n.value e []) es)
      (by_each (λ e. m.value e []) (λ e. n.value e []) (λ e. r.value e []) es)

  pub rows_refine : (cols : List ColumnDef) (i : Insert E) → Gains (inserted_rows m cols i) (inserted_rows n cols i)
  rows_refine cols i = by_cond i.is_ignored _ _ _ _ (same (Some [])) (by_each (inserted m cols i.places) (inserted n cols i.places) (inserted_refines cols i) i.tuples)

  pub insert_refines : (cols : List ColumnDef) (i : Insert E) (rows : List Row) → Gains (wanted_by_insert m cols i rows) (wanted_by_insert n cols i rows)
  insert_refines cols i rows = by_map (λ more. rows ++ more) (inserted_rows m cols i) (inserted_rows n cols i) (rows_refine cols i)

  assigned_refines : (cols : List ColumnDef) (ws : List (Assignment E)) (row : Row) → Gains (assigned m cols ws row) (assigned n cols ws row)
  assigned_refines cols ws row =
      by_map (λ vs. put_all cols (map (λ a. a.place) ws) vs row) (each (λ a. m.value a.expr row) ws) (each (λ a. n.value a.expr row) ws)
      (by_each (λ a. m.value a.expr row) (λ a. n.value a.expr row) (λ a. r.value a.expr row) ws)

  pub updated_refines : (cols : List ColumnDef) (u : Update E) (row : Row) → Gains (updated m cols u row) (updated n cols u row)
  updated_refines cols u row =
      by_then (λ b. cond b (assigned m cols u.assignments row) (Some row)) (λ b. cond b (assigned n cols u.assignments row) (Some row))
      (λ b. by_cond b _ _ _ _ (assigned_refines cols u.assignments row) (same (Some row))) (holds m u.terms row) (holds n u.terms row) (holds_refines m n r u.terms row)

  pub update_refines : (cols : List ColumnDef) (u : Update E) (rows : List Row) → Gains (wanted_by_update m cols u rows) (wanted_by_update n cols u rows)
  update_refines cols u rows = by_each (updated m cols u) (updated n cols u) (updated_refines cols u) rows

  -- a row that is left
  pub left_refines : (terms : List E) (row : Row)
      → Gains (option_map (λ b. cond b (single row) []) (option_map not (holds m terms row))) (option_map (λ b. cond b (single row) []) (option_map not (holds n terms row)))
  left_refines terms row =
      by_map (λ b. cond b (single row) []) (option_map not (holds m terms row)) (option_map not (holds n terms row))
      (by_map not (holds m terms row) (holds n terms row) (holds_refines m n r terms row))

  pub delete_refines : (d : Delete E) (rows : List Row) → Gains (wanted_by_delete m d rows) (wanted_by_delete n d rows)
  delete_refines d rows = by_gather _ _ (left_refines d.terms) rows
