-- Cells one by one in a table, in any order.
use Rattle.std.proofs.Common.{◌≡◌, inl, inr, ℕ, zero, suc, ◌+◌, ◌<◌, List, [], ◌∷◌, ◌++◌, map, take, get_or, length, sym, ap, subst, ◌∙◌, arith}
use Rattle.std.specs.List.{AllByRecursion}
use Rattle.std.proofs.lemmas.List.{take_more}
use Rattle.sqlite.specs.Order.{Row}
use Rattle.sqlite.specs.Effect.{Database}
use Rattle.sqlite_rules.specs.Lists.{Has}
use Rattle.sqlite_rules.proofs.ListLemmas.{has_left, has_right, has_either, all_from, all_has}
use Rattle.sqlite_rules.proofs.ProbeLemmas.{has_mapped, mapped_has}
use Rattle.cr_rows.specs.Rows.{Lists}
use Rattle.cr_rows.proofs.RowLemmas.{lists_same}
use Rattle.cr_lattice.specs.declared.stamped.Stamped.{Stamped}
use Rattle.cr_lattice.specs.declared.table.Table.{Table}
use Rattle.cr_cells.specs.Holding.{Holding, IsSound}
use Rattle.cr_store.specs.declared.format.Format.TheVariants.{Second}
use Rattle.cr_store.specs.Ordinals.{IsNamed}
use Rattle.cr_store.specs.Rows.{cell_row, meta_rows, table_rows, mark_row}
use Rattle.cr_store.specs.Shows.{Shows, HasCells}
use Rattle.cr_store.proofs.OrdinalLemmas.{named_cells}

pub all_get : {X : Type 0} (P : X → Type 0) (xs : List X) (i : ℕ) (x : X) → AllByRecursion P xs → i < length xs → x ≡ get_or xs i x → P x
all_get P [] i x all within here = absurd (omega arith)
all_get P (y ∷ ys) zero x all within here = subst P (sym here) all.0
all_get P (y ∷ ys) (suc i) x all within here = all_get P ys i x all.1 (omega arith) here

row_moves : (row : Stamped → Row) (ss us : List Stamped) → ((s : Stamped) → Has ss s → Has us s) → (x : Row) → Has (map row ss) x → Has (map row us) x
row_moves row ss us to x h = let r = has_mapped row ss x h in subst (Has (map row us)) (sym r.2) (mapped_has row us r.0 (to r.0 r.1))

-- rows that show cells show the same cells in any other order
pub lists_moved : (row : Stamped → Row) (rows : List Row) (ss us : List Stamped) → ((s : Stamped) → Has ss s → Has us s) → ((s : Stamped) → Has us s → Has ss s) → Lists rows (map row ss) → Lists rows (map row us)
lists_moved row rows ss us to from l = lists_same rows (map row ss) (map row us) (record { to = row_moves row ss us to; from = row_moves row us ss from }) l

pub has_moved : (db : Database) (ts : List Table) (a b o d : List Row) (ss us : List Stamped) → ((s : Stamped) → Has ss s → Has us s) → ((s : Stamped) → Has us s → Has ss s) → HasCells db ts a b o d ss → HasCells db ts a b o d us
has_moved db ts a b o d ss us to from it = record {
  held = record {
    schema = it.held.schema;
    meta_are = it.held.meta_are;
    tables_are = it.held.tables_are;
    old_are = it.held.old_are;
    cells_are = lists_moved (cell_row Second ts) (db.trees 8) ss us to from it.held.cells_are;
    marks_are = it.held.marks_are;
  };
  named = all_from (IsNamed ts) us (λ s h. all_has (IsNamed ts) ss s it.named (from s h));
}

-- what is shown and sound
pub has_cells : (db : Database) (h : Holding) → Shows db h → IsSound h → HasCells db h.tables (meta_rows Second h.site h.version) (table_rows 1 h.tables) [] (map mark_row h.marks) h.cells
has_cells db h shows sound = record { held = shows; named = named_cells h sound }

-- one cell more of those that are to come
pub has_one_more : (db : Database) (ts : List Table) (a b o d : List Row) (all : List Stamped) (i : ℕ) (s : Stamped) → i < length all → s ≡ get_or all i s
    → HasCells db ts a b o d (s ∷ take i all) → HasCells db ts a b o d (take (i + 1) all)
has_one_more db ts a b o d all i s within here it =
    let more : take i all ++ s ∷ [] ≡ take (i + 1) all = ap (λ (x : Stamped). take i all ++ x ∷ []) here ∙ sym (take_more all i s within) in
    has_moved db ts a b o d (s ∷ take i all) (take (i + 1) all) (λ x h. subst (λ xs. Has xs x) more (to x h)) (λ x h. from x (subst (λ xs. Has xs x) (sym more) h)) it
  where
    to : (x : Stamped) → Has (s ∷ take i all) x → Has (take i all ++ s ∷ []) x
    to x (inl e) = has_right (take i all) (s ∷ []) x (inl e)
    to x (inr h) = has_left (take i all) (s ∷ []) x h

    from : (x : Stamped) → Has (take i all ++ s ∷ []) x → Has (s ∷ take i all) x
    from x h = elim (has_either (take i all) (s ∷ []) x h) [ inl old ↦ inr old | inr new ↦ elim new [ inl e ↦ inl e | inr none ↦ absurd none ] ]
