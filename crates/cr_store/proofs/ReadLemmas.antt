-- What the SELECTs of a store show.
use Rattle.std.proofs.Common.{◌≡◌, ℕ, ℤ, List, [], ◌∷◌, map, filter, Bool, true, false, cond, refl, sym, ap, subst, ◌∙◌}
use Rattle.std.specs.Prelude.{int_lt}
use Rattle.sqlite.specs.declared.types.Value.{Value as SqlValue}
use Rattle.sqlite.specs.declared.types.Value.TheVariants as sql
use Rattle.sqlite.specs.declared.types.Value.TheVariants.{Int, Text, Blob}
use Rattle.sqlite.specs.Order.{Row}
use Rattle.std.specs.List.{AllByRecursion}
use Rattle.sqlite.specs.State.{State, Shown}
use Rattle.sqlite.specs.Term.{eval_all}
use Rattle.sqlite_rules.specs.Lists.{Has}
use Rattle.sqlite_rules.proofs.ProbeLemmas.{has_mapped, mapped_has}
use Rattle.sqlite_rules.proofs.ListLemmas.{all_has}
use Rattle.cr_rows.specs.Rows.{Lists, SameRows}
use Rattle.cr_rows.proofs.RowLemmas.{lists_filter}
use Rattle.cr_rows.proofs.SelectLemmas.{passes_all, lists_answered, asks}
use Rattle.cr_value.specs.declared.value.Value.{Value}
use Rattle.cr_value.specs.declared.value.Value.TheVariants as val
use Rattle.cr_lattice.specs.declared.stamped.Stamped.{Stamped}
use Rattle.cr_lattice.specs.declared.table.Table.{Table}
use Rattle.cr_lattice.specs.Rows.{is_of_row}
use Rattle.cr_cells.specs.Holding.{is_of_table}
use Rattle.cr_store.specs.Schema.{store_schema}
use Rattle.cr_store.specs.Rows.{value_of, value_in, cell_row, cell_of}
use Rattle.cr_store.specs.declared.format.Format.{Format}
use Rattle.cr_store.specs.declared.format.Format.TheVariants.{First, Second}
use Rattle.cr_store.specs.Ordinals.{ordinal, IsNamed}
use Rattle.cr_store.specs.Shows.{HasCells}
use Rattle.cr_store.specs.Words.{SameCells}
use Rattle.cr_store.proofs.OrdinalLemmas.{name_back}
use Rattle.cr_store.proofs.RowTests.{passes_above, passes_row, passes_table}
use Rattle.cr_store.proofs.TextLemmas.{names, shows, above, at_row, at_table, select_since, since_is, since_plain, since_unlisted, select_row, row_is, row_plain, row_unlisted, select_table, of_table_is, of_table_plain, of_table_unlisted}

value_back : (v : Value) → value_in (value_of v) ≡ v
value_back val.Null = refl
value_back (val.Int n) = refl
value_back (val.Text t) = refl
value_back (val.Blob b) = refl

-- a cell is read back from its row, whatever stands before it
pub cell_back : (f : Format) (ts : List Table) (first : SqlValue) (s : Stamped) → IsNamed ts s → cell_of f ts (first ∷ cell_row f ts s) ≡ s
cell_back First ts first s there = rw (value_back s.change.val)
cell_back Second ts first s there = rw (name_back ts s.change.table there, value_back s.change.val)

module _ (ts : List Table) where
  module _ (p : Row → Bool) (test : Stamped → Bool) (rows : List Row) (ss : List Stamped) (named : AllByRecursion (IsNamed ts) ss)
      (same : (id : ℤ) (s : Stamped) → IsNamed ts s → p (Int id ∷ cell_row Second ts s) ≡ test s) where
    abbrev on_row : Row → Bool
    on_row x = test (cell_of Second ts (sql.Null ∷ x))

    on_cell : (s : Stamped) → IsNamed ts s → on_row (cell_row Second ts s) ≡ test s
    on_cell s there = ap test (cell_back Second ts sql.Null s there)

    pub as_cells : (id : ℤ) (x : Row) → Has (map (cell_row Second ts) ss) x → p (Int id ∷ x) ≡ on_row x
    as_cells id x h =
        let from = has_mapped (cell_row Second ts) ss x h in
        let there = all_has (IsNamed ts) ss from.0 named from.1 in
        subst (λ z. p (Int id ∷ z) ≡ on_row z) (sym from.2) (same id from.0 there ∙ sym (on_cell from.0 there))

    each : (xs : List Stamped) → AllByRecursion (IsNamed ts) xs → filter on_row (map (cell_row Second ts) xs) ≡ map (cell_row Second ts) (filter test xs)
    each [] all = refl
    each (x ∷ xs) all =
        ap (λ b. cond b (cell_row Second ts x ∷ filter on_row (map (cell_row Second ts) xs)) (filter on_row (map (cell_row Second ts) xs))) (on_cell x all.0)
        ∙ ap (λ (more : List Row). cond (test x) (cell_row Second ts x ∷ more) more) (each xs all.1)
        ∙ go (test x)
      where
        go : (b : Bool) → cond b (cell_row Second ts x ∷ map (cell_row Second ts) (filter test xs)) (map (cell_row Second ts) (filter test xs)) ≡ map (cell_row Second ts) (cond b (x ∷ filter test xs) (filter test xs))
        go true = refl
        go false = refl

    pub lists_kept : Lists rows (map (cell_row Second ts) ss) → Lists (filter p rows) (map (cell_row Second ts) (filter test ss))
    lists_kept it = subst (Lists (filter p rows)) (each ss named) (lists_filter p on_row rows (map (cell_row Second ts) ss) as_cells it)

    pub rows_kept : (answer : List Row) → SameRows (filter on_row (map (cell_row Second ts) ss)) answer → SameRows (map (cell_row Second ts) (filter test ss)) answer
    rows_kept answer h = subst (λ xs. SameRows xs answer) (each ss named) h

  -- the cells of rows that are the same as those of cells
  pub same_cells : (ss : List Stamped) (answer : List Row) (cells : List Stamped) → AllByRecursion (IsNamed ts) ss → SameRows (map (cell_row Second ts) ss) answer
      → cells ≡ map (λ row. cell_of Second ts (sql.Null ∷ row)) answer → SameCells ss cells
  same_cells ss answer cells named same is = record {
    to = λ s h. subst (λ xs. Has xs s) (sym is) (subst (Has (map (λ row. cell_of Second ts (sql.Null ∷ row)) answer)) (cell_back Second ts sql.Null s (all_has (IsNamed ts) ss s named h))
        (mapped_has (λ row. cell_of Second ts (sql.Null ∷ row)) answer (cell_row Second ts s) (same.to (cell_row Second ts s) (mapped_has (cell_row Second ts) ss s h))));
    from = λ s h.
        let row = has_mapped (λ row. cell_of Second ts (sql.Null ∷ row)) answer s (subst (λ xs. Has xs s) is h) in
        let of = has_mapped (cell_row Second ts) ss row.0 (same.from row.0 row.1) in
        let there = all_has (IsNamed ts) ss of.0 named of.1 in
        subst (Has ss) (sym (row.2 ∙ ap (λ (r : Row). cell_of Second ts (sql.Null ∷ r)) of.2 ∙ cell_back Second ts sql.Null of.0 there)) of.1;
  }

  pub shown : (params : Row) (id : ℤ) (ss : List Stamped) (x : Row) → Has (map (cell_row Second ts) ss) x → eval_all shows (params ∷ (Int id ∷ x) ∷ []) ≡ x
  shown params id ss x k = let from = has_mapped (cell_row Second ts) ss x k in subst (λ z. eval_all shows (params ∷ (Int id ∷ z) ∷ []) ≡ z) (sym from.2) refl

  pub shows_since : (old new : State) (a b o d : List Row) (ss : List Stamped) (version : ℤ) (rows : List Row) → HasCells old.now ts a b o d ss → Shown select_since (Int version ∷ []) old new rows
      → SameRows (map (cell_row Second ts) (filter (λ s. int_lt version s.version) ss)) rows
  shows_since old new a b o d ss version rows it h =
      let asked = asks store_schema select_since 8 above shows [] names (Int version ∷ []) old new rows since_is since_plain since_unlisted refl it.held.schema h in
      let each = λ (id : ℤ) (s : Stamped) (there : IsNamed ts s). passes_above ts version id s in
      rows_kept (passes_all above (Int version ∷ [])) (λ s. int_lt version s.version) (old.now.trees 8) ss it.named each rows
      (lists_answered above shows [] (Int version ∷ []) (old.now.trees 8) rows (map (cell_row Second ts) ss) _
      (as_cells (passes_all above (Int version ∷ [])) (λ s. int_lt version s.version) (old.now.trees 8) ss it.named each) (λ id x k. shown (Int version ∷ []) id ss x k) it.held.cells_are asked)

  pub shows_row : (old new : State) (a b o d : List Row) (ss : List Stamped) (table pk : List ℕ) (rows : List Row) → HasCells old.now ts a b o d ss
      → Shown select_row (Int (ordinal ts table) ∷ Blob pk ∷ []) old new rows → SameRows (map (cell_row Second ts) (filter (λ s. is_of_row table pk s.change) ss)) rows
  shows_row old new a b o d ss table pk rows it h =
      let params : Row = Int (ordinal ts table) ∷ Blob pk ∷ [] in
      let asked = asks store_schema select_row 8 at_row shows [] names params old new rows row_is row_plain row_unlisted refl it.held.schema h in
      let each = passes_row ts table pk in
      rows_kept (passes_all at_row params) (λ s. is_of_row table pk s.change) (old.now.trees 8) ss it.named each rows
      (lists_answered at_row shows [] params (old.now.trees 8) rows (map (cell_row Second ts) ss) _
      (as_cells (passes_all at_row params) (λ s. is_of_row table pk s.change) (old.now.trees 8) ss it.named each) (λ id x k. shown params id ss x k) it.held.cells_are asked)

  pub shows_table : (old new : State) (a b o d : List Row) (ss : List Stamped) (table : List ℕ) (rows : List Row) → HasCells old.now ts a b o d ss
      → Shown select_table (Int (ordinal ts table) ∷ []) old new rows → SameRows (map (cell_row Second ts) (filter (λ s. is_of_table table s.change) ss)) rows
  shows_table old new a b o d ss table rows it h =
      let params : Row = Int (ordinal ts table) ∷ [] in
      let asked = asks store_schema select_table 8 at_table shows [] names params old new rows of_table_is of_table_plain of_table_unlisted refl it.held.schema h in
      let each = passes_table ts table in
      rows_kept (passes_all at_table params) (λ s. is_of_table table s.change) (old.now.trees 8) ss it.named each rows
      (lists_answered at_table shows [] params (old.now.trees 8) rows (map (cell_row Second ts) ss) _
      (as_cells (passes_all at_table params) (λ s. is_of_table table s.change) (old.now.trees 8) ss it.named each) (λ id x k. shown params id ss x k) it.held.cells_are asked)

-- what is named stays so
pub named_filter : (ts : List Table) (test : Stamped → Bool) (ss : List Stamped) → AllByRecursion (IsNamed ts) ss → AllByRecursion (IsNamed ts) (filter test ss)
named_filter ts test [] all = tt
named_filter ts test (s ∷ ss) all = go (test s) (named_filter ts test ss all.1)
  where
    go : (b : Bool) → AllByRecursion (IsNamed ts) (filter test ss) → AllByRecursion (IsNamed ts) (cond b (s ∷ filter test ss) (filter test ss))
    go true more = (all.0, more)
    go false more = more
