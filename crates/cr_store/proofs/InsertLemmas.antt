-- What the INSERTs of a store add.
use Rattle.std.proofs.Common.{◌≡◌, ℕ, ℤ, List, [], ◌∷◌, map, codes, Ok, false, refl}
use Rattle.sqlite.specs.declared.types.Value.{Value}
use Rattle.sqlite.specs.declared.types.Value.TheVariants.{Null, Int, Text, Blob}
use Rattle.sqlite.specs.Order.{Row}
use Rattle.sqlite.specs.State.{State, ExecutesIn}
use Rattle.sqlite_rules.specs.Cast.{cast_row}
use Rattle.cr_rows.proofs.InsertLemmas.{inserts, lists_inserted}
use Rattle.cr_rows.proofs.TextLemmas.{cast_null, cast_int}
use Rattle.cr_lattice.specs.declared.stamped.Stamped.{Stamped}
use Rattle.cr_lattice.specs.declared.table.Table.{Table}
use Rattle.cr_store.specs.Schema.{meta_columns, table_columns, cell2_columns, peer_columns, meta_table, schema_table, cell2_table, peer_table, store_schema}
use Rattle.cr_store.specs.Rows.{cell_row}
use Rattle.cr_store.specs.declared.format.Format.TheVariants.{Second}
use Rattle.cr_store.specs.Ordinals.{ordinal, IsNamed}
use Rattle.cr_store.specs.Shows.{Holds, HasCells}
use Rattle.cr_store.proofs.StoreLemmas.{with_meta, with_tables, with_cells, with_marks}
use Rattle.cr_store.proofs.TextLemmas.{given_2, given_4, given_9, insert_meta, insert_meta_is, insert_meta_plain, meta_bare, insert_table, insert_table_is, insert_table_plain, schema_bare, insert_mark, insert_mark_is, insert_mark_plain, peer_bare, insert_cell, insert_cell_is, insert_cell_plain, cell_bare}

pub puts_meta : (old new : State) (a b o c d : List Row) (name : List ℕ) (v : Value) (count : ℕ) → Holds old.now a b o c d → ExecutesIn false insert_meta (Text name ∷ v ∷ []) old new (Ok count)
    → Holds new.now ((Text name ∷ v ∷ []) ∷ a) b o c d
puts_meta old new a b o c d name v count it h =
    let put = inserts store_schema 0 (codes "cr_meta") 0 meta_columns (1 ∷ []) meta_bare insert_meta given_2 3 (Text name ∷ v ∷ []) (Null ∷ Text name ∷ v ∷ []) old new count
    insert_meta_is insert_meta_plain refl it.schema h in
    let kept : cast_row (meta_table 0) (Null ∷ Text name ∷ v ∷ []) ≡ Null ∷ Text name ∷ v ∷ [] = rw cast_null in
    with_meta old.now new.now a b o c d _ it put.schema_is put.others (lists_inserted store_schema 0 _ (Text name ∷ v ∷ []) old new a kept put it.meta_are)

pub puts_table : (old new : State) (a b o c d : List Row) (name : List ℕ) (ordinal crr : ℤ) (def : List ℕ) (count : ℕ) → Holds old.now a b o c d
    → ExecutesIn false insert_table (Text name ∷ Int ordinal ∷ Int crr ∷ Blob def ∷ []) old new (Ok count) → Holds new.now a ((Text name ∷ Int ordinal ∷ Int crr ∷ Blob def ∷ []) ∷ b) o c d
puts_table old new a b o c d name ordinal crr def count it h =
    let x : Row = Text name ∷ Int ordinal ∷ Int crr ∷ Blob def ∷ [] in
    let put = inserts store_schema 1 (codes "cr_schema") 2 table_columns (1 ∷ []) schema_bare insert_table given_4 5 x (Null ∷ x) old new count insert_table_is insert_table_plain refl it.schema h in
    let kept : cast_row (schema_table 2) (Null ∷ Text name ∷ Int ordinal ∷ Int crr ∷ Blob def ∷ []) ≡ Null ∷ Text name ∷ Int ordinal ∷ Int crr ∷ Blob def ∷ [] =
    rw (cast_null, cast_int ordinal, cast_int crr) in
    with_tables old.now new.now a b o c d _ it put.schema_is put.others (lists_inserted store_schema 2 _ x old new b kept put it.tables_are)

pub puts_mark : (old new : State) (a b o c d : List Row) (site : List ℕ) (version : ℤ) (count : ℕ) → Holds old.now a b o c d → ExecutesIn false insert_mark (Blob site ∷ Int version ∷ []) old new (Ok count)
    → Holds new.now a b o c ((Blob site ∷ Int version ∷ []) ∷ d)
puts_mark old new a b o c d site version count it h =
    let x : Row = Blob site ∷ Int version ∷ [] in
    let put = inserts store_schema 3 (codes "cr_peer") 6 peer_columns (1 ∷ []) peer_bare insert_mark given_2 3 x (Null ∷ x) old new count insert_mark_is insert_mark_plain refl it.schema h in
    let kept : cast_row (peer_table 6) (Null ∷ Blob site ∷ Int version ∷ []) ≡ Null ∷ Blob site ∷ Int version ∷ [] = rw (cast_null, cast_int version) in
    with_marks old.now new.now a b o c d _ it put.schema_is put.others (lists_inserted store_schema 6 _ x old new d kept put it.marks_are)

cast_cell : (ts : List Table) (s : Stamped) → cast_row (cell2_table 8) (Null ∷ cell_row Second ts s) ≡ Null ∷ cell_row Second ts s
cast_cell ts s = rw (cast_null, cast_int (ordinal ts s.change.table), cast_int s.change.cl, cast_int s.change.col_version, cast_int s.version, cast_int s.seq)

pub puts_cell : (old new : State) (ts : List Table) (a b o d : List Row) (ss : List Stamped) (s : Stamped) (count : ℕ) → IsNamed ts s → HasCells old.now ts a b o d ss
    → ExecutesIn false insert_cell (cell_row Second ts s) old new (Ok count) → HasCells new.now ts a b o d (s ∷ ss)
puts_cell old new ts a b o d ss s count there it h =
    let put = inserts store_schema 4 (codes "cr_cell2") 8 cell2_columns (1 ∷ 2 ∷ 3 ∷ []) cell_bare insert_cell given_9 10 (cell_row Second ts s) (Null ∷ cell_row Second ts s) old new count
    insert_cell_is insert_cell_plain refl it.held.schema h in
    record {
      held = with_cells old.now new.now a b o (map (cell_row Second ts) ss) d _ it.held put.schema_is put.others
          (lists_inserted store_schema 8 _ (cell_row Second ts s) old new (map (cell_row Second ts) ss) (cast_cell ts s) put it.held.cells_are);
      named = (there, it.named);
    }
