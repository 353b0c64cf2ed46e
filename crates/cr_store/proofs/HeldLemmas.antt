-- What a database shows is what the rows of its queries list.
use Rattle.std.proofs.Common.{◌≡◌, ◌≢◌, inl, inr, ℕ, ◌+◌, ◌≤◌, ℤ, true, Option, List, [], ◌∷◌, map, length, drop, Vec, Global, Result, Ok, Err, IfOk, IfErr, MatchResult, refl, sym, subst, ◌∙◌, arith}
use Rattle.std.specs.List.{AllByRecursion}
use Rattle.std.proofs.lemmas.Bool.{and_parts}
use Rattle.sqlite.specs.declared.types.Value.TheVariants.{Null, Int, Blob}
use Rattle.sqlite.specs.Order.{Row}
use Rattle.sqlite.specs.Effect.{Database, IsDatabase}
use Rattle.sqlite.specs.Schema.{Schema}
use Rattle.sqlite.specs.Table.{Table}
use Rattle.sqlite_value.specs.Order.{column}
use Rattle.sqlite_schema.specs.declared.schema.Column.{Column}
use Rattle.sqlite_schema.specs.declared.schema.Constraint.TheVariants.{Datatype}
use Rattle.sqlite_schema.specs.Rules.{are_typed, passes, Keeps}
use Rattle.sqlite_trees.specs.Tree.{Trees}
use Rattle.sqlite_rules.specs.Lists.{Has}
use Rattle.sqlite_rules.proofs.ProbeLemmas.{has_mapped}
use Rattle.cr_lattice.specs.declared.stamped.Stamped.{Stamped}
use Rattle.cr_lattice.specs.declared.table.Table.{Table as Stored}
use Rattle.cr_cells.specs.declared.store.CellsError.{CellsError}
use Rattle.cr_cells.specs.declared.store.CellsError.TheVariants as error
use Rattle.cr_cells.specs.declared.store.StoreFault.TheVariants as fault
use Rattle.cr_cells.specs.Holding.{Holding, IsSound}
use Rattle.cr_cells.specs.Marks.{Mark}
use Rattle.cr_store.specs.declared.known.Known.{Known}
use Rattle.cr_rows.specs.Rows.{Lists}
use Rattle.cr_rows.proofs.RowLemmas.{lists_in, lists_none}
use Rattle.cr_store.specs.declared.format.Format.{Format}
use Rattle.cr_store.specs.declared.format.Format.TheVariants.{First, Second}
use Rattle.cr_store.specs.Asking.{columns_3, columns_5, columns_10, tree_of, AreRowsOf}
use Rattle.cr_store.specs.Kept.{holding_of}
use Rattle.cr_store.specs.Rows.{number_of, cell_row, meta_rows, table_rows, mark_row}
use Rattle.cr_store.specs.Schema.{schema_of, old_schema, store_schema, meta_table, schema_table, cell_table, cell2_table, peer_table}
use Rattle.cr_store.specs.Shows.{HoldsFirst, Holds, ShowsIn}
use Rattle.cr_store.specs.Stored.{table_entries}
use Rattle.cr_store.specs.Opening.{IsReadable, IsReadableTable, IsDamage, IsHeld, IsHeldIn, FailsToOpen, ListsAll, IsKnown, holding_with}
use Rattle.cr_store.proofs.CommitHolding.{sorted_cells}
use Rattle.cr_store.proofs.KnownLemmas.{one_format, schema_shown}
use Rattle.cr_store.proofs.OrdinalLemmas.{named_cells}
use Rattle.cr_store.proofs.StoreHolding.{cells_back}
use Rattle.cr_store.proofs.StoredRows.{three, five, ten, entry_row, entry_rows}
use Rattle.cr_store.proofs.WholeRows.{lists_back, lists_forth}

-- ---- widths

typed_width : (key : Option ℕ) (at : ℕ) (cs : List Column) (r : Row) → are_typed key at cs r ≡ true → length r ≤ length cs
typed_width key at [] [] e = omega arith
typed_width key at [] (v ∷ vs) e = absurd cc
typed_width key at (c ∷ cs) [] e = omega arith
typed_width key at (c ∷ cs) (v ∷ vs) e = let few = typed_width key (at + 1) cs vs (and_parts _ _ e).1 in omega arith

row_width : (r : Row) (n : ℕ) → length (drop 1 r) ≤ n → length r ≤ n + 1
row_width [] n few = omega arith
row_width (v ∷ vs) n few = omega arith

short_rows : (schema : Schema) (db : Trees) (t : Table) (rows : List Row) → AllByRecursion (λ row. passes Datatype schema db t row ≡ true) rows → AllByRecursion (λ r. length r ≤ length t.columns + 1) rows
short_rows schema db t [] all = tt
short_rows schema db t (r ∷ rows) all =
    (row_width r (length t.columns) (typed_width t.key 0 t.columns (drop 1 r) (and_parts _ _ all.0).0), short_rows schema db t rows all.1)

typed : (f : Format) (db : Database) → db.schema ≡ schema_of f → IsDatabase db → Keeps Datatype (schema_of f) db.trees
typed f db has it = subst (λ s. Keeps Datatype s db.trees) has (it.obeys.rules Datatype)

-- no row of a store's tables is too long
record AreShort (f : Format) (db : Database) : Type 0 where
  meta : AllByRecursion (λ r. length r ≤ 3) (db.trees 0)
  tables : AllByRecursion (λ r. length r ≤ 5) (db.trees 2)
  old : AllByRecursion (λ r. length r ≤ 10) (db.trees 4)
  cells : AllByRecursion (λ r. length r ≤ 10) (db.trees (tree_of f))
  marks : AllByRecursion (λ r. length r ≤ 3) (db.trees 6)

are_short : (f : Format) (db : Database) → db.schema ≡ schema_of f → IsDatabase db → AreShort f db
are_short First db has it =
    let rows = typed First db has it in
    let width = λ (t : Table) (keeps : AllByRecursion (λ row. passes Datatype old_schema db.trees t row ≡ true) (db.trees t.tree)). short_rows old_schema db.trees t (db.trees t.tree) keeps in
    record {
      meta = width (meta_table 0) rows.0;
      tables = width (schema_table 2) rows.1.0;
      old = width (cell_table 4) rows.1.1.0;
      cells = width (cell_table 4) rows.1.1.0;
      marks = width (peer_table 6) rows.1.1.1.0;
    }
are_short Second db has it =
    let rows = typed Second db has it in
    let width = λ (t : Table) (keeps : AllByRecursion (λ row. passes Datatype store_schema db.trees t row ≡ true) (db.trees t.tree)). short_rows store_schema db.trees t (db.trees t.tree) keeps in
    record {
      meta = width (meta_table 0) rows.0;
      tables = width (schema_table 2) rows.1.0;
      old = width (cell_table 4) rows.1.1.0;
      cells = width (cell2_table 8) rows.1.1.1.1.0;
      marks = width (peer_table 6) rows.1.1.1.0;
    }

-- ---- rows that are shown have all columns

module _ (id : ℤ) (x : Row) where
  meta_full : (f : Format) (site : List ℕ) (version : ℤ) → Has (meta_rows f site version) x → column (Int id ∷ x) 2 ≢ Null
  meta_full f site version (inl e) none = let no : Int (number_of f) ≡ Null = subst (λ z. column (Int id ∷ z) 2 ≡ Null) e none in cc
  meta_full f site version (inr (inl e)) none = let no : Blob site ≡ Null = subst (λ z. column (Int id ∷ z) 2 ≡ Null) e none in cc
  meta_full f site version (inr (inr (inl e))) none = let no : Int version ≡ Null = subst (λ z. column (Int id ∷ z) 2 ≡ Null) e none in cc
  meta_full f site version (inr (inr (inr none))) h = none

  meta_whole : (f : Format) (site : List ℕ) (version : ℤ) → Has (meta_rows f site version) x → Int id ∷ x ≡ columns_3 (Int id ∷ x)
  meta_whole f site version (inl e) = subst (λ (z : Row). Int id ∷ z ≡ columns_3 (Int id ∷ z)) (sym e) refl
  meta_whole f site version (inr (inl e)) = subst (λ (z : Row). Int id ∷ z ≡ columns_3 (Int id ∷ z)) (sym e) refl
  meta_whole f site version (inr (inr (inl e))) = subst (λ (z : Row). Int id ∷ z ≡ columns_3 (Int id ∷ z)) (sym e) refl
  meta_whole f site version (inr (inr (inr none))) = absurd none

  table_full : (ts : List Stored) → Has (table_rows 1 ts) x → column (Int id ∷ x) 4 ≢ Null
  table_full ts h none =
      let e = has_mapped entry_row (table_entries 1 ts) x (subst (λ (rows : List Row). Has rows x) (sym (entry_rows 1 ts)) h) in
      let no : Blob e.0.layout ≡ Null = subst (λ (z : Row). column (Int id ∷ z) 4 ≡ Null) e.2 none in cc

  table_whole : (ts : List Stored) → Has (table_rows 1 ts) x → Int id ∷ x ≡ columns_5 (Int id ∷ x)
  table_whole ts h =
      let e = has_mapped entry_row (table_entries 1 ts) x (subst (λ (rows : List Row). Has rows x) (sym (entry_rows 1 ts)) h) in
      subst (λ (z : Row). Int id ∷ z ≡ columns_5 (Int id ∷ z)) (sym e.2) refl

  cell_full : (f : Format) (ts : List Stored) (ss : List Stamped) → Has (map (cell_row f ts) ss) x → column (Int id ∷ x) 9 ≢ Null
  cell_full f ts ss h none =
      let s = has_mapped (cell_row f ts) ss x h in let no : Int s.0.seq ≡ Null = subst (λ (z : Row). column (Int id ∷ z) 9 ≡ Null) s.2 none in cc

  cell_whole : (f : Format) (ts : List Stored) (ss : List Stamped) → Has (map (cell_row f ts) ss) x → Int id ∷ x ≡ columns_10 (Int id ∷ x)
  cell_whole f ts ss h = let s = has_mapped (cell_row f ts) ss x h in subst (λ (z : Row). Int id ∷ z ≡ columns_10 (Int id ∷ z)) (sym s.2) refl

  mark_full : (ms : List Mark) → Has (map mark_row ms) x → column (Int id ∷ x) 2 ≢ Null
  mark_full ms h none =
      let m = has_mapped mark_row ms x h in let no : Int m.0.1 ≡ Null = subst (λ (z : Row). column (Int id ∷ z) 2 ≡ Null) m.2 none in cc

  mark_whole : (ms : List Mark) → Has (map mark_row ms) x → Int id ∷ x ≡ columns_3 (Int id ∷ x)
  mark_whole ms h = let m = has_mapped mark_row ms x h in subst (λ (z : Row). Int id ∷ z ≡ columns_3 (Int id ∷ z)) (sym m.2) refl

-- ---- the whole

listed_none : (rows : List Row) → Lists rows [] → rows ≡ []
listed_none [] it = refl
listed_none (r ∷ rows) it = absurd (it.sound r (inl refl)).3

-- the rows of what is held, and none of cr_cell beside those of the cells
record ListsTrees (f : Format) (db : Database) (h : Holding) : Type 0 where
  meta_are : Lists (db.trees 0) (meta_rows f h.site h.version)
  tables_are : Lists (db.trees 2) (table_rows 1 h.tables)
  cells_are : Lists (db.trees (tree_of f)) (map (cell_row f h.tables) h.cells)
  marks_are : Lists (db.trees 6) (map mark_row h.marks)

module _ (f : Format) (db : Database) (has : db.schema ≡ schema_of f) (meta tables old cells marks : List Row) (asked : AreRowsOf f db meta tables old cells marks) where
  trees_listed : IsDatabase db → (h : Holding) → ListsAll f meta tables old cells marks h → ListsTrees f db h
  trees_listed it h all =
      let short = are_short f db has it in
      record {
        meta_are = lists_back columns_3 2 three (λ r. refl) (db.trees 0) meta (meta_rows f h.site h.version) asked.meta_are short.meta (λ id x. meta_full id x f h.site h.version) all.meta_are;
        tables_are = lists_back columns_5 4 five (λ r. refl) (db.trees 2) tables (table_rows 1 h.tables) asked.tables_are short.tables (λ id x. table_full id x h.tables) all.tables_are;
        cells_are = lists_back columns_10 9 ten (λ r. refl) (db.trees (tree_of f)) cells (map (cell_row f h.tables) h.cells) asked.cells_are short.cells (λ id x. cell_full id x f h.tables h.cells) all.cells_are;
        marks_are = lists_back columns_3 2 three (λ r. refl) (db.trees 6) marks (map mark_row h.marks) asked.marks_are short.marks (λ id x. mark_full id x h.marks) all.marks_are;
      }

  listed_trees : (h : Holding) → ListsTrees f db h → old ≡ [] → ListsAll f meta tables old cells marks h
  listed_trees h it none = record {
    meta_are = lists_forth columns_3 2 three (λ r. refl) (db.trees 0) meta (meta_rows f h.site h.version) asked.meta_are (λ id x. meta_whole id x f h.site h.version) it.meta_are;
    tables_are = lists_forth columns_5 4 five (λ r. refl) (db.trees 2) tables (table_rows 1 h.tables) asked.tables_are (λ id x. table_whole id x h.tables) it.tables_are;
    old_are = none;
    cells_are = lists_forth columns_10 9 ten (λ r. refl) (db.trees (tree_of f)) cells (map (cell_row f h.tables) h.cells) asked.cells_are (λ id x. cell_whole id x f h.tables h.cells) it.cells_are;
    marks_are = lists_forth columns_3 2 three (λ r. refl) (db.trees 6) marks (map mark_row h.marks) asked.marks_are (λ id x. mark_whole id x h.marks) it.marks_are;
  }

-- rows that list all are those of a database that shows it
pub shows_listed : (f : Format) (db : Database) → db.schema ≡ schema_of f → (meta tables old cells marks : List Row) → AreRowsOf f db meta tables old cells marks → IsDatabase db → (h : Holding)
    → ListsAll f meta tables old cells marks h → ShowsIn f db h
shows_listed First db has meta tables old cells marks asked it h all =
    let trees = trees_listed First db has meta tables old cells marks asked it h all in
    record { schema = has; meta_are = trees.meta_are; tables_are = trees.tables_are; cells_are = trees.cells_are; marks_are = trees.marks_are }
shows_listed Second db has meta tables old cells marks asked it h all =
    let trees = trees_listed Second db has meta tables old cells marks asked it h all in
    let none = lists_back columns_10 9 ten (λ r. refl) (db.trees 4) old [] asked.old_are (are_short Second db has it).old (λ id x h. absurd h) (lists_in old [] [] all.old_are lists_none) in
    record { schema = has; meta_are = trees.meta_are; tables_are = trees.tables_are; old_are = none; cells_are = trees.cells_are; marks_are = trees.marks_are }

pub listed_shows : (f : Format) (db : Database) → db.schema ≡ schema_of f → (meta tables old cells marks : List Row) → AreRowsOf f db meta tables old cells marks → (h : Holding)
    → ShowsIn f db h → ListsAll f meta tables old cells marks h
listed_shows First db has meta tables old cells marks asked h it =
    listed_trees First db has meta tables old cells marks asked h (record { meta_are = it.meta_are; tables_are = it.tables_are; cells_are = it.cells_are; marks_are = it.marks_are }) asked.old_are
listed_shows Second db has meta tables old cells marks asked h it =
    let none = listed_none old (lists_forth columns_10 9 ten (λ r. refl) (db.trees 4) old [] asked.old_are (λ id x h. absurd h) it.old_are) in
    listed_trees Second db has meta tables old cells marks asked h (record { meta_are = it.meta_are; tables_are = it.tables_are; cells_are = it.cells_are; marks_are = it.marks_are }) none

module _ (f : Format) (db : Database) (has : db.schema ≡ schema_of f) (meta tables old cells marks : List Row) (asked : AreRowsOf f db meta tables old cells marks) where
  abbrev None : Type 0
  None = (h : Holding) → IsReadable h → IsSound h → ¬ ListsAll f meta tables old cells marks h

  held_none : None → (h : Holding) → IsReadable h → ¬ IsHeld db h
  held_none none h can it =
      let same = one_format it.0 f (sym (schema_shown it.0 db h it.1.shows) ∙ has) in
      let held = subst (λ g. IsHeldIn g db h) same it.1 in
      none h can held.sound (listed_shows f db has meta tables old cells marks asked h held.shows)

  pub found_held : IsDatabase db → (r : Result (Known × Vec Stamped Global) CellsError) → MatchResult r (λ it. IsKnown f meta tables old cells marks it.0 it.1.items) (IsDamage None)
      → IfOk r (λ it. IsHeldIn f db (holding_with it.0 it.1.items) × AllByRecursion IsReadableTable it.0.tables.items)
  found_held it (Ok k) h = (record { shows = shows_listed f db has meta tables old cells marks asked it (holding_with k.0 k.1.items) h.listed; sound = h.sound }, h.readable)
  found_held it (Err e) h = tt

  pub damaged_none : (r : Result (Known × Vec Stamped Global) CellsError) → MatchResult r (λ it. IsKnown f meta tables old cells marks it.0 it.1.items) (IsDamage None) → IfErr r (FailsToOpen db)
  damaged_none (Ok k) h = tt
  damaged_none (Err error.Memory) h = tt
  damaged_none (Err (error.Store fault.Taken)) h = absurd (let no : fault.Taken ≡ fault.Damaged = h.0 in cc)
  damaged_none (Err (error.Store fault.Damaged)) h = held_none h.1
  damaged_none (Err (error.Store fault.Refused)) h = tt
  damaged_none (Err error.VersionLimit) h = absurd h

-- what is held in the second format is what is known beside the cells
pub held_is : (db : Database) (k : Known) (ss : List Stamped) → IsHeldIn Second db (holding_with k ss) → holding_of db k ≡ holding_with k ss
held_is db k ss it =
    let h = holding_with k ss in
    let cells = cells_back Second k.tables.items (db.trees 8) ss it.shows.cells_are (named_cells h it.sound) (sorted_cells h it.sound) in
    λ i. record { tables = k.tables.items; site = k.site; version = k.version; cells = cells i; marks = k.marks.items }

-- held before in a format, and now in the second
abbrev pub IsLeft : Format → Database → Database → Known → Type 0
IsLeft f old new k = IsHeldIn f old (holding_of new k) × IsHeldIn Second new (holding_of new k) × AllByRecursion IsReadableTable k.tables.items

pub is_left : (f : Format) (old new : Database) (k : Known) (ss : List Stamped) → IsHeldIn f old (holding_with k ss) → IsHeldIn Second new (holding_with k ss) → AllByRecursion IsReadableTable k.tables.items → IsLeft f old new k
is_left f old new k ss was now readable =
    let same = sym (held_is new k ss now) in
    (subst (IsHeldIn f old) same was, subst (IsHeldIn Second new) same now, readable)

-- what was held in the first format is held in the second, once its cells are copied
pub shows_left : (old mid new : Database) (k : Known) (ss : List Stamped) → IsHeldIn First old (holding_with k ss) → mid ≡ old
    → (HoldsFirst mid (meta_rows First k.site k.version) (table_rows 1 k.tables.items) (map (cell_row First k.tables.items) ss) (map mark_row k.marks.items)
    → Holds new (meta_rows Second k.site k.version) (table_rows 1 k.tables.items) [] (map (cell_row Second k.tables.items) ss) (map mark_row k.marks.items)) → IsHeldIn Second new (holding_with k ss)
shows_left old mid new k ss it same made = record {
  shows = made (subst (λ db. ShowsIn First db (holding_with k ss)) (sym same) it.shows);
  sound = it.sound;
}
