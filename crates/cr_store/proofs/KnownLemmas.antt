-- Rows tell one holding at most, where it is sound and can be in memory.
use Rattle.std.proofs.Common.{◌≡◌, ℕ, ◌+◌, ℤ, List, [], ◌∷◌, map, length, Some, Option, refl, sym, ap, subst, ◌∙◌}
use Rattle.std.specs.List.{AllByRecursion, IsDistinct}
use Rattle.sqlite.specs.Order.{Row}
use Rattle.cr_rows.specs.Rows.{Lists}
use Rattle.cr_rows.proofs.RowLemmas.{lists_same}
use Rattle.cr_value.specs.declared.value.Value.{Value}
use Rattle.cr_value.specs.declared.value.Value.TheVariants as val
use Rattle.cr_lattice.specs.declared.stamped.Stamped.{Stamped}
use Rattle.cr_lattice.specs.declared.table.Table.{Table}
use Rattle.cr_lattice.specs.Sets.{set_of}
use Rattle.cr_cells.specs.Holding.{Holding, IsSound}
use Rattle.cr_cells.specs.Marks.{Mark}
use Rattle.cr_layout.specs.Laws.{AreReadBack}
use Rattle.cr_layout.specs.Reading.{definition_of}
use Rattle.cr_layout.specs.Definition.{definition}
use Rattle.cr_sound.specs.Sound.{holding}
use Rattle.sqlite.specs.Effect.{Database}
use Rattle.sqlite.specs.Schema.{Schema}
use Rattle.cr_cells.specs.Tables.{same_name}
use Rattle.cr_store.specs.declared.format.Format.{Format}
use Rattle.cr_store.specs.declared.format.Format.TheVariants.{First, Second}
use Rattle.cr_store.specs.declared.known.Known.{Known}
use Rattle.cr_store.specs.declared.stored.MetaEntry.{MetaEntry}
use Rattle.cr_store.specs.declared.stored.TableEntry.{TableEntry}
use Rattle.cr_store.specs.Rows.{cell_row, meta_rows, table_rows, mark_row}
use Rattle.cr_store.specs.Asking.{tree_of}
use Rattle.cr_store.specs.Schema.{schema_of, old_schema, store_schema}
use Rattle.cr_store.specs.Shows.{ShowsIn, cells_in}
use Rattle.cr_store.specs.Stored.{AreStored, IsMetaRow, IsTableRow, meta_of, table_of, mark_of, meta_cmp, table_cmp, seen_cmp, meta_entries, table_entry, table_entries}
use Rattle.cr_store.specs.StoredOrders.{meta_total, meta_exact, table_total, table_exact, seen_total, seen_exact}
use Rattle.cr_store.specs.Laws.{HoldsOne}
use Rattle.cr_store.specs.Opening.{IsReadableTable, IsReadable, ListsAll, IsKnown, IsHeldIn}
use Rattle.cr_store.proofs.OrdinalLemmas.{named_cells}
use Rattle.cr_store.proofs.ReadBack.{read_back}
use Rattle.cr_store.proofs.StoreHolding.{cells_back}
use Rattle.cr_store.proofs.CommitHolding.{sorted_cells}
use Rattle.cr_store.proofs.ListedRows.{lists_read, stored_listed, set_listed}
use Rattle.cr_store.proofs.StoredRows.{IsReadableMeta, IsReadableEntry, meta_row, meta_shows, meta_back, meta_stored, meta_reordered, reordered_meta, meta_sorted, meta_readable, entry_row, table_shows, table_back, table_stored, entry_rows, tables_sorted, entries_readable, mark_back, marks_sorted}

-- ---- cr_meta

module _ (f : Format) (rows : List Row) (site : List ℕ) (version : ℤ) where
  by_name : Lists rows (meta_rows f site version) → Lists rows (map meta_row (meta_entries f site version))
  by_name it = lists_same rows _ _ (reordered_meta f site version) it

  pub meta_listed : Lists rows (meta_rows f site version) → set_of meta_cmp (map meta_of rows) ≡ meta_entries f site version
  meta_listed it = set_listed meta_total meta_exact meta_row meta_of meta_back rows (meta_entries f site version) (by_name it) (meta_sorted f site version)

  pub meta_can_be_read : Lists rows (meta_rows f site version) → AreStored IsMetaRow rows
  meta_can_be_read it = stored_listed meta_row IsMetaRow IsReadableMeta meta_stored rows (meta_entries f site version) (by_name it) (meta_readable f site version)

  pub meta_is_read : AreStored IsMetaRow rows → set_of meta_cmp (map meta_of rows) ≡ meta_entries f site version → Lists rows (meta_rows f site version)
  meta_is_read it is = lists_same rows _ _ (meta_reordered f site version) (subst (λ es. Lists rows (map meta_row es)) is (lists_read meta_total meta_exact meta_row meta_of IsMetaRow meta_shows rows it))

-- ---- cr_schema

module _ (rows : List Row) (ts : List Table) where
  in_entries : Lists rows (table_rows 1 ts) → Lists rows (map entry_row (table_entries 1 ts))
  in_entries it = subst (Lists rows) (sym (entry_rows 1 ts)) it

  pub tables_listed : Lists rows (table_rows 1 ts) → set_of table_cmp (map table_of rows) ≡ table_entries 1 ts
  tables_listed it = set_listed table_total table_exact entry_row table_of table_back rows (table_entries 1 ts) (in_entries it) (tables_sorted 1 ts)

  pub tables_can_be_read : AllByRecursion IsReadableTable ts → Lists rows (table_rows 1 ts) → AreStored IsTableRow rows
  tables_can_be_read all it = stored_listed entry_row IsTableRow IsReadableEntry table_stored rows (table_entries 1 ts) (in_entries it) (entries_readable 1 ts all)

  pub tables_are_read : AreStored IsTableRow rows → set_of table_cmp (map table_of rows) ≡ table_entries 1 ts → Lists rows (table_rows 1 ts)
  tables_are_read it is = subst (Lists rows) (ap (map entry_row) is ∙ entry_rows 1 ts) (lists_read table_total table_exact entry_row table_of IsTableRow table_shows rows it)

-- ---- cr_peer

pub marks_listed : (rows : List Row) (h : Holding) → IsSound h → Lists rows (map mark_row h.marks) → set_of seen_cmp (map mark_of rows) ≡ h.marks
marks_listed rows h sound it = set_listed seen_total seen_exact mark_row mark_of mark_back rows h.marks it (marks_sorted h.marks sound.marks.by_site)

-- ---- one holding

first_value : List MetaEntry → Value
first_value [] = val.Null
first_value (e ∷ es) = e.val

third_value : List MetaEntry → Value
third_value (a ∷ b ∷ c ∷ es) = c.val
third_value es = val.Null

same_version : (f : Format) (site site' : List ℕ) (version version' : ℤ) → meta_entries f site version ≡ meta_entries f site' version' → version ≡ version'
unfolding first_value
same_version f site site' version version' e = let is : val.Int version ≡ val.Int version' = ap first_value e in cc

same_site : (f : Format) (site site' : List ℕ) (version version' : ℤ) → meta_entries f site version ≡ meta_entries f site' version' → site ≡ site'
unfolding third_value
same_site f site site' version version' e = let is : val.Blob site ≡ val.Blob site' = ap third_value e in cc

same_some : {X : Type 0} (a b : X) → ◌≡◌ {A = Option X} (Some a) (Some b) → a ≡ b
same_some a b e = cc

-- entries tell their tables
module _ (back : AreReadBack) where
  same_table : (n : ℕ) (t u : Table) → IsReadableTable t → IsReadableTable u → table_entry n t ≡ table_entry n u → t ≡ u
  same_table n t u p q e =
      let name : t.definition.name ≡ u.definition.name = ap (λ (x : TableEntry). x.name) e in
      let layout : definition t.definition ≡ definition u.definition = ap (λ (x : TableEntry). x.layout) e in
      let replicated = ap (λ (x : TableEntry). x.is_replicated) e in
      let read = sym (back t.definition p.written) ∙ ap (λ x. definition_of x (definition t.definition)) name ∙ ap (definition_of u.definition.name) layout ∙ back u.definition q.written in
      let same = same_some t.definition u.definition read in
      λ i. record { definition = same i; is_replicated = replicated i }

  first_entry : (a b : TableEntry) (xs ys : List TableEntry) → a ∷ xs ≡ b ∷ ys → (a ≡ b) × (xs ≡ ys)
  first_entry a b xs ys e = (cc, cc)

  pub same_tables : (n : ℕ) (ts us : List Table) → AllByRecursion IsReadableTable ts → AllByRecursion IsReadableTable us → table_entries n ts ≡ table_entries n us → ts ≡ us
  same_tables n [] [] p q e = refl
  same_tables n [] (u ∷ us) p q e = absurd cc
  same_tables n (t ∷ ts) [] p q e = absurd cc
  same_tables n (t ∷ ts) (u ∷ us) p q e =
      let parts = first_entry (table_entry n t) (table_entry n u) (table_entries (n + 1) ts) (table_entries (n + 1) us) e in
      let one = same_table n t u p.0 q.0 parts.0 in
      let others = same_tables (n + 1) ts us p.1 q.1 parts.1 in
      λ i. one i ∷ others i

  -- rows list one list of tables
  pub tables_back : (rows : List Row) (ts us : List Table) → AllByRecursion IsReadableTable ts → AllByRecursion IsReadableTable us → Lists rows (table_rows 1 ts) → Lists rows (table_rows 1 us) → ts ≡ us
  tables_back rows ts us p q it at = same_tables 1 ts us p q (sym (tables_listed rows ts it) ∙ tables_listed rows us at)

  -- what is read of rows is what they list
  pub one_holding : (f : Format) (meta tables old cells marks : List Row) (site : List ℕ) (version : ℤ) (ts : List Table) (ss : List Stamped) (ms : List Mark)
      → Lists meta (meta_rows f site version) → Lists tables (table_rows 1 ts) → AllByRecursion IsReadableTable ts → ss ≡ cells_in f ts cells → ms ≡ set_of seen_cmp (map mark_of marks)
      → (h : Holding) → IsReadable h → IsSound h → ListsAll f meta tables old cells marks h → holding ts site version ss ms ≡ h
  one_holding f meta tables old cells marks site version ts ss ms meta_is tables_are readable cells_are marks_are h can sound it =
      let metas = sym (meta_listed f meta site version meta_is) ∙ meta_listed f meta h.site h.version it.meta_are in
      let version_is = same_version f site h.site version h.version metas in
      let site_is = same_site f site h.site version h.version metas in
      let tables_same = tables_back tables ts h.tables readable can.tables tables_are it.tables_are in
      let cells_same = cells_are ∙ ap (λ us. cells_in f us cells) tables_same ∙ cells_back f h.tables cells h.cells it.cells_are (named_cells h sound) (sorted_cells h sound) in
      let marks_same = marks_are ∙ marks_listed marks h sound it.marks_are in
      λ i. record { tables = tables_same i; site = site_is i; version = version_is i; cells = cells_same i; marks = marks_same i }

-- what is read and found sound is known
pub is_known : (f : Format) (meta tables old cells marks : List Row) (k : Known) (ss : List Stamped) → Lists meta (meta_rows f k.site k.version) → Lists tables (table_rows 1 k.tables.items) → AllByRecursion IsReadableTable k.tables.items
    → old ≡ [] → (IsDistinct same_name k.tables.items → Lists cells (map (cell_row f k.tables.items) ss)) → Lists marks (map mark_row k.marks.items) → IsSound (holding k.tables.items k.site k.version ss k.marks.items)
    → IsKnown f meta tables old cells marks k ss
is_known f meta tables old cells marks k ss meta_are tables_are readable none cells_are marks_are sound = record {
  listed = record { meta_are = meta_are; tables_are = tables_are; old_are = none; cells_are = cells_are sound.names; marks_are = marks_are };
  sound = sound;
  readable = readable;
}

-- ---- one format

pub one_format : (f g : Format) → schema_of f ≡ schema_of g → f ≡ g
one_format First First e = refl
one_format First Second e = absurd (let no : length old_schema.tables ≡ length store_schema.tables = ap (λ (s : Schema). length s.tables) e in cc)
one_format Second First e = absurd (let no : length store_schema.tables ≡ length old_schema.tables = ap (λ (s : Schema). length s.tables) e in cc)
one_format Second Second e = refl

pub schema_shown : (f : Format) (db : Database) (h : Holding) → ShowsIn f db h → db.schema ≡ schema_of f
schema_shown First db h it = it.schema
schema_shown Second db h it = it.schema

pub lists_shown : (f : Format) (db : Database) (h : Holding) → ShowsIn f db h → ListsAll f (db.trees 0) (db.trees 2) [] (db.trees (tree_of f)) (db.trees 6) h
lists_shown First db h it = record { meta_are = it.meta_are; tables_are = it.tables_are; old_are = refl; cells_are = it.cells_are; marks_are = it.marks_are }
lists_shown Second db h it = record { meta_are = it.meta_are; tables_are = it.tables_are; old_are = refl; cells_are = it.cells_are; marks_are = it.marks_are }

one_in : (f : Format) (db : Database) (g h : Holding) → IsHeldIn f db g → IsHeldIn f db h → AllByRecursion IsReadableTable g.tables → AllByRecursion IsReadableTable h.tables → g ≡ h
one_in f db g h p q gs hs =
    let a = lists_shown f db g p.shows in
    let b = lists_shown f db h q.shows in
    let metas = sym (meta_listed f (db.trees 0) g.site g.version a.meta_are) ∙ meta_listed f (db.trees 0) h.site h.version b.meta_are in
    let version_is = same_version f g.site h.site g.version h.version metas in
    let site_is = same_site f g.site h.site g.version h.version metas in
    let tables_same = tables_back read_back (db.trees 2) g.tables h.tables gs hs a.tables_are b.tables_are in
    let cells_same = sym (cells_back f g.tables (db.trees (tree_of f)) g.cells a.cells_are (named_cells g p.sound) (sorted_cells g p.sound)) ∙ ap (λ us. cells_in f us (db.trees (tree_of f))) tables_same
    ∙ cells_back f h.tables (db.trees (tree_of f)) h.cells b.cells_are (named_cells h q.sound) (sorted_cells h q.sound) in
    let marks_same = sym (marks_listed (db.trees 6) g p.sound a.marks_are) ∙ marks_listed (db.trees 6) h q.sound b.marks_are in
    λ i. record { tables = tables_same i; site = site_is i; version = version_is i; cells = cells_same i; marks = marks_same i }

-- a database holds one holding at most
pub holds_one : HoldsOne
holds_one db g h p q gs hs =
    let same = one_format q.0 p.0 (sym (schema_shown q.0 db h q.1.shows) ∙ schema_shown p.0 db g p.1.shows) in
    one_in p.0 db g h p.1 (subst (λ f. IsHeldIn f db h) same q.1) gs hs
