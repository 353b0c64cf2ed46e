-- What the UPDATEs of a store change.
use Rattle.std.proofs.Common.{◌≡◌, inl, inr, ℕ, ◌+◌, ℤ, pos, List, [], ◌∷◌, map, drop, Bool, true, false, ◌||◌, cond, codes, Ok, refl, sym, ap, subst, ◌∙◌, is_eq, Equal, Ordering, Less, Greater}
use Rattle.std.specs.List.{AllByRecursion}
use Rattle.std.proofs.lemmas.Bool.{and_parts}
use Rattle.sqlite.specs.declared.types.Value.{Value}
use Rattle.sqlite.specs.declared.types.Value.TheVariants.{Int, Text, Blob}
use Rattle.sqlite.specs.Order.{Row}
use Rattle.sqlite_value.specs.Order.{bytes, column}
use Rattle.sqlite.specs.State.{State, ExecutesIn}
use Rattle.sqlite.specs.Term.{Term, eval_all}
use Rattle.sqlite_rules.specs.Cast.{cast_row}
use Rattle.sqlite_rules.specs.Lists.{Has}
use Rattle.sqlite_rules.proofs.ListLemmas.{all_has}
use Rattle.sqlite_rules.proofs.ProbeLemmas.{has_mapped, mapped_has}
use Rattle.sqlite.specs.Schema.{Schema}
use Rattle.cr_rows.specs.Rows.{IsListed, Lists}
use Rattle.cr_rows.proofs.SelectLemmas.{passes_all}
use Rattle.cr_rows.proofs.UpdateLemmas.{changed, HasSet, lists_set, updates}
use Rattle.cr_rows.proofs.TextLemmas.{cast_int}
use Rattle.cr_value.specs.OrderLaws.{bytes_exact}
use Rattle.cr_lattice.specs.declared.stamped.Stamped.{Stamped}
use Rattle.cr_lattice.specs.declared.table.ColumnDef.{ColumnDef}
use Rattle.cr_lattice.specs.declared.table.Table.{Table}
use Rattle.cr_lattice.specs.Check.{same_bytes}
use Rattle.cr_cells.specs.Marks.{Mark}
use Rattle.cr_cells.specs.Tables.{is_named, marked, with_replicated, with_column, altered, with_added}
use Rattle.cr_layout.specs.Definition.{definition}
use Rattle.cr_store.specs.Schema.{meta_columns, table_columns, cell2_columns, peer_columns, meta_table, schema_table, cell2_table, peer_table, store_schema}
use Rattle.cr_store.specs.Rows.{cell_row, meta_rows, one_if, table_row, table_rows, mark_row}
use Rattle.cr_store.specs.declared.format.Format.{Format}
use Rattle.cr_store.specs.declared.format.Format.TheVariants.{First, Second}
use Rattle.cr_store.specs.Ordinals.{ordinal, IsNamed}
use Rattle.cr_store.specs.Shows.{Holds, HasCells}
use Rattle.cr_store.specs.Words.{same_key, replaced, set_mark, AreWidened}
use Rattle.cr_store.proofs.RowTests.{passes_text, passes_blob, passes_key}
use Rattle.cr_store.proofs.StoreLemmas.{with_meta, with_tables, with_cells, with_marks}
use Rattle.cr_store.proofs.TextLemmas.{at_first, at_key, set_second, set_crr, set_def, set_cell, update_definition, update_definition_is, update_definition_plain, meta_bare, schema_bare, cell_bare, peer_bare, update_meta, update_meta_is, update_meta_plain, update_table, update_table_is, update_table_plain, update_mark, update_mark_is, update_mark_plain, update_cell, update_cell_is, update_cell_plain}

tied : (o : Ordering) → is_eq o ≡ true → o ≡ Equal
tied Less h = absurd (cc)
tied Equal h = refl
tied Greater h = absurd (cc)

pub same_is : (x y : List ℕ) → same_bytes x y ≡ true → x ≡ y
same_is x y e = bytes_exact x y (tied _ e)

set_one : (p : Row → Bool) (f : Row → Row) (id : ℤ) (x y : Row) (b : Bool) → p (Int id ∷ x) ≡ b → f (Int id ∷ x) ≡ Int id ∷ y → changed p f (Int id ∷ x) ≡ Int id ∷ cond b y x
set_one p f id x y true is became = ap (λ b. cond b (f (Int id ∷ x)) (Int id ∷ x)) is ∙ became
set_one p f id x y false is became = ap (λ b. cond b (f (Int id ∷ x)) (Int id ∷ x)) is

-- the rows of items, of which each becomes another
lists_became : {A : Type 0} (schema : Schema) (tree : ℕ) (terms : List Term) (params : Row) (f : Row → Row) (row : A → Row) (set : A → A) (old new : State) (items : List A)
    → ((id : ℤ) (x : A) → Has items x → changed (passes_all terms params) f (Int id ∷ row x) ≡ Int id ∷ row (set x)) → HasSet schema tree terms params f old new → Lists (old.now.trees tree) (map row items)
    → Lists (new.now.trees tree) (map row (map set items))
lists_became {A} schema tree terms params f row set old new items each h it = record { apart = h.apart; sound = sound; complete = complete }
  where
    sound : (r : Row) → Has (new.now.trees tree) r → IsListed (map row (map set items)) r
    sound r k =
        let from = has_mapped (changed (passes_all terms params) f) (old.now.trees tree) r (h.rows.from r k) in
        let l = it.sound from.0 from.1 in
        let a = has_mapped row items l.1 l.3 in (
          l.0,
          row (set a.0),
          from.2 ∙ ap (changed (passes_all terms params) f) (l.2 ∙ ap (λ (z : Row). Int l.0 ∷ z) a.2) ∙ each l.0 a.0 a.1,
          mapped_has row (map set items) (set a.0) (mapped_has set items a.0 a.1),
        )

    complete : (y : Row) → Has (map row (map set items)) y → (n : ℤ) × Has (new.now.trees tree) (Int n ∷ y)
    complete y k =
        let b = has_mapped row (map set items) y k in
        let a = has_mapped set items b.0 b.1 in
        let c = it.complete (row a.0) (mapped_has row items a.0 a.1) in
        let is : y ≡ row (set a.0) = b.2 ∙ ap row a.2 in
        (c.0, h.rows.to (Int c.0 ∷ y) (subst (Has (map (changed (passes_all terms params) f) (old.now.trees tree))) (each c.0 a.0 a.1 ∙ ap (λ (z : Row). Int c.0 ∷ z) (sym is)) (mapped_has (changed (passes_all terms params) f) (old.now.trees tree) (Int c.0 ∷ row a.0) c.1)))

-- ---- cr_meta

abbrev set_named : List ℕ → ℤ → Row → Row
set_named name n x = cond (same_bytes (bytes (column x 0)) name) (column x 0 ∷ Int n ∷ []) x

abbrev meta_new : Row → Row → Row
meta_new params r = cast_row (meta_table 0) (drop 1 (eval_all set_second (params ∷ r ∷ [])))

module _ (name : List ℕ) (n : ℤ) where
  abbrev given_name : Row
  given_name = Text name ∷ Int n ∷ []

  one_meta : (id : ℤ) (x : Row) (m : List ℕ) (v : Value) → x ≡ Text m ∷ v ∷ [] → changed (passes_all at_first given_name) (meta_new given_name) (Int id ∷ x) ≡ Int id ∷ set_named name n x
  one_meta id x m v is =
      subst (λ z. changed (passes_all at_first given_name) (meta_new given_name) (Int id ∷ z) ≡ Int id ∷ set_named name n z) (sym is)
      (set_one (passes_all at_first given_name) (meta_new given_name) id (Text m ∷ v ∷ []) (Text m ∷ Int n ∷ []) (same_bytes m name) (passes_text name m id (Int n ∷ []) (v ∷ [])) (rw (cast_int id)))

  each_meta : (f : Format) (site : List ℕ) (was id : ℤ) (x : Row) → Has (meta_rows f site was) x → changed (passes_all at_first given_name) (meta_new given_name) (Int id ∷ x) ≡ Int id ∷ set_named name n x
  each_meta f site was id x (inl e) = one_meta id x _ _ e
  each_meta f site was id x (inr (inl e)) = one_meta id x _ _ e
  each_meta f site was id x (inr (inr (inl e))) = one_meta id x _ _ e
  each_meta f site was id x (inr (inr (inr e))) = absurd e

module _ (old new : State) (b o c d : List Row) (site : List ℕ) (count : ℕ) where
  sets_row : (f : Format) (name : List ℕ) (was n : ℤ) → Holds old.now (meta_rows f site was) b o c d → ExecutesIn false update_meta (Text name ∷ Int n ∷ []) old new (Ok count)
      → Holds new.now (map (set_named name n) (meta_rows f site was)) b o c d
  sets_row f name was n it h =
      let set = updates store_schema 0 (codes "cr_meta") 0 meta_columns (1 ∷ []) meta_bare at_first set_second (Text name ∷ Int n ∷ []) (λ r. refl) update_meta (meta_rows f site was) old new count
      update_meta_is update_meta_plain refl it.meta_are it.schema h in
      with_meta old.now new.now (meta_rows f site was) b o c d _ it set.schema_is set.others
      (lists_set store_schema 0 at_first (Text name ∷ Int n ∷ []) (meta_new (Text name ∷ Int n ∷ [])) (set_named name n) old new (meta_rows f site was) (each_meta name n f site was) set it.meta_are)

  pub sets_version : (was version : ℤ) → Holds old.now (meta_rows Second site was) b o c d
      → ExecutesIn false update_meta (Text (codes "db_version") ∷ Int version ∷ []) old new (Ok count) → Holds new.now (meta_rows Second site version) b o c d
  sets_version was version it h = sets_row Second (codes "db_version") was version it h

  pub sets_format : (version : ℤ) → Holds old.now (meta_rows First site version) b o c d
      → ExecutesIn false update_meta (Text (codes "format") ∷ Int (pos 2) ∷ []) old new (Ok count) → Holds new.now (meta_rows Second site version) b o c d
  sets_format version it h = sets_row First (codes "format") version (pos 2) it h

-- ---- cr_schema

abbrev set_replicated : List ℕ → Row → Row
set_replicated name x = cond (same_bytes (bytes (column x 0)) name) (column x 0 ∷ column x 1 ∷ Int (pos 1) ∷ column x 3 ∷ []) x

abbrev table_new : Row → Row → Row
table_new params r = cast_row (schema_table 2) (drop 1 (eval_all set_crr (params ∷ r ∷ [])))

module _ (name : List ℕ) where
  abbrev given_crr : Row
  given_crr = Text name ∷ Int (pos 1) ∷ []

  one_table : (id : ℤ) (m : List ℕ) (o k : ℤ) (def : List ℕ)
      → changed (passes_all at_first given_crr) (table_new given_crr) (Int id ∷ Text m ∷ Int o ∷ Int k ∷ Blob def ∷ []) ≡ Int id ∷ set_replicated name (Text m ∷ Int o ∷ Int k ∷ Blob def ∷ [])
  one_table id m o k def =
      set_one (passes_all at_first given_crr) (table_new given_crr) id (Text m ∷ Int o ∷ Int k ∷ Blob def ∷ []) (Text m ∷ Int o ∷ Int (pos 1) ∷ Blob def ∷ []) (same_bytes m name)
      (passes_text name m id (Int (pos 1) ∷ []) (Int o ∷ Int k ∷ Blob def ∷ [])) (rw (cast_int id, cast_int o, cast_int (pos 1)))

  each_table : (n : ℕ) (ts : List Table) (id : ℤ) (x : Row) → Has (table_rows n ts) x → changed (passes_all at_first given_crr) (table_new given_crr) (Int id ∷ x) ≡ Int id ∷ set_replicated name x
  each_table n [] id x h = absurd h
  each_table n (t ∷ ts) id x (inl e) =
      subst (λ z. changed (passes_all at_first given_crr) (table_new given_crr) (Int id ∷ z) ≡ Int id ∷ set_replicated name z) (sym e)
      (one_table id t.definition.name (pos n) (one_if t.is_replicated) (definition t.definition))
  each_table n (t ∷ ts) id x (inr h) = each_table (n + 1) ts id x h

  marks_row : (n : ℕ) (t : Table) → set_replicated name (table_row n t) ≡ table_row n (marked name t)
  marks_row n t = go t.is_replicated (is_named name t)
    where
      go : (r b : Bool) → cond b (Text t.definition.name ∷ Int (pos n) ∷ Int (pos 1) ∷ Blob (definition t.definition) ∷ []) (Text t.definition.name ∷ Int (pos n) ∷ Int (one_if r) ∷ Blob (definition t.definition) ∷ [])
          ≡ Text t.definition.name ∷ Int (pos n) ∷ Int (one_if (r || b)) ∷ Blob (definition t.definition) ∷ []
      go true true = refl
      go true false = refl
      go false true = refl
      go false false = refl

  marks_rows : (n : ℕ) (ts : List Table) → map (set_replicated name) (table_rows n ts) ≡ table_rows n (map (marked name) ts)
  marks_rows n [] = refl
  marks_rows n (t ∷ ts) = rw (marks_row n t, marks_rows (n + 1) ts)

pub sets_table : (old new : State) (a o c d : List Row) (name : List ℕ) (ts : List Table) (count : ℕ) → Holds old.now a (table_rows 1 ts) o c d
    → ExecutesIn false update_table (Text name ∷ Int (pos 1) ∷ []) old new (Ok count) → Holds new.now a (table_rows 1 (with_replicated name ts)) o c d
unfolding with_replicated
sets_table old new a o c d name ts count it h =
    let set = updates store_schema 1 (codes "cr_schema") 2 table_columns (1 ∷ []) schema_bare at_first set_crr (Text name ∷ Int (pos 1) ∷ []) (λ r. refl) update_table (table_rows 1 ts) old new count
    update_table_is update_table_plain refl it.tables_are it.schema h in
    let are = lists_set store_schema 2 at_first (Text name ∷ Int (pos 1) ∷ []) (table_new (Text name ∷ Int (pos 1) ∷ [])) (set_replicated name) old new (table_rows 1 ts) (each_table name 1 ts) set it.tables_are in
    with_tables old.now new.now a (table_rows 1 ts) o c d _ it set.schema_is set.others (subst (Lists (new.now.trees 2)) (marks_rows name 1 ts) are)

-- a definition with a column more

abbrev def_new : Row → Row → Row
def_new params r = cast_row (schema_table 2) (drop 1 (eval_all set_def (params ∷ r ∷ [])))

module _ (name bytes_of : List ℕ) where
  abbrev given_def : Row
  given_def = Text name ∷ Blob bytes_of ∷ []

  abbrev redefined : Row → Row
  redefined x = cond (same_bytes (bytes (column x 0)) name) (column x 0 ∷ column x 1 ∷ column x 2 ∷ Blob bytes_of ∷ []) x

  one_definition : (id : ℤ) (m : List ℕ) (o k : ℤ) (def : List ℕ)
      → changed (passes_all at_first given_def) (def_new given_def) (Int id ∷ Text m ∷ Int o ∷ Int k ∷ Blob def ∷ []) ≡ Int id ∷ redefined (Text m ∷ Int o ∷ Int k ∷ Blob def ∷ [])
  one_definition id m o k def =
      set_one (passes_all at_first given_def) (def_new given_def) id (Text m ∷ Int o ∷ Int k ∷ Blob def ∷ []) (Text m ∷ Int o ∷ Int k ∷ Blob bytes_of ∷ []) (same_bytes m name)
      (passes_text name m id (Blob bytes_of ∷ []) (Int o ∷ Int k ∷ Blob def ∷ [])) (rw (cast_int id, cast_int o, cast_int k))

  each_definition : (n : ℕ) (ts : List Table) (id : ℤ) (x : Row) → Has (table_rows n ts) x → changed (passes_all at_first given_def) (def_new given_def) (Int id ∷ x) ≡ Int id ∷ redefined x
  each_definition n [] id x h = absurd h
  each_definition n (t ∷ ts) id x (inl e) =
      subst (λ z. changed (passes_all at_first given_def) (def_new given_def) (Int id ∷ z) ≡ Int id ∷ redefined z) (sym e)
      (one_definition id t.definition.name (pos n) (one_if t.is_replicated) (definition t.definition))
  each_definition n (t ∷ ts) id x (inr h) = each_definition (n + 1) ts id x h

  module _ (col : ColumnDef) where
    widens_row : (n : ℕ) (t : Table) → (is_named name t ≡ true → definition (with_column col t.definition) ≡ bytes_of) → redefined (table_row n t) ≡ table_row n (altered name col t)
    widens_row n t are = go (is_named name t) refl
      where
        go : (b : Bool) → is_named name t ≡ b → cond b (Text t.definition.name ∷ Int (pos n) ∷ Int (one_if t.is_replicated) ∷ Blob bytes_of ∷ []) (table_row n t)
            ≡ table_row n (cond b (record t { definition = with_column col t.definition }) t)
        go true e = ap (λ (d : List ℕ). Text t.definition.name ∷ Int (pos n) ∷ Int (one_if t.is_replicated) ∷ Blob d ∷ []) (sym (are e))
        go false e = refl

    widens_rows : (n : ℕ) (ts : List Table) → AreWidened name col bytes_of ts → map redefined (table_rows n ts) ≡ table_rows n (map (altered name col) ts)
    widens_rows n [] are = refl
    widens_rows n (t ∷ ts) are = rw (widens_row n t are.0, widens_rows (n + 1) ts are.1)

pub sets_definition : (old new : State) (a o c d : List Row) (name : List ℕ) (col : ColumnDef) (def : List ℕ) (ts : List Table) (count : ℕ) → AreWidened name col def ts → Holds old.now a (table_rows 1 ts) o c d
    → ExecutesIn false update_definition (Text name ∷ Blob def ∷ []) old new (Ok count) → Holds new.now a (table_rows 1 (with_added name col ts)) o c d
unfolding with_added
sets_definition old new a o c d name col def ts count widened it h =
    let set = updates store_schema 1 (codes "cr_schema") 2 table_columns (1 ∷ []) schema_bare at_first set_def (given_def name def) (λ r. refl) update_definition (table_rows 1 ts) old new count
    update_definition_is update_definition_plain refl it.tables_are it.schema h in
    let are = lists_set store_schema 2 at_first (given_def name def) (def_new (given_def name def)) (redefined name def) old new (table_rows 1 ts) (each_definition name def 1 ts) set it.tables_are in
    with_tables old.now new.now a (table_rows 1 ts) o c d _ it set.schema_is set.others (subst (Lists (new.now.trees 2)) (widens_rows name def col 1 ts widened) are)

-- ---- cr_peer

abbrev mark_new : Row → Row → Row
mark_new params r = cast_row (peer_table 6) (drop 1 (eval_all set_second (params ∷ r ∷ [])))

module _ (m : Mark) where
  abbrev given_mark : Row
  given_mark = Blob m.0 ∷ Int m.1 ∷ []

  abbrev newer : Mark → Mark
  newer o = cond (same_bytes o.0 m.0) m o

  one_mark : (id : ℤ) (o : Mark) → changed (passes_all at_first given_mark) (mark_new given_mark) (Int id ∷ mark_row o) ≡ Int id ∷ mark_row (newer o)
  one_mark id o =
      set_one (passes_all at_first given_mark) (mark_new given_mark) id (mark_row o) (Blob o.0 ∷ Int m.1 ∷ []) (same_bytes o.0 m.0) (passes_blob m.0 o.0 id (Int m.1 ∷ []) (Int o.1 ∷ [])) (rw (cast_int id, cast_int m.1))
      ∙ ap (λ (x : Row). Int id ∷ x) (go (same_bytes o.0 m.0) refl)
    where
      go : (b : Bool) → same_bytes o.0 m.0 ≡ b → cond b (Blob o.0 ∷ Int m.1 ∷ []) (mark_row o) ≡ mark_row (cond b m o)
      go true e = ap (λ (x : List ℕ). Blob x ∷ Int m.1 ∷ []) (same_is o.0 m.0 e)
      go false e = refl

pub sets_mark : (old new : State) (a b o c : List Row) (m : Mark) (marks : List Mark) (count : ℕ) → Holds old.now a b o c (map mark_row marks)
    → ExecutesIn false update_mark (Blob m.0 ∷ Int m.1 ∷ []) old new (Ok count) → Holds new.now a b o c (map mark_row (set_mark m marks))
sets_mark old new a b o c m marks count it h =
    let set = updates store_schema 3 (codes "cr_peer") 6 peer_columns (1 ∷ []) peer_bare at_first set_second (given_mark m) (λ r. refl) update_mark (map mark_row marks) old new count
    update_mark_is update_mark_plain refl it.marks_are it.schema h in
    with_marks old.now new.now a b o c (map mark_row marks) _ it set.schema_is set.others
    (lists_became store_schema 6 at_first (given_mark m) (mark_new (given_mark m)) mark_row (newer m) old new marks (λ id x h. one_mark m id x) set it.marks_are)

-- ---- cr_cell2

abbrev cell_new : Row → Row → Row
cell_new params r = cast_row (cell2_table 8) (drop 1 (eval_all set_cell (params ∷ r ∷ [])))

module _ (ts : List Table) (n : Stamped) where
  abbrev instead : Stamped → Stamped
  instead s = cond (same_key s.change n.change) n s

  abbrev given : Row
  given = cell_row Second ts n

  abbrev under : List ℕ → List ℕ → List ℕ → Row
  under table pk cid = Int (ordinal ts table) ∷ Blob pk ∷ Text cid ∷ drop 3 given

  one_cell : (id : ℤ) (s : Stamped) → IsNamed ts s → changed (passes_all at_key given) (cell_new given) (Int id ∷ cell_row Second ts s) ≡ Int id ∷ cell_row Second ts (instead s)
  one_cell id s there =
      set_one (passes_all at_key given) (cell_new given) id (cell_row Second ts s) (under s.change.table s.change.pk s.change.cid) (same_key s.change n.change)
      (passes_key ts n.change (drop 3 given) id s there) (rw (cast_int id, cast_int (ordinal ts s.change.table), cast_int n.change.cl, cast_int n.change.col_version, cast_int n.version, cast_int n.seq))
      ∙ ap (λ (x : Row). Int id ∷ x) (go (same_key s.change n.change) refl)
    where
      go : (b : Bool) → same_key s.change n.change ≡ b → cond b (under s.change.table s.change.pk s.change.cid) (cell_row Second ts s) ≡ cell_row Second ts (cond b n s)
      go true e =
          let p = and_parts _ _ e in let q = and_parts _ _ p.1 in
          rw (same_is s.change.table n.change.table p.0, same_is s.change.pk n.change.pk q.0, same_is s.change.cid n.change.cid q.1) refl
      go false e = refl

  named_instead : IsNamed ts n → (ss : List Stamped) → AllByRecursion (IsNamed ts) ss → AllByRecursion (IsNamed ts) (replaced n ss)
  named_instead there [] all = tt
  named_instead there (s ∷ ss) all = (go (same_key s.change n.change), named_instead there ss all.1)
    where
      go : (b : Bool) → IsNamed ts (cond b n s)
      go true = there
      go false = all.0

pub sets_cell : (old new : State) (ts : List Table) (a b o d : List Row) (ss : List Stamped) (n : Stamped) (count : ℕ) → IsNamed ts n → HasCells old.now ts a b o d ss
    → ExecutesIn false update_cell (cell_row Second ts n) old new (Ok count) → HasCells new.now ts a b o d (replaced n ss)
sets_cell old new ts a b o d ss n count there it h =
    let set = updates store_schema 4 (codes "cr_cell2") 8 cell2_columns (1 ∷ 2 ∷ 3 ∷ []) cell_bare at_key set_cell (cell_row Second ts n) (λ r. refl) update_cell (map (cell_row Second ts) ss) old new count
    update_cell_is update_cell_plain refl it.held.cells_are it.held.schema h in
    record {
      held = with_cells old.now new.now a b o (map (cell_row Second ts) ss) d _ it.held set.schema_is set.others
          (lists_became store_schema 8 at_key (cell_row Second ts n) (cell_new (cell_row Second ts n)) (cell_row Second ts) (instead ts n) old new ss
          (λ id s k. one_cell ts n id s (all_has (IsNamed ts) ss s it.named k)) set it.held.cells_are);
      named = named_instead ts n there ss it.named;
    }
