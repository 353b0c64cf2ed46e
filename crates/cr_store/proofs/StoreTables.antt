-- One more table in a store, and one more column in a table.
use Rattle.std.proofs.Common.{◌≡◌, inl, inr, ℕ, ◌+◌, ℤ, pos, List, [], ◌∷◌, ◌++◌, map, length, drop, Bool, true, false, not, ◌||◌, cond, find, Option, Some, None, Bor, refl, sym, ap, subst, ◌∙◌, arith}
use Rattle.std.specs.Option.{option_copied}
use Rattle.std.specs.List.{AllByRecursion, IsDistinct}
use Rattle.sqlite.specs.declared.types.Value.TheVariants.{Int, Text, Blob}
use Rattle.sqlite.specs.Order.{Row}
use Rattle.sqlite.specs.Effect.{Database}
use Rattle.sqlite_rules.specs.Lists.{Has}
use Rattle.sqlite_rules.proofs.ListLemmas.{has_left, has_right, has_either}
use Rattle.cr_rows.specs.Rows.{Lists, SameRows}
use Rattle.cr_rows.proofs.RowLemmas.{lists_same}
use Rattle.cr_lattice.specs.declared.stamped.Stamped.{Stamped}
use Rattle.cr_lattice.specs.declared.table.ColumnDef.{ColumnDef}
use Rattle.cr_lattice.specs.declared.table.Table.{Table}
use Rattle.cr_cells.specs.Holding.{Holding, IsSound}
use Rattle.cr_cells.specs.Tables.{is_named, same_name, with_column, altered, with_added}
use Rattle.cr_cells.proofs.MemberLemmas.{split, all_from, find_gives, apart_one}
use Rattle.cr_cells.proofs.TableLemmas.{one_named, same_name-equiv}
use Rattle.cr_layout.specs.Definition.{definition}
use Rattle.cr_store.specs.declared.format.Format.TheVariants.{Second}
use Rattle.cr_store.specs.Ordinals.{ordinal, has_table, IsNamed}
use Rattle.cr_store.specs.Rows.{meta_rows, one_if, table_row, table_rows, cell_row, mark_row}
use Rattle.cr_store.specs.Shows.{Holds, Shows}
use Rattle.cr_store.specs.Words.{AreWidened}
use Rattle.cr_store.proofs.OrdinalLemmas.{ordinal_append, named_cells}

pub wants_defaults : (b h : Bool) → (b ≡ true → h ≡ true) → (not b || h) ≡ true
wants_defaults true h all = all refl
wants_defaults false h all = refl

pub row_is : (n : ℕ) (t : Table) (x : List ℕ) (o k : ℤ) (d : List ℕ) → x ≡ t.definition.name → o ≡ pos n → k ≡ one_if t.is_replicated → d ≡ definition t.definition
    → Text x ∷ Int o ∷ Int k ∷ Blob d ∷ [] ≡ table_row n t
row_is n t x o k d p q r s = λ i. Text (p i) ∷ Int (q i) ∷ Int (r i) ∷ Blob (s i) ∷ []

rows_last : (n : ℕ) (ts : List Table) (t : Table) → table_rows n (ts ++ t ∷ []) ≡ table_rows n ts ++ table_row (n + length ts) t ∷ []
rows_last n [] t = let e : n ≡ n + 0 = omega arith in ap (λ m. table_row m t ∷ []) e
rows_last n (x ∷ ts) t =
    let e : n + 1 + length ts ≡ n + length (x ∷ ts) = omega arith in
    ap (λ (rows : List Row). table_row n x ∷ rows) (rows_last (n + 1) ts t ∙ ap (λ m. table_rows (n + 1) ts ++ table_row m t ∷ []) e)

same_turned : (xs : List Row) (x : Row) → SameRows (x ∷ xs) (xs ++ x ∷ [])
same_turned xs x = record { to = to; from = from }
  where
    to : (r : Row) → Has (x ∷ xs) r → Has (xs ++ x ∷ []) r
    to r (inl e) = has_right xs (x ∷ []) r (inl e)
    to r (inr h) = has_left xs (x ∷ []) r h

    from : (r : Row) → Has (xs ++ x ∷ []) r → Has (x ∷ xs) r
    from r h = elim (has_either xs (x ∷ []) r h) [ inl old ↦ inr old | inr new ↦ elim new [ inl e ↦ inl e | inr none ↦ absurd none ] ]

-- tables that keep the ordinals of those that are there
abbrev pub KeepOrdinals : List Table → List Table → Type 0
KeepOrdinals ts us = (name : List ℕ) → has_table ts name ≡ true → ordinal us name ≡ ordinal ts name

rows_same : (ts us : List Table) → KeepOrdinals ts us → (ss : List Stamped) → AllByRecursion (IsNamed ts) ss → map (cell_row Second ts) ss ≡ map (cell_row Second us) ss
rows_same ts us same [] all = refl
rows_same ts us same (s ∷ ss) all =
    ap (λ n. (Int n ∷ drop 1 (cell_row Second ts s)) ∷ map (cell_row Second ts) ss) (sym (same s.change.table all.0)) ∙ ap (λ (rows : List Row). cell_row Second us s ∷ rows) (rows_same ts us same ss all.1)

-- under them the rows of cells stay
pub shows_tables : (db : Database) (h : Holding) (us : List Table) → IsSound h → KeepOrdinals h.tables us
    → Holds db (meta_rows Second h.site h.version) (table_rows 1 us) [] (map (cell_row Second h.tables) h.cells) (map mark_row h.marks) → Shows db (record h { tables = us })
shows_tables db h us sound same it = record {
  schema = it.schema;
  meta_are = it.meta_are;
  tables_are = it.tables_are;
  old_are = it.old_are;
  cells_are = subst (Lists (db.trees 8)) (rows_same h.tables us same h.cells (named_cells h sound)) it.cells_are;
  marks_are = it.marks_are;
}

-- the row of a new table stands anywhere among the others
pub shows_table : (db : Database) (h : Holding) (t : Table) (row : Row) → row ≡ table_row (1 + length h.tables) t → IsSound h
    → Holds db (meta_rows Second h.site h.version) (row ∷ table_rows 1 h.tables) [] (map (cell_row Second h.tables) h.cells) (map mark_row h.marks) → Shows db (record h { tables = h.tables ++ t ∷ [] })
shows_table db h t row is sound it =
    let all : table_rows 1 h.tables ++ row ∷ [] ≡ table_rows 1 (h.tables ++ t ∷ []) = ap (λ (r : Row). table_rows 1 h.tables ++ r ∷ []) is ∙ sym (rows_last 1 h.tables t) in
    shows_tables db h (h.tables ++ t ∷ []) sound (ordinal_append h.tables (t ∷ [])) (record {
      schema = it.schema;
      meta_are = it.meta_are;
      tables_are = lists_same (db.trees 2) _ _ (subst (SameRows (row ∷ table_rows 1 h.tables)) all (same_turned (table_rows 1 h.tables) row)) it.tables_are;
      old_are = it.old_are;
      cells_are = it.cells_are;
      marks_are = it.marks_are;
    })

-- ---- a table that gets a column

no_table_altered : (name : List ℕ) (col : ColumnDef) (ts : List Table) → find (is_named name) ts ≡ None → map (altered name col) ts ≡ ts
no_table_altered name col [] e = refl
no_table_altered name col (t ∷ ts) e =
    elim (split (is_named name t)) [
      | inl so ↦ (let e' : Some t ≡ None = rw so at e in absurd cc)
      | inr not_so ↦ (
          let e' : find (is_named name) ts ≡ None = rw not_so at e in
          let here : altered name col t ≡ t = ap (λ b. cond b (record t { definition = with_column col t.definition }) t) not_so in
          λ i. here i ∷ no_table_altered name col ts e' i)
    ]

-- no table has the name
pub nothing_added : (name : List ℕ) (col : ColumnDef) (ts : List Table) (o : Option (Bor Table)) → option_copied o ≡ find (is_named name) ts → o ≡ None → with_added name col ts ≡ ts
unfolding with_added
nothing_added name col ts o e none = no_table_altered name col ts (sym e ∙ ap option_copied none)

-- the one table of the name has these bytes with the column
pub are_widened : (name : List ℕ) (col : ColumnDef) (bytes : List ℕ) (ts : List Table) (t : Table) → IsDistinct same_name ts → find (is_named name) ts ≡ Some t → bytes ≡ definition (with_column col t.definition)
    → AreWidened name col bytes ts
are_widened name col bytes ts t distinct found is =
    let given = find_gives (is_named name) ts t found in
    all_from (λ u. is_named name u ≡ true → definition (with_column col u.definition) ≡ bytes) ts (λ u m named.
    let one : u ≡ t = apart_one same_name same_name-equiv.symm ts u t distinct m given.0 (one_named name u t named given.1) in
    ap (λ (x : Table). definition (with_column col x.definition)) one ∙ sym is)
