-- The rows of each of the four tables, and what they are read as.
use Rattle.std.proofs.Common.{◌≡◌, ℕ, zero, suc, ◌+◌, ◌<◌, ℤ, pos, Bool, true, false, List, [], ◌∷◌, map, length, codes, Ordering, Less, refl, sym, ap, ◌∙◌, arith, int_cmp, inl, inr, is_some}
use Rattle.std.specs.List.{AllByRecursion, IsDistinct, list_all}
use Rattle.std.specs.Prelude.{nat_lt}
use Rattle.std.specs.List.Sorted.{IsStrictlySortedBy}
use Rattle.std.specs.Ordering.{ordering_then}
use Rattle.std.specs.Str.{IsUtf8, IsAscii}
use Rattle.std.proofs.lemmas.Str.{IsUtf8-from_ascii}
use Rattle.std.proofs.lemmas.Bool.{and_parts, ltb-true}
use Rattle.std.proofs.lemmas.Int.{ints}
use Rattle.std.proofs.lemmas.Bool.Decides.{nat_tests}
use Rattle.sqlite.specs.declared.types.Value.{Value as SqlValue}
use Rattle.sqlite.specs.declared.types.Value.TheVariants.{Int, Text, Blob}
use Rattle.sqlite.specs.Order.{Row}
use Rattle.sqlite_value.specs.Order.{column}
use Rattle.sqlite_rules.specs.Edit.{id_in}
use Rattle.sqlite_rules.specs.Lists.{Has}
use Rattle.sqlite_trees.specs.Tree.{rowid}
use Rattle.cr_rows.specs.Rows.{SameRows}
use Rattle.cr_value.specs.declared.value.Value.{Value}
use Rattle.cr_value.specs.declared.value.Value.TheVariants as val
use Rattle.cr_lattice.specs.declared.stamped.Stamped.{Stamped}
use Rattle.cr_lattice.specs.declared.table.Table.{Table}
use Rattle.cr_cells.specs.Marks.{Mark, mark_cmp}
use Rattle.cr_cells.specs.Tables.{same_name}
use Rattle.cr_store.specs.declared.stored.MetaEntry.{MetaEntry}
use Rattle.cr_store.specs.declared.stored.TableEntry.{TableEntry}
use Rattle.cr_store.specs.declared.format.Format.{Format}
use Rattle.cr_store.specs.declared.format.Format.TheVariants.{First, Second}
use Rattle.cr_store.specs.Ordinals.{has_table, IsNamed}
use Rattle.cr_store.specs.Rows.{value_of, value_in, named_as, name_in, cell_row, cell_of, meta_rows, one_if, table_row, table_rows, mark_row}
use Rattle.cr_store.specs.Stored.{IsInteger, IsKept, IsReadableValue, is_one, IsTableName, IsCellRow, IsMetaRow, IsTableRow, IsMarkRow, meta_of, table_of, mark_of, meta_cmp, table_cmp, seen_cmp, meta_entries, table_entry, table_entries}
use Rattle.cr_store.specs.Opening.{IsReadableCell, IsReadableTable, IsReadableMark}
use Rattle.cr_store.proofs.OrdinalLemmas.{name_back, ordinal_back}

-- ---- widths

pub three : (r : Row) → length r ≡ 3 → r ≡ column r 0 ∷ column r 1 ∷ column r 2 ∷ []
three [] w = absurd (omega arith)
three (a ∷ []) w = absurd (omega arith)
three (a ∷ b ∷ []) w = absurd (omega arith)
three (a ∷ b ∷ c ∷ []) w = refl
three (a ∷ b ∷ c ∷ d ∷ more) w = absurd (omega arith)

pub five : (r : Row) → length r ≡ 5 → r ≡ column r 0 ∷ column r 1 ∷ column r 2 ∷ column r 3 ∷ column r 4 ∷ []
five [] w = absurd (omega arith)
five (a ∷ []) w = absurd (omega arith)
five (a ∷ b ∷ []) w = absurd (omega arith)
five (a ∷ b ∷ c ∷ []) w = absurd (omega arith)
five (a ∷ b ∷ c ∷ d ∷ []) w = absurd (omega arith)
five (a ∷ b ∷ c ∷ d ∷ e ∷ []) w = refl
five (a ∷ b ∷ c ∷ d ∷ e ∷ f ∷ more) w = absurd (omega arith)

pub ten : (r : Row) → length r ≡ 10 → r ≡ column r 0 ∷ column r 1 ∷ column r 2 ∷ column r 3 ∷ column r 4 ∷ column r 5 ∷ column r 6 ∷ column r 7 ∷ column r 8 ∷ column r 9 ∷ []
ten [] w = absurd (omega arith)
ten (a ∷ []) w = absurd (omega arith)
ten (a ∷ b ∷ []) w = absurd (omega arith)
ten (a ∷ b ∷ c ∷ []) w = absurd (omega arith)
ten (a ∷ b ∷ c ∷ d ∷ []) w = absurd (omega arith)
ten (a ∷ b ∷ c ∷ d ∷ e ∷ []) w = absurd (omega arith)
ten (a ∷ b ∷ c ∷ d ∷ e ∷ f ∷ []) w = absurd (omega arith)
ten (a ∷ b ∷ c ∷ d ∷ e ∷ f ∷ g ∷ []) w = absurd (omega arith)
ten (a ∷ b ∷ c ∷ d ∷ e ∷ f ∷ g ∷ h ∷ []) w = absurd (omega arith)
ten (a ∷ b ∷ c ∷ d ∷ e ∷ f ∷ g ∷ h ∷ k ∷ []) w = absurd (omega arith)
ten (a ∷ b ∷ c ∷ d ∷ e ∷ f ∷ g ∷ h ∷ k ∷ l ∷ []) w = refl
ten (a ∷ b ∷ c ∷ d ∷ e ∷ f ∷ g ∷ h ∷ k ∷ l ∷ m ∷ more) w = absurd (omega arith)

kept : (v : Value) → IsReadableValue v → IsKept (value_of v)
kept val.Null h = (refl, tt)
kept (val.Int n) h = (refl, tt)
kept (val.Text t) h = (refl, h)
kept (val.Blob b) h = (refl, tt)

value_back : (v : Value) → value_in (value_of v) ≡ v
value_back val.Null = refl
value_back (val.Int n) = refl
value_back (val.Text t) = refl
value_back (val.Blob b) = refl

-- ---- cells

name_shows : (f : Format) (ts : List Table) (v : SqlValue) → IsDistinct same_name ts → IsTableName f ts v → v ≡ named_as f ts (name_in f ts v)
name_shows First ts v distinct it = it.0
name_shows Second ts v distinct it = it.0 ∙ ap Int (sym (ordinal_back ts (id_in v) distinct it.1))

name_stored : (f : Format) (ts : List Table) (name : List ℕ) → IsUtf8 name → has_table ts name ≡ true → IsTableName f ts (named_as f ts name)
name_stored First ts name utf8 there = (refl, utf8)
name_stored Second ts name utf8 there = (refl, ap is_some (name_back ts name there))

module _ (f : Format) (ts : List Table) where
  pub cell_shows : IsDistinct same_name ts → (r : Row) → IsInteger (rowid r) → IsCellRow f ts r → r ≡ Int (id_in (rowid r)) ∷ cell_row f ts (cell_of f ts r)
  cell_shows distinct r n it =
      let named = name_shows f ts (column r 1) distinct it.table in
      ten r it.width ∙ (λ i. n i ∷ named i ∷ it.pk i ∷ it.cid.0 i ∷ it.cl i ∷ it.col_version i ∷ it.val.0 i ∷ it.site.0 i ∷ it.version i ∷ it.seq i ∷ [])

  pub cell_stored : (id : ℤ) (s : Stamped) → IsReadableCell s × IsNamed ts s → IsCellRow f ts (Int id ∷ cell_row f ts s)
  cell_stored id s h = record {
    width = refl;
    table = name_stored f ts s.change.table h.0.table h.1;
    pk = refl;
    cid = (refl, h.0.cid);
    cl = refl;
    col_version = refl;
    val = kept s.change.val h.0.val;
    site = (refl, h.0.site);
    version = refl;
    seq = refl;
  }

-- ---- cr_meta

abbrev pub meta_row : MetaEntry → Row
meta_row e = Text e.name ∷ value_of e.val ∷ []

pub record IsReadableMeta (e : MetaEntry) : Type 0 where
  pub name : IsUtf8 e.name
  pub val : IsReadableValue e.val

pub meta_shows : (r : Row) → IsInteger (rowid r) → IsMetaRow r → r ≡ Int (id_in (rowid r)) ∷ meta_row (meta_of r)
meta_shows r n it = three r it.width ∙ (λ i. n i ∷ it.name.0 i ∷ it.val.0 i ∷ [])

pub meta_back : (id : ℤ) (e : MetaEntry) → meta_of (Int id ∷ meta_row e) ≡ e
meta_back id e = ap (λ (v : Value). (let m : MetaEntry = record { name = e.name; val = v } in m)) (value_back e.val)

pub meta_stored : (id : ℤ) (e : MetaEntry) → IsReadableMeta e → IsMetaRow (Int id ∷ meta_row e)
meta_stored id e h = record { width = refl; name = (refl, h.name); val = kept e.val h.val }

-- the three rows in either order
pub meta_reordered : (f : Format) (site : List ℕ) (version : ℤ) → SameRows (map meta_row (meta_entries f site version)) (meta_rows f site version)
meta_reordered f site version = record { to = to; from = from }
  where
    to : (r : Row) → Has (map meta_row (meta_entries f site version)) r → Has (meta_rows f site version) r
    to r (inl v) = inr (inr (inl v))
    to r (inr (inl e)) = inl e
    to r (inr (inr (inl s))) = inr (inl s)
    to r (inr (inr (inr none))) = absurd none

    from : (r : Row) → Has (meta_rows f site version) r → Has (map meta_row (meta_entries f site version)) r
    from r (inl e) = inr (inl e)
    from r (inr (inl s)) = inr (inr (inl s))
    from r (inr (inr (inl v))) = inl v
    from r (inr (inr (inr none))) = absurd none

pub reordered_meta : (f : Format) (site : List ℕ) (version : ℤ) → SameRows (meta_rows f site version) (map meta_row (meta_entries f site version))
reordered_meta f site version = let same = meta_reordered f site version in record { to = same.from; from = same.to }

pub meta_sorted : (f : Format) (site : List ℕ) (version : ℤ) → IsStrictlySortedBy meta_cmp (meta_entries f site version)
unfolding IsStrictlySortedBy meta_cmp
meta_sorted f site version = ((refl, (refl, tt)), ((refl, tt), (tt, tt)))

-- ---- cr_schema

abbrev pub entry_row : TableEntry → Row
entry_row e = Text e.name ∷ Int e.ordinal ∷ Int (one_if e.is_replicated) ∷ Blob e.layout ∷ []

abbrev pub IsReadableEntry : TableEntry → Type 0
IsReadableEntry e = IsUtf8 e.name

pub table_shows : (r : Row) → IsInteger (rowid r) → IsTableRow r → r ≡ Int (id_in (rowid r)) ∷ entry_row (table_of r)
table_shows r n it = five r it.width ∙ (λ i. n i ∷ it.name.0 i ∷ it.ordinal i ∷ it.crr i ∷ it.def i ∷ [])

flag_back : (b : Bool) → is_one (Int (one_if b)) ≡ b
flag_back true = refl
flag_back false = refl

pub table_back : (id : ℤ) (e : TableEntry) → table_of (Int id ∷ entry_row e) ≡ e
table_back id e = ap (λ (b : Bool). (let t : TableEntry = record { ordinal = e.ordinal; name = e.name; is_replicated = b; layout = e.layout } in t)) (flag_back e.is_replicated)

pub table_stored : (id : ℤ) (e : TableEntry) → IsReadableEntry e → IsTableRow (Int id ∷ entry_row e)
table_stored id e h = record { width = refl; name = (refl, h); ordinal = refl; crr = ap (λ b. Int (one_if b)) (sym (flag_back e.is_replicated)); def = refl }

pub entry_rows : (n : ℕ) (ts : List Table) → map entry_row (table_entries n ts) ≡ table_rows n ts
entry_rows n [] = refl
entry_rows n (t ∷ ts) = ap (λ (rows : List Row). table_row n t ∷ rows) (entry_rows (n + 1) ts)

int_below : (n m : ℕ) → n < m → int_cmp (pos n) (pos m) ≡ Less
int_below n m lt = grind (arith, ints, nat_tests)

first_less : (o p : Ordering) → o ≡ Less → ordering_then o p ≡ Less
first_less o p e = ap (λ q. ordering_then q p) e

above : (n m : ℕ) (t : Table) (ts : List Table) → n < m → AllByRecursion (λ e. table_cmp (table_entry n t) e ≡ Less) (table_entries m ts)
unfolding table_cmp
above n m t [] lt = tt
above n m t (u ∷ ts) lt = (first_less _ _ (int_below n m lt), above n (m + 1) t ts (omega arith))

pub tables_sorted : (n : ℕ) (ts : List Table) → IsStrictlySortedBy table_cmp (table_entries n ts)
unfolding IsStrictlySortedBy
tables_sorted n [] = tt
tables_sorted n (t ∷ ts) = (above n (n + 1) t ts (omega arith), tables_sorted (n + 1) ts)

-- ---- cr_peer

pub mark_shows : (r : Row) → IsInteger (rowid r) → IsMarkRow r → r ≡ Int (id_in (rowid r)) ∷ mark_row (mark_of r)
mark_shows r n it = three r it.width ∙ (λ i. n i ∷ it.site.0 i ∷ it.seen i ∷ [])

pub mark_back : (id : ℤ) (m : Mark) → mark_of (Int id ∷ mark_row m) ≡ m
mark_back id m = refl

pub mark_stored : (id : ℤ) (m : Mark) → IsReadableMark m → IsMarkRow (Int id ∷ mark_row m)
mark_stored id m h = record { width = refl; site = (refl, h); seen = refl }

seen_above : (m : Mark) (ms : List Mark) → AllByRecursion (λ o. mark_cmp m o ≡ Less) ms → AllByRecursion (λ o. seen_cmp m o ≡ Less) ms
unfolding seen_cmp
seen_above m [] all = tt
seen_above m (o ∷ ms) all = (ap (λ r. ordering_then r (int_cmp m.1 o.1)) all.0, seen_above m ms all.1)

-- marks by their sites are in the order of rows
pub marks_sorted : (ms : List Mark) → IsStrictlySortedBy mark_cmp ms → IsStrictlySortedBy seen_cmp ms
unfolding IsStrictlySortedBy
marks_sorted [] s = tt
marks_sorted (m ∷ ms) s = (seen_above m ms s.0, marks_sorted ms s.1)

-- ---- what can be read

ascii_from : (bs : List ℕ) → list_all (λ c. nat_lt c 128) bs ≡ true → IsAscii bs
ascii_from [] e i = omega arith
ascii_from (c ∷ cs) e zero = ltb-true c 128 (and_parts _ _ e).0
ascii_from (c ∷ cs) e (suc i) = ascii_from cs (and_parts _ _ e).1 i

version_utf8 : IsUtf8 (codes "db_version")
version_utf8 = IsUtf8-from_ascii (codes "db_version") (ascii_from (codes "db_version") refl)

format_utf8 : IsUtf8 (codes "format")
format_utf8 = IsUtf8-from_ascii (codes "format") (ascii_from (codes "format") refl)

site_utf8 : IsUtf8 (codes "site")
site_utf8 = IsUtf8-from_ascii (codes "site") (ascii_from (codes "site") refl)

pub meta_readable : (f : Format) (site : List ℕ) (version : ℤ) → AllByRecursion IsReadableMeta (meta_entries f site version)
meta_readable f site version = (record { name = version_utf8; val = tt }, (record { name = format_utf8; val = tt }, (record { name = site_utf8; val = tt }, tt)))

pub entries_readable : (n : ℕ) (ts : List Table) → AllByRecursion IsReadableTable ts → AllByRecursion IsReadableEntry (table_entries n ts)
entries_readable n [] all = tt
entries_readable n (t ∷ ts) all = (all.0.name, entries_readable (n + 1) ts all.1)
