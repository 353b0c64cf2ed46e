-- Rows that are shown stand under their keys, each once, with short keys and every value that they want.
use Rattle.std.proofs.Common.{◌≡◌, ◌⊎◌, inl, inr, ℕ, zero, suc, ◌+◌, ◌-◌, ◌≤◌, ◌<◌, Bool, true, false, not, cond, ◌&&◌, ◌||◌, nat_lt, List, [], ◌∷◌, length, map, get_or, Option, Some, None, is_some, unwrap_or, refl, sym, ap, subst, ◌∙◌, arith, Less}
use Rattle.std.specs.Prelude.{position, slice_index_or}
use Rattle.std.specs.List.{zip, list_any, position_or_len, AllByRecursion}
use Rattle.std.specs.List.Sorted.{IsStrictlySortedBy}
use Rattle.std.specs.Option.{option_map_or}
use Rattle.std.proofs.lemmas.Bool.{ltb-false, le-ltb}
use Rattle.cr_value.specs.declared.affinity.Affinity.{Affinity}
use Rattle.cr_value.specs.declared.affinity.Affinity.TheVariants as affinity
use Rattle.cr_value.specs.declared.value.Value.{Value}
use Rattle.cr_value.specs.declared.value.Value.TheVariants.{Null, Int, Text, Blob}
use Rattle.cr_value.specs.Affinity.{applied, as_text, as_number, int_of_text}
use Rattle.cr_value.specs.Order.{bytes_cmp}
use Rattle.cr_value.specs.Packing.{IsNotNull, size_limit}
use Rattle.cr_value.specs.Unpacking.{unpacked}
use Rattle.cr_lattice.specs.declared.change.Change.{Change}
use Rattle.cr_lattice.specs.declared.check.BadChange.{BadChange}
use Rattle.cr_lattice.specs.declared.check.BadChange.TheVariants.{Size, Table, Key, Cid, Length}
use Rattle.cr_lattice.specs.declared.table.ColumnDef.{ColumnDef}
use Rattle.cr_lattice.specs.declared.table.TableDef.{TableDef}
use Rattle.cr_lattice.specs.Check.{same_bytes, is_null, is_odd, is_too_big, is_key, is_key_column, is_cid, has_lengths, first_failed, fault_of, IsWellFormed}
use Rattle.cr_lattice.specs.Profile.{has_key, lacks_default}
use Rattle.cr_lattice.specs.Rows.{is_of_row, is_alive, alive_keys, default_of, shown, kept_change, column_value, cell, row, rows}
use Rattle.cr_lattice.proofs.RowLemmas.{any_alive_key}
use Rattle.cr_lattice.proofs.Tested.{and_true, not_true, split}
use Rattle.cr_cells.specs.Tables.{has_defaults}
use Rattle.cr_delta.specs.Key.{key_of}
use Rattle.cr_delta.proofs.Among.{Among, any_member, member_of_any, member_has}
use Rattle.cr_delta.proofs.KeyCells.{place_within}
use Rattle.cr_delta.proofs.Members.{same_is, is_same}
use Rattle.cr_query.specs.Writes.{lacks, has_null_key, has_null, has_long_key, lacks_value, repeats, has_twice}
use Rattle.cr_touched.specs.Parts.{keys_of}
use Rattle.cr_touched.specs.Shown.{AreKeptOf, AreSoundlyShown}
use Rattle.cr_touched.proofs.Keys.{Spells, spells, key_cell, key_is}
use Rattle.cr_touched.proofs.Parts.{sorted_keys}

-- ---- keys of well-formed changes

passed : (b : Bool) (x : BadChange) (ts : List (Bool × BadChange)) → first_failed ((b, x) ∷ ts) ≡ None → (b ≡ true) × (first_failed ts ≡ None)
passed true x ts e = (refl, e)
passed false x ts e = absurd cc

has_its_key : (c : Change) (def : TableDef) → IsWellFormed c def → is_key def c.pk ≡ true
unfolding fault_of
has_its_key c def e =
    let cid = (is_cid def c.cid, Cid) ∷ (has_lengths c, Length) ∷ [] in
    let key = (is_key def c.pk, Key) ∷ cid in
    let a = passed (not (is_too_big (Some def) c)) Size ((same_bytes c.table def.name, Table) ∷ key) e in
    let b = passed (same_bytes c.table def.name) Table key a.1 in
    (passed (is_key def c.pk) Key cid b.1).0

-- ---- values that are wanted

not_null_is : (v : Value) → IsNotNull v → is_null v ≡ false
not_null_is Null n = absurd n
not_null_is (Int n) i = refl
not_null_is (Text t) i = refl
not_null_is (Blob b) i = refl

value_at : (vs : List Value) (i : ℕ) → i < length vs → AllByRecursion IsNotNull vs → is_null (get_or vs i Null) ≡ false
value_at [] i lt all = absurd (omega (arith, lt))
value_at (v ∷ vs) zero lt all = not_null_is v all.0
value_at (v ∷ vs) (suc i) lt all = value_at vs i (omega (arith, lt)) all.1

text_stays : (v : Value) → is_null v ≡ false → is_null (as_text v) ≡ false
text_stays Null e = absurd cc
text_stays (Int n) e = refl
text_stays (Text t) e = refl
text_stays (Blob b) e = refl

number_stays : (v : Value) → is_null v ≡ false → is_null (as_number v) ≡ false
number_stays Null e = absurd cc
number_stays (Int n) e = refl
number_stays (Text t) e = elim (int_of_text t) as (λ o. is_null (option_map_or Int o (Text t)) ≡ false) [ None ↦ refl | Some n ↦ refl ]
number_stays (Blob b) e = refl

applied_stays : (a : Affinity) (v : Value) → is_null v ≡ false → is_null (applied a v) ≡ false
applied_stays affinity.Integer v e = number_stays v e
applied_stays affinity.Text v e = text_stays v e
applied_stays affinity.Blob v e = e
applied_stays affinity.Numeric v e = number_stays v e

shown_stays : (col : ColumnDef) (v : Value) → col.not_null ≡ true → is_null col.default ≡ false → is_null (shown col v) ≡ false
shown_stays col Null wants d = rw wants (applied_stays col.affinity col.default d)
shown_stays col (Int n) wants d = applied_stays col.affinity (Int n) refl
shown_stays col (Text t) wants d = applied_stays col.affinity (Text t) refl
shown_stays col (Blob b) wants d = applied_stays col.affinity (Blob b) refl

column_stays : (col : ColumnDef) (o : Option Change) → col.not_null ≡ true → is_null col.default ≡ false → is_null (option_map_or (λ c. shown col c.val) o (default_of col)) ≡ false
column_stays col None wants d = applied_stays col.affinity col.default d
column_stays col (Some c) wants d = shown_stays col c.val wants d

-- ---- defaults

first_past : (p : ColumnDef → Bool) (x : ColumnDef) (xs : List ColumnDef) → p x ≡ true → position_or_len p (x ∷ xs) ≡ 0
first_past p x xs so = rw so refl

first_later : (p : ColumnDef → Bool) (x : ColumnDef) (xs : List ColumnDef) → p x ≡ false → position_or_len p (x ∷ xs) ≡ suc (position_or_len p xs)
first_later p x xs not_so = let one : 1 + position_or_len p xs ≡ suc (position_or_len p xs) = omega arith in rw not_so one

none_before : (p : ColumnDef → Bool) (cols : List ColumnDef) → length cols ≤ position_or_len p cols → (col : ColumnDef) → Among cols col → p col ≡ false
none_before p [] fits col m = absurd m
none_before p (x ∷ xs) fits col m =
    elim (split (p x)) [
      | inl so ↦ (let first = first_past p x xs so in absurd (omega (arith, fits, first)))
      | inr not_so ↦ (
          let later = first_later p x xs not_so in
          elim m [
            | inl here ↦ ap p here ∙ not_so
            | inr there ↦ none_before p xs (omega (arith, fits, later)) col there
          ])
    ]

none_found : (p : ColumnDef → Bool) (cols : List ColumnDef) → is_some (position p cols) ≡ false → (col : ColumnDef) → Among cols col → p col ≡ false
none_found p cols e = none_before p cols (ltb-false (position_or_len p cols) (length cols) (within (nat_lt (position_or_len p cols) (length cols)) e)) where
  within : (b : Bool) → is_some (cond b (Some (position_or_len p cols)) None) ≡ false → b ≡ false
  within true e = absurd cc
  within false e = refl

has_default : (key wants none : Bool) → (not key && (wants && none)) ≡ false → key ≡ false → wants ≡ true → none ≡ false
has_default true wants none e k w = absurd cc
has_default false true none e k w = e
has_default false false none e k w = absurd cc

-- ---- one row

none_lacks : (g : ColumnDef → Value) (cols : List ColumnDef) → ((col : ColumnDef) → Among cols col → lacks false (col, g col) ≡ false) → list_any (lacks false) (zip cols (map g cols)) ≡ false
none_lacks g [] each = refl
none_lacks g (col ∷ cols) each = ap (λ b. b || list_any (lacks false) (zip cols (map g cols))) (each col (inl refl)) ∙ none_lacks g cols (λ c m. each c (inr m))

module _ (def : TableDef) (keyed : has_key def ≡ true) (defaults : has_defaults def ≡ true) (kept : List Change) (pk : List ℕ) (vs : List Value) (s : Spells def pk vs) where
  in_key : (col : ColumnDef) → Among def.columns col → (place : ℕ) → col.key ≡ Some place → is_null (cell kept def.name pk col) ≡ false
  in_key col m place at =
      let w = place_within def col place keyed m at in
      let count = s.count in
      ap is_null (key_cell def keyed kept pk vs s col place at) ∙ value_at vs (place - 1) (omega (arith, w.0, w.1, count)) s.are.no_null

  outside : (col : ColumnDef) → Among def.columns col → col.key ≡ None → col.not_null ≡ true → is_null (cell kept def.name pk col) ≡ false
  unfolding has_defaults
  outside col m at wants =
      let d = has_default (is_key_column col) col.not_null (is_null col.default) (none_found lacks_default def.columns (not_true _ defaults) col m) (ap is_some at) wants in
      ap (λ k. is_null (option_map_or (λ place. slice_index_or (unwrap_or (unpacked pk) []) (place - 1) Null) k (column_value kept def.name pk col))) at ∙ column_stays col (kept_change kept def.name pk col.name) wants d

  cell_stays : (col : ColumnDef) → Among def.columns col → lacks false (col, cell kept def.name pk col) ≡ false
  cell_stays col m = by col.key refl where
    wanting : col.key ≡ None → (b : Bool) → col.not_null ≡ b → (b && is_null (cell kept def.name pk col)) ≡ false
    wanting at true wants = outside col m at wants
    wanting at false wants = refl

    by : (k : Option ℕ) → col.key ≡ k → ((is_some k || col.not_null) && is_null (cell kept def.name pk col)) ≡ false
    by None at = wanting at col.not_null refl
    by (Some place) at = in_key col m place at

  pub row_whole : has_null def (row kept def pk) ≡ false
  unfolding row
  row_whole = none_lacks (cell kept def.name pk) def.columns cell_stays

  pub row_short : (not (has_null_key def (row kept def pk)) && nat_lt size_limit (length (key_of def (row kept def pk)))) ≡ false
  row_short =
      let no = le-ltb size_limit (length pk) s.are.size in
      ap (λ k. not (has_null_key def (row kept def pk)) && nat_lt size_limit (length k)) (key_is def keyed kept pk vs s)
      ∙ ap (λ b. not (has_null_key def (row kept def pk)) && b) no ∙ never (not (has_null_key def (row kept def pk)))
    where
      never : (b : Bool) → (b && false) ≡ false
      never true = refl
      never false = refl

-- ---- all rows

none_of : {A B : Type 0} (p : B → Bool) (f : A → B) (xs : List A) → ((x : A) → Among xs x → p (f x) ≡ false) → list_any p (map f xs) ≡ false
none_of p f [] each = refl
none_of p f (x ∷ xs) each = ap (λ b. b || list_any p (map f xs)) (each x (inl refl)) ∙ none_of p f xs (λ y m. each y (inr m))

map_same : {A B : Type 0} (f : A → B) (g : B → A) (xs : List A) → ((x : A) → Among xs x → g (f x) ≡ x) → map g (map f xs) ≡ xs
map_same f g [] each = refl
map_same f g (x ∷ xs) each = (λ i. each x (inl refl) i ∷ map_same f g xs (λ y m. each y (inr m)) i)

-- keys in strict order stand once
in_order_once : (ks : List (List ℕ)) → IsStrictlySortedBy bytes_cmp ks → repeats ks ≡ false
unfolding IsStrictlySortedBy
in_order_once [] s = refl
in_order_once (k ∷ ks) s = ap (λ b. b || repeats ks) (apart k ks s.0) ∙ in_order_once ks s.1 where
  apart : (k : List ℕ) (ls : List (List ℕ)) → AllByRecursion (λ y. bytes_cmp k y ≡ Less) ls → list_any (same_bytes k) ls ≡ false
  apart k [] all = refl
  apart k (l ∷ ls) all = rw all.0 (apart k ls all.1)

module _ (def : TableDef) (keyed : has_key def ≡ true) (kept : List Change) (are : AreKeptOf def kept) where
  -- the key of a row that is present spells its values
  pub alive_spells : (pk : List ℕ) → is_alive kept def.name pk ≡ true → (vs : List Value) × Spells def pk vs
  unfolding is_alive
  alive_spells pk e =
      let r = member_of_any (λ c. is_of_row def.name pk c && is_odd c.cl) kept e in
      let of = and_true _ _ (and_true (is_of_row def.name pk r.0) (is_odd r.0.cl) r.2).0 in
      let well = member_has (λ c. IsWellFormed c def ⊎ (same_bytes c.table def.name ≡ false)) kept r.0 are.well_formed r.1 in
      subst (λ k. (vs : List Value) × Spells def k vs) (same_is r.0.pk pk of.1)
      (spells def r.0.pk (elim well [
        | inl here ↦ has_its_key r.0 def here
        | inr other ↦ (let so : same_bytes r.0.table def.name ≡ true = of.0 in absurd cc)
      ]))

  pub is_present : (pk : List ℕ) → Among (alive_keys kept def.name) pk → is_alive kept def.name pk ≡ true
  is_present pk m = sym (any_alive_key kept def.name pk) ∙ any_member (same_bytes pk) (alive_keys kept def.name) pk m (is_same pk pk refl)

  pub is_its_key : (pk : List ℕ) → is_alive kept def.name pk ≡ true → key_of def (row kept def pk) ≡ pk
  is_its_key pk e = let r = alive_spells pk e in key_is def keyed kept pk r.0 r.1

  pub keys_shown : keys_of def (rows kept def) ≡ alive_keys kept def.name
  unfolding rows
  keys_shown = map_same (row kept def) (key_of def) (alive_keys kept def.name) (λ pk m. is_its_key pk (is_present pk m))

  pub once : has_twice def (rows kept def) ≡ false
  unfolding has_twice
  once = ap repeats keys_shown ∙ in_order_once (alive_keys kept def.name) (sorted_keys def.name (λ pk. true) kept)

  module _ (defaults : has_defaults def ≡ true) where
    pub short : has_long_key def (rows kept def) ≡ false
    unfolding has_long_key rows
    short = none_of _ (row kept def) (alive_keys kept def.name) (λ pk m. (let r = alive_spells pk (is_present pk m) in row_short def keyed defaults kept pk r.0 r.1))

    pub whole : lacks_value def (rows kept def) ≡ false
    unfolding lacks_value rows
    whole = none_of (has_null def) (row kept def) (alive_keys kept def.name) (λ pk m. (let r = alive_spells pk (is_present pk m) in row_whole def keyed defaults kept pk r.0 r.1))

    pub soundly_shown : AreSoundlyShown def kept
    soundly_shown = record { keys = keys_shown; short = short; whole = whole; once = once }
