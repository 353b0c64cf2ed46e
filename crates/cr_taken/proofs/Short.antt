-- The rows that a table shows, and those that a write wants of it, have no value that is longer than a change may carry, where
-- integers are of 64 bits.
use Rattle.std.proofs.Common.{◌≡◌, inl, inr, ℕ, zero, suc, ◌-◌, ◌^◌, ◌≤◌, ◌<◌, ℤ, pos, negsuc, Bool, true, false, cond, List, [], ◌∷◌, ◌++◌, length, map, get_or, Option, Some, None, unwrap_or, refl, sym, ap, ◌∙◌, arith}
use Rattle.std.specs.Prelude.{find, slice_index_or, FitsSigned}
use Rattle.std.specs.List.{list_any, AllByRecursion}
use Rattle.std.specs.Int.{w64}
use Rattle.std.specs.Int.Signed.{mag}
use Rattle.std.specs.Option.{option_map_or}
use Rattle.std.proofs.lemmas.Bool.{ltb-true, ltb-false}
use Rattle.std.proofs.lemmas.Fmt.{length_signed_le}
use Rattle.std.proofs.lemmas.List.{append-nil}
use Rattle.cr_value.specs.declared.affinity.Affinity.{Affinity}
use Rattle.cr_value.specs.declared.affinity.Affinity.TheVariants as affinity
use Rattle.cr_value.specs.declared.value.Value.{Value}
use Rattle.cr_value.specs.declared.value.Value.TheVariants.{Null, Int, Text, Blob}
use Rattle.cr_value.specs.Affinity.{applied, as_text, as_number, int_of_text}
use Rattle.cr_value.specs.Packing.{size_limit, packed}
use Rattle.cr_value.specs.Unpacking.{unpacked}
use Rattle.cr_value.proofs.Numerals.{fits_yes}
use Rattle.cr_lattice.specs.declared.change.Change.{Change}
use Rattle.cr_lattice.specs.declared.table.ColumnDef.{ColumnDef}
use Rattle.cr_lattice.specs.declared.table.Table.{Table}
use Rattle.cr_lattice.specs.declared.table.TableDef.{TableDef}
use Rattle.cr_lattice.specs.Faults.{first_failed}
use Rattle.cr_lattice.specs.Profile.{is_default_too_long, profile_fault, rules_of}
use Rattle.cr_lattice.specs.Rows.{is_cell, alive_keys, default_of, shown, kept_change, column_value, cell, row, rows}
use Rattle.cr_lattice.proofs.Tested.{and_true, not_true, split}
use Rattle.cr_cells.specs.Tables.{fault_in}
use Rattle.cr_delta.specs.Wanted.{AreSmall}
use Rattle.cr_delta.proofs.Among.{Among, member_has, any_member}
use Rattle.cr_delta.proofs.Members.{same_is}
use Rattle.cr_query.specs.Query.{Row, Meaning, holds}
use Rattle.cr_query.specs.Queries.{Insert, Update, Delete}
use Rattle.cr_query.specs.Writes.{put, put_all, defaults, wanted_by_insert, wanted_by_update, wanted_by_delete}
use Rattle.cr_taken.specs.Taken.{AreKept, IsOf64Bits, Have64Bits, Gives64Bits, Inserts64Bits, Updates64Bits, Replicates}
use Rattle.cr_taken.proofs.Members.{all_map, found_member, none_asked, some_is}
use Rattle.cr_taken.proofs.Puts.{insert_all, update_all, delete_all}
use Rattle.cr_taken.proofs.Tables.{fit, fault_is, small_change}
use Rattle.cr_taken.proofs.Keys.{IsSmall, unpacked_small}

-- ---- affinity

bits_mag : (n : ℤ) → FitsSigned w64 n → mag n < 2 ^ 63
bits_mag (pos n) f = ltb-true _ _ (fits_yes (pos n) f)
bits_mag (negsuc n) f = ltb-true _ _ (fits_yes (negsuc n) f)

text_small : (v : Value) → IsOf64Bits v → IsSmall v → IsSmall (as_text v)
text_small Null b s = omega arith
text_small (Int n) b s = let m = bits_mag n b in let l = length_signed_le 19 n (omega (arith, m)) m in omega (arith, l)
text_small (Text t) b s = s
text_small (Blob t) b s = s

int_or_text : (o : Option ℤ) (t : List ℕ) → IsSmall (Text t) → IsSmall (option_map_or Int o (Text t))
int_or_text None t s = s
int_or_text (Some n) t s = omega arith

number_small : (v : Value) → IsSmall v → IsSmall (as_number v)
number_small Null s = omega arith
number_small (Int n) s = omega arith
number_small (Text t) s = int_or_text (int_of_text t) t s
number_small (Blob t) s = s

pub applied_small : (a : Affinity) (v : Value) → IsOf64Bits v → IsSmall v → IsSmall (applied a v)
applied_small affinity.Integer v b s = number_small v s
applied_small affinity.Text v b s = text_small v b s
applied_small affinity.Blob v b s = s
applied_small affinity.Numeric v b s = number_small v s

-- ---- defaults

packed_small : (v : Value) → length (packed (v ∷ [])) ≤ size_limit → IsSmall v
packed_small Null s = omega arith
packed_small (Int n) s = omega arith
packed_small (Text t) s = let len : length (t ++ []) ≡ length t = ap length (append-nil t) in omega (arith, s, len)
packed_small (Blob t) s = let len : length (t ++ []) ≡ length t = ap length (append-nil t) in omega (arith, s, len)

passed : {F : Type 0} (b : Bool) (f : F) (ts : List (Bool × F)) → first_failed ((b, f) ∷ ts) ≡ None → (b ≡ true) × (first_failed ts ≡ None)
passed true f ts e = (refl, e)
passed false f ts e = absurd cc

all_passed : {F : Type 0} (ts : List (Bool × F)) → first_failed ts ≡ None → AllByRecursion (λ t. t.0 ≡ true) ts
all_passed [] e = tt
all_passed (t ∷ ts) e = let p = passed t.0 t.1 ts e in (p.0, all_passed ts p.1)

module _ (def : TableDef) (accepted : profile_fault def ≡ None) where
  no_long_default : list_any is_default_too_long def.columns ≡ false
  unfolding profile_fault
  no_long_default = not_true _ (all_passed (rules_of def) accepted).1.1.1.0

  pub default_small : (col : ColumnDef) → Among def.columns col → IsSmall (default_of col)
  default_small col m =
      elim (split (is_default_too_long col)) [
        | inl long ↦ (let some = any_member is_default_too_long def.columns col m long in let none = no_long_default in absurd cc)
        | inr not_long ↦ packed_small (default_of col) (ltb-false _ _ not_long)
      ]

-- ---- what is shown

shown_small : (col : ColumnDef) (v : Value) → IsSmall (default_of col) → IsOf64Bits v → IsSmall v → IsSmall (shown col v)
shown_small col Null d b s =
    elim (col.not_null) as (λ n. IsSmall (cond n (default_of col) Null)) [
      | true ↦ d
      | false ↦ omega arith
    ]
shown_small col (Int n) d b s = applied_small col.affinity (Int n) b s
shown_small col (Text t) d b s = applied_small col.affinity (Text t) b s
shown_small col (Blob t) d b s = applied_small col.affinity (Blob t) b s

part_small : (vs : List Value) (i : ℕ) → AllByRecursion IsSmall vs → IsSmall (get_or vs i Null)
part_small [] i all = omega arith
part_small (v ∷ vs) zero all = all.0
part_small (v ∷ vs) (suc i) all = part_small vs i all.1

read_small : (pk : List ℕ) (i : ℕ) (o : Option (List Value)) → unpacked pk ≡ o → IsSmall (slice_index_or (unwrap_or o []) i Null)
read_small pk i None e = omega arith
read_small pk i (Some vs) e = part_small vs i (unpacked_small pk vs e)

found_so : {A : Type 0} (p : A → Bool) (xs : List A) (a : A) → find p xs ≡ Some a → p a ≡ true
found_so p [] a e = absurd cc
found_so p (x ∷ xs) a e =
    elim (split (p x)) [
      | inl so ↦ ap p (sym (some_is x a (rw so at e))) ∙ so
      | inr not_so ↦ found_so p xs a (rw not_so at e)
    ]

module _ (tables : List Table) (kept : List Change) (def : TableDef) (are : AreKept tables kept) (there : Replicates tables def) (bits : Have64Bits kept) where
  kept_small : (c : Change) → Among kept c → c.table ≡ def.name → IsSmall c.val
  kept_small c m table = small_change c def (sym (fault_is def tables c there table) ∙ member_has (λ c. fault_in tables c ≡ None) kept c are.well_formed m)

  found_small : (pk : List ℕ) (col : ColumnDef) → IsSmall (default_of col) → (o : Option Change) → kept_change kept def.name pk col.name ≡ o → IsSmall (option_map_or (λ c. shown col c.val) o (default_of col))
  unfolding kept_change
  found_small pk col d None e = d
  found_small pk col d (Some c) e =
      let m = found_member (is_cell def.name pk col.name) kept c e in
      let so = and_true _ _ (found_so (is_cell def.name pk col.name) kept c e) in
      let table = same_is c.table def.name (and_true _ _ so.0).0 in
      shown_small col c.val d (member_has (λ c. IsOf64Bits c.val) kept c bits m) (kept_small c m table)

  cell_small : (pk : List ℕ) (col : ColumnDef) → Among def.columns col → IsSmall (cell kept def.name pk col)
  cell_small pk col m =
      elim (col.key) as (λ k. IsSmall (option_map_or (λ place. slice_index_or (unwrap_or (unpacked pk) []) (place - 1) Null) k (column_value kept def.name pk col))) [
        | None ↦ found_small pk col (default_small def (fit tables kept def are there).profile col m) (kept_change kept def.name pk col.name) refl
        | Some place ↦ read_small pk (place - 1) (unpacked pk) refl
      ]

  map_small : (f : ColumnDef → Value) (cols : List ColumnDef) → ((col : ColumnDef) → Among cols col → IsSmall (f col)) → AllByRecursion IsSmall (map f cols)
  map_small f [] each = tt
  map_small f (col ∷ cols) each = (each col (inl refl), map_small f cols (λ c m. each c (inr m)))

  row_small : (pk : List ℕ) → AllByRecursion IsSmall (row kept def pk)
  unfolding row
  row_small pk = map_small (cell kept def.name pk) def.columns (cell_small pk)

  pub rows_small : AreSmall (rows kept def)
  unfolding rows
  rows_small = all_map (λ pk. Unit {0}) (λ r. AllByRecursion IsSmall r) (row kept def) (alive_keys kept def.name) (λ pk u. row_small pk) (none_asked (alive_keys kept def.name))

-- ---- what is wanted

-- a value that an expression may have
abbrev IsGiven : Value → Type 0
IsGiven v = IsOf64Bits v × IsSmall v

put_small : (cols : List ColumnDef) (place : ℕ) (v : Value) (r : Row) → IsGiven v → AllByRecursion IsSmall r → AllByRecursion IsSmall (put cols place v r)
put_small [] place v r g all = all
put_small (col ∷ cols) place v [] g all = tt
put_small (col ∷ cols) zero v (old ∷ r) g all = (applied_small col.affinity v g.0 g.1, all.1)
put_small (col ∷ cols) (suc place) v (old ∷ r) g all = (all.0, put_small cols place v r g all.1)

put_all_small : (cols : List ColumnDef) (places : List ℕ) (vs r : Row) → AllByRecursion IsGiven vs → AllByRecursion IsSmall r → AllByRecursion IsSmall (put_all cols places vs r)
put_all_small cols [] vs r g all = all
put_all_small cols (p ∷ ps) [] r g all = all
put_all_small cols (p ∷ ps) (v ∷ vs) r g all = put_all_small cols ps vs (put cols p v r) g.1 (put_small cols p v r g.0 all)

module _ {E : Type 0} (m : Meaning E) (def : TableDef) (accepted : profile_fault def ≡ None) (small : (e : E) (c : Row) (v : Value) → m.value e c ≡ Some v → IsSmall v) where
  fresh_small : AllByRecursion IsSmall (defaults def.columns)
  fresh_small = each def.columns (λ col i. default_small def accepted col i)
    where
      each : (cols : List ColumnDef) → ((col : ColumnDef) → Among cols col → IsSmall (default_of col)) → AllByRecursion IsSmall (map default_of cols)
      each [] f = tt
      each (col ∷ cols) f = (f col (inl refl), each cols (λ c i. f c (inr i)))

  -- what gives 64 bits gives a value that an expression may have
  given_of : {X : Type 0} (e : X → E) (row : Row) (xs : List X) → AllByRecursion (λ x. Gives64Bits m row (e x)) xs → AllByRecursion (λ x. (v : Value) → m.value (e x) row ≡ Some v → IsGiven v) xs
  given_of e row [] all = tt
  given_of e row (x ∷ xs) all = ((λ v k. (all.0 v k, small (e x) row v k)), given_of e row xs all.1)

  tuples_given : (tuples : List (List E)) → AllByRecursion (λ es. AllByRecursion (λ e. Gives64Bits m [] e) es) tuples → AllByRecursion (λ es. AllByRecursion (λ e. (v : Value) → m.value e [] ≡ Some v → IsGiven v) es) tuples
  tuples_given [] all = tt
  tuples_given (es ∷ tuples) all = (given_of (λ e. e) [] es all.0, tuples_given tuples all.1)

  rows_given : (w : Update E) (rows : List Row) → Updates64Bits m w rows → AllByRecursion (λ r. holds m w.terms r ≡ Some true → AllByRecursion (λ a. (v : Value) → m.value a.expr r ≡ Some v → IsGiven v) w.assignments) rows
  rows_given w [] all = tt
  rows_given w (r ∷ rows) all = ((λ e. given_of (λ a. a.expr) r w.assignments (all.0 e)), rows_given w rows all.1)

  pub insert_small : (w : Insert E) (shown out : List Row) → Inserts64Bits m w → AreSmall shown → wanted_by_insert m def.columns w shown ≡ Some out → AreSmall out
  insert_small w shown out bits all k = insert_all m def.columns IsGiven (λ r. AllByRecursion IsSmall r) fresh_small (put_all_small def.columns) w shown out (tuples_given w.tuples bits) all k

  pub update_small : (w : Update E) (shown out : List Row) → Updates64Bits m w shown → AreSmall shown → wanted_by_update m def.columns w shown ≡ Some out → AreSmall out
  update_small w shown out bits all k = update_all m def.columns IsGiven (λ r. AllByRecursion IsSmall r) fresh_small (put_all_small def.columns) w shown out (rows_given w shown bits) all k

pub delete_small : {E : Type 0} (m : Meaning E) (w : Delete E) (shown out : List Row) → AreSmall shown → wanted_by_delete m w shown ≡ Some out → AreSmall out
delete_small m w shown out all k = delete_all m (λ r. AllByRecursion IsSmall r) w shown out all k
