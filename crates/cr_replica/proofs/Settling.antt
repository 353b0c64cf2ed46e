-- A definition whose defaults are as their affinities want them is accepted where the definition is.
use Rattle.std.proofs.Common.{◌≡◌, ℕ, zero, suc, ◌+◌, ◌<◌, arith, nat_lt, nat_le, Bool, true, false, not, ◌&&◌, ◌||◌, ◌==◌, cond, List, [], ◌∷◌, map, length, slice_index_or, Some, None, refl, ap, subst, ◌∙◌}
use Rattle.std.specs.Prelude.{count_by, fold, position}
use Rattle.std.specs.List.{list_any, list_all, position_or_len}
use Rattle.std.specs.Option.{option_map_or}
use Rattle.cr_value.specs.declared.value.Value.{Value}
use Rattle.cr_value.specs.declared.value.Value.TheVariants.{Null, Int, Text, Blob}
use Rattle.cr_value.specs.declared.affinity.Affinity.{Affinity}
use Rattle.cr_value.specs.declared.affinity.Affinity.TheVariants as affinity
use Rattle.cr_value.specs.Affinity.{applied, as_number, int_of_text}
use Rattle.cr_value.specs.Packing.{size_limit, packed}
use Rattle.cr_value.proofs.ValueLaws.{applied_twice}
use Rattle.cr_lattice.specs.declared.table.ColumnDef.{ColumnDef}
use Rattle.cr_lattice.specs.declared.table.Table.{Table}
use Rattle.cr_lattice.specs.declared.table.TableDef.{TableDef}
use Rattle.cr_lattice.specs.declared.profile.ProfileFault.TheVariants.{PrimaryKey, Collation, RowCid, Default, Columns, KeyColumns, Name}
use Rattle.cr_lattice.specs.Check.{same_bytes, is_null, is_key_column, is_row_cid, stands_at}
use Rattle.cr_lattice.specs.Faults.{first_failed}
use Rattle.cr_lattice.specs.Profile.{profile_fault, has_key, key_count, places_once, is_collated_key, has_row_cid, is_default_too_long, most_columns, is_reserved, lacks_default, HasDistinctNames}
use Rattle.cr_cells.specs.Tables.{IsNewTable, has_folded_names, has_defaults, is_folded}
use Rattle.cr_replica.specs.Definition.{IsAccepted, settled, with_settled_default}
use Rattle.cr_replica.proofs.Definitions.{accepted_is_new, accepted_has_defaults}

-- ---- a test that a column passes as it did

any_settled : (p : ColumnDef → Bool) → ((c : ColumnDef) → p (with_settled_default c) ≡ p c) → (cs : List ColumnDef) → list_any p (map with_settled_default cs) ≡ list_any p cs
any_settled p e [] = refl
any_settled p e (c ∷ cs) = λ i. e c i || any_settled p e cs i

all_settled : (p : ColumnDef → Bool) → ((c : ColumnDef) → p (with_settled_default c) ≡ p c) → (cs : List ColumnDef) → list_all p (map with_settled_default cs) ≡ list_all p cs
all_settled p e [] = refl
all_settled p e (c ∷ cs) = λ i. e c i && all_settled p e cs i

abbrev counting : (ColumnDef → Bool) → ℕ → ColumnDef → ℕ
counting p n c = n + cond (p c) 1 0

fold_settled : (p : ColumnDef → Bool) → ((c : ColumnDef) → p (with_settled_default c) ≡ p c) → (n : ℕ) (cs : List ColumnDef) → fold (counting p) n (map with_settled_default cs) ≡ fold (counting p) n cs
fold_settled p e n [] = refl
fold_settled p e n (c ∷ cs) = (λ i. fold (counting p) (n + cond (e c i) 1 0) (map with_settled_default cs)) ∙ fold_settled p e (n + cond (p c) 1 0) cs

count_settled : (p : ColumnDef → Bool) → ((c : ColumnDef) → p (with_settled_default c) ≡ p c) → (cs : List ColumnDef) → count_by p (map with_settled_default cs) ≡ count_by p cs
count_settled p e cs = fold_settled p e 0 cs

place_settled : (p : ColumnDef → Bool) → ((c : ColumnDef) → p (with_settled_default c) ≡ p c) → (cs : List ColumnDef) → position_or_len p (map with_settled_default cs) ≡ position_or_len p cs
place_settled p e [] = refl
place_settled p e (c ∷ cs) = λ i. cond (not (e c i)) (1 + place_settled p e cs i) 0

length_settled : (cs : List ColumnDef) → length (map with_settled_default cs) ≡ length cs
length_settled [] = refl
length_settled (c ∷ cs) = ap suc (length_settled cs)

position_settled : (p : ColumnDef → Bool) → ((c : ColumnDef) → p (with_settled_default c) ≡ p c) → (cs : List ColumnDef) → position p (map with_settled_default cs) ≡ position p cs
position_settled p e cs = λ i. cond (nat_lt (place_settled p e cs i) (length_settled cs i)) (Some (place_settled p e cs i)) None

-- ---- defaults

null_number : (v : Value) → is_null (as_number v) ≡ is_null v
null_number Null = refl
null_number (Int n) = refl
null_number (Text t) = elim (int_of_text t) as (λ o. is_null (option_map_or Int o (Text t)) ≡ false) [ None ↦ refl | Some n ↦ refl ]
null_number (Blob b) = refl

null_settled : (a : Affinity) (v : Value) → is_null (applied a v) ≡ is_null v
null_settled affinity.Integer v = null_number v
null_settled affinity.Numeric v = null_number v
null_settled affinity.Blob v = refl
null_settled affinity.Text Null = refl
null_settled affinity.Text (Int n) = refl
null_settled affinity.Text (Text t) = refl
null_settled affinity.Text (Blob b) = refl

lacks_settled : (c : ColumnDef) → lacks_default (with_settled_default c) ≡ lacks_default c
lacks_settled c = ap (λ (b : Bool). not (is_key_column c) && (c.not_null && b)) (null_settled c.affinity c.default)

long_settled : (c : ColumnDef) → is_default_too_long (with_settled_default c) ≡ is_default_too_long c
long_settled c = ap (λ (v : Value). nat_lt size_limit (length (packed (v ∷ [])))) (applied_twice c.affinity c.default)

-- ---- the rules

places_settled : (def : TableDef) (n : ℕ) → places_once (settled def) n ≡ places_once def n
places_settled def zero = refl
places_settled def (suc n) = λ i. (count_settled (stands_at (suc n)) (λ c. refl) def.columns i == 1) && places_settled def n i

key_settled : (def : TableDef) → has_key (settled def) ≡ has_key def
unfolding has_key
key_settled def =
    let count : key_count (settled def) ≡ key_count def = count_settled is_key_column (λ c. refl) def.columns in
    let places : places_once (settled def) (key_count (settled def)) ≡ places_once def (key_count def) = ap (places_once (settled def)) count ∙ places_settled def (key_count def) in
    λ i. nat_lt 0 (count i) && places i

row_settled : (def : TableDef) → has_row_cid (settled def) ≡ has_row_cid def
unfolding has_row_cid
row_settled def = any_settled (λ c. is_row_cid c.name) (λ c. refl) def.columns

profile_settled : (def : TableDef) → profile_fault (settled def) ≡ profile_fault def
unfolding profile_fault
profile_settled def = λ i.
    first_failed
    ((key_settled def i, PrimaryKey) ∷ (not (any_settled is_collated_key (λ c. refl) def.columns i), Collation) ∷ (not (row_settled def i), RowCid)
    ∷ (not (any_settled is_default_too_long long_settled def.columns i), Default) ∷ (nat_le (length_settled def.columns i) most_columns, Columns)
    ∷ (nat_le (count_settled is_key_column (λ c. refl) def.columns i) 8, KeyColumns) ∷ (not (is_reserved def.name), Name) ∷ [])

folded_settled : (def : TableDef) → has_folded_names (settled def) ≡ has_folded_names def
unfolding has_folded_names
folded_settled def = ap (λ (b : Bool). is_folded def.name && b) (all_settled (λ c. is_folded c.name && is_folded c.collation) (λ c. refl) def.columns)

name_settled : (cs : List ColumnDef) (i : ℕ) (d e : ColumnDef) → i < length cs → (slice_index_or (map with_settled_default cs) i d).name ≡ (slice_index_or cs i e).name
name_settled [] i d e h = absurd (omega (arith, h))
name_settled (c ∷ cs) zero d e h = refl
name_settled (c ∷ cs) (suc i) d e h = name_settled cs i d e (omega (arith, h))

names_settled : (def : TableDef) → HasDistinctNames def → HasDistinctNames (settled def)
names_settled def names = λ i j d h g.
    let few : j < length def.columns = subst (λ (n : ℕ). j < n) (length_settled def.columns) g in
    (λ k. same_bytes (name_settled def.columns i d d (omega (arith, h, few)) k) (name_settled def.columns j d d few k)) ∙ names i j d h few

-- ---- the whole

settled_accepted : (has : List ℕ → Bool) (tables : List Table) (def : TableDef) → IsAccepted has tables def → IsAccepted has tables (settled def)
settled_accepted has tables def ok = record {
  profile = profile_settled def ∙ ok.profile;
  new = ok.new;
  names = names_settled def ok.names;
  collations = position_settled _ (λ c. refl) def.columns ∙ ok.collations;
  defaults = position_settled lacks_default lacks_settled def.columns ∙ ok.defaults;
}

pub settled_is_new : (has : List ℕ → Bool) (tables : List Table) (def : TableDef) → has_folded_names def ≡ true → IsAccepted has tables def → IsNewTable tables (settled def)
settled_is_new has tables def folded ok = accepted_is_new has tables (settled def) (folded_settled def ∙ folded) (settled_accepted has tables def ok)

pub settled_has_defaults : (has : List ℕ → Bool) (tables : List Table) (def : TableDef) → IsAccepted has tables def → has_defaults (settled def) ≡ true
settled_has_defaults has tables def ok = accepted_has_defaults has tables (settled def) (settled_accepted has tables def ok)
