-- Rows that a sound store shows stand by their keys.
use Rattle.std.proofs.Common.{◌≡◌, inl, inr, ℕ, ◌≤◌, ◌<◌, Bool, true, false, ◌&&◌, ◌||◌, nat_lt, nat_eq, List, [], ◌∷◌, length, map, find, Option, Some, None, is_some, refl, sym, ap, subst, ◌∙◌, arith}
use Rattle.std.specs.List.{zip, filter_map, list_any, AllByRecursion}
use Rattle.std.specs.Option.{option_map, option_map_or}
use Rattle.std.specs.List.Sorted.{IsStrictlySortedBy}
use Rattle.std.proofs.lemmas.Bool.Decides.{nat_tests}
use Rattle.cr_value.specs.declared.value.Value.{Value}
use Rattle.cr_value.specs.declared.value.Value.TheVariants.{Null, Int, Text, Blob}
use Rattle.cr_value.specs.Order.{bytes_cmp}
use Rattle.cr_value.specs.Packing.{IsNotNull, IsValue, size_limit}
use Rattle.cr_lattice.specs.declared.change.Change.{Change}
use Rattle.cr_lattice.specs.declared.table.ColumnDef.{ColumnDef}
use Rattle.cr_lattice.specs.declared.table.TableDef.{TableDef}
use Rattle.cr_lattice.specs.Check.{is_null, stands_at}
use Rattle.cr_lattice.specs.Profile.{key_count, places_once, has_key}
use Rattle.cr_lattice.specs.Rows.{is_alive, alive_keys, row, rows}
use Rattle.cr_lattice.proofs.Tested.{and_true, split}
use Rattle.cr_cells.specs.Tables.{has_defaults}
use Rattle.cr_delta.specs.Key.{cells_of, key_part, key_places, key_values, key_of, HasKey}
use Rattle.cr_delta.proofs.Among.{Among, any_member, map_member, member_has}
use Rattle.cr_guard.specs.Heard.{AreByKey}
use Rattle.cr_query.specs.Query.{Row}
use Rattle.cr_query.specs.Writes.{lacks, has_null}
use Rattle.cr_touched.specs.Shown.{AreKeptOf}
use Rattle.cr_touched.proofs.Keys.{key_is}
use Rattle.cr_touched.proofs.Parts.{sorted_keys}
use Rattle.cr_touched.proofs.Shown.{alive_spells, is_present, keys_shown, row_whole}
use Rattle.cr_heard.proofs.Given.{all_of, among_given, some_is}

-- ---- lists

found_member : {A : Type 0} (p : A → Bool) (xs : List A) (a : A) → find p xs ≡ Some a → Among xs a × (p a ≡ true)
found_member p [] a e = absurd cc
found_member p (x ∷ xs) a e =
    elim (split (p x)) [
      | inl so ↦ (let here : x ≡ a = some_is x a (rw so at e) in (inl (sym here), ap p (sym here) ∙ so))
      | inr not_so ↦ (let r = found_member p xs a (rw not_so at e) in (inr r.0, r.1))
    ]

none_of : {A : Type 0} (p : A → Bool) (xs : List A) (a : A) → list_any p xs ≡ false → Among xs a → p a ≡ false
none_of p xs a none m = elim (split (p a)) [ inl so ↦ (let some : list_any p xs ≡ true = any_member p xs a m so in absurd cc) | inr not_so ↦ not_so ]

second_member : {A B : Type 0} (xs : List A) (ys : List B) (z : A × B) → Among (zip xs ys) z → Among ys z.1
second_member [] ys z m = absurd m
second_member (x ∷ xs) [] z m = absurd m
second_member (x ∷ xs) (y ∷ ys) z m = elim m [ inl here ↦ inl (ap (λ (w : _ × _). w.1) here) | inr there ↦ inr (second_member xs ys z there) ]

heads : (a b : ℕ) (xs ys : List ℕ) → (a ∷ xs) ≡ (b ∷ ys) → a ≡ b
heads a b xs ys e = cc

all_map : {A B : Type 0} (P : B → Type 0) (f : A → B) (xs : List A) → ((x : A) → Among xs x → P (f x)) → AllByRecursion P (map f xs)
all_map P f [] each = tt
all_map P f (x ∷ xs) each = (each x (inl refl), all_map P f xs (λ y m. each y (inr m)))

-- ---- the values of a key

not_null : (v : Value) → is_null v ≡ false → IsNotNull v
not_null Null e = absurd cc
not_null (Int n) e = tt
not_null (Text t) e = tt
not_null (Blob b) e = tt

key_stands : (k : Option ℕ) (p : ℕ) → option_map_or (λ q. nat_eq q p) k false ≡ true → is_some k ≡ true
key_stands None p e = absurd cc
key_stands (Some q) p e = refl

module _ (def : TableDef) (vs : Row) where
  part_cell : (p : ℕ) (v : Value) → key_part def vs p ≡ Some v → (x : ColumnDef × Value) × Among (cells_of def vs) x × (stands_at p x.0 ≡ true) × (x.1 ≡ v)
  unfolding key_part
  part_cell p v e = by (find (λ x. stands_at p x.0) (cells_of def vs)) refl e where
    by : (o : Option (ColumnDef × Value)) → find (λ x. stands_at p x.0) (cells_of def vs) ≡ o → option_map (λ x. x.1) o ≡ Some v
        → (x : ColumnDef × Value) × Among (cells_of def vs) x × (stands_at p x.0 ≡ true) × (x.1 ≡ v)
    by None is e = absurd cc
    by (Some x) is e = let f = found_member (λ x. stands_at p x.0) (cells_of def vs) x is in (x, f.0, f.1, some_is x.1 v e)

  part_not_null : has_null def vs ≡ false → (p : ℕ) (v : Value) → key_part def vs p ≡ Some v → IsNotNull v
  part_not_null whole p v e =
      let c = part_cell p v e in
      let absent = none_of (lacks false) (cells_of def vs) c.0 whole c.1 in
      let null : is_null c.0.1 ≡ false = sym (ap (λ b. (b || c.0.0.not_null) && is_null c.0.1) (key_stands c.0.0.key p c.2)) ∙ absent in
      subst IsNotNull c.3 (not_null c.0.1 null)

  part_value : AllByRecursion IsValue vs → (p : ℕ) (v : Value) → key_part def vs p ≡ Some v → IsValue v
  part_value all p v e = let c = part_cell p v e in subst IsValue c.3 (member_has IsValue vs c.0.1 all (second_member def.columns vs c.0 c.1))

  parts : (P : Value → Type 0) → ((p : ℕ) (v : Value) → key_part def vs p ≡ Some v → P v) → AllByRecursion P (key_values def vs)
  unfolding key_values
  parts P each = all_of P (filter_map (key_part def vs) key_places) (λ v m. (let g = among_given (key_part def vs) key_places v m in each g.0 v g.2))

-- ---- rows

module _ (def : TableDef) (keyed : has_key def ≡ true) (defaults : has_defaults def ≡ true) (kept : List Change) (are : AreKeptOf def kept) where
  some_column : 0 < key_count def
  unfolding has_key
  some_column = let k = and_true (nat_lt 0 (key_count def)) (places_once def (key_count def)) keyed in grind (arith, nat_tests)

  row_has_key : (pk : List ℕ) → is_alive kept def.name pk ≡ true → AllByRecursion IsValue (row kept def pk) → HasKey def (row kept def pk)
  unfolding key_of
  row_has_key pk alive values =
      let r = alive_spells def keyed kept are pk alive in
      let s = r.1 in
      let is : key_of def (row kept def pk) ≡ pk = key_is def keyed kept pk r.0 s in
      let count : length (key_values def (row kept def pk)) ≡ length r.0 = heads _ _ _ _ (is ∙ sym s.spelled) in
      let some = some_column in
      let of = s.count in
      let few = s.are.few in
      record {
        key = record {
          some = omega (arith, count, some, of);
          few = omega (arith, count, few);
          no_null = parts def (row kept def pk) IsNotNull (part_not_null def (row kept def pk) (row_whole def keyed defaults kept pk r.0 s));
        };
        values = parts def (row kept def pk) IsValue (part_value def (row kept def pk) values);
        spelled = refl;
        size = subst (λ (k : List ℕ). length k ≤ size_limit) (sym is) s.are.size;
      }

  pub stand_by_key : AllByRecursion (λ r. AllByRecursion IsValue r) (rows kept def) → AreByKey def (rows kept def)
  unfolding rows
  stand_by_key values = record {
    keys = all_map (HasKey def) (row kept def) (alive_keys kept def.name) (λ pk m.
        row_has_key pk (is_present def keyed kept are pk m)
        (member_has (λ r. AllByRecursion IsValue r) (rows kept def) (row kept def pk) values (map_member (row kept def) (alive_keys kept def.name) pk m)));
    in_order = subst (IsStrictlySortedBy bytes_cmp) (sym (keys_shown def keyed kept are)) (sorted_keys def.name (λ pk. true) kept);
  }
