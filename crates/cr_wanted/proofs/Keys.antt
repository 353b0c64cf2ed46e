-- Rows without NULL in their key have one that can be packed, where it is not too long.
use Rattle.std.proofs.Common.{◌≡◌, ◌∙◌, ℕ, suc, ◌≤◌, ◌<◌, Bool, true, false, not, ◌&&◌, ◌||◌, cond, nat_lt, nat_eq, List, [], ◌∷◌, length, drop, Option, Some, None, refl, sym, ap, subst, arith}
use Rattle.std.specs.Prelude.{find, count_by}
use Rattle.std.specs.List.{zip, filter_map, cons_option, list_any, AllByRecursion}
use Rattle.std.specs.Option.{option_map, option_map_or, is_some}
use Rattle.std.proofs.lemmas.Bool.Decides.{nat_tests}
use Rattle.cr_value.specs.declared.value.Value.{Value}
use Rattle.cr_value.specs.declared.value.Value.TheVariants.{Null, Int, Text, Blob}
use Rattle.cr_value.specs.Packing.{size_limit, IsNotNull, IsValue}
use Rattle.cr_lattice.specs.declared.table.ColumnDef.{ColumnDef}
use Rattle.cr_lattice.specs.declared.table.TableDef.{TableDef}
use Rattle.cr_lattice.specs.Check.{is_null, is_key_column, stands_at}
use Rattle.cr_lattice.specs.Profile.{key_count, places_once, has_key}
use Rattle.cr_delta.specs.Key.{cells_of, key_part, key_places, key_values, key_of, HasKey}
use Rattle.cr_delta.proofs.Among.{and_true}
use Rattle.cr_delta.proofs.KeyCells.{count_no, place_once}
use Rattle.cr_query.specs.Writes.{lacks, has_null_key, has_null, has_long_key, lacks_value}
use Rattle.cr_wanted.specs.Judged.{AreWide}

or_false : (a b : Bool) → (a || b) ≡ false → (a ≡ false) × (b ≡ false)
or_false true b h = absurd cc
or_false false b h = (refl, h)

-- ---- what is found in a row

found_value : (p : ColumnDef → Bool) (cols : List ColumnDef) (row : List Value) (v : Value) → AllByRecursion IsValue row → option_map (λ x. x.1) (find (λ x. p x.0) (zip cols row)) ≡ Some v → IsValue v
found_value p [] row v all h = absurd cc
found_value p (col ∷ cols) [] v all h = absurd cc
found_value p (col ∷ cols) (w ∷ row) v all h =
    elim (p col) as (λ b. option_map (λ x. x.1) (cond b (Some (col, w)) (find (λ x. p x.0) (zip cols row))) ≡ Some v → IsValue v) [
      | true ↦ λ e. (let same : w ≡ v = cc in subst IsValue same all.0)
      | false ↦ λ e. found_value p cols row v all.1 e
    ] h

not_null : (v : Value) → is_null v ≡ false → IsNotNull v
not_null Null h = absurd cc
not_null (Int n) h = tt
not_null (Text t) h = tt
not_null (Blob b) h = tt

key_stands : (k : Option ℕ) (p : ℕ) → option_map_or (λ q. nat_eq q p) k false ≡ true → is_some k ≡ true
key_stands None p e = absurd cc
key_stands (Some q) p e = refl

found_not_null : (p : ℕ) (cols : List ColumnDef) (row : List Value) (v : Value) → list_any (lacks true) (zip cols row) ≡ false → option_map (λ x. x.1) (find (λ x. stands_at p x.0) (zip cols row)) ≡ Some v → IsNotNull v
found_not_null p [] row v n h = absurd cc
found_not_null p (col ∷ cols) [] v n h = absurd cc
found_not_null p (col ∷ cols) (w ∷ row) v n h =
    let q = or_false (lacks true (col, w)) (list_any (lacks true) (zip cols row)) n in
    elim (stands_at p col) as (λ b. stands_at p col ≡ b → option_map (λ x. x.1) (cond b (Some (col, w)) (find (λ x. stands_at p x.0) (zip cols row))) ≡ Some v → IsNotNull v) [
      | true ↦ λ s e. (
          let same : w ≡ v = cc in
          let here : is_null w ≡ false = sym (ap (λ b. (b || (not true && col.not_null)) && is_null w) (key_stands col.key p s)) ∙ q.0 in
          subst IsNotNull same (not_null w here))
      | false ↦ λ s e. found_not_null p cols row v q.1 e
    ] refl h

found_some : (p : ColumnDef → Bool) (cols : List ColumnDef) (row : List Value) → length row ≡ length cols → 1 ≤ count_by p cols → is_some (option_map (λ x. x.1) (find (λ x. p x.0) (zip cols row))) ≡ true
found_some p [] row wide some = absurd (omega (arith, some))
found_some p (col ∷ cols) [] wide some = absurd (omega arith)
found_some p (col ∷ cols) (w ∷ row) wide some =
    elim (p col) as (λ b. p col ≡ b → is_some (option_map (λ x. x.1) (cond b (Some (col, w)) (find (λ x. p x.0) (zip cols row)))) ≡ true) [
      | true ↦ λ e. refl
      | false ↦ λ e. (let n = count_no p col cols e in found_some p cols row (omega arith) (omega (arith, some, n)))
    ] refl

-- ---- what is at several places

all_parts : (P : Value → Type 0) (f : ℕ → Option Value) → ((p : ℕ) (v : Value) → f p ≡ Some v → P v) → (ps : List ℕ) → AllByRecursion P (filter_map f ps)
all_parts P f each [] = tt
all_parts P f each (p ∷ ps) =
    elim (f p) as (λ o. f p ≡ o → AllByRecursion P (cons_option o (filter_map f ps))) [
      | None ↦ λ e. all_parts P f each ps
      | Some v ↦ λ e. (each p v e, all_parts P f each ps)
    ] refl

few_parts : (f : ℕ → Option Value) (ps : List ℕ) → length (filter_map f ps) ≤ length ps
few_parts f [] = omega arith
few_parts f (p ∷ ps) =
    let rest = few_parts f ps in
    elim (f p) as (λ o. length (cons_option o (filter_map f ps)) ≤ suc (length ps)) [
      | None ↦ omega (arith, rest)
      | Some v ↦ omega (arith, rest)
    ]

one_part : (f : ℕ → Option Value) (p : ℕ) (ps : List ℕ) → is_some (f p) ≡ true → 1 ≤ length (filter_map f (p ∷ ps))
one_part f p ps h =
    elim (f p) as (λ o. is_some o ≡ true → 1 ≤ length (cons_option o (filter_map f ps))) [
      | None ↦ λ e. absurd cc
      | Some v ↦ λ e. omega arith
    ] h

-- ---- one row

module _ (def : TableDef) (key : has_key def ≡ true) where
  first_once : count_by (stands_at 1) def.columns ≡ 1
  unfolding has_key
  first_once =
      let k = and_true (nat_lt 0 (key_count def)) (places_once def (key_count def)) key in
      let some : 0 < key_count def = grind (arith, nat_tests) in
      place_once def (key_count def) 1 k.1 (omega arith) (omega (arith, some))

  keyed : (row : List Value) → length row ≡ length def.columns → has_null_key def row ≡ false → nat_lt size_limit (length (key_of def row)) ≡ false → AllByRecursion IsValue row → HasKey def row
  unfolding key_of key_values key_part
  keyed row wide nulls short values =
      let once = first_once in
      record {
        key = record {
          some = one_part (key_part def row) 1 (drop 1 key_places) (found_some (stands_at 1) def.columns row wide (omega (arith, once)));
          few = few_parts (key_part def row) key_places;
          no_null = all_parts IsNotNull (key_part def row) (λ p v e. found_not_null p def.columns row v nulls e) key_places;
        };
        values = all_parts IsValue (key_part def row) (λ p v e. found_value (stands_at p) def.columns row v values e) key_places;
        spelled = refl;
        size = grind (arith, nat_tests);
      }

  lacks_more : (cells : List (ColumnDef × Value)) → list_any (lacks false) cells ≡ false → list_any (lacks true) cells ≡ false
  lacks_more [] h = refl
  lacks_more (x ∷ xs) h =
      let q = or_false (lacks false x) (list_any (lacks false) xs) h in
      (λ i. less (is_key_column x.0) x.0.not_null (is_null x.1) q.0 i || lacks_more xs q.1 i) where
        less : (k n v : Bool) → ((k || (not false && n)) && v) ≡ false → ((k || (not true && n)) && v) ≡ false
        less true n v h = h
        less false n v h = refl

  -- ---- rows

  pub all_keyed : (rows : List (List Value)) → AreWide def.columns rows → has_long_key def rows ≡ false → lacks_value def rows ≡ false → AllByRecursion (λ row. AllByRecursion IsValue row) rows → AllByRecursion (HasKey def) rows
  unfolding has_long_key lacks_value
  all_keyed [] wide long nulls values = tt
  all_keyed (row ∷ rows) wide long nulls values =
      let l = or_false _ _ long in
      let n = or_false (has_null def row) (list_any (has_null def) rows) nulls in
      let k : has_null_key def row ≡ false = lacks_more (cells_of def row) n.0 in
      let short : nat_lt size_limit (length (key_of def row)) ≡ false = sym (ap (λ b. not b && nat_lt size_limit (length (key_of def row))) k) ∙ l.0 in
      (keyed row wide.0 k short values.0, all_keyed rows wide.1 l.1 n.1 values.1)
