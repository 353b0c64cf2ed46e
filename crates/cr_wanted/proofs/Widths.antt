-- The rows that a write wants are as wide as those that are shown.
use Rattle.std.proofs.Common.{◌≡◌, ◌∙◌, ℕ, zero, suc, Bool, true, false, not, cond, List, [], ◌∷◌, ◌++◌, length, map, Option, Some, None, option_map, refl, ap, subst}
use Rattle.std.proofs.lemmas.List.{length-map}
use Rattle.std.specs.List.{AllByRecursion}
use Rattle.std.specs.Option.{option_and_then}
use Rattle.cr_value.specs.declared.value.Value.{Value}
use Rattle.cr_lattice.specs.declared.change.Change.{Change}
use Rattle.cr_lattice.specs.declared.table.ColumnDef.{ColumnDef}
use Rattle.cr_lattice.specs.declared.table.TableDef.{TableDef}
use Rattle.cr_lattice.specs.Rows.{default_of, cell, row, rows, alive_keys}
use Rattle.cr_bags.specs.Bags.{joins, gather, each, single}
use Rattle.cr_query.specs.Query.{Row, Meaning, holds}
use Rattle.cr_query.specs.Queries.{Insert, Update, Delete}
use Rattle.cr_query.specs.Writes.{put, put_all, defaults, inserted, inserted_rows, assigned, updated, wanted_by_insert, wanted_by_update, wanted_by_delete}
use Rattle.cr_wanted.specs.Judged.{AreWide}

length-put : (cols : List ColumnDef) (place : ℕ) (v : Value) (row : Row) → length (put cols place v row) ≡ length row
length-put [] place v row = refl
length-put (col ∷ cols) place v [] = refl
length-put (col ∷ cols) zero v (old ∷ row) = refl
length-put (col ∷ cols) (suc place) v (old ∷ row) = ap {B = ℕ} suc (length-put cols place v row)

length-put_all : (cols : List ColumnDef) (places : List ℕ) (vs row : Row) → length (put_all cols places vs row) ≡ length row
length-put_all cols [] vs row = refl
length-put_all cols (p ∷ ps) [] row = refl
length-put_all cols (p ∷ ps) (v ∷ vs) row = length-put_all cols ps vs (put cols p v row) ∙ length-put cols p v row

-- ---- what holds of each part holds of what is gathered

pub all-append : {Y : Type 0} (P : Y → Type 0) (xs ys : List Y) → AllByRecursion P xs → AllByRecursion P ys → AllByRecursion P (xs ++ ys)
all-append P [] ys a b = b
all-append P (x ∷ xs) ys a b = (a.0, all-append P xs ys a.1 b)

gathered : {X Y : Type 0} (Q : X → Type 0) (P : Y → Type 0) (f : X → Option (List Y)) → ((x : X) (ys : List Y) → Q x → f x ≡ Some ys → AllByRecursion P ys) → (xs : List X) (ys : List Y) → AllByRecursion Q xs → gather f xs ≡ Some ys → AllByRecursion P ys
gathered Q P f part [] ys all h = let e : [] ≡ ys = cc in subst (AllByRecursion P) e tt
gathered {Y = Y} Q P f part (x ∷ xs) ys all h =
    elim (f x) as (λ o. f x ≡ o → joins o (gather f xs) ≡ Some ys → AllByRecursion P ys) [
      | None ↦ λ e k. absurd cc
      | Some ws ↦ λ e.
          elim (gather f xs) as (λ p. gather f xs ≡ p → joins (Some ws) p ≡ Some ys → AllByRecursion P ys) [
            | None ↦ λ d k. absurd cc
            | Some zs ↦ λ d k. (let is : ws ++ zs ≡ ys = cc in subst (AllByRecursion P) is (all-append P ws zs (part x ws all.0 e) (gathered Q P f part xs zs all.1 d)))
          ] refl
    ] refl h

one_each : {X Y : Type 0} (Q : X → Type 0) (P : Y → Type 0) (f : X → Option Y) → ((x : X) (y : Y) → Q x → f x ≡ Some y → P y) → (x : X) (ys : List Y) → Q x → option_map single (f x) ≡ Some ys → AllByRecursion P ys
one_each Q P f part x ys q h =
    elim (f x) as (λ o. f x ≡ o → option_map single o ≡ Some ys → AllByRecursion P ys) [
      | None ↦ λ e k. absurd cc
      | Some y ↦ λ e k. (let is : y ∷ [] ≡ ys = cc in subst (AllByRecursion P) is (part x y q e, tt))
    ] refl h

mapped : {X Y : Type 0} (P : Y → Type 0) (g : X → Y) → ((x : X) → P (g x)) → (o : Option X) (y : Y) → option_map g o ≡ Some y → P y
mapped P g each None y h = absurd cc
mapped P g each (Some x) y h = let is : g x ≡ y = cc in subst P is (each x)

none_asked : {X : Type 0} (xs : List X) → AllByRecursion (λ x. Unit {0}) xs
none_asked [] = tt
none_asked (x ∷ xs) = (tt, none_asked xs)

-- ---- rows

abbrev IsWide : List ColumnDef → Row → Type 0
IsWide cols r = length r ≡ length cols

module _ {E : Type 0} (m : Meaning E) (cols : List ColumnDef) where
  inserted_wide : (places : List ℕ) (es : List E) (r : Row) → inserted m cols places es ≡ Some r → IsWide cols r
  inserted_wide places es r h = mapped (IsWide cols) (λ vs. put_all cols places vs (defaults cols)) (λ vs. length-put_all cols places vs (defaults cols) ∙ length-map cols default_of) (each (λ e. m.value e []) es) r h

  pub brought_wide : (w : Insert E) (more : List Row) → inserted_rows m cols w ≡ Some more → AreWide cols more
  brought_wide w more h =
      elim w.is_ignored as (λ b. cond b (Some []) (each (inserted m cols w.places) w.tuples) ≡ Some more → AreWide cols more) [
        | true ↦ λ k. (let is : [] ≡ more = cc in subst (AreWide cols) is tt)
        | false ↦ λ k.
            gathered (λ es. Unit {0}) (IsWide cols) (λ es. option_map single (inserted m cols w.places es))
            (λ es rs u k. one_each (λ es. Unit {0}) (IsWide cols) (inserted m cols w.places) (λ es r u e. inserted_wide w.places es r e) es rs tt k) w.tuples more (none_asked w.tuples) k
      ] h

  pub insert_wide : (w : Insert E) (rows out : List Row) → AreWide cols rows → wanted_by_insert m cols w rows ≡ Some out → AreWide cols out
  insert_wide w rows out wide h =
      elim (inserted_rows m cols w) as (λ o. inserted_rows m cols w ≡ o → option_map (λ more. rows ++ more) o ≡ Some out → AreWide cols out) [
        | None ↦ λ e k. absurd cc
        | Some more ↦ λ e k. (let is : rows ++ more ≡ out = cc in subst (AreWide cols) is (all-append (IsWide cols) rows more wide (brought_wide w more e)))
      ] refl h

  updated_wide : (w : Update E) (r new : Row) → IsWide cols r → updated m cols w r ≡ Some new → IsWide cols new
  updated_wide w r new wide h =
      elim (holds m w.terms r) as (λ o. option_and_then (λ b. cond b (assigned m cols w.assignments r) (Some r)) o ≡ Some new → IsWide cols new) [
        | None ↦ λ k. absurd cc
        | Some b ↦ by b
      ] h where
        by : (b : Bool) → cond b (assigned m cols w.assignments r) (Some r) ≡ Some new → IsWide cols new
        by true k = mapped (IsWide cols) (λ vs. put_all cols (map (λ a. a.place) w.assignments) vs r) (λ vs. length-put_all cols (map (λ a. a.place) w.assignments) vs r ∙ wide) (each (λ a. m.value a.expr r) w.assignments) new k
        by false k = let is : r ≡ new = cc in subst (IsWide cols) is wide

  pub update_wide : (w : Update E) (rows out : List Row) → AreWide cols rows → wanted_by_update m cols w rows ≡ Some out → AreWide cols out
  update_wide w rows out wide h =
      gathered (IsWide cols) (IsWide cols) (λ r. option_map single (updated m cols w r)) (λ r rs q k. one_each (IsWide cols) (IsWide cols) (updated m cols w) (updated_wide w) r rs q k) rows out wide h

  kept_wide : (w : Delete E) (r : Row) (rs : List Row) → IsWide cols r → option_map (λ b. cond b (single r) []) (option_map not (holds m w.terms r)) ≡ Some rs → AreWide cols rs
  kept_wide w r rs wide h = mapped (AreWide cols) (λ b. cond b (single r) []) by (option_map not (holds m w.terms r)) rs h where
    by : (b : Bool) → AreWide cols (cond b (single r) [])
    by true = (wide, tt)
    by false = tt

  pub delete_wide : (w : Delete E) (rows out : List Row) → AreWide cols rows → wanted_by_delete m w rows ≡ Some out → AreWide cols out
  delete_wide w rows out wide h = gathered (IsWide cols) (IsWide cols) (λ r. option_map (λ b. cond b (single r) []) (option_map not (holds m w.terms r))) (kept_wide w) rows out wide h

all-map : (kept : List Change) (def : TableDef) (keys : List (List ℕ)) → AreWide def.columns (map (row kept def) keys)
unfolding row
all-map kept def [] = tt
all-map kept def (k ∷ ks) = (length-map def.columns (cell kept def.name k), all-map kept def ks)

pub shown_wide : (kept : List Change) (def : TableDef) → AreWide def.columns (rows kept def)
unfolding rows
shown_wide kept def = all-map kept def (alive_keys kept def.name)
