-- What columns take of values fits them, and so do the rows that a write wants.
use Rattle.std.proofs.Common.{◌≡◌, ◌∙◌, ℕ, zero, suc, Bool, true, false, not, cond, List, [], ◌∷◌, ◌++◌, length, map, Option, Some, None, option_map, refl, ap, subst}
use Rattle.std.proofs.lemmas.List.{length-map}
use Rattle.std.specs.List.{AllByRecursion}
use Rattle.std.specs.Option.{option_and_then}
use Rattle.cr_value.specs.declared.value.Value.{Value}
use Rattle.cr_lattice.specs.declared.table.ColumnDef.{ColumnDef}
use Rattle.cr_lattice.specs.declared.table.TableDef.{TableDef}
use Rattle.cr_lattice.specs.Rows.{default_of}
use Rattle.cr_bags.specs.Bags.{joins, gather, each, single}
use Rattle.cr_query.specs.Query.{Row, Meaning, holds}
use Rattle.cr_query.specs.Queries.{Insert, Update, Delete}
use Rattle.cr_query.specs.Writes.{put, put_all, defaults, inserted, inserted_rows, assigned, updated, wanted_by_insert, wanted_by_update, wanted_by_delete}
use Rattle.cr_taken.specs.Taken.{IsFitting, AreFitting}
use Rattle.cr_taken.proofs.Members.{all_append}
use Rattle.cr_taken.proofs.Shown.{Fixed, applied_fixed, zip_fixed}

-- ---- one row

put_fixed : (cols : List ColumnDef) (place : ℕ) (v : Value) (row : Row) → Fixed cols row → Fixed cols (put cols place v row)
put_fixed [] place v row all = all
put_fixed (col ∷ cols) place v [] all = tt
put_fixed (col ∷ cols) zero v (old ∷ row) all = (applied_fixed col.affinity v, all.1)
put_fixed (col ∷ cols) (suc place) v (old ∷ row) all = (all.0, put_fixed cols place v row all.1)

put_all_fixed : (cols : List ColumnDef) (places : List ℕ) (vs row : Row) → Fixed cols row → Fixed cols (put_all cols places vs row)
put_all_fixed cols [] vs row all = all
put_all_fixed cols (p ∷ ps) [] row all = all
put_all_fixed cols (p ∷ ps) (v ∷ vs) row all = put_all_fixed cols ps vs (put cols p v row) (put_fixed cols p v row all)

length-put : (cols : List ColumnDef) (place : ℕ) (v : Value) (row : Row) → length (put cols place v row) ≡ length row
length-put [] place v row = refl
length-put (col ∷ cols) place v [] = refl
length-put (col ∷ cols) zero v (old ∷ row) = refl
length-put (col ∷ cols) (suc place) v (old ∷ row) = ap {B = ℕ} suc (length-put cols place v row)

length-put_all : (cols : List ColumnDef) (places : List ℕ) (vs row : Row) → length (put_all cols places vs row) ≡ length row
length-put_all cols [] vs row = refl
length-put_all cols (p ∷ ps) [] row = refl
length-put_all cols (p ∷ ps) (v ∷ vs) row = length-put_all cols ps vs (put cols p v row) ∙ length-put cols p v row

pub put_fitting : (def : TableDef) (places : List ℕ) (vs row : Row) → IsFitting def row → IsFitting def (put_all def.columns places vs row)
put_fitting def places vs row f = record { width = length-put_all def.columns places vs row ∙ f.width; fixed = put_all_fixed def.columns places vs row f.fixed }

pub defaults_fitting : (def : TableDef) → IsFitting def (defaults def.columns)
defaults_fitting def = record { width = length-map def.columns default_of; fixed = zip_fixed default_of def.columns (λ col m. applied_fixed col.affinity col.default) }

-- ---- what holds of each part holds of what is gathered

gathered : {X Y : Type 0} (Q : X → Type 0) (P : Y → Type 0) (f : X → Option (List Y)) → ((x : X) (ys : List Y) → Q x → f x ≡ Some ys → AllByRecursion P ys) → (xs : List X) (ys : List Y) → AllByRecursion Q xs → gather f xs ≡ Some ys → AllByRecursion P ys
gathered Q P f part [] ys all h = let e : [] ≡ ys = cc in subst (AllByRecursion P) e tt
gathered {Y = Y} Q P f part (x ∷ xs) ys all h =
    elim (f x) as (λ o. f x ≡ o → joins o (gather f xs) ≡ Some ys → AllByRecursion P ys) [
      | None ↦ λ e k. absurd cc
      | Some ws ↦ λ e.
          elim (gather f xs) as (λ p. gather f xs ≡ p → joins (Some ws) p ≡ Some ys → AllByRecursion P ys) [
            | None ↦ λ d k. absurd cc
            | Some zs ↦ λ d k. (let is : ws ++ zs ≡ ys = cc in subst (AllByRecursion P) is (all_append P ws zs (part x ws all.0 e) (gathered Q P f part xs zs all.1 d)))
          ] refl
    ] refl h

one_each : {X Y : Type 0} (Q : X → Type 0) (P : Y → Type 0) (f : X → Option Y) → ((x : X) (y : Y) → Q x → f x ≡ Some y → P y) → (x : X) (ys : List Y) → Q x → option_map single (f x) ≡ Some ys → AllByRecursion P ys
one_each Q P f part x ys q h =
    elim (f x) as (λ o. f x ≡ o → option_map single o ≡ Some ys → AllByRecursion P ys) [
      | None ↦ λ e k. absurd cc
      | Some y ↦ λ e k. (let is : y ∷ [] ≡ ys = cc in subst (AllByRecursion P) is (part x y q e, tt))
    ] refl h

each_all : {X Y : Type 0} (Q : X → Type 0) (P : Y → Type 0) (f : X → Option Y) → ((x : X) (y : Y) → Q x → f x ≡ Some y → P y) → (xs : List X) (ys : List Y) → AllByRecursion Q xs → each f xs ≡ Some ys → AllByRecursion P ys
each_all Q P f part xs ys all h = gathered Q P (λ x. option_map single (f x)) (λ x zs q k. one_each Q P f part x zs q k) xs ys all h

mapped : {X Y : Type 0} (Q : X → Type 0) (P : Y → Type 0) (g : X → Y) → ((x : X) → Q x → P (g x)) → (o : Option X) (y : Y) → ((x : X) → o ≡ Some x → Q x) → option_map g o ≡ Some y → P y
mapped Q P g one None y q h = absurd cc
mapped Q P g one (Some x) y q h = let is : g x ≡ y = cc in subst P is (one x (q x refl))

-- what holds of everything holds of each
pub all_of : {X : Type 0} (P : X → Type 0) → ((x : X) → P x) → (xs : List X) → AllByRecursion P xs
all_of P p [] = tt
all_of P p (x ∷ xs) = (p x, all_of P p xs)

both : {X : Type 0} (P Q : X → Type 0) (xs : List X) → AllByRecursion P xs → AllByRecursion Q xs → AllByRecursion (λ x. P x × Q x) xs
both P Q [] all more = tt
both P Q (x ∷ xs) all more = ((all.0, more.0), both P Q xs all.1 more.1)

-- ---- what is kept of a row as columns take values of which V holds is kept by a write whose expressions give such

module _ {E : Type 0} (m : Meaning E) (cols : List ColumnDef) (V : Value → Type 0) (P : Row → Type 0)
    (fresh : P (defaults cols))
    (takes : (places : List ℕ) (vs row : Row) → AllByRecursion V vs → P row → P (put_all cols places vs row)) where
  abbrev pub Gives : Row → E → Type 0
  Gives row e = (v : Value) → m.value e row ≡ Some v → V v

  inserted_all : (places : List ℕ) (es : List E) (r : Row) → AllByRecursion (Gives []) es → inserted m cols places es ≡ Some r → P r
  inserted_all places es r given h =
      mapped (AllByRecursion V) P (λ vs. put_all cols places vs (defaults cols)) (λ vs all. takes places vs (defaults cols) all fresh) (each (λ e. m.value e []) es) r
      (λ vs k. each_all (Gives []) V (λ e. m.value e []) (λ e v g d. g v d) es vs given k) h

  pub brought_all : (w : Insert E) (more : List Row) → AllByRecursion (λ es. AllByRecursion (Gives []) es) w.tuples → inserted_rows m cols w ≡ Some more → AllByRecursion P more
  brought_all w more given h =
      elim w.is_ignored as (λ b. cond b (Some []) (each (inserted m cols w.places) w.tuples) ≡ Some more → AllByRecursion P more) [
        | true ↦ λ k. (let is : [] ≡ more = cc in subst (AllByRecursion P) is tt)
        | false ↦ λ k. each_all (λ es. AllByRecursion (Gives []) es) P (inserted m cols w.places) (λ es r g e. inserted_all w.places es r g e) w.tuples more given k
      ] h

  pub insert_all : (w : Insert E) (rows out : List Row) → AllByRecursion (λ es. AllByRecursion (Gives []) es) w.tuples → AllByRecursion P rows → wanted_by_insert m cols w rows ≡ Some out → AllByRecursion P out
  insert_all w rows out given all h =
      elim (inserted_rows m cols w) as (λ o. inserted_rows m cols w ≡ o → option_map (λ more. rows ++ more) o ≡ Some out → AllByRecursion P out) [
        | None ↦ λ e k. absurd cc
        | Some more ↦ λ e k. (let is : rows ++ more ≡ out = cc in subst (AllByRecursion P) is (all_append P rows more all (brought_all w more given e)))
      ] refl h

  -- where the row is changed
  abbrev pub Changes : Update E → Row → Type 0
  Changes w r = holds m w.terms r ≡ Some true → AllByRecursion (λ a. Gives r a.expr) w.assignments

  updated_all : (w : Update E) (r new : Row) → P r → Changes w r → updated m cols w r ≡ Some new → P new
  updated_all w r new p given h =
      elim (holds m w.terms r) as (λ o. holds m w.terms r ≡ o → option_and_then (λ b. cond b (assigned m cols w.assignments r) (Some r)) o ≡ Some new → P new) [
        | None ↦ λ e k. absurd cc
        | Some b ↦ by b
      ] refl h where
        by : (b : Bool) → holds m w.terms r ≡ Some b → cond b (assigned m cols w.assignments r) (Some r) ≡ Some new → P new
        by true e k =
            mapped (AllByRecursion V) P (λ vs. put_all cols (map (λ a. a.place) w.assignments) vs r) (λ vs all. takes (map (λ a. a.place) w.assignments) vs r all p) (each (λ a. m.value a.expr r) w.assignments) new
            (λ vs d. each_all (λ a. Gives r a.expr) V (λ a. m.value a.expr r) (λ a v g d. g v d) w.assignments vs (given e) d) k
        by false e k = let is : r ≡ new = cc in subst P is p

  pub update_all : (w : Update E) (rows out : List Row) → AllByRecursion (Changes w) rows → AllByRecursion P rows → wanted_by_update m cols w rows ≡ Some out → AllByRecursion P out
  update_all w rows out given all h = each_all (λ r. P r × Changes w r) P (updated m cols w) (λ r new p k. updated_all w r new p.0 p.1 k) rows out (both P (Changes w) rows all given) h

-- DELETE leaves some of the rows
pub delete_all : {E : Type 0} (m : Meaning E) (P : Row → Type 0) (w : Delete E) (rows out : List Row) → AllByRecursion P rows → wanted_by_delete m w rows ≡ Some out → AllByRecursion P out
delete_all m P w rows out all h =
    gathered P P (λ r. option_map (λ b. cond b (single r) []) (option_map not (holds m w.terms r)))
    (λ r rs p k. mapped (λ b. Unit {0}) (AllByRecursion P) (λ b. cond b (single r) []) (λ b u. one r p b) (option_map not (holds m w.terms r)) rs (λ b e. tt) k) rows out all h
  where
    one : (r : Row) → P r → (b : Bool) → AllByRecursion P (cond b (single r) [])
    one r p true = (p, tt)
    one r p false = tt

-- ---- fitting rows

module _ {E : Type 0} (m : Meaning E) (def : TableDef) where
  pub insert_fits : (w : Insert E) (rows out : List Row) → AreFitting def rows → wanted_by_insert m def.columns w rows ≡ Some out → AreFitting def out
  insert_fits w rows out all h =
      insert_all m def.columns (λ v. Unit {0}) (IsFitting def) (defaults_fitting def) (λ places vs row u f. put_fitting def places vs row f) w rows out
      (all_of (λ es. AllByRecursion (λ e. (v : Value) → m.value e [] ≡ Some v → Unit {0}) es) (λ es. all_of (λ e. (v : Value) → m.value e [] ≡ Some v → Unit {0}) (λ e v k. tt) es) w.tuples) all h

  pub update_fits : (w : Update E) (rows out : List Row) → AreFitting def rows → wanted_by_update m def.columns w rows ≡ Some out → AreFitting def out
  update_fits w rows out all h =
      update_all m def.columns (λ v. Unit {0}) (IsFitting def) (defaults_fitting def) (λ places vs row u f. put_fitting def places vs row f) w rows out
      (all_of (λ r. holds m w.terms r ≡ Some true → AllByRecursion (λ a. (v : Value) → m.value a.expr r ≡ Some v → Unit {0}) w.assignments)
      (λ r e. all_of (λ a. (v : Value) → m.value a.expr r ≡ Some v → Unit {0}) (λ a v k. tt) w.assignments) rows) all h

  pub delete_fits : (w : Delete E) (rows out : List Row) → AreFitting def rows → wanted_by_delete m w rows ≡ Some out → AreFitting def out
  delete_fits w rows out all h = delete_all m (IsFitting def) w rows out all h
