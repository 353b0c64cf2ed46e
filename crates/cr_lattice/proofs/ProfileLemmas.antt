-- Long defaults, the places of a key, and distinct names.
use Rattle.std.proofs.Common.{◌≡◌, ℕ, zero, suc, ◌≤◌, ◌<◌, ◌^◌, eqb, Bool, true, false, List, [], ◌∷◌, ◌++◌, length, ℤ, None, is_some, Result, Ok, Err, refl, sym, ap, ◌∙◌, arith}
use Rattle.std.specs.Prelude.{count_by, is_ok}
use Rattle.std.specs.List.{AllByRecursion}
use Rattle.std.specs.Int.Signed.{mag}
use Rattle.std.specs.Result.{result_ok}
use Rattle.std.specs.Fmt.{signed_decimal}
use Rattle.std.proofs.lemmas.Fmt.{length_signed_le}
use Rattle.std.proofs.lemmas.Bool.{cases_lt, le-ltb, leb-true}
use Rattle.std.proofs.lemmas.List.{append-nil}
use Rattle.std.proofs.Common.{inl, inr}
use Rattle.cr_value.specs.Packing.{packed}
use Rattle.cr_value.specs.declared.value.Value.TheVariants.{Null, Int, Text, Blob}
use Rattle.cr_value.specs.declared.affinity.Affinity.{Affinity}
use Rattle.cr_value.specs.declared.affinity.Affinity.TheVariants as affinity
use Rattle.cr_lattice.specs.declared.table.TableDef.{TableDef}
use Rattle.cr_lattice.specs.Check.{stands_at}
use Rattle.cr_lattice.specs.Faults.{first_failed}
use Rattle.cr_lattice.specs.Profile.{is_too_long, key_count, places_once, has_key, has_row_cid, rules_of, profile_fault}
use Rattle.cr_lattice.proofs.Tested.{and_false, not_true}

pub is_ok-is_some : {T E : Type 0} (r : Result T E) → is_ok r ≡ is_some (result_ok r)
is_ok-is_some (Ok x) = refl
is_ok-is_some (Err e) = refl

pub null_fits : (a : Affinity) → is_too_long a Null ≡ false
null_fits affinity.Integer = refl
null_fits affinity.Text = refl
null_fits affinity.Blob = refl
null_fits affinity.Numeric = refl

pub blob_fits : (a : Affinity) (b : List ℕ) → is_too_long a (Blob b) ≡ is_too_long affinity.Blob (Blob b)
blob_fits affinity.Integer b = refl
blob_fits affinity.Text b = refl
blob_fits affinity.Blob b = refl
blob_fits affinity.Numeric b = refl

-- a text no longer than a number is
short_fits : (t : List ℕ) → length t ≤ 20 → is_too_long affinity.Blob (Text t) ≡ false
short_fits t short = let len : length (t ++ []) ≡ length t = ap length (append-nil t) in le-ltb 1000000 (length (packed (Text t ∷ []))) (omega arith)

pub int_fits : (a : Affinity) (n : ℤ) → mag n < 2 ^ 63 → is_too_long a (Int n) ≡ false
int_fits affinity.Integer n small = refl
int_fits affinity.Text n small = short_fits (signed_decimal n) (length_signed_le 19 n (omega arith) small)
int_fits affinity.Blob n small = refl
int_fits affinity.Numeric n small = refl

-- a place below that is not exactly one column's
pub not_once : (def : TableDef) (n count : ℕ) → n < count → eqb (count_by (stands_at (suc n)) def.columns) 1 ≡ false → places_once def count ≡ false
not_once def n zero lt e = absurd (omega arith)
not_once def n (suc m) lt e =
    elim (cases_lt n m) [
      | inl below ↦ rw (not_once def n m below e) (and_false _)
      | inr not_below ↦ (let same : n ≡ m = omega arith in rw (ap (λ k. eqb (count_by (stands_at (suc k)) def.columns) 1) (sym same) ∙ e) refl)
    ]

-- ---- what a definition has that breaks no rule

all_passed : {F : Type 0} (ts : List (Bool × F)) → first_failed ts ≡ None → AllByRecursion (λ t. t.0 ≡ true) ts
all_passed [] e = tt
all_passed ((true, f) ∷ ts) e = (refl, all_passed ts e)
all_passed ((false, f) ∷ ts) e = absurd cc

pub accepted_key : (def : TableDef) → profile_fault def ≡ None → has_key def ≡ true
unfolding profile_fault
accepted_key def e = (all_passed (rules_of def) e).0

pub accepted_row : (def : TableDef) → profile_fault def ≡ None → has_row_cid def ≡ false
unfolding profile_fault
accepted_row def e = not_true _ (all_passed (rules_of def) e).1.1.0

pub accepted_few : (def : TableDef) → profile_fault def ≡ None → key_count def ≤ 8
unfolding profile_fault
accepted_few def e = leb-true _ _ (all_passed (rules_of def) e).1.1.1.1.1.0
