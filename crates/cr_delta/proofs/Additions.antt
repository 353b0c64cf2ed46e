-- What single steps of a write add.
use Rattle.std.proofs.Common.{◌≡◌, inl, inr, ℕ, ℤ, pos, negsuc, true, false, ◌||◌, List, [], ◌∷◌, ◌++◌, Err, refl, sym, ap, ◌∙◌, arith}
use Rattle.std.specs.Prelude.{◌+ℤ◌, FitsSigned}
use Rattle.std.specs.List.{list_any, flat_map}
use Rattle.std.specs.Int.{w64}
use Rattle.std.specs.Ordering.{is_eq}
use Rattle.std.proofs.lemmas.List.{append-nil}
use Rattle.std.proofs.lemmas.Bool.{le-ltb}
use Rattle.cr_value.specs.declared.value.Value.{Value}
use Rattle.cr_value.specs.Order.{value_cmp}
use Rattle.cr_lattice.specs.declared.change.Change.{Change}
use Rattle.cr_lattice.specs.declared.table.ColumnDef.{ColumnDef}
use Rattle.cr_lattice.specs.declared.table.TableDef.{TableDef}
use Rattle.cr_lattice.specs.Check.{same_bytes, is_key_column}
use Rattle.cr_lattice.specs.Rows.{is_present, column_value}
use Rattle.cr_delta.specs.Delta.{length_of, version_of, row_change, column_change, is_past_limit, passes_limit}
use Rattle.cr_delta.specs.declared.error.DeltaError.{DeltaError}
use Rattle.cr_delta.specs.declared.error.DeltaError.TheVariants.{Memory, VersionLimit}
use Rattle.cr_delta.specs.Adds.{IsNext, Adds}
use Rattle.cr_delta.specs.Steps.{new_cell, changed_cell, removal}
use Rattle.cr_delta.proofs.Among.{split}
use Rattle.cr_delta.proofs.Remains.{passes-nil}

-- an integer of 64 bits does not pass the limit
pub within_limit : (z : ℤ) → FitsSigned w64 z → is_past_limit z ≡ false
within_limit (pos n) f = le-ltb _ _ (let h = f.sfits in omega (arith, h))
within_limit (negsuc n) f = refl

pub one_within : (c : Change) → is_past_limit c.cl ≡ false → is_past_limit c.col_version ≡ false → passes_limit (c ∷ []) ≡ false
unfolding passes_limit
one_within c e f = rw (e, f) refl

pub one_passes : (c : Change) → is_past_limit c.col_version ≡ true → passes_limit (c ∷ []) ≡ true
unfolding passes_limit
one_passes c e = elim (is_past_limit c.cl) as (λ b. ((b || is_past_limit c.col_version) || false) ≡ true) [ true ↦ refl | false ↦ rw e refl ]

-- nothing is added
pub adds_nothing : (out more : List Change) → more ≡ [] → (out ≡ out ++ more) × (passes_limit more ≡ false)
adds_nothing out more e = (sym (append-nil out) ∙ ap (λ zs. out ++ zs) (sym e), ap passes_limit e ∙ passes-nil)

pub changed_key : (def : TableDef) (site : List ℕ) (kept : List Change) (pk : List ℕ) (cell : ColumnDef × Value) → is_key_column cell.0 ≡ true → changed_cell def site kept pk cell ≡ []
changed_key def site kept pk cell e = rw e refl

pub changed_same : (def : TableDef) (site : List ℕ) (kept : List Change) (pk : List ℕ) (cell : ColumnDef × Value) → is_key_column cell.0 ≡ false
    → is_eq (value_cmp cell.1 (column_value kept def.name pk cell.0)) ≡ true → changed_cell def site kept pk cell ≡ []
changed_same def site kept pk cell e f = rw (e, f) refl

pub changed_other : (def : TableDef) (site : List ℕ) (kept : List Change) (pk : List ℕ) (cell : ColumnDef × Value) → is_key_column cell.0 ≡ false
    → is_eq (value_cmp cell.1 (column_value kept def.name pk cell.0)) ≡ false
    → changed_cell def site kept pk cell ≡ column_change def site pk (length_of kept def.name pk) cell (version_of kept def.name pk cell.0.name +ℤ pos 1) ∷ []
changed_other def site kept pk cell e f = rw (e, f) refl

-- ---- where a step stops

pub stop_next : (e : DeltaError) (n : ℤ) (old new more : List Change) → IsNext (Err e) n → (is_past_limit (n +ℤ pos 1) ≡ true → passes_limit more ≡ true) → Adds (Err e) old new more
stop_next Memory n old new more h f = tt
stop_next VersionLimit n old new more h f = f h

pub stop_adds : (e : DeltaError) (o p m old new more : List Change) → Adds (Err e) o p m → (passes_limit m ≡ true → passes_limit more ≡ true) → Adds (Err e) old new more
stop_adds Memory o p m old new more h f = tt
stop_adds VersionLimit o p m old new more h f = f h

-- ---- a kept change of a row that may go

pub removal_goes : (def : TableDef) (site : List ℕ) (keys : List (List ℕ)) (c : Change) → is_present def.name c ≡ true → list_any (λ k. same_bytes k c.pk) keys ≡ false
    → removal def site keys c ≡ row_change def site c.pk (c.cl +ℤ pos 1) ∷ []
removal_goes def site keys c e f = rw (e, f) refl

pub removal_gone : (def : TableDef) (site : List ℕ) (keys : List (List ℕ)) (c : Change) → is_present def.name c ≡ false → removal def site keys c ≡ []
removal_gone def site keys c e = rw e refl

pub removal_stays : (def : TableDef) (site : List ℕ) (keys : List (List ℕ)) (c : Change) → is_present def.name c ≡ true → list_any (λ k. same_bytes k c.pk) keys ≡ true → removal def site keys c ≡ []
removal_stays def site keys c e f = rw (e, f) refl

-- ---- a row that comes

pub passes_first : (c : Change) (cs : List Change) → is_past_limit c.cl ≡ true → passes_limit (c ∷ cs) ≡ true
unfolding passes_limit
passes_first c cs e = rw e refl

within_first : (c : Change) (cs : List Change) → is_past_limit c.cl ≡ false → is_past_limit c.col_version ≡ false → passes_limit cs ≡ false → passes_limit (c ∷ cs) ≡ false
unfolding passes_limit
within_first c cs e f g = rw (e, f) g

new_within : (def : TableDef) (site pk : List ℕ) (cl : ℤ) (cells : List (ColumnDef × Value)) → is_past_limit cl ≡ false → passes_limit (flat_map (new_cell def site pk cl) cells) ≡ false
new_within def site pk cl [] e = passes-nil
new_within def site pk cl (x ∷ xs) e =
    let rest = new_within def site pk cl xs e in
    elim (split (is_key_column x.0)) [
      | inl key ↦ rw key rest
      | inr value ↦ rw value (within_first (column_change def site pk cl x (pos 1)) _ e refl rest)
    ]

pub arrival_within : (def : TableDef) (site pk : List ℕ) (cl : ℤ) (cells : List (ColumnDef × Value)) → is_past_limit cl ≡ false → passes_limit (row_change def site pk cl ∷ flat_map (new_cell def site pk cl) cells) ≡ false
arrival_within def site pk cl cells e = within_first (row_change def site pk cl) _ e e (new_within def site pk cl cells e)

-- ---- where the whole stops

pub stopped : (e : DeltaError) (o p m : List Change) → e ≡ VersionLimit → Adds (Err e) o p m → passes_limit m ≡ true
stopped Memory o p m is h = absurd cc
stopped VersionLimit o p m is h = h
