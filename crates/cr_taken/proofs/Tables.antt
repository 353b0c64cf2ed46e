-- What a sound store says of a table that it replicates, and of the changes that it keeps of it.
use Rattle.std.proofs.Common.{◌≡◌, ◌⊎◌, inl, inr, Bool, true, false, not, ◌&&◌, ◌≤◌, nat_lt, List, [], ◌∷◌, ◌++◌, Some, None, refl, sym, ap, ◌∙◌}
use Rattle.std.specs.Prelude.{find}
use Rattle.std.specs.List.{AllByRecursion}
use Rattle.std.specs.Option.{option_map}
use Rattle.std.proofs.lemmas.Bool.{ltb-false}
use Rattle.cr_value.specs.Packing.{size_limit}
use Rattle.cr_lattice.specs.declared.change.Change.{Change}
use Rattle.cr_lattice.specs.declared.check.BadChange.{BadChange}
use Rattle.cr_lattice.specs.declared.check.BadChange.TheVariants.{Size, Table as NoTable, Key, Cid, Length}
use Rattle.cr_lattice.specs.declared.table.Table.{Table}
use Rattle.cr_lattice.specs.declared.table.TableDef.{TableDef}
use Rattle.cr_value.specs.Size.{value_len}
use Rattle.cr_lattice.specs.Check.{same_bytes, is_too_big, is_key, is_cid, has_lengths, first_failed, fault_of, IsWellFormed}
use Rattle.cr_lattice.specs.Keep.{join}
use Rattle.cr_lattice.proofs.KeepLaws.{kept_from, keep_keep}
use Rattle.cr_lattice.proofs.ProfileLemmas.{accepted_key, accepted_row, accepted_few}
use Rattle.cr_lattice.proofs.Tested.{split, and_false, or_false}
use Rattle.cr_cells.specs.Holding.{Holding, IsSound, kept_of}
use Rattle.cr_cells.specs.Tables.{is_named, is_table_of, IsFit, IsStored, fault_in, AreWellFormed, first_fault, earlier}
use Rattle.cr_delta.specs.Wanted.{IsWritable}
use Rattle.cr_delta.specs.Wanted as wanted
use Rattle.cr_delta.proofs.Among.{member_has, In_Among, Among_In}
use Rattle.cr_delta.proofs.Members.{same_is, is_same}
use Rattle.cr_taken.specs.Taken.{replicated, Replicates, AreKept}
use Rattle.cr_taken.proofs.Members.{all_by, all_append, all_members, some_is, found_member}

-- ---- the table of a change

module _ (def : TableDef) where
  of_table : (tables : List Table) (c : Change) → find (is_named def.name) tables ≡ Some (replicated def) → c.table ≡ def.name → find (is_table_of c) tables ≡ Some (replicated def)
  of_table [] c e same = absurd cc
  of_table (t ∷ ts) c e same =
      elim (split (is_named def.name t)) [
        | inl so ↦ (
            let here : t ≡ replicated def = some_is t (replicated def) (rw so at e) in
            let of : is_table_of c t ≡ true = ap (is_table_of c) here ∙ is_same def.name c.table (sym same) in
            rw of (ap Some here))
        | inr not_so ↦ (
            let of : is_table_of c t ≡ false = ap (λ n. t.is_replicated && same_bytes t.definition.name n) same ∙ ap (λ b. t.is_replicated && b) not_so ∙ and_false t.is_replicated in
            rw of (of_table ts c (rw not_so at e) same))
      ]

  -- a change of the table is judged by its definition
  pub fault_is : (tables : List Table) (c : Change) → find (is_named def.name) tables ≡ Some (replicated def) → c.table ≡ def.name → fault_in tables c ≡ fault_of c (Some def)
  unfolding fault_in
  fault_is tables c e same = ap (λ t. fault_of c (option_map (λ t. t.definition) t)) (of_table tables c e same)

-- ---- what a change has that is well formed

passed : (b : Bool) (x : BadChange) (ts : List (Bool × BadChange)) → first_failed ((b, x) ∷ ts) ≡ None → (b ≡ true) × (first_failed ts ≡ None)
passed true x ts e = (refl, e)
passed false x ts e = absurd cc

pub well_formed_parts : (c : Change) (def : TableDef) → IsWellFormed c def → (same_bytes c.table def.name ≡ true) × (is_key def c.pk ≡ true)
unfolding fault_of
well_formed_parts c def e =
    let lengths = (has_lengths c, Length) ∷ [] in
    let cid = (is_cid def c.cid, Cid) ∷ lengths in
    let key = (is_key def c.pk, Key) ∷ cid in
    let a = passed (not (is_too_big (Some def) c)) Size ((same_bytes c.table def.name, NoTable) ∷ key) e in
    let b = passed (same_bytes c.table def.name) NoTable key a.1 in
    let d = passed (is_key def c.pk) Key cid b.1 in
    (b.0, d.0)

not_big : (b : Bool) → not b ≡ true → b ≡ false
not_big true e = absurd cc
not_big false e = refl

-- its value is no longer than a change may carry
pub small_change : (c : Change) (def : TableDef) → IsWellFormed c def → value_len c.val ≤ size_limit
unfolding fault_of is_too_big
small_change c def e =
    let rest = (same_bytes c.table def.name, NoTable) ∷ (is_key def c.pk, Key) ∷ (is_cid def c.cid, Cid) ∷ (has_lengths c, Length) ∷ [] in
    let size = not_big (is_too_big (Some def) c) (passed (not (is_too_big (Some def) c)) Size rest e).0 in
    ltb-false _ _ (or_false (nat_lt size_limit (value_len c.val)) _ size).0

-- ---- what is kept

module _ (tables : List Table) (kept : List Change) (def : TableDef) (are : AreKept tables kept) (there : Replicates tables def) where
  pub fit : IsFit def
  fit = (member_has IsStored tables (replicated def) are.stored (found_member (is_named def.name) tables (replicated def) there)).fit

  pub writable : IsWritable def
  writable = record { key = accepted_key def fit.profile; few = accepted_few def fit.profile; no_row_cid = accepted_row def fit.profile; names = fit.names }

  -- what is kept of the table is well formed for it
  pub kept_well_formed : wanted.AreWellFormed def kept
  kept_well_formed =
      all_by (λ c. fault_in tables c ≡ None) (λ c. IsWellFormed c def ⊎ (same_bytes c.table def.name ≡ false)) kept
      (λ c e. elim (split (same_bytes c.table def.name)) [
        | inl so ↦ inl (sym (fault_is def tables c there (same_is c.table def.name so)) ∙ e)
        | inr not_so ↦ inr not_so
      ]) are.well_formed

  -- changes that are well formed for the table are so for all of the tables
  pub no_fault : (cs : List Change) → AllByRecursion (λ c. IsWellFormed c def) cs → first_fault tables cs ≡ None
  no_fault [] all = refl
  no_fault (c ∷ cs) all =
      let table = same_is c.table def.name (well_formed_parts c def all.0).0 in
      let one : fault_in tables c ≡ None = fault_is def tables c there table ∙ all.0 in
      ap (λ o. earlier o (first_fault tables cs)) one ∙ no_fault cs all.1

pub sound_kept : (h : Holding) → IsSound h → AreKept h.tables (kept_of h)
sound_kept h sound = record { stored = sound.stored; unbeaten = sound.kept; well_formed = sound.well_formed }

-- and so are they with the changes of a transaction
pub joined_kept : (tables : List Table) (kept more : List Change) → AreKept tables kept → AreWellFormed tables more → AreKept tables (join kept more)
joined_kept tables kept more are well = record {
  stored = are.stored;
  unbeaten = keep_keep (kept ++ more);
  well_formed = all_members (λ c. fault_in tables c ≡ None) (join kept more)
      (λ c m. member_has (λ c. fault_in tables c ≡ None) (kept ++ more) c (all_append (λ c. fault_in tables c ≡ None) kept more are.well_formed well)
      (Among_In (kept ++ more) c (kept_from (kept ++ more) c (In_Among (join kept more) c m)).member));
}
