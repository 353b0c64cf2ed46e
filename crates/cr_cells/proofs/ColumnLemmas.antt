-- A column that is added outside the key: what was well formed stays so, and what a store holds stays sound.
use Rattle.std.proofs.Common.{◌≡◌, inl, inr, ℕ, ◌+◌, Bool, true, false, not, ◌&&◌, ◌||◌, List, [], ◌∷◌, ◌++◌, map, cond, length, Option, Some, None, refl, sym, ap, subst, ◌∙◌, arith}
use Rattle.std.specs.Prelude.{find, nat_lt, count_by, is_some, ◌==◌}
use Rattle.std.specs.List.{list_any, AllByRecursion, IsDistinct}
use Rattle.std.specs.Option.{option_map, option_map_or, option_or}
use Rattle.std.proofs.lemmas.List.Folds.{list_any-append, find-append}
use Rattle.std.proofs.lemmas.List.Sums.{sum_by_push}
use Rattle.cr_value.specs.declared.affinity.Affinity.TheVariants as affinity
use Rattle.cr_value.specs.declared.value.Value.{Value}
use Rattle.cr_value.specs.Packing.{size_limit, packed}
use Rattle.cr_value.specs.Unpacking.{unpacked}
use Rattle.cr_lattice.specs.declared.change.Change.{Change}
use Rattle.cr_lattice.specs.declared.table.ColumnDef.{ColumnDef}
use Rattle.cr_lattice.specs.declared.table.Table.{Table}
use Rattle.cr_lattice.specs.declared.table.TableDef.{TableDef}
use Rattle.cr_value.specs.Size.{value_len}
use Rattle.cr_lattice.specs.Check.{same_bytes, has_name, is_known, is_too_big, is_key_column, stands_at, key_affinity, is_fixed, key_fits, is_key, is_row_cid, is_key_name, is_cid, fault_of}
use Rattle.cr_cells.specs.Tables.{is_named, same_name, with_column, altered, with_added, IsNewColumn, is_table_of, fault_in, AreWellFormed}
use Rattle.cr_cells.specs.Holding.{Holding, kept_of, IsSound}
use Rattle.cr_cells.proofs.MemberLemmas.{split}
use Rattle.cr_cells.proofs.TableLemmas.{table_for}

-- ---- a column more at the end of a list

or_none : (b : Bool) → (b || false) ≡ b
or_none true = refl
or_none false = refl

option_none : {X : Type 0} (o : Option X) → option_or o None ≡ o
option_none None = refl
option_none (Some x) = refl

module _ {X : Type 0} (p : X → Bool) (xs : List X) (x : X) where
  any_more : list_any p xs ≡ true → list_any p (xs ++ x ∷ []) ≡ true
  any_more e = list_any-append p xs (x ∷ []) ∙ ap (λ b. b || list_any p (x ∷ [])) e

  pub any_without : p x ≡ false → list_any p (xs ++ x ∷ []) ≡ list_any p xs
  any_without e = list_any-append p xs (x ∷ []) ∙ ap (λ b. list_any p xs || (b || false)) e ∙ or_none (list_any p xs)

  pub find_without : p x ≡ false → find p (xs ++ x ∷ []) ≡ find p xs
  find_without e = find-append p xs (x ∷ []) ∙ ap (λ b. option_or (find p xs) (cond b (Some x) None)) e ∙ option_none (find p xs)

  pub count_without : p x ≡ false → count_by p (xs ++ x ∷ []) ≡ count_by p xs
  count_without e = sum_by_push (λ y. cond (p y) 1 0) xs x ∙ ap (λ b. count_by p xs + cond b 1 0) e ∙ omega arith

-- ---- a change, and a definition with one column more outside the key

pub no_place : (place : ℕ) (col : ColumnDef) → col.key ≡ None → stands_at place col ≡ false
no_place place col e = ap (λ k. option_map_or (λ p. p == place) k false) e

pub no_key : (col : ColumnDef) → col.key ≡ None → is_key_column col ≡ false
no_key col e = ap is_some e

no_key_name : (cid : List ℕ) (col : ColumnDef) → col.key ≡ None → is_key_name cid col ≡ false
no_key_name cid col e = ap (λ b. b && same_bytes cid col.name) (no_key col e)

module _ (def : TableDef) (col : ColumnDef) (outside : col.key ≡ None) where
  abbrev wider : TableDef
  wider = with_column col def

  affinity_same : (place : ℕ) → key_affinity wider place ≡ key_affinity def place
  unfolding key_affinity
  affinity_same place = ap (λ o. option_map_or (λ c. c.affinity) o affinity.Blob) (find_without (stands_at place) def.columns col (no_place place col outside))

  fits_same : (place : ℕ) (vs : List Value) → key_fits wider place vs ≡ key_fits def place vs
  unfolding key_fits
  fits_same place [] = refl
  fits_same place (v ∷ vs) =
      ap (λ a. is_fixed a v && key_fits wider (place + 1) vs) (affinity_same place) ∙ ap (λ b. is_fixed (key_affinity def place) v && b) (fits_same (place + 1) vs)

  key_same : (pk : List ℕ) → is_key wider pk ≡ is_key def pk
  unfolding is_key
  key_same pk = values (unpacked pk)
    where
      values : (o : Option (List Value)) → option_map_or (λ vs. ((length vs == count_by is_key_column wider.columns) && key_fits wider 1 vs) && same_bytes (packed vs) pk) o false
          ≡ option_map_or (λ vs. ((length vs == count_by is_key_column def.columns) && key_fits def 1 vs) && same_bytes (packed vs) pk) o false
      values None = refl
      values (Some vs) =
          ap (λ n. ((length vs == n) && key_fits wider 1 vs) && same_bytes (packed vs) pk) (count_without is_key_column def.columns col (no_key col outside))
          ∙ ap (λ b. ((length vs == count_by is_key_column def.columns) && b) && same_bytes (packed vs) pk) (fits_same 1 vs)

  cid_same : (cid : List ℕ) → is_cid wider cid ≡ is_cid def cid
  unfolding is_cid
  cid_same cid = ap (λ b. is_row_cid cid || not b) (any_without (is_key_name cid) def.columns col (no_key_name cid col outside))

  still_small : (c : Change) → is_too_big (Some def) c ≡ false → is_too_big (Some wider) c ≡ false
  unfolding is_too_big
  still_small c e =
      elim (split (is_known (Some def) c.cid)) [
        | inl known ↦ (
            let known' : is_known (Some wider) c.cid ≡ true = any_more (has_name c.cid) def.columns col known in
            ap (λ b. nat_lt size_limit (value_len c.val) || (nat_lt size_limit (length c.pk) || (nat_lt size_limit (length c.cid) && not b))) (known' ∙ sym known) ∙ e)
        | inr unknown ↦ long (nat_lt size_limit (value_len c.val)) (nat_lt size_limit (length c.pk)) (nat_lt size_limit (length c.cid)) (is_known (Some wider) c.cid) (rw unknown at e)
      ]
    where
      long : (v k n b : Bool) → (v || (k || (n && true))) ≡ false → (v || (k || (n && not b))) ≡ false
      long true k n b e = absurd cc
      long false true n b e = absurd cc
      long false false true b e = absurd cc
      long false false false b e = refl

  pub fault_widened : (c : Change) → fault_of c (Some def) ≡ None → fault_of c (Some wider) ≡ None
  unfolding fault_of
  fault_widened c e =
      elim (split (is_too_big (Some def) c)) [
        | inl so ↦ (let e' = rw so at e in absurd cc)
        | inr not_so ↦ rw (still_small c not_so, key_same c.pk, cid_same c.cid) (rw not_so at e)
      ]

-- ---- tables of which one has a column more

module _ (name : List ℕ) (col : ColumnDef) where
  same_named : (n : List ℕ) (t : Table) → is_named n (altered name col t) ≡ is_named n t
  same_named n t = either (is_named name t)
    where
      either : (b : Bool) → is_named n (cond b (record t { definition = with_column col t.definition }) t) ≡ is_named n t
      either true = refl
      either false = refl

  same_table : (c : Change) (t : Table) → is_table_of c (altered name col t) ≡ is_table_of c t
  same_table c t = either (is_named name t)
    where
      either : (b : Bool) → is_table_of c (cond b (record t { definition = with_column col t.definition }) t) ≡ is_table_of c t
      either true = refl
      either false = refl

  found_altered : (c : Change) (ts : List Table) (t : Table) → find (is_table_of c) ts ≡ Some t → find (is_table_of c) (map (altered name col) ts) ≡ Some (altered name col t)
  found_altered c [] t e = absurd cc
  found_altered c (x ∷ xs) t e =
      elim (split (is_table_of c x)) [
        | inl so ↦ (let e' : Some x ≡ Some t = rw so at e in let same : x ≡ t = cc in rw (same_table c x, so) (ap (λ u. Some (altered name col u)) same))
        | inr not_so ↦ (let e' : find (is_table_of c) xs ≡ Some t = rw not_so at e in rw (same_table c x, not_so) (found_altered c xs t e'))
      ]

  fault_altered : col.key ≡ None → (c : Change) (t : Table) → fault_of c (Some t.definition) ≡ None → fault_of c (Some (altered name col t).definition) ≡ None
  fault_altered outside c t e = either (is_named name t)
    where
      either : (b : Bool) → fault_of c (Some (cond b (record t { definition = with_column col t.definition }) t).definition) ≡ None
      either true = fault_widened t.definition col outside c e
      either false = e

  pub well_formed-with_added : col.key ≡ None → (ts : List Table) (cs : List Change) → AreWellFormed ts cs → AreWellFormed (with_added name col ts) cs
  unfolding with_added fault_in
  well_formed-with_added outside ts [] all = tt
  well_formed-with_added outside ts (c ∷ cs) all =
      let t = table_for ts c all.0 in (
        ap (λ o. fault_of c (option_map (λ (u : Table). u.definition) o)) (found_altered c ts t.0 t.1) ∙ fault_altered outside c t.0 t.2,
        well_formed-with_added outside ts cs all.1,
      )

  apart_altered : (x : Table) (ts : List Table) → AllByRecursion (λ y. same_name x y ≡ false) ts → AllByRecursion (λ y. same_name (altered name col x) y ≡ false) (map (altered name col) ts)
  apart_altered x [] all = tt
  apart_altered x (t ∷ ts) all = (same_pair x t ∙ all.0, apart_altered x ts all.1)
    where
      name_same : (t : Table) → (altered name col t).definition.name ≡ t.definition.name
      name_same t = either (is_named name t)
        where
          either : (b : Bool) → (cond b (record t { definition = with_column col t.definition }) t).definition.name ≡ t.definition.name
          either true = refl
          either false = refl

      same_pair : (x y : Table) → same_name (altered name col x) (altered name col y) ≡ same_name x y
      same_pair x y = ap (λ n. is_named n (altered name col y)) (name_same x) ∙ same_named x.definition.name y

  pub names-with_added : (ts : List Table) → IsDistinct same_name ts → IsDistinct same_name (with_added name col ts)
  unfolding IsDistinct with_added
  names-with_added [] distinct = tt
  names-with_added (t ∷ ts) distinct = (apart_altered t ts distinct.0, names-with_added ts distinct.1)

pub sound_with_added : (h : Holding) (name : List ℕ) (col : ColumnDef) → IsSound h → IsNewColumn h.tables name col → IsSound (record h { tables = with_added name col h.tables })
sound_with_added h name col s new = record {
  names = names-with_added name col h.tables s.names;
  stored = new.stored;
  from_0 = s.from_0;
  kept = s.kept;
  stamped = s.stamped;
  stamps = s.stamps;
  well_formed = well_formed-with_added name col new.outside h.tables (kept_of h) s.well_formed;
  marks = s.marks;
}

-- as code goes: h has the fields, and h' is what is seen of them
pub sound_widened : (h h' : Holding) (ts : List Table) (name : List ℕ) (col : ColumnDef) → h ≡ h' → ts ≡ with_added name col h.tables → IsSound h → IsNewColumn h'.tables name col → IsSound (record h { tables = ts })
sound_widened h h' ts name col seen is s new =
    subst (λ ts. IsSound (record h { tables = ts })) (sym is) (sound_with_added h name col s (subst (λ h. IsNewColumn h.tables name col) (sym seen) new))
