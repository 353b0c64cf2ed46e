-- Where what was kept is well formed, so is each change of a write.
use Rattle.std.proofs.Common.{◌≡◌, ◌⊎◌, inl, inr, ℕ, ◌≤◌, ltb, ℤ, pos, negsuc, Bool, true, false, not, ◌||◌, List, [], ◌∷◌, length, Some, None, refl, sym, ap, subst, ◌∙◌, arith}
use Rattle.std.specs.Prelude.{◌+ℤ◌, int_lt, ◌&&◌, AllPairs}
use Rattle.std.specs.List.{zip, list_any, AllByRecursion}
use Rattle.std.specs.Ordering.{int_eq, is_eq}
use Rattle.std.proofs.lemmas.Cmp.{int_cmp_total, tied_itself}
use Rattle.std.proofs.lemmas.Bool.{le-ltb, lt-ltb}
use Rattle.cr_value.specs.declared.value.Value.{Value}
use Rattle.cr_value.specs.Packing.{size_limit}
use Rattle.cr_lattice.specs.declared.change.Change.{Change}
use Rattle.cr_lattice.specs.declared.check.BadChange.{BadChange}
use Rattle.cr_lattice.specs.declared.check.BadChange.TheVariants.{Size, Table, Key, Cid, Length}
use Rattle.cr_lattice.specs.declared.table.ColumnDef.{ColumnDef}
use Rattle.cr_lattice.specs.declared.table.TableDef.{TableDef}
use Rattle.cr_lattice.specs.Change.{row_cid}
use Rattle.cr_value.specs.Size.{value_len}
use Rattle.cr_lattice.specs.Check.{same_bytes, has_name, is_known, is_too_big, is_key, is_row_cid, is_key_column, is_key_name, is_cid, is_odd, has_lengths, first_failed, fault_of, IsWellFormed}
use Rattle.cr_lattice.specs.Keep.{keep}
use Rattle.cr_lattice.specs.Rows.{is_alive, is_of_row, is_cell, kept_change}
use Rattle.cr_lattice.proofs.KeepLaws.{In, kept_from}
use Rattle.cr_delta.specs.Key.{key_of}
use Rattle.cr_delta.specs.Delta.{length_of, version_of, value_cells, row_change, column_change, row_delta, delta}
use Rattle.cr_delta.specs.Wanted.{IsRowOf, IsWritable, AreWanted, AreWellFormed, AreSmall, DeltaIsWellFormed}
use Rattle.cr_lattice.specs.Profile.{HasDistinctNames}
use Rattle.cr_delta.proofs.Among.{split, and_true, Among, In_Among, Among_In, any_member, member_of_any, member_has}
use Rattle.cr_delta.proofs.Cells.{pair_first, pair_rest, column_of, cell_of_value, not_row_cid}
use Rattle.cr_delta.proofs.Integers.{odd_after_even}
use Rattle.cr_delta.proofs.KeptRows.{search_ends, of_row, of_cell, not_alive_even, alive_has, length_is}
use Rattle.cr_delta.proofs.KeyFits.{key_is}
use Rattle.cr_delta.proofs.Members.{same_is, is_same, of_delta, of_arrival, of_update, row_delta_stays, row_delta_comes}

-- the parts of being well formed
record Sound (def : TableDef) (c : Change) : Type 0 where
  size : is_too_big (Some def) c ≡ false
  table : same_bytes c.table def.name ≡ true
  key : is_key def c.pk ≡ true
  cid : is_cid def c.cid ≡ true
  lengths : has_lengths c ≡ true

sound_is : (def : TableDef) (c : Change) → Sound def c → IsWellFormed c def
unfolding fault_of
sound_is def c s = rw (s.size, s.table, s.key, s.cid, s.lengths) refl

passed : (b : Bool) (x : BadChange) (ts : List (Bool × BadChange)) → first_failed ((b, x) ∷ ts) ≡ None → (b ≡ true) × (first_failed ts ≡ None)
passed true x ts e = (refl, e)
passed false x ts e = absurd cc

not_false : (b : Bool) → not b ≡ true → b ≡ false
not_false true e = absurd cc
not_false false e = refl

is_sound : (def : TableDef) (c : Change) → IsWellFormed c def → Sound def c
unfolding fault_of
is_sound def c e =
    let lengths = (has_lengths c, Length) ∷ [] in
    let cid = (is_cid def c.cid, Cid) ∷ lengths in
    let key = (is_key def c.pk, Key) ∷ cid in
    let a = passed (not (is_too_big (Some def) c)) Size ((same_bytes c.table def.name, Table) ∷ key) e in
    let b = passed (same_bytes c.table def.name) Table key a.1 in
    let d = passed (is_key def c.pk) Key cid b.1 in
    let f = passed (is_cid def c.cid) Cid lengths d.1 in
    let g = passed (has_lengths c) Length [] f.1 in
    record { size = not_false _ a.0; table = b.0; key = d.0; cid = f.0; lengths = g.0 }

-- ---- sizes and numbers

and_false : (b : Bool) → (b && false) ≡ false
and_false true = refl
and_false false = refl

-- its value and key are within the limit, and it is of the row itself or of a column of the table
small : (def : TableDef) (c : Change) → value_len c.val ≤ size_limit → length c.pk ≤ size_limit → (ltb size_limit (length c.cid) && not (is_known (Some def) c.cid)) ≡ false → is_too_big (Some def) c ≡ false
unfolding is_too_big
small def c e f named = rw (le-ltb _ _ e, le-ltb _ _ f) named

known_name : (def : TableDef) (cid : List ℕ) → is_known (Some def) cid ≡ true → (ltb size_limit (length cid) && not (is_known (Some def) cid)) ≡ false
known_name def cid e = ap (λ b. ltb size_limit (length cid) && not b) e ∙ and_false (ltb size_limit (length cid))

short_name : (def : TableDef) → (ltb size_limit (length row_cid) && not (is_known (Some def) row_cid)) ≡ false
short_name def = refl

or_false : (a b : Bool) → (a || b) ≡ false → (a ≡ false) × (b ≡ false)
or_false true b e = absurd cc
or_false false b e = (refl, e)

-- a change of the row itself with the key of one that is small
small_key : (def : TableDef) (c d : Change) → value_len c.val ≡ 0 → c.pk ≡ d.pk → c.cid ≡ row_cid → is_too_big (Some def) d ≡ false → is_too_big (Some def) c ≡ false
unfolding is_too_big
small_key def c d e same row f =
    ap (λ n. ltb size_limit n || (ltb size_limit (length c.pk) || (ltb size_limit (length c.cid) && not (is_known (Some def) c.cid)))) e
    ∙ ap (λ pk. ltb size_limit (length pk) || (ltb size_limit (length c.cid) && not (is_known (Some def) c.cid))) same
    ∙ ap (λ cid. ltb size_limit (length d.pk) || (ltb size_limit (length cid) && not (is_known (Some def) cid))) row
    ∙ ap (λ b. b || false) (or_false (ltb size_limit (length d.pk)) _ (or_false (ltb size_limit (value_len d.val)) _ f).1).0

Positive : ℤ → Type 0
Positive z = int_lt (pos 0) z ≡ true

-- 0 or more, so that one more is positive
AtLeastZero : ℤ → Type 0
AtLeastZero z = (z ≡ pos 0) ⊎ Positive z

next_positive : (z : ℤ) → AtLeastZero z → Positive (z +ℤ pos 1)
unfolding AtLeastZero Positive
next_positive z h =
    elim h [
      | inl none ↦ rw none refl
      | inr some ↦ next z some
    ]
  where
    next : (z : ℤ) → int_lt (pos 0) z ≡ true → int_lt (pos 0) (z +ℤ pos 1) ≡ true
    next (pos n) e = lt-ltb _ _ (omega arith)
    next (negsuc n) e = absurd cc

at_least : (z : ℤ) → Positive z → AtLeastZero z
unfolding AtLeastZero
at_least z e = inr e

positive_parts : (c : Change) → has_lengths c ≡ true → Positive c.cl × Positive c.col_version
unfolding has_lengths Positive
positive_parts c e = let p = and_true _ _ e in (p.0, (and_true _ _ p.1).0)

length_positive : (cl : ℤ) (c : Change) → cl ≡ c.cl → has_lengths c ≡ true → Positive cl
length_positive cl c same e = subst Positive (sym same) (positive_parts c e).0

one_positive : Positive (pos 1)
unfolding Positive
one_positive = refl

-- ---- what is kept is positive

module _ (def : TableDef) (site : List ℕ) (s : List Change) (wf : AreWellFormed def s) where
  kept_sound : (d : Change) → In (keep s) d → d.table ≡ def.name → Sound def d
  kept_sound d k t =
      elim (member_has (λ c. IsWellFormed c def ⊎ (same_bytes c.table def.name ≡ false)) s d wf (Among_In s d (kept_from s d k).member)) [
        | inl well ↦ is_sound def d well
        | inr other ↦ (let same = is_same d.table def.name t in absurd cc)
      ]

  length_at_least : (pk : List ℕ) → AtLeastZero (length_of (keep s) def.name pk)
  unfolding length_of AtLeastZero Positive
  length_at_least pk =
      elim (search_ends (is_of_row def.name pk) (keep s)) [
        | inl f ↦ inr (rw f.3 (positive_parts f.0 (kept_sound f.0 f.1 (of_row def.name pk f.0 f.2).table_is).lengths).0)
        | inr none ↦ inl (rw none.nothing refl)
      ]

  version_at_least : (pk cid : List ℕ) → AtLeastZero (version_of (keep s) def.name pk cid)
  unfolding version_of kept_change AtLeastZero Positive
  version_at_least pk cid =
      elim (search_ends (is_cell def.name pk cid) (keep s)) [
        | inl f ↦ inr (rw f.3 (positive_parts f.0 (kept_sound f.0 f.1 (of_cell def.name pk cid f.0 f.2).0.table_is).lengths).1)
        | inr none ↦ inl (rw none.nothing refl)
      ]

-- ---- the changes

same_int : (z : ℤ) → int_eq z z ≡ true
same_int z = ap is_eq (tied_itself int_cmp_total z)

row_lengths : (def : TableDef) (site pk : List ℕ) (cl : ℤ) → Positive cl → has_lengths (row_change def site pk cl) ≡ true
unfolding has_lengths Positive
row_lengths def site pk cl e = rw (e, same_int cl) refl

row_cid_is : (def : TableDef) → is_cid def row_cid ≡ true
unfolding is_cid
row_cid_is def = refl

column_lengths : (def : TableDef) (site pk : List ℕ) (cl : ℤ) (cell : ColumnDef × Value) (version : ℤ) → Positive cl → Positive version → is_odd cl ≡ true → is_row_cid cell.0.name ≡ false
    → has_lengths (column_change def site pk cl cell version) ≡ true
unfolding has_lengths Positive
column_lengths def site pk cl cell version e f odd name = rw (e, f, name, odd) refl

or_right : (a b : Bool) → b ≡ true → (a || b) ≡ true
or_right true b e = refl
or_right false b e = e

-- a name is one column's
one_column : (cols : List ColumnDef) (a b : ColumnDef) → AllPairs (λ x y. same_bytes x.name y.name ≡ false) cols → Among cols a → Among cols b → a.name ≡ b.name → a ≡ b
one_column [] a b apart m n e = absurd m
one_column (col ∷ cols) a b apart m n e =
    let other : (x : ColumnDef) → Among cols x → col.name ≡ x.name → ⊥ = λ x i same. (
    let no_same = pair_first (λ x y. same_bytes x.name y.name ≡ false) col cols x apart i in
    let so = is_same col.name x.name same in
    absurd cc) in
    elim m [
      | inl here ↦ elim n [
        | inl here' ↦ here ∙ sym here'
        | inr there' ↦ absurd (other b there' (ap (λ (x : ColumnDef). x.name) (sym here) ∙ e))
      ]
      | inr there ↦ elim n [
        | inl here' ↦ absurd (other a there (ap (λ (x : ColumnDef). x.name) (sym here') ∙ sym e))
        | inr there' ↦ one_column cols a b (pair_rest (λ x y. same_bytes x.name y.name ≡ false) col cols apart) there there' e
      ]
    ]

column_cid : (def : TableDef) (row : List Value) (cell : ColumnDef × Value) → HasDistinctNames def → Among (value_cells def row) cell → is_cid def cell.0.name ≡ true
unfolding is_cid
column_cid def row cell apart m =
    let x = cell_of_value def row cell m in
    let not_key : list_any (is_key_name cell.0.name) def.columns ≡ false = elim (split (list_any (is_key_name cell.0.name) def.columns)) [
      | inl so ↦ (
          let k = member_of_any (is_key_name cell.0.name) def.columns so in
          let p = and_true _ _ k.2 in
          let same : cell.0 ≡ k.0 = one_column def.columns cell.0 k.0 apart (column_of def.columns row cell x.0) k.1 (same_is _ _ p.1) in
          let key : is_key_column cell.0 ≡ true = ap is_key_column same ∙ p.0 in
          let no_key : is_key_column cell.0 ≡ false = x.1 in
          absurd cc)
      | inr not_so ↦ not_so
    ] in
    or_right _ _ (ap not not_key)

column_known : (def : TableDef) (row : List Value) (cell : ColumnDef × Value) → Among (value_cells def row) cell → is_known (Some def) cell.0.name ≡ true
column_known def row cell m =
    any_member (has_name cell.0.name) def.columns cell.0 (column_of def.columns row cell (cell_of_value def row cell m).0) (is_same cell.0.name cell.0.name refl)

value_of : (cols : List ColumnDef) (row : List Value) (cell : ColumnDef × Value) → Among (zip cols row) cell → Among row cell.1
value_of [] row cell m = absurd m
value_of (col ∷ cols) [] cell m = absurd m
value_of (col ∷ cols) (v ∷ vs) cell m = elim m [ inl here ↦ inl (ap (λ (x : ColumnDef × Value). x.1) here) | inr there ↦ inr (value_of cols vs cell there) ]

all_members : {A : Type 0} (P : A → Type 0) (xs : List A) → ((x : A) → Among xs x → P x) → AllByRecursion P xs
all_members P [] f = tt
all_members P (x ∷ xs) f = (f x (inl refl), all_members P xs (λ y m. f y (inr m)))

module _ (def : TableDef) (site : List ℕ) (s : List Change) (wanted : List (List Value)) (profile : IsWritable def) (wf : AreWellFormed def s) (w : AreWanted def wanted) (brief : AreSmall wanted) where
  -- a change of the row itself, and one of a column of a wanted row
  row_sound : (row : List Value) → Among wanted row → (cl : ℤ) → Positive cl → Sound def (row_change def site (key_of def row) cl)
  row_sound row m cl e =
      let fits = member_has (IsRowOf def) wanted row w.rows m in
      record {
        size = small def _ (omega arith) fits.key.size (short_name def);
        table = is_same def.name def.name refl;
        key = key_is def row profile fits;
        cid = row_cid_is def;
        lengths = row_lengths def site (key_of def row) cl e;
      }

  column_sound : (row : List Value) → Among wanted row → (cell : ColumnDef × Value) → Among (value_cells def row) cell → (cl version : ℤ) → Positive cl → Positive version → is_odd cl ≡ true
      → Sound def (column_change def site (key_of def row) cl cell version)
  column_sound row m cell i cl version e f odd =
      let fits = member_has (IsRowOf def) wanted row w.rows m in
      let short = member_has (λ v. value_len v ≤ size_limit) row cell.1 (member_has (λ r. AllByRecursion (λ v. value_len v ≤ size_limit) r) wanted row brief m) (value_of def.columns row cell (cell_of_value def row cell i).0) in
      let name : is_row_cid cell.0.name ≡ false = elim (split (is_row_cid cell.0.name)) [
        | inl so ↦ absurd (not_row_cid def row cell profile.no_row_cid i (same_is _ _ so))
        | inr not_so ↦ not_so
      ] in
      record {
        size = small def _ short fits.key.size (known_name def cell.0.name (column_known def row cell i));
        table = is_same def.name def.name refl;
        key = key_is def row profile fits;
        cid = column_cid def row cell profile.names i;
        lengths = column_lengths def site (key_of def row) cl cell version e f odd name;
      }

  row_delta_sound : (row : List Value) → Among wanted row → (c : Change) → Among (row_delta def site (keep s) (key_of def row) row) c → Sound def c
  row_delta_sound row m c i =
      let pk = key_of def row in
      let cl = length_of (keep s) def.name pk in
      elim (split (is_alive (keep s) def.name pk)) [
        | inl alive ↦ (
            let u = of_update def site (keep s) pk row c (rw (row_delta_stays def site (keep s) pk row alive) at i) in
            let d = alive_has s def.name pk alive in
            let same = length_is s def.name pk d.0 d.1 d.2 in
            let sound = kept_sound def site s wf d.0 d.1 d.2.table_is in
            let version = next_positive _ (version_at_least def site s wf pk u.0.0.name) in
            subst (Sound def) (sym u.3)
            (column_sound row m u.0 u.1 cl _ (length_positive cl d.0 same sound.lengths) version (ap is_odd same ∙ d.3)))
        | inr absent ↦ (
            let next = next_positive cl (length_at_least def site s wf pk) in
            elim (of_arrival def site (keep s) pk (cl +ℤ pos 1) row c (rw (row_delta_comes def site (keep s) pk row absent) at i)) [
              | inl is ↦ subst (Sound def) (sym is) (row_sound row m (cl +ℤ pos 1) next)
              | inr u ↦ subst (Sound def) (sym u.2) (column_sound row m u.0 u.1 (cl +ℤ pos 1) (pos 1) next one_positive (odd_after_even cl (not_alive_even s def.name pk absent)))
            ])
      ]

  removal_sound : (d : Change) → In (keep s) d → d.table ≡ def.name → Sound def (row_change def site d.pk (d.cl +ℤ pos 1))
  removal_sound d k t =
      let sound = kept_sound def site s wf d k t in
      record {
        size = small_key def _ d refl refl refl sound.size;
        table = is_same def.name def.name refl;
        key = sound.key;
        cid = row_cid_is def;
        lengths = row_lengths def site d.pk (d.cl +ℤ pos 1) (next_positive d.cl (at_least d.cl (positive_parts d sound.lengths).0));
      }

  all_sound : (c : Change) → Among (delta def site (keep s) wanted) c → IsWellFormed c def
  all_sound c m =
      elim (of_delta def site (keep s) wanted c (In_Among _ c m)) [
        | inl r ↦ sound_is def c (row_delta_sound r.0 r.1 c r.2)
        | inr r ↦ sound_is def c (subst (Sound def) (sym r.2) (removal_sound r.0 r.1.member r.1.table))
      ]

pub delta_is_well_formed : DeltaIsWellFormed
delta_is_well_formed def site s wanted profile wf w brief = all_members (λ c. IsWellFormed c def) (delta def site (keep s) wanted) (all_sound def site s wanted profile wf w brief)
