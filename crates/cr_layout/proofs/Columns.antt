-- A definition that is read is spelled so, and what is spelled so is read again.
use Rattle.std.proofs.Common.{◌≡◌, ℕ, zero, suc, ◌^◌, ◌<◌, ◌≤◌, Bool, true, false, cond, ltb, eqb, List, [], ◌∷◌, ◌++◌, length, take, drop, Option, Some, None, refl, sym, ap, subst, ◌∙◌, append_assoc, arith, inl, inr}
use Rattle.std.specs.List.{flat_map, AllByRecursion}
use Rattle.std.specs.Int.{w32}
use Rattle.std.specs.Str.{is_utf8}
use Rattle.std.proofs.lemmas.Bool.{eqb-true, eqb-false, ne_eqb}
use Rattle.std.proofs.lemmas.Str.{IsUtf8-from_is_utf8, is_utf8-from_IsUtf8}
use Rattle.std.proofs.lemmas.List.{length-take, append-nil, nil_from_length}
use Rattle.std.proofs.lemmas.List.Concat.{flat_map-cons}
use Rattle.cr_value.specs.declared.affinity.Affinity.{Affinity}
use Rattle.cr_value.specs.declared.affinity.Affinity.TheVariants as affinity
use Rattle.cr_value.specs.declared.value.Value.{Value}
use Rattle.cr_value.specs.declared.value.Value.TheVariants.{Null, Int, Text, Blob}
use Rattle.cr_value.specs.Packing.{IsBytes, IsNotNull, IsValue, Packed, sized, packed, size_limit}
use Rattle.cr_value.specs.Unpacking.{◌>>=◌, number_at, sized_at, unpacked}
use Rattle.cr_value.proofs.Fields.{IsBytes-rest, some_is, bind_some, unless, provided, chosen, Takes, Takes-then, wide32, number_takes, sized_takes, sized_again, unpacked_takes, unpacked_again}
use Rattle.cr_lattice.specs.declared.table.ColumnDef.{ColumnDef}
use Rattle.cr_lattice.specs.declared.table.TableDef.{TableDef}
use Rattle.cr_layout.specs.Definition.{affinity_byte, not_null_byte, key_byte, default_bytes, column_bytes}
use Rattle.cr_layout.specs.Written.{FitsName, FitsPlace, FitsDefault, FitsColumn, IsPlace, Spells}
use Rattle.cr_layout.specs.Laws.{OneDefinition, AreReadBack}
use Rattle.cr_layout.specs.Reading.{name_at, affinity_at, not_null_at, key_at, only, default_of, default_at, column_at, columns_at, columns_of, definition_of}

-- ---- names

sized_short : (bytes text rest : List ℕ) → IsBytes bytes → sized_at bytes ≡ Some (text, rest) → length text < 2 ^ 32
unfolding sized_at
sized_short bytes text rest fits e =
    let b = bind_some (number_at w32 bytes) (λ n. cond (ltb (length n.1) n.0) None (Some (take n.0 n.1, drop n.0 n.1))) (text, rest) e in
    let n = b.0 in
    let t = number_takes w32 (2 ^ 32) wide32 bytes n.0 n.1 fits b.1 in
    let g = unless (ltb (length n.1) n.0) (take n.0 n.1, drop n.0 n.1) (text, rest) b.2 in
    let text-is : take n.0 n.1 ≡ text = ap (λ (p : List ℕ × List ℕ). p.0) g.1 in
    omega (arith, t.1, length-take n.0 n.1, ap length text-is)

name_takes : (bytes : List ℕ) (x : List ℕ × List ℕ) → IsBytes bytes → name_at bytes ≡ Some x → Takes bytes (sized x.0) x.1 × FitsName x.0
unfolding name_at
name_takes bytes x fits e =
    let b = bind_some (sized_at bytes) (λ name. cond (is_utf8 name.0) (Some (name.0, name.1)) None) x e in
    let g = provided (is_utf8 b.0.0) (Some (b.0.0, b.0.1)) x b.2 in
    let t = sized_takes bytes b.0.0 b.0.1 fits b.1 in
    let short = sized_short bytes b.0.0 b.0.1 fits b.1 in
    let made : List ℕ × List ℕ = (b.0.0, b.0.1) in
    subst (λ (y : List ℕ × List ℕ). Takes bytes (sized y.0) y.1 × FitsName y.0) (some_is made x g.1)
    (t.0, record { utf8 = IsUtf8-from_is_utf8 b.0.0 g.0; short = short })

name_again : (name rest : List ℕ) → FitsName name → name_at (sized name ++ rest) ≡ Some (name, rest)
unfolding name_at
name_again name rest is = rw (sized_again name rest is.short, is_utf8-from_IsUtf8 name is.utf8) refl

-- ---- single bytes

positive : (n : ℕ) → 1 ≤ n → eqb n 0 ≡ false
positive n le = ne_eqb n 0 (λ e. omega (arith, le, e))

one_byte : (byte spelled : ℕ) (bytes : List ℕ) → IsBytes (byte ∷ bytes) → byte ≡ spelled → Takes (byte ∷ bytes) (spelled ∷ []) bytes
one_byte byte spelled bytes fits e = record { parts = ap (λ (b : ℕ). b ∷ bytes) e; rest_fits = IsBytes-rest byte bytes fits }

affinity_takes : (bytes : List ℕ) (x : Affinity × List ℕ) → IsBytes bytes → affinity_at bytes ≡ Some x → Takes bytes (affinity_byte x.0 ∷ []) x.1
unfolding affinity_at
affinity_takes [] x fits e = absurd cc
affinity_takes (byte ∷ bytes) x fits e =
    let made : (a : Affinity) → byte ≡ affinity_byte a → Some (a, bytes) ≡ Some x → Takes (byte ∷ bytes) (affinity_byte x.0 ∷ []) x.1 =
    λ a b f. subst (λ (y : Affinity × List ℕ). Takes (byte ∷ bytes) (affinity_byte y.0 ∷ []) y.1) (some_is (a, bytes) x f) (one_byte byte (affinity_byte a) bytes fits b) in
    elim (chosen (eqb byte 1) (Some (affinity.Integer, bytes)) _ _ e) [
      | inl one ↦ made affinity.Integer (eqb-true _ _ one.0) one.1
      | inr more ↦ elim (chosen (eqb byte 2) (Some (affinity.Text, bytes)) _ _ more.1) [
        | inl two ↦ made affinity.Text (eqb-true _ _ two.0) two.1
        | inr more' ↦ elim (chosen (eqb byte 3) (Some (affinity.Blob, bytes)) _ _ more'.1) [
          | inl three ↦ made affinity.Blob (eqb-true _ _ three.0) three.1
          | inr more'' ↦ (
              let four = provided (eqb byte 4) (Some (affinity.Numeric, bytes)) x more''.1 in
              made affinity.Numeric (eqb-true _ _ four.0) four.1)
        ]
      ]
    ]

affinity_again : (a : Affinity) (rest : List ℕ) → affinity_at (affinity_byte a ∷ rest) ≡ Some (a, rest)
unfolding affinity_at
affinity_again affinity.Integer rest = refl
affinity_again affinity.Text rest = refl
affinity_again affinity.Blob rest = refl
affinity_again affinity.Numeric rest = refl

not_null_takes : (bytes : List ℕ) (x : Bool × List ℕ) → IsBytes bytes → not_null_at bytes ≡ Some x → Takes bytes (not_null_byte x.0 ∷ []) x.1
unfolding not_null_at
not_null_takes [] x fits e = absurd cc
not_null_takes (byte ∷ bytes) x fits e =
    let made : (b : Bool) → byte ≡ not_null_byte b → Some (b, bytes) ≡ Some x → Takes (byte ∷ bytes) (not_null_byte x.0 ∷ []) x.1 =
    λ b c f. subst (λ (y : Bool × List ℕ). Takes (byte ∷ bytes) (not_null_byte y.0 ∷ []) y.1) (some_is (b, bytes) x f) (one_byte byte (not_null_byte b) bytes fits c) in
    elim (chosen (eqb byte 0) (Some (false, bytes)) _ _ e) [
      | inl nullable ↦ made false (eqb-true _ _ nullable.0) nullable.1
      | inr more ↦ (let one = provided (eqb byte 1) (Some (true, bytes)) x more.1 in made true (eqb-true _ _ one.0) one.1)
    ]

not_null_again : (b : Bool) (rest : List ℕ) → not_null_at (not_null_byte b ∷ rest) ≡ Some (b, rest)
unfolding not_null_at
not_null_again true rest = refl
not_null_again false rest = refl

-- what the reader of a place took
abbrev TakesPlace : List ℕ → Option ℕ × List ℕ → Type 0
TakesPlace bytes x = Takes bytes (key_byte x.0 ∷ []) x.1 × FitsPlace x.0 × IsPlace x.0

key_takes : (bytes : List ℕ) (x : Option ℕ × List ℕ) → IsBytes bytes → key_at bytes ≡ Some x → TakesPlace bytes x
unfolding key_at
key_takes [] x fits e = absurd cc
key_takes (place ∷ bytes) x fits e =
    elim (chosen (eqb place 0) (Some (None, bytes)) (Some (Some place, bytes)) (Some x) e) [
      | inl outside ↦ subst (TakesPlace (place ∷ bytes)) (some_is (None, bytes) x outside.1) (one_byte place 0 bytes fits (eqb-true _ _ outside.0), tt, tt)
      | inr inside ↦ (
          let some : 1 ≤ place = let ne = eqb-false _ _ inside.0 in omega (arith, ne) in
          subst (TakesPlace (place ∷ bytes)) (some_is (Some place, bytes) x inside.1) (one_byte place place bytes fits refl, fits 0, some))
    ]

key_again : (key : Option ℕ) (rest : List ℕ) → IsPlace key → key_at (key_byte key ∷ rest) ≡ Some (key, rest)
unfolding key_at
key_again None rest is = refl
key_again (Some place) rest is = rw (positive place is) refl

-- ---- defaults

only_is : (vs : List Value) (v : Value) → only vs ≡ Some v → vs ≡ v ∷ []
unfolding only
only_is [] v e = absurd cc
only_is (w ∷ []) v e = ap (λ (u : Value). u ∷ []) (some_is w v e)
only_is (w ∷ u ∷ vs) v e = absurd cc

of_one : (v : Value) → IsNotNull v → default_bytes v ≡ packed (v ∷ [])
of_one Null n = absurd n
of_one (Int z) n = refl
of_one (Text t) n = refl
of_one (Blob b) n = refl

-- what the reader of a default took, all of the bytes
abbrev TakesDefault : List ℕ → Value → Type 0
TakesDefault bytes v = (default_bytes v ≡ bytes) × FitsDefault v

packed_default : (bytes : List ℕ) (v : Value) → Packed (v ∷ []) bytes → TakesDefault bytes v
packed_default bytes v p =
    let spelled : default_bytes v ≡ bytes = of_one v p.key.no_null.0 ∙ sym p.spelled in
    (spelled, record { typed = p.values.0; short = subst (λ (b : List ℕ). length b ≤ size_limit) (sym spelled) p.size })

default_takes : (bytes : List ℕ) (v : Value) → IsBytes bytes → default_of bytes ≡ Some v → TakesDefault bytes v
unfolding default_of
default_takes bytes v fits e =
    elim (chosen (eqb (length bytes) 0) (Some Null) (unpacked bytes >>= only) (Some v) e) [
      | inl none ↦ subst (TakesDefault bytes) (some_is Null v none.1) (sym (nil_from_length bytes (eqb-true _ _ none.0)), record { typed = tt; short = omega arith })
      | inr some ↦ (
          let b = bind_some (unpacked bytes) only v some.1 in
          packed_default bytes v (subst (λ (vs : List Value). Packed vs bytes) (only_is b.0 v b.2) (unpacked_takes bytes b.0 fits b.1)))
    ]

read_default : (v : Value) → IsNotNull v → IsValue v → length (packed (v ∷ [])) ≤ size_limit → default_of (packed (v ∷ [])) ≡ Some v
unfolding default_of only
read_default v n is short =
    let p : Packed (v ∷ []) (packed (v ∷ [])) = record {
      key = record { some = omega arith; few = omega arith; no_null = (n, tt) };
      values = (is, tt);
      spelled = refl;
      size = short;
    } in
    rw (positive (length (packed (v ∷ []))) (omega arith), unpacked_again (packed (v ∷ [])) (v ∷ []) p) refl

default_again : (v : Value) → FitsDefault v → default_of (default_bytes v) ≡ Some v
unfolding default_of
default_again Null is = refl
default_again (Int n) is = read_default (Int n) tt is.typed is.short
default_again (Text t) is = read_default (Text t) tt is.typed is.short
default_again (Blob b) is = read_default (Blob b) tt is.typed is.short

default_at_takes : (bytes : List ℕ) (x : Value × List ℕ) → IsBytes bytes → default_at bytes ≡ Some x → Takes bytes (sized (default_bytes x.0)) x.1 × FitsDefault x.0
unfolding default_at
default_at_takes bytes x fits e =
    let s = bind_some (sized_at bytes) (λ packed. default_of packed.0 >>= λ value. Some (value, packed.1)) x e in
    let v = bind_some (default_of s.0.0) (λ value. Some (value, s.0.1)) x s.2 in
    let t = sized_takes bytes s.0.0 s.0.1 fits s.1 in
    let d = default_takes s.0.0 v.0 t.1 v.1 in
    let made : Value × List ℕ = (v.0, s.0.1) in
    subst (λ (y : Value × List ℕ). Takes bytes (sized (default_bytes y.0)) y.1 × FitsDefault y.0) (some_is made x v.2)
    (subst (λ (b : List ℕ). Takes bytes (sized b) s.0.1) (sym d.0) t.0, d.1)

default_at_again : (v : Value) (rest : List ℕ) → FitsDefault v → default_at (sized (default_bytes v) ++ rest) ≡ Some (v, rest)
unfolding default_at
default_at_again v rest is =
    let short : length (default_bytes v) < 2 ^ 32 = omega (arith, is.short) in
    rw (sized_again (default_bytes v) rest short, default_again v is) refl

-- ---- columns

-- what the reader of a column took
abbrev TakesColumn : List ℕ → ColumnDef × List ℕ → Type 0
TakesColumn bytes x = Takes bytes (column_bytes x.0) x.1 × FitsColumn x.0 × IsPlace x.0.key

-- the parts of a column one after the other
parts_take : (b0 b1 b2 b3 b4 b5 b6 name collation default : List ℕ) (affinity not_null key : ℕ)
    → Takes b0 name b1 → Takes b1 (affinity ∷ []) b2 → Takes b2 collation b3 → Takes b3 (not_null ∷ []) b4 → Takes b4 (key ∷ []) b5 → Takes b5 default b6
    → Takes b0 (name ++ affinity ∷ collation ++ not_null ∷ key ∷ default) b6
parts_take b0 b1 b2 b3 b4 b5 b6 name collation default affinity not_null key p0 p1 p2 p3 p4 p5 =
    let from_affinity = Takes-then b1 (affinity ∷ []) b2 collation b3 p1 p2 in
    let from_name = Takes-then b0 name b1 (affinity ∷ collation) b3 p0 from_affinity in
    let from_key = Takes-then b4 (key ∷ []) b5 default b6 p4 p5 in
    let from_not_null = Takes-then b3 (not_null ∷ []) b4 (key ∷ default) b6 p3 from_key in
    Takes-then b0 (name ++ affinity ∷ collation) b3 (not_null ∷ key ∷ default) b6 from_name from_not_null

-- each part is read, and the column is made of them
column_made : (bytes : List ℕ) (a c : List ℕ × List ℕ) (b : Affinity × List ℕ) (d : Bool × List ℕ) (k : Option ℕ × List ℕ) (v : Value × List ℕ) (x : ColumnDef × List ℕ) → IsBytes bytes
    → name_at bytes ≡ Some a → affinity_at a.1 ≡ Some b → name_at b.1 ≡ Some c → not_null_at c.1 ≡ Some d → key_at d.1 ≡ Some k → default_at k.1 ≡ Some v
    → Some (record { name = a.0; affinity = b.0; collation = c.0; not_null = d.0; key = k.0; default = v.0 }, v.1) ≡ Some x → TakesColumn bytes x
column_made bytes a c b d k v x fits ea eb ec ed ek ev made =
    let name = name_takes bytes a fits ea in
    let affinity = affinity_takes a.1 b name.0.rest_fits eb in
    let collation = name_takes b.1 c affinity.rest_fits ec in
    let not_null = not_null_takes c.1 d collation.0.rest_fits ed in
    let key = key_takes d.1 k not_null.rest_fits ek in
    let default = default_at_takes k.1 v key.0.rest_fits ev in
    subst (TakesColumn bytes) (some_is _ x made) (
      parts_take bytes a.1 b.1 c.1 d.1 k.1 v.1 (sized a.0) (sized c.0) (sized (default_bytes v.0)) (affinity_byte b.0) (not_null_byte d.0) (key_byte k.0)
          name.0 affinity collation.0 not_null key.0 default.0,
      record { name = name.1; collation = collation.1; key = key.1; default = default.1 },
      key.2,
    )

column_takes : (bytes : List ℕ) (x : ColumnDef × List ℕ) → IsBytes bytes → column_at bytes ≡ Some x → TakesColumn bytes x
unfolding column_at
column_takes bytes x fits e =
    let (a, ea, e1) = bind_some (name_at bytes) _ x e in
    let (b, eb, e2) = bind_some (affinity_at a.1) _ x e1 in
    let (c, ec, e3) = bind_some (name_at b.1) _ x e2 in
    let (d, ed, e4) = bind_some (not_null_at c.1) _ x e3 in
    let (k, ek, e5) = bind_some (key_at d.1) _ x e4 in
    let (v, ev, made) = bind_some (default_at k.1) _ x e5 in
    column_made bytes a c b d k v x fits ea eb ec ed ek ev made

regrouped : (name collation default rest : List ℕ) (affinity not_null key : ℕ)
    → (name ++ affinity ∷ collation ++ not_null ∷ key ∷ default) ++ rest ≡ name ++ affinity ∷ (collation ++ not_null ∷ key ∷ (default ++ rest))
regrouped name collation default rest affinity not_null key =
    append_assoc (name ++ affinity ∷ collation) (not_null ∷ key ∷ default) rest
    ∙ append_assoc name (affinity ∷ collation) (not_null ∷ key ∷ (default ++ rest))

column_again : (c : ColumnDef) (rest : List ℕ) → FitsColumn c → IsPlace c.key → column_at (column_bytes c ++ rest) ≡ Some (c, rest)
unfolding column_at
column_again c rest fits place =
    let after_key : List ℕ = sized (default_bytes c.default) ++ rest in
    let after_collation : List ℕ = not_null_byte c.not_null ∷ key_byte c.key ∷ after_key in
    let after_name : List ℕ = affinity_byte c.affinity ∷ (sized c.collation ++ after_collation) in
    ap column_at (regrouped (sized c.name) (sized c.collation) (sized (default_bytes c.default)) rest (affinity_byte c.affinity) (not_null_byte c.not_null) (key_byte c.key))
    ∙ rw (
      name_again c.name after_name fits.name,
      affinity_again c.affinity (sized c.collation ++ after_collation),
      name_again c.collation after_collation fits.collation,
      not_null_again c.not_null (key_byte c.key ∷ after_key),
      key_again c.key after_key place,
      default_at_again c.default rest fits.default,
    ) refl

-- ---- lists of columns

-- what the reader of some columns took
abbrev TakesColumns : ℕ → List ℕ → List ColumnDef × List ℕ → Type 0
TakesColumns n bytes x = Takes bytes (flat_map column_bytes x.0) x.1 × (length x.0 ≡ n) × AllByRecursion FitsColumn x.0 × AllByRecursion (λ c. IsPlace c.key) x.0

columns_take : (n : ℕ) (bytes : List ℕ) (x : List ColumnDef × List ℕ) → IsBytes bytes → columns_at n bytes ≡ Some x → TakesColumns n bytes x
unfolding columns_at
columns_take zero bytes x fits e = subst (TakesColumns zero bytes) (some_is ([], bytes) x e) (record { parts = refl; rest_fits = fits }, refl, tt, tt)
columns_take (suc n) bytes x fits e =
    let a = bind_some (column_at bytes) (λ first. columns_at n first.1 >>= λ others. Some (first.0 ∷ others.0, others.1)) x e in
    let b = bind_some (columns_at n a.0.1) (λ others. Some (a.0.0 ∷ others.0, others.1)) x a.2 in
    let first = column_takes bytes a.0 fits a.1 in
    let others = columns_take n a.0.1 b.0 first.0.rest_fits b.1 in
    let both = Takes-then bytes (column_bytes a.0.0) a.0.1 (flat_map column_bytes b.0.0) b.0.1 first.0 others.0 in
    let made : List ColumnDef × List ℕ = (a.0.0 ∷ b.0.0, b.0.1) in
    subst (TakesColumns (suc n) bytes) (some_is made x b.2) (rw flat_map-cons both, ap suc others.1, (first.1, others.2), (first.2, others.3))

columns_again : (cs : List ColumnDef) (rest : List ℕ) → AllByRecursion FitsColumn cs → AllByRecursion (λ c. IsPlace c.key) cs → columns_at (length cs) (flat_map column_bytes cs ++ rest) ≡ Some (cs, rest)
unfolding columns_at
columns_again [] rest fits places = refl
columns_again (c ∷ cs) rest fits places =
    let first_apart : flat_map column_bytes (c ∷ cs) ++ rest ≡ column_bytes c ++ (flat_map column_bytes cs ++ rest) =
    ap (λ (t : List ℕ). t ++ rest) (flat_map-cons column_bytes c cs) ∙ append_assoc (column_bytes c) (flat_map column_bytes cs) rest in
    ap (columns_at (suc (length cs))) first_apart ∙ rw (column_again c (flat_map column_bytes cs ++ rest) fits.0 places.0, columns_again cs rest fits.1 places.1) refl

-- ---- definitions

-- what the reader of all columns took
record TakesAll (bytes : List ℕ) (cs : List ColumnDef) : Type 0 where
  spelled : length cs ∷ flat_map column_bytes cs ≡ bytes
  few : length cs < 256
  fits : AllByRecursion FitsColumn cs
  places : AllByRecursion (λ c. IsPlace c.key) cs

all_take : (bytes : List ℕ) (cs : List ColumnDef) → IsBytes bytes → columns_of bytes ≡ Some cs → TakesAll bytes cs
unfolding columns_of
all_take [] cs fits e = absurd cc
all_take (count ∷ bytes) cs fits e =
    let a = bind_some (columns_at count bytes) (λ cs. cond (eqb (length cs.1) 0) (Some cs.0) None) cs e in
    let g = provided (eqb (length a.0.1) 0) (Some a.0.0) cs a.2 in
    let t = columns_take count bytes a.0 (IsBytes-rest count bytes fits) a.1 in
    let nothing : a.0.1 ≡ [] = nil_from_length a.0.1 (eqb-true _ _ g.0) in
    let rest-is : bytes ≡ flat_map column_bytes a.0.0 =
    t.0.parts ∙ ap (λ (r : List ℕ). flat_map column_bytes a.0.0 ++ r) nothing ∙ append-nil (flat_map column_bytes a.0.0) in
    let len = t.1 in
    subst (TakesAll (count ∷ bytes)) (some_is a.0.0 cs g.1)
    (record { spelled = cc (rest-is, len); few = omega (arith, len, fits 0); fits = t.2; places = t.3 })

pub definition_takes : (table bytes : List ℕ) (d : TableDef) → IsBytes bytes → definition_of table bytes ≡ Some d → Spells bytes table d
unfolding definition_of
definition_takes table bytes d fits e =
    let a = bind_some (columns_of bytes) (λ cs. Some (record { name = table; columns = cs })) d e in
    let t = all_take bytes a.0 fits a.1 in
    let made : TableDef = record { name = table; columns = a.0 } in
    subst (Spells bytes table) (some_is made d a.2)
    (record { name = refl; spelled = t.spelled; written = record { fits = record { few = t.few; columns = t.fits }; places = t.places } })

pub read_again : AreReadBack
unfolding definition_of columns_of
read_again d w =
    let read : columns_at (length d.columns) (flat_map column_bytes d.columns) ≡ Some (d.columns, []) =
    ap (columns_at (length d.columns)) (sym (append-nil (flat_map column_bytes d.columns))) ∙ columns_again d.columns [] w.fits.columns w.places in
    rw read refl

pub definition_again : (table bytes : List ℕ) (d : TableDef) → Spells bytes table d → definition_of table bytes ≡ Some d
definition_again table bytes d s = rw (← s.name, ← s.spelled) (read_again d s.written)

pub one_definition : OneDefinition
one_definition bytes table d e p q = some_is d e (sym (definition_again table bytes d p) ∙ definition_again table bytes e q)
