-- Tables that are added or marked: their names stay distinct, and what was well formed stays so.
use Rattle.std.proofs.Common.{◌≡◌, ◌⊎◌, inl, inr, ℕ, Bool, true, false, not, ◌&&◌, ◌||◌, List, [], ◌∷◌, ◌++◌, map, Option, Some, None, refl, sym, ap, ◌∙◌, ◌<◌, length, get_or, take, length-take, arith, Bor, is_some}
use Rattle.std.specs.Option.{option_copied}
use Rattle.std.proofs.lemmas.List.{get_or-take, get_or_default}
use Rattle.std.proofs.lemmas.List.Folds.{Any-from_list_any}
use Rattle.cr_value.specs.declared.affinity.Affinity.TheVariants as affinity
use Rattle.cr_value.specs.declared.value.Value.TheVariants as value
use Rattle.cr_lattice.specs.declared.table.ColumnDef.{ColumnDef}
use Rattle.cr_lattice.specs.Profile.{IsFirstRepeat}
use Rattle.std.specs.Prelude.{find}
use Rattle.std.specs.List.{list_any, AllByRecursion, IsDistinct}
use Rattle.std.specs.Option.{option_map}
use Rattle.std.specs.Ordering.{eq_by_cmp, on}
use Rattle.std.specs.Cmp.{IsEquivalence, eq_by_cmp_equiv}
use Rattle.std.proofs.lemmas.Cmp.{on_total}
use Rattle.std.proofs.lemmas.Map.Keys.{IsDistinct-push}
use Rattle.cr_value.specs.Order.{bytes_cmp}
use Rattle.cr_value.specs.OrderLaws.{bytes_total}
use Rattle.cr_lattice.specs.declared.change.Change.{Change}
use Rattle.cr_lattice.specs.declared.table.Table.{Table}
use Rattle.cr_lattice.specs.declared.table.TableDef.{TableDef}
use Rattle.cr_lattice.specs.Check.{is_too_big, fault_of, same_bytes}
use Rattle.cr_cells.specs.Tables.{has_defaults, is_named, same_name, IsFit, IsStored, IsNewTable, is_markable, marked, with_replicated, with_table, is_table_of, fault_in, AreWellFormed}
use Rattle.cr_cells.proofs.MemberLemmas.{split, Among, any_gives, all_at, any_from, find_gives, find_none, apart_one}

and_true : (a b : Bool) → (a && b) ≡ true → (a ≡ true) × (b ≡ true)
and_true true b e = (refl, e)
and_true false b e = absurd cc

and_from : (a b : Bool) → a ≡ true → b ≡ true → (a && b) ≡ true
and_from true b e h = h
and_from false b e h = absurd cc

or_left : (a b : Bool) → a ≡ true → (a || b) ≡ true
or_left true b e = refl
or_left false b e = absurd cc

option_split : {X : Type 0} → (o : Option X) → ((x : X) × (o ≡ Some x)) ⊎ (o ≡ None)
option_split None = inr refl
option_split (Some x) = inl (x, refl)

-- ---- names

abbrev name_of : Table → List ℕ
name_of t = t.definition.name

by_name : IsEquivalence (eq_by_cmp (on name_of bytes_cmp))
by_name = eq_by_cmp_equiv (on_total name_of bytes_total)

pub same_name-equiv : IsEquivalence same_name
same_name-equiv = record {
  refl = by_name.refl;
  symm = λ a b. by_name.symm b a;
  congr = λ a b c e. by_name.symm c a ∙ by_name.congr a b c (by_name.symm a b ∙ e) ∙ by_name.symm b c;
}

-- two tables of one name
pub one_named : (name : List ℕ) (a b : Table) → is_named name a ≡ true → is_named name b ≡ true → same_name a b ≡ true
one_named name a b e h =
    let q : Table = record a { definition = record a.definition { name = name } } in
    same_name-equiv.symm a b ∙ sym (same_name-equiv.congr q b a h) ∙ e

-- ---- faults

no_table : (c : Change) → fault_of c None ≡ None → ⊥
unfolding fault_of
no_table c e =
    elim (split (is_too_big None c)) [
      | inl so ↦ (let e' = rw so at e in absurd cc)
      | inr not_so ↦ (let e' = rw not_so at e in absurd cc)
    ]

-- the table for which a change is well formed
pub table_for : (ts : List Table) (c : Change) → fault_in ts c ≡ None → (t : Table) × (find (is_table_of c) ts ≡ Some t) × (fault_of c (Some t.definition) ≡ None)
unfolding fault_in
table_for ts c e =
    elim (option_split (find (is_table_of c) ts)) [
      | inl found ↦ (found.0, found.1, ap (λ o. fault_of c (option_map (λ (t : Table). t.definition) o)) (sym found.1) ∙ e)
      | inr none ↦ absurd (no_table c (ap (λ o. fault_of c (option_map (λ (t : Table). t.definition) o)) (sym none) ∙ e))
    ]

fault_with : (ts : List Table) (c : Change) (t : Table) (def : TableDef) → find (is_table_of c) ts ≡ Some t → t.definition ≡ def → fault_of c (Some def) ≡ None → fault_in ts c ≡ None
unfolding fault_in
fault_with ts c t def found same e =
    ap (λ o. fault_of c (option_map (λ (t : Table). t.definition) o)) found ∙ ap (λ d. fault_of c (Some d)) same ∙ e

-- ---- a table more

find-append : (p : Table → Bool) (ts us : List Table) (t : Table) → find p ts ≡ Some t → find p (ts ++ us) ≡ Some t
find-append p [] us t e = absurd cc
find-append p (x ∷ xs) us t e =
    elim (split (p x)) [
      | inl so ↦ (let e' : Some x ≡ Some t = rw so at e in rw so e')
      | inr not_so ↦ (let e' : find p xs ≡ Some t = rw not_so at e in rw not_so (find-append p xs us t e'))
    ]

pub well_formed-with_table : (ts : List Table) (def : TableDef) (b : Bool) (cs : List Change) → AreWellFormed ts cs → AreWellFormed (with_table ts def b) cs
well_formed-with_table ts def b [] all = tt
well_formed-with_table ts def b (c ∷ cs) all =
    let t = table_for ts c all.0 in
    (fault_with (with_table ts def b) c t.0 t.0.definition (find-append (is_table_of c) ts _ t.0 t.1) refl t.2, well_formed-with_table ts def b cs all.1)

pub names-with_table : (ts : List Table) (def : TableDef) (b : Bool) → IsDistinct same_name ts → IsNewTable ts def → IsDistinct same_name (with_table ts def b)
names-with_table ts def b distinct new = IsDistinct-push same_name-equiv ts _ distinct new.unused

all-push : (P : Table → Type 0) (ts : List Table) (t : Table) → AllByRecursion P ts → P t → AllByRecursion P (ts ++ t ∷ [])
all-push P [] t all p = (p, tt)
all-push P (x ∷ xs) t all p = (all.0, all-push P xs t all.1 p)

pub stored-with_table : (ts : List Table) (def : TableDef) (b : Bool) → AllByRecursion IsStored ts → IsFit def → (not b || has_defaults def) ≡ true → AllByRecursion IsStored (with_table ts def b)
stored-with_table ts def b all fit defaults = all-push IsStored ts _ all (record { fit = fit; defaults = defaults })

-- ---- a table that is marked

table_parts : (c : Change) (t : Table) → is_table_of c t ≡ true → (t.is_replicated ≡ true) × (is_named c.table t ≡ true)
table_parts c t e = and_true t.is_replicated (is_named c.table t) e

find-marked : (name : List ℕ) (c : Change) (ts : List Table) (t : Table) → IsDistinct same_name ts → find (is_table_of c) ts ≡ Some t → (u : Table) × (find (is_table_of c) (map (marked name) ts) ≡ Some u) × (u.definition ≡ t.definition)
unfolding IsDistinct
find-marked name c [] t distinct e = absurd cc
find-marked name c (x ∷ xs) t distinct e =
    elim (split (is_table_of c x)) [
      | inl so ↦ (
          let e' : Some x ≡ Some t = rw so at e in
          let same : x ≡ t = cc in
          let p = table_parts c x so in
          let so' : is_table_of c (marked name x) ≡ true = and_from (x.is_replicated || is_named name x) (is_named c.table x) (or_left x.is_replicated (is_named name x) p.0) p.1 in
          (marked name x, (rw so' refl), ap name_def same))
      | inr not_so ↦ (
          let e' : find (is_table_of c) xs ≡ Some t = rw not_so at e in
          elim (split (is_table_of c (marked name x))) [
            | inl so' ↦ (
                let r = find_gives (is_table_of c) xs t e' in
                let named : is_named c.table x ≡ true = (table_parts c (marked name x) so').1 in
                let named' : is_named c.table t ≡ true = (table_parts c t r.1).1 in
                let one : same_name x t ≡ true = one_named c.table x t named named' in
                let other : same_name x t ≡ false = all_at (λ y. same_name x y ≡ false) xs t distinct.0 r.0 in
                absurd cc)
            | inr not_so' ↦ (
                let r = find-marked name c xs t distinct.1 e' in
                (r.0, (rw not_so' r.1), r.2))
          ])
    ]
  where
    name_def : Table → TableDef
    name_def u = u.definition

pub well_formed-with_replicated : (name : List ℕ) (ts : List Table) (cs : List Change) → IsDistinct same_name ts → AreWellFormed ts cs → AreWellFormed (with_replicated name ts) cs
unfolding with_replicated
well_formed-with_replicated name ts [] distinct all = tt
well_formed-with_replicated name ts (c ∷ cs) distinct all =
    let t = table_for ts c all.0 in
    let u = find-marked name c ts t.0 distinct t.1 in
    (fault_with (map (marked name) ts) c u.0 t.0.definition u.1 u.2 t.2, well_formed-with_replicated name ts cs distinct all.1)

apart-marked : (name : List ℕ) (x : Table) (ts : List Table) → AllByRecursion (λ y. same_name x y ≡ false) ts → AllByRecursion (λ y. same_name (marked name x) y ≡ false) (map (marked name) ts)
apart-marked name x [] all = tt
apart-marked name x (t ∷ ts) all = (all.0, apart-marked name x ts all.1)

pub names-with_replicated : (name : List ℕ) (ts : List Table) → IsDistinct same_name ts → IsDistinct same_name (with_replicated name ts)
unfolding IsDistinct with_replicated
names-with_replicated name [] distinct = tt
names-with_replicated name (t ∷ ts) distinct = (apart-marked name t ts distinct.0, names-with_replicated name ts distinct.1)

defaults_when : (r n d : Bool) → (not r || d) ≡ true → (n ≡ true → d ≡ true) → (not (r || n) || d) ≡ true
defaults_when true n d e f = e
defaults_when false true d e f = f refl
defaults_when false false d e f = refl

all-marked : (name : List ℕ) (ts us : List Table) → ((t : Table) → Among us t → IsStored (marked name t)) → AllByRecursion IsStored (map (marked name) us)
all-marked name ts [] f = tt
all-marked name ts (u ∷ us) f = (f u (inl refl), all-marked name ts us (λ t a. f t (inr a)))

pub stored-with_replicated : (name : List ℕ) (ts : List Table) → IsDistinct same_name ts → AllByRecursion IsStored ts → is_markable name ts ≡ true → AllByRecursion IsStored (with_replicated name ts)
unfolding with_replicated is_markable
stored-with_replicated name ts distinct all e =
    let r = any_gives (λ t. is_named name t && has_defaults t.definition) ts e in
    let p = and_true _ _ r.2 in
    all-marked name ts ts (λ t a. (
    let s = all_at IsStored ts t all a in
    record {
      fit = s.fit;
      defaults = defaults_when t.is_replicated (is_named name t) (has_defaults t.definition) s.defaults (λ named.
          let one : t ≡ r.0 = apart_one same_name same_name-equiv.symm ts t r.0 distinct a r.1 (one_named name t r.0 named p.0) in
          ap (λ (u : Table). has_defaults u.definition) one ∙ p.1);
    }))

-- ---- definitions that are not new

some_column : ColumnDef
some_column = record { name = []; affinity = affinity.Blob; collation = []; not_null = false; key = None; default = value.Null }

pub repeat_not_new : (ts : List Table) (def : TableDef) (i : ℕ) → IsFirstRepeat def i → IsNewTable ts def → ⊥
repeat_not_new ts def i repeated new =
    let cols = def.columns in
    let name : List ℕ = (get_or cols i some_column).name in
    let r = Any-from_list_any (λ c. same_bytes c.name name) (take i cols) (repeated.repeats some_column) in
    let k : ℕ = r.0 in
    let x : ColumnDef = r.1 in
    let short : k < length (take i cols) = r.2 in
    let below : k < i = omega (arith, length-take i cols) in
    let is : get_or cols k x ≡ x = sym (get_or-take i cols k x below) ∙ r.3 in
    let at : get_or cols i x ≡ get_or cols i some_column = get_or_default cols i x some_column repeated.within in
    let apart : same_bytes (get_or cols k x).name (get_or cols i x).name ≡ false = new.fit.names k i x below repeated.within in
    let same : same_bytes x.name name ≡ true = r.4 in
    let apart' : same_bytes x.name name ≡ false = ap (λ (c : ColumnDef). same_bytes c.name name) (sym is) ∙ ap (λ (c : ColumnDef). same_bytes (get_or cols k x).name c.name) (sym at) ∙ apart in
    absurd cc

pub found_not_new : (ts : List Table) (def : TableDef) (o : Option (Bor Table)) → option_copied o ≡ find (is_named def.name) ts → is_some o ≡ true → IsNewTable ts def → ⊥
found_not_new ts def None e some' new = absurd cc
found_not_new ts def (Some t) e some' new =
    let r = find_gives (is_named def.name) ts t.now (sym e) in
    let yes' : list_any (is_named def.name) ts ≡ true = any_from (is_named def.name) ts t.now r.0 r.1 in
    let no : list_any (is_named def.name) ts ≡ false = new.unused in
    absurd cc

pub none_unused : (ts : List Table) (name : List ℕ) (o : Option (Bor Table)) → option_copied o ≡ find (is_named name) ts → is_some o ≡ false → list_any (is_named name) ts ≡ false
none_unused ts name None e none = find_none (is_named name) ts (sym e)
none_unused ts name (Some t) e none = absurd cc
