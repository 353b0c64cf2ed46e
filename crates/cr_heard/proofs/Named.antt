-- Tables by their names.
use Rattle.std.proofs.Common.{◌≡◌, ◌⊎◌, inl, inr, ℕ, Bool, true, false, cond, List, [], ◌∷◌, ◌++◌, map, find, Option, Some, None, refl, sym, ap, subst, ◌∙◌, Ordering, Less, Equal, Greater}
use Rattle.std.specs.List.{AllByRecursion}
use Rattle.std.specs.List.Sorted.{IsStrictlySortedBy}
use Rattle.std.specs.BTreeSet.{insert_key}
use Rattle.std.specs.Option.{option_or}
use Rattle.std.specs.Ordering.{is_eq, on, match_ordering}
use Rattle.std.proofs.lemmas.Cmp.{eq_by_cmp_equiv}
use Rattle.cr_value.specs.Order.{bytes_cmp}
use Rattle.cr_value.specs.OrderLaws.{bytes_total, bytes_exact}
use Rattle.cr_lattice.specs.declared.table.Table.{Table}
use Rattle.cr_lattice.specs.Check.{same_bytes}
use Rattle.cr_lattice.specs.Sets.{set_of}
use Rattle.cr_lattice.proofs.SortedSets.{IsStrictlySortedBy-set_of}
use Rattle.cr_lattice.proofs.Tested.{split}
use Rattle.cr_cells.specs.Tables.{is_named}
use Rattle.cr_delta.proofs.Among.{Among, map_member, member_has}
use Rattle.cr_delta.proofs.Members.{same_is, is_same}
use Rattle.cr_world.specs.State.{by_name}
use Rattle.cr_heard.proofs.Given.{some_is}

abbrev pub name_of : Table → List ℕ
name_of t = t.definition.name

abbrev name_cmp : Table → Table → Ordering
name_cmp = on name_of bytes_cmp

pub same_back : (x y : List ℕ) → same_bytes x y ≡ same_bytes y x
same_back x y = (eq_by_cmp_equiv bytes_total).symm x y

-- ---- members

among_insert : (ts : List Table) (t a : Table) → Among (insert_key name_cmp ts t) a → (a ≡ t) ⊎ Among ts a
among_insert [] t a m = m
among_insert (x ∷ xs) t a m = by (name_cmp t x) m (among_insert xs t a) where
  by : (o : Ordering) → Among (match_ordering o (t ∷ x ∷ xs) (x ∷ xs) (x ∷ insert_key name_cmp xs t)) a → (Among (insert_key name_cmp xs t) a → (a ≡ t) ⊎ Among xs a) → (a ≡ t) ⊎ Among (x ∷ xs) a
  by Less n rest = n
  by Equal n rest = inr n
  by Greater (inl here) rest = inr (inl here)
  by Greater (inr there) rest = elim (rest there) [ inl same ↦ inl same | inr in_xs ↦ inr (inr in_xs) ]

-- each is one of the tables
pub among_by_name : (ts : List Table) (a : Table) → Among (by_name ts) a → Among ts a
among_by_name [] a m = m
among_by_name (t ∷ ts) a m = elim (among_insert (by_name ts) t a m) [ inl same ↦ inl same | inr there ↦ inr (among_by_name ts a there) ]

-- ---- their order

names_insert : (ts : List Table) (t : Table) → map name_of (insert_key name_cmp ts t) ≡ insert_key bytes_cmp (map name_of ts) (name_of t)
names_insert [] t = refl
names_insert (x ∷ xs) t = by (name_cmp t x) (names_insert xs t) where
  by : (o : Ordering) → map name_of (insert_key name_cmp xs t) ≡ insert_key bytes_cmp (map name_of xs) (name_of t)
      → map name_of (match_ordering o (t ∷ x ∷ xs) (x ∷ xs) (x ∷ insert_key name_cmp xs t))
      ≡ match_ordering o (name_of t ∷ name_of x ∷ map name_of xs) (name_of x ∷ map name_of xs) (name_of x ∷ insert_key bytes_cmp (map name_of xs) (name_of t))
  by Less rest = refl
  by Equal rest = refl
  by Greater rest = ap (λ l. name_of x ∷ l) rest

names_are : (ts : List Table) → map name_of (by_name ts) ≡ set_of bytes_cmp (map name_of ts)
names_are [] = refl
names_are (t ∷ ts) = names_insert (by_name ts) t ∙ ap (λ l. insert_key bytes_cmp l (name_of t)) (names_are ts)

pub names_rise : (ts : List Table) → IsStrictlySortedBy bytes_cmp (map name_of (by_name ts))
names_rise ts = subst (IsStrictlySortedBy bytes_cmp) (sym (names_are ts)) (IsStrictlySortedBy-set_of bytes_total bytes_exact (map name_of ts))

-- ---- the table of a name

abbrev Below : List ℕ → List Table → Type 0
Below n ts = AllByRecursion (λ m. bytes_cmp n m ≡ Less) (map name_of ts)

-- no table has a name that is below all of theirs
none_below : (n : List ℕ) (ts : List Table) → Below n ts → find (is_named n) ts ≡ None
none_below n [] all = refl
none_below n (t ∷ ts) all =
    let apart : same_bytes n (name_of t) ≡ false = ap is_eq all.0 in
    let absent : is_named n t ≡ false = same_back (name_of t) n ∙ apart in
    rw absent (none_below n ts all.1)

-- a table is found by its own name
pub own_found : (ts : List Table) → IsStrictlySortedBy bytes_cmp (map name_of ts) → (t : Table) → Among ts t → find (is_named (name_of t)) ts ≡ Some t
unfolding IsStrictlySortedBy
own_found [] s t m = absurd m
own_found (x ∷ xs) s t m =
    elim m [
      | inl here ↦ (let so : is_named (name_of t) x ≡ true = is_same (name_of x) (name_of t) (ap name_of (sym here)) in rw so (ap Some (sym here)))
      | inr there ↦ (
          let less = member_has (λ k. bytes_cmp (name_of x) k ≡ Less) (map name_of xs) (name_of t) s.0 (map_member name_of xs t there) in
          let absent : is_named (name_of t) x ≡ false = ap is_eq less in
          rw absent (own_found xs s.1 t there))
    ]

-- a table that is found has the name
pub found_named : (n : List ℕ) (ts : List Table) (t : Table) → find (is_named n) ts ≡ Some t → Among ts t × (name_of t ≡ n)
found_named n [] t e = absurd cc
found_named n (x ∷ xs) t e =
    elim (split (is_named n x)) [
      | inl so ↦ (let here : x ≡ t = some_is x t (rw so at e) in (inl (sym here), ap name_of (sym here) ∙ same_is (name_of x) n so))
      | inr not_so ↦ (let r = found_named n xs t (rw not_so at e) in (inr r.0, r.1))
    ]

-- ---- one table more

abbrev one : List ℕ → Table → Option Table
one n t = cond (is_named n t) (Some t) None

or_none : (o : Option Table) → o ≡ option_or o None
or_none None = refl
or_none (Some t) = refl

found_insert : (n : List ℕ) (ts : List Table) (t : Table) → IsStrictlySortedBy bytes_cmp (map name_of ts) → find (is_named n) (insert_key name_cmp ts t) ≡ option_or (find (is_named n) ts) (one n t)
unfolding IsStrictlySortedBy
found_insert n [] t s = refl
found_insert n (x ∷ xs) t s = by (name_cmp t x) refl (found_insert n xs t s.1) where
  below_more : (y z : List ℕ) (ts : List Table) → bytes_cmp y z ≡ Less → Below z ts → Below y ts
  below_more y z [] less all = tt
  below_more y z (u ∷ us) less all = (bytes_total.trans y z (name_of u) less all.0, below_more y z us less all.1)

  first : bytes_cmp (name_of t) (name_of x) ≡ Less → (b : Bool) → is_named n t ≡ b → cond b (Some t) (find (is_named n) (x ∷ xs)) ≡ option_or (find (is_named n) (x ∷ xs)) (cond b (Some t) None)
  first less true so =
      let none : find (is_named n) (x ∷ xs) ≡ None = subst (λ (k : List ℕ). find (is_named k) (x ∷ xs) ≡ None) (same_is (name_of t) n so) (none_below (name_of t) (x ∷ xs) (less, below_more (name_of t) (name_of x) xs less s.0)) in
      rw none refl
  first less false so = or_none (find (is_named n) (x ∷ xs))

  again : name_of t ≡ name_of x → (b : Bool) → is_named n x ≡ b → cond b (Some x) (find (is_named n) xs) ≡ option_or (cond b (Some x) (find (is_named n) xs)) (one n t)
  again same true so = refl
  again same false so = let absent : is_named n t ≡ false = ap (λ k. same_bytes k n) same ∙ so in rw absent (or_none (find (is_named n) xs))

  later : (b : Bool) → find (is_named n) (insert_key name_cmp xs t) ≡ option_or (find (is_named n) xs) (one n t) → cond b (Some x) (find (is_named n) (insert_key name_cmp xs t)) ≡ option_or (cond b (Some x) (find (is_named n) xs)) (one n t)
  later true rest = refl
  later false rest = rest

  by : (o : Ordering) → name_cmp t x ≡ o → find (is_named n) (insert_key name_cmp xs t) ≡ option_or (find (is_named n) xs) (one n t)
      → find (is_named n) (match_ordering o (t ∷ x ∷ xs) (x ∷ xs) (x ∷ insert_key name_cmp xs t)) ≡ option_or (find (is_named n) (x ∷ xs)) (one n t)
  by Less e rest = first e (is_named n t) refl
  by Equal e rest = again (bytes_exact (name_of t) (name_of x) e) (is_named n x) refl
  by Greater e rest = later (is_named n x) rest

-- the last of the tables of a name is the one that is found
pub found_last : (n : List ℕ) (ts : List Table) (t : Table) → find (is_named n) (by_name (ts ++ t ∷ [])) ≡ cond (is_named n t) (Some t) (find (is_named n) (by_name ts))
found_last n [] t = refl
found_last n (x ∷ xs) t =
    found_insert n (by_name (xs ++ t ∷ [])) x (names_rise (xs ++ t ∷ []))
    ∙ ap (λ o. option_or o (one n x)) (found_last n xs t)
    ∙ by (is_named n t)
  where
    by : (b : Bool) → option_or (cond b (Some t) (find (is_named n) (by_name xs))) (one n x) ≡ cond b (Some t) (find (is_named n) (by_name (x ∷ xs)))
    by true = refl
    by false = sym (found_insert n (by_name xs) x (names_rise xs))
