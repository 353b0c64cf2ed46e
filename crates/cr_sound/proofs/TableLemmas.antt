-- Tables are stored exactly where each may come after those before it.
use Rattle.std.proofs.Common.{◌≡◌, ℕ, zero, suc, ◌+◌, ◌<◌, true, false, List, [], ◌∷◌, ◌++◌, length, get_or, take, refl, sym, ap, ◌∙◌, subst, arith}
use Rattle.std.specs.List.{list_any, AllByRecursion, IsDistinct}
use Rattle.std.proofs.lemmas.List.{take_more}
use Rattle.std.proofs.lemmas.Map.Keys.{apart_from_distinct}
use Rattle.cr_lattice.specs.declared.table.Table.{Table}
use Rattle.cr_cells.specs.Tables.{is_named, same_name, IsStored, IsNewTable}
use Rattle.cr_sound.specs.Sound.{has_its_defaults}
use Rattle.cr_cells.proofs.TableLemmas.{same_name-equiv, names-with_table, stored-with_table}

abbrev pub AreStored : List Table → Type 0
AreStored ts = IsDistinct same_name ts × AllByRecursion IsStored ts

abbrev pub ComesAfter : List Table → Table → Type 0
ComesAfter ts t = IsNewTable ts t.definition × (has_its_defaults t ≡ true)

pub stored_none : AreStored []
unfolding IsDistinct
stored_none = (tt, tt)

stored_more : (ts : List Table) (t : Table) → AreStored ts → ComesAfter ts t → AreStored (ts ++ t ∷ [])
stored_more ts t s after =
    (names-with_table ts t.definition t.is_replicated s.0 after.0, stored-with_table ts t.definition t.is_replicated s.1 after.0.fit after.1)

stored_at : (ts : List Table) (i : ℕ) (d : Table) → AllByRecursion IsStored ts → i < length ts → IsStored (get_or ts i d)
stored_at [] i d all l = let no : ⊥ = omega arith in absurd no
stored_at (t ∷ ts) zero d all l = all.0
stored_at (t ∷ ts) (suc i) d all l = stored_at ts i d all.1 (omega arith)

unused_at : (ts : List Table) (i : ℕ) (d : Table) → IsDistinct same_name ts → i < length ts → list_any (is_named (get_or ts i d).definition.name) (take i ts) ≡ false
unfolding IsDistinct
unused_at [] i d distinct l = let no : ⊥ = omega arith in absurd no
unused_at (t ∷ ts) zero d distinct l = refl
unused_at (t ∷ ts) (suc i) d distinct l =
    let apart : same_name t (get_or ts i d) ≡ false = apart_from_distinct same_name (t ∷ ts) 0 (suc i) d distinct (omega arith) l in
    let apart' : same_name (get_or ts i d) t ≡ false = same_name-equiv.symm (get_or ts i d) t ∙ apart in
    rw (apart', unused_at ts i d distinct.1 (omega arith)) refl

-- each of tables that are stored comes after those before it
comes_after_at : (ts : List Table) (i : ℕ) (d : Table) → AreStored ts → i < length ts → ComesAfter (take i ts) (get_or ts i d)
comes_after_at ts i d s l =
    let stored = stored_at ts i d s.1 l in
    (record { fit = stored.fit; unused = unused_at ts i d s.0 l }, stored.defaults)

-- ---- as code goes: t is the table at i

pub stored_next : (ts : List Table) (i : ℕ) (t : Table) → t ≡ get_or ts i t → i < length ts → AreStored (take i ts) → ComesAfter (take i ts) t → AreStored (take (i + 1) ts)
stored_next ts i t is l s after =
    subst AreStored (sym (take_more ts i t l ∙ ap (λ u. take i ts ++ u ∷ []) (sym is))) (stored_more (take i ts) t s after)

pub stored_there : (ts : List Table) (i : ℕ) (t : Table) → t ≡ get_or ts i t → i < length ts → AreStored ts → ComesAfter (take i ts) t
stored_there ts i t is l s = subst (ComesAfter (take i ts)) (sym is) (comes_after_at ts i t s l)
