-- Rows in the order of their values at one place.
use Rattle.std.proofs.Common.{◌≡◌, inl, inr, ◌∙◌, ℕ, zero, suc, Bool, true, false, not, ◌&&◌, List, [], ◌∷◌, ◌++◌, length, map, refl, sym, ap, subst}
use Rattle.std.specs.Prelude.{filter, nat_lt}
use Rattle.std.specs.List.{list_all}
use Rattle.std.proofs.lemmas.List.Folds.{list_all-map}
use Rattle.std.specs.List.Sorted.{IsSortedBy, IsStableBy}
use Rattle.std.specs.Ordering.{is_eq, is_lt}
use Rattle.std.specs.Cmp.{IsTotalOrder}
use Rattle.std.specs.Borrow.{Bor}
use Rattle.std.proofs.lemmas.Cmp.{on_total}
use Rattle.cr_value.specs.declared.value.Value.{Value}
use Rattle.cr_value.specs.Order.{value_cmp}
use Rattle.cr_value.specs.OrderLaws.{value_total}
use Rattle.cr_lattice.proofs.Tested.{split}
use Rattle.cr_scalar.specs.Numbers.{is_null}
use Rattle.cr_query.specs.Query.{Row, nulls}
use Rattle.cr_exec.specs.declared.index.Index.{Index}
use Rattle.cr_exec.specs.Equalities.{is_equal}
use Rattle.cr_exec.specs.Groups.{row_there}
use Rattle.cr_exec.specs.LookUps.{at_place, by_place, cell, is_wide, IsIndexOf}
use Rattle.cr_exec.proofs.Runs.{class_moved, filter_agree, filter-map, none_pass}

-- a row that stands nowhere, with a value at a place
abbrev pub with_cell : ℕ → Value → Bor Row
with_cell place v = record { ref_ptr = (0, 0); now = nulls place ++ v ∷ [] }

pub cell_is : (place : ℕ) (v : Value) → cell place (nulls place ++ v ∷ []) ≡ v
cell_is zero v = refl
cell_is (suc n) v = cell_is n v

pub place_total : (place : ℕ) → IsTotalOrder (by_place place)
place_total place = on_total (at_place place) value_total

-- equal to a value that is not NULL
pub equal_is : (place : ℕ) (v : Value) → is_null v ≡ false → (y : Bor Row) → is_eq (by_place place (with_cell place v) y) ≡ is_equal v (at_place place y)
equal_is place v there y = (λ i. is_eq (value_cmp (cell_is place v i) (at_place place y))) ∙ ap (λ b. not b && is_eq (value_cmp v (at_place place y))) (sym there)

-- NULL is equal to nothing
pub null_finds : {X : Type 0} (v : Value) (f : X → Value) (xs : List X) → is_null v ≡ true → filter (λ x. is_equal v (f x)) xs ≡ []
null_finds v f xs none = filter_agree _ (λ x. false) (λ x. ap (λ b. not b && is_eq (value_cmp v (f x))) none) xs ∙ none_pass xs

pub is_index : (place : ℕ) (rows : List Row) (refs : List (Bor Row)) (index : Index) → index.place ≡ place → map row_there refs ≡ rows
    → IsSortedBy (λ a b. is_lt (by_place place a b)) index.rows.items → IsStableBy (λ a b. is_lt (by_place place a b)) refs index.rows.items → IsIndexOf place rows index
is_index place rows refs index placed are sorted stable = record {
  placed = placed;
  in_order = subst (λ n. IsSortedBy (λ a b. is_lt (by_place n a b)) index.rows.items) (sym placed) sorted;
  found = λ v.
      elim (split (is_null v)) [
        | inl none ↦ ap (map row_there) (null_finds v (at_place place) index.rows.items none) ∙ sym (null_finds v (cell place) rows none)
        | inr there ↦ (
            let agree = λ (ys : List (Bor Row)). filter_agree (λ y. is_eq (by_place place (with_cell place v) y)) (λ y. is_equal v (at_place place y)) (equal_is place v there) ys in
            ap (map row_there)
            (sym (agree index.rows.items) ∙ class_moved (by_place place) (place_total place) refs index.rows.items stable (with_cell place v) ∙ agree refs)
            ∙ filter-map (λ r. is_equal v (cell place r)) row_there refs
            ∙ ap (filter (λ r. is_equal v (cell place r))) are)
      ];
}

-- how a row stands to a value is how it stands to one that has it
pub below_is : (place : ℕ) (v : Value) (y : Bor Row) (b : Bool) → b ≡ is_lt (value_cmp (cell place y.now) v) → b ≡ is_lt (by_place place y (with_cell place v))
below_is place v y b h = h ∙ ap (λ w. is_lt (value_cmp (cell place y.now) w)) (sym (cell_is place v))

pub level_is : (place : ℕ) (v : Value) (y : Bor Row) (b : Bool) → b ≡ is_eq (value_cmp (cell place y.now) v) → b ≡ is_eq (by_place place y (with_cell place v))
level_is place v y b h = h ∙ ap (λ w. is_eq (value_cmp (cell place y.now) w)) (sym (cell_is place v))

-- rows that are referred to have a value at a place
pub wide_there : (place : ℕ) (rows : List (Bor Row)) → list_all (λ r. nat_lt place (length r.now)) rows ≡ is_wide place (map row_there rows)
wide_there place rows = sym (list_all-map (λ r. nat_lt place (length r)) row_there rows)
