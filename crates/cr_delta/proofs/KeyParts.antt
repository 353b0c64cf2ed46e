-- The values of a key, place by place.
use Rattle.std.proofs.Common.{◌≡◌, ℕ, ◌+◌, ◌-◌, ◌≤◌, ◌<◌, List, [], ◌∷◌, ◌++◌, get_or, take, Option, Some, None, refl, ap, subst, ◌∙◌, arith}
use Rattle.std.specs.List.{filter_map, cons_option}
use Rattle.std.specs.Option.{option_to_list}
use Rattle.std.proofs.lemmas.List.{take_more}
use Rattle.std.proofs.lemmas.List.Elements.{filter_map-append}
use Rattle.cr_value.specs.declared.value.Value.{Value}
use Rattle.cr_value.specs.Packing.{packed, Packed}
use Rattle.cr_lattice.specs.declared.table.TableDef.{TableDef}
use Rattle.cr_delta.specs.Key.{key_places, key_values, key_of, HasKey}
use Rattle.cr_delta.proofs.KeyCells.{place_at}

one_part : {B : Type 0} (f : ℕ → Option B) (place : ℕ) → filter_map f (place ∷ []) ≡ option_to_list (f place)
one_part f place = elim (f place) as (λ o. cons_option o [] ≡ option_to_list o) [ None ↦ refl | Some v ↦ refl ]

-- the parts at the places up to one, and at that one
pub parts_more : {B : Type 0} (f : ℕ → Option B) (place : ℕ) → 1 ≤ place → place < 9
    → filter_map f (take (place + 1 - 1) key_places) ≡ filter_map f (take (place - 1) key_places) ++ option_to_list (f place)
parts_more f place low high =
    let next : place + 1 - 1 ≡ place - 1 + 1 = omega (arith, low) in
    let is : get_or key_places (place - 1) 0 ≡ place = place_at (place - 1) (omega (arith, low, high)) ∙ omega (arith, low) in
    ap (λ n. filter_map f (take n key_places)) next
    ∙ ap (filter_map f) (take_more key_places (place - 1) 0 (omega (arith, low, high)))
    ∙ filter_map-append f (take (place - 1) key_places) (get_or key_places (place - 1) 0 ∷ [])
    ∙ ap (λ p. filter_map f (take (place - 1) key_places) ++ filter_map f (p ∷ [])) is
    ∙ ap (λ vs. filter_map f (take (place - 1) key_places) ++ vs) (one_part f place)

-- the values of a row's key that could be packed
pub keyed_by : (def : TableDef) (row vs : List Value) (bytes : List ℕ) → vs ≡ key_values def row → Packed vs bytes → HasKey def row
unfolding key_of
keyed_by def row vs bytes is p = subst (λ ws. Packed ws (packed ws)) is (subst (Packed vs) p.spelled p)
