-- Two places of a list at once, through the two parts of a slice.
use Rattle.std.proofs.Common.{◌≡◌, ◌<◌, ◌+◌, ℕ, zero, suc, List, [], ◌∷◌, ◌++◌, Option, Some, refl, sym, ap, subst, ◌∙◌, length, map, slice_get, slice_set, slice_index_or, take, drop, arith}
use Rattle.std.specs.Prelude.{◌≢◌}
use Rattle.std.proofs.Math.Seq.{take-append_seam}
use Rattle.std.proofs.lemmas.List.{length-append, length-map, length-set}
use Rattle.std.proofs.lemmas.Option.{slice_get-get_or}
use Rattle.cr_session.specs.Sessions.{SessionOf}
use Rattle.cr_fleet.specs.declared.fleet.Named.{Named}
use Rattle.cr_fleet.specs.Fleets.{FleetOf}
use Rattle.cr_fleet.specs.Pulls.{PullsAt}
use Rattle.cr_fleet.proofs.Places.{pair}

set_in_front : {X : Type 0} (xs ys : List X) (i : ℕ) (x : X) → i < length xs → slice_set (xs ++ ys) i x ≡ slice_set xs i x ++ ys
set_in_front [] ys i x h = absurd (omega (arith, h))
set_in_front (z ∷ xs) ys zero x h = refl
set_in_front (z ∷ xs) ys (suc i) x h = ap (λ l. z ∷ l) (set_in_front xs ys i x (omega (arith, h)))

set_in_back : {X : Type 0} (xs ys : List X) (y : X) → slice_set (xs ++ ys) (length xs) y ≡ xs ++ slice_set ys 0 y
set_in_back [] ys y = refl
set_in_back (z ∷ xs) ys y = ap (λ l. z ∷ l) (set_in_back xs ys y)

get_in_front : {X : Type 0} (xs ys : List X) (i : ℕ) → i < length xs → slice_get (xs ++ ys) i ≡ slice_get xs i
get_in_front [] ys i h = absurd (omega (arith, h))
get_in_front (z ∷ xs) ys zero h = refl
get_in_front (z ∷ xs) ys (suc i) h = get_in_front xs ys i (omega (arith, h))

get_in_back : {X : Type 0} (xs ys : List X) → slice_get (xs ++ ys) (length xs) ≡ slice_get ys 0
get_in_back [] ys = refl
get_in_back (z ∷ xs) ys = get_in_back xs ys

-- a place of the front, and the first of the back
module _ {X : Type 0} (items front back : List X) (i j : ℕ) (whole : items ≡ front ++ back) (cut : length front ≡ j) (before : i < j) (within : j < length items) where
  pub front_at : (d : X) → slice_get items i ≡ Some (slice_index_or front i d)
  front_at d = ap (λ (xs : List X). slice_get xs i) whole ∙ get_in_front front back i (omega (arith, cut, before)) ∙ slice_get-get_or front i d (omega (arith, cut, before))

  some_back : 0 < length back
  some_back = omega (arith, within, cut, ap length whole, length-append front back)

  pub back_at : (d : X) → slice_get items j ≡ Some (slice_index_or back 0 d)
  back_at d = ap (λ (xs : List X). slice_get xs j) whole ∙ ap (slice_get (front ++ back)) (sym cut) ∙ get_in_back front back ∙ slice_get-get_or back 0 d some_back

  pub back_then_front : (x y : X) → slice_set front i x ++ slice_set back 0 y ≡ slice_set (slice_set items j y) i x
  back_then_front x y =
      sym (set_in_front front (slice_set back 0 y) i x (omega (arith, cut, before)))
      ∙ ap (λ (xs : List X). slice_set xs i x) (sym (set_in_back front back y) ∙ (λ n. slice_set (sym whole n) (cut n) y))

  pub front_then_back : (x y : X) → slice_set front i x ++ slice_set back 0 y ≡ slice_set (slice_set items i x) j y
  front_then_back x y =
      sym (set_in_back (slice_set front i x) back y)
      ∙ (λ n. slice_set ((sym (set_in_front front back i x (omega (arith, cut, before))) ∙ ap (λ (xs : List X). slice_set xs i x) (sym whole)) n) ((length-set front i x ∙ cut) n) y)

-- a list of the same length in the place of another, through a reference
put_back : {X : Type 0} (items new : List X) (n : ℕ) → n ≡ length new → take n (new ++ drop (length new) items) ≡ new
put_back items new n e = ap (λ k. take k (new ++ drop (length new) items)) e ∙ take-append_seam new (drop (length new) items)

-- what stands at another place stays
pub get_elsewhere : {X : Type 0} (xs : List X) (i j : ℕ) (x : X) → i ≢ j → slice_get (slice_set xs j x) i ≡ slice_get xs i
get_elsewhere [] i j x apart = refl
get_elsewhere (y ∷ ys) zero zero x apart = absurd (apart refl)
get_elsewhere (y ∷ ys) zero (suc j) x apart = refl
get_elsewhere (y ∷ ys) (suc i) zero x apart = refl
get_elsewhere (y ∷ ys) (suc i) (suc j) x apart = get_elsewhere ys i j x (λ e. apart (ap suc e))

-- ---- a pull between two places

-- of the list that is lent, and so of the one that lends it
pub whole_pull : {C : Type 0} (pulls : SessionOf C → SessionOf C → SessionOf C → SessionOf C → Type 0) (lent items new : List (Named C)) (at from : ℕ) → lent ≡ items → PullsAt pulls at from (map pair lent) (map pair new)
    → PullsAt pulls at from (map pair items) (map pair new)
whole_pull {C} pulls lent items new at from e p = subst (λ (xs : List (Named C)). PullsAt pulls at from (map pair xs) (map pair new)) e p

same_length : {C : Type 0} (pulls : SessionOf C → SessionOf C → SessionOf C → SessionOf C → Type 0) (items new : List (Named C)) (at from : ℕ) → PullsAt pulls at from (map pair items) (map pair new) → length new ≡ length items
same_length pulls items new at from p =
    sym (length-map new pair) ∙ ap length p.left ∙ length-set (slice_set (map pair items) from (p.peer.0, p.peer_new)) at (p.taker.0, p.taker_new) ∙ length-set (map pair items) from (p.peer.0, p.peer_new) ∙ length-map items pair

-- the fleet that is left, by what stands at the two places
pub left_behind : {C : Type 0} (pulls : SessionOf C → SessionOf C → SessionOf C → SessionOf C → Type 0) (items new : List (Named C)) (n at from : ℕ) (in_use : Option ℕ) → n ≡ length items → (p : PullsAt pulls at from (map pair items) (map pair new))
    → ◌≡◌ {A = FleetOf (SessionOf C)} (map pair (take n (new ++ drop (length new) items)), in_use) (slice_set (slice_set (map pair items) from (p.peer.0, p.peer_new)) at (p.taker.0, p.taker_new), in_use)
left_behind pulls items new n at from in_use e p =
    let back = put_back items new n (e ∙ sym (same_length pulls items new at from p)) in
    (λ i. ((ap (map pair) back ∙ p.left) i, in_use))
