-- What is hidden twice is hidden once, so a statement sees of two stores what was allowed in both.
use Rattle.std.proofs.Common.{◌≡◌, Bool, true, false, cond, map, List, [], ◌∷◌, refl, ap, subst}
use Rattle.cr_bags.specs.Bags.{SameBag}
use Rattle.cr_value.specs.declared.value.Value.TheVariants.{Null}
use Rattle.cr_query.specs.Query.{Row, SameTables}
use Rattle.cr_query.specs.Plans.{masked, seen, Within, AllWithin}
use Rattle.cr_bags.proofs.BagLaws.{bag-map}

-- ---- what is hidden twice is hidden once

module _ where
  masked_masked : (s t : List Bool) (row : Row) → Within s t → masked s (masked t row) ≡ masked s row
  masked_masked [] [] row w = refl
  masked_masked [] (b ∷ bs) row w = absurd w
  masked_masked (a ∷ rest) [] row w = absurd w
  masked_masked (a ∷ rest) (b ∷ bs) [] w = refl
  masked_masked (a ∷ rest) (b ∷ bs) (v ∷ vs) w = λ i. one a b w.0 i ∷ masked_masked rest bs vs w.1 i where
    one : (a b : Bool) → (a ≡ true → b ≡ true) → cond a (cond b v Null) Null ≡ cond a v Null
    one true b h = ap (λ b. cond b v Null) (h refl)
    one false b h = refl

  map_masked : (s t : List Bool) → Within s t → (rows : List Row) → map (masked s) (map (masked t) rows) ≡ map (masked s) rows
  map_masked s t w [] = refl
  map_masked s t w (r ∷ rs) = λ i. masked_masked s t r w i ∷ map_masked s t w rs i

  -- the columns that stand were all allowed: tables alike where the hidden are NULL are alike where all but the standing are
  pub seen_alike : (ss ts : List (List Bool)) (tables more : List (List Row)) → AllWithin ss ts → SameTables (seen ts tables) (seen ts more) → SameTables (seen ss tables) (seen ss more)
  seen_alike [] [] tables more w same = same
  seen_alike [] (t ∷ ts) tables more w same = absurd w
  seen_alike (s ∷ ss) [] tables more w same = absurd w
  seen_alike (s ∷ ss) (t ∷ ts) [] [] w same = tt
  seen_alike (s ∷ ss) (t ∷ ts) [] (u ∷ us) w same = absurd same
  seen_alike (s ∷ ss) (t ∷ ts) (u ∷ us) [] w same = absurd same
  seen_alike (s ∷ ss) (t ∷ ts) (u ∷ us) (x ∷ xs) w same =
      let both = bag-map (masked s) same.0 in
      (subst (λ l. SameBag l (map (masked s) x)) (map_masked s t w.0 u) (subst (λ l. SameBag (map (masked s) (map (masked t) u)) l) (map_masked s t w.0 x) both), seen_alike ss ts us xs w.1 same.1)
