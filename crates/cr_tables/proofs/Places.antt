-- Where a reading of a list stands.
use Rattle.std.proofs.Common.{◌≡◌, ℕ, zero, suc, ◌+◌, arith, false, List, [], ◌∷◌, refl, ap, ◌∙◌, drop, length, map}
use Rattle.std.proofs.Math.Dec.{leb, leb-zero, leb-suc-zero, leb-suc-suc}
use Rattle.cr_lattice.specs.declared.stamped.Stamped.{Stamped}
use Rattle.cr_query.specs.Query.{Row}
use Rattle.cr_module.specs.Lawful.{first_row, is_at_end, rest_of}
use Rattle.cr_world.specs.State.{row_of}

next_from : (rows : List Row) (n : ℕ) → drop (suc n) rows ≡ rest_of (drop n rows)
next_from [] zero = refl
next_from [] (suc n) = refl
next_from (row ∷ rows) zero = refl
next_from (row ∷ rows) (suc n) = next_from rows n

pub rest_from : (rows : List Row) (n : ℕ) → drop (n + 1) rows ≡ rest_of (drop n rows)
rest_from rows n = (let one : n + 1 ≡ suc n = omega arith in ap (λ (k : ℕ). drop k rows) one) ∙ next_from rows n

pub end_is : (rows : List Row) (n : ℕ) → leb (length rows) n ≡ is_at_end (drop n rows)
end_is [] zero = refl
end_is [] (suc n) = leb-zero (suc n)
end_is (row ∷ rows) zero = leb-suc-zero (length rows)
end_is (row ∷ rows) (suc n) = leb-suc-suc (length rows) n ∙ end_is rows n

-- a row of the table of changes has nine values
pub change_width : (cells : List Stamped) → is_at_end (map row_of cells) ≡ false → 9 ≡ length (first_row (map row_of cells))
change_width [] some = absurd (let z : ⊥ = cc in z)
change_width (s ∷ cells) some = refl
