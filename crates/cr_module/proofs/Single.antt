-- Rows of one value each.
use Rattle.std.proofs.Common.{◌≡◌, ℕ, zero, suc, ◌+◌, arith, List, [], ◌∷◌, ◌++◌, refl, sym, ap, ◌∙◌, map, drop, length}
use Rattle.std.proofs.Math.Dec.{leb, leb-zero, leb-suc-zero, leb-suc-suc}
use Rattle.cr_value.specs.declared.value.Value.{Value}
use Rattle.cr_value.specs.declared.value.Value.TheVariants.{Null}
use Rattle.cr_lattice.specs.declared.table.ColumnDef.{ColumnDef}
use Rattle.cr_bags.specs.Bags.{single}
use Rattle.cr_query.specs.Query.{Row}
use Rattle.cr_module.specs.Lawful.{AreWide, head_value, is_at_end, rest_of, value_at}

-- the rows of values from a place on
abbrev pub rows_from : ℕ → List Value → List Row
rows_from n vs = map single (drop n vs)

next_from : (vs : List Value) (n : ℕ) → rows_from (suc n) vs ≡ rest_of (rows_from n vs)
next_from [] zero = refl
next_from [] (suc n) = refl
next_from (v ∷ vs) zero = refl
next_from (v ∷ vs) (suc n) = next_from vs n

pub rest_from : (vs : List Value) (n : ℕ) → rows_from (n + 1) vs ≡ rest_of (rows_from n vs)
rest_from vs n = (let one : n + 1 ≡ suc n = omega arith in ap (λ (k : ℕ). rows_from k vs) one) ∙ next_from vs n

pub none_beside : (vs : List Value) (n at : ℕ) → (at ≡ 0 → ⊥) → Null ≡ head_value at (rows_from n vs)
none_beside vs n zero some = absurd (some refl)
none_beside [] zero (suc at) some = refl
none_beside [] (suc n) (suc at) some = refl
none_beside (v ∷ vs) zero (suc at) some = refl
none_beside (v ∷ vs) (suc n) (suc at) some = none_beside vs n (suc at) some

pub end_is : (vs : List Value) (n : ℕ) → leb (length vs) n ≡ is_at_end (rows_from n vs)
end_is [] zero = refl
end_is [] (suc n) = leb-zero (suc n)
end_is (v ∷ vs) zero = leb-suc-zero (length vs)
end_is (v ∷ vs) (suc n) = leb-suc-suc (length vs) n ∙ end_is vs n

pub singles_wide : (columns : List ColumnDef) (vs : List Value) → length columns ≡ 1 → AreWide columns (map single vs)
singles_wide columns [] one = tt
singles_wide columns (v ∷ vs) one = (sym one, singles_wide columns vs one)

one_value : (row : Row) → length row ≡ 1 → single (value_at 0 row) ≡ row
one_value [] one = absurd (let z : ⊥ = cc in z)
one_value (v ∷ []) one = refl
one_value (v ∷ w ∷ row) one = absurd (omega (arith, one))

-- rows of one value are their first values
firsts_are : (columns : List ColumnDef) (rows : List Row) → length columns ≡ 1 → AreWide columns rows → map single (map (value_at 0) rows) ≡ rows
firsts_are columns [] one wide = refl
firsts_are columns (row ∷ rows) one wide = λ i. one_value row (wide.0 ∙ one) i ∷ firsts_are columns rows one wide.1 i

singles_behind : (vs ws : List Value) → map single (vs ++ ws) ≡ map single vs ++ map single ws
singles_behind [] ws = refl
singles_behind (v ∷ vs) ws = ap (λ (rs : List Row). single v ∷ rs) (singles_behind vs ws)

pub taken : (columns : List ColumnDef) (vs : List Value) (rows : List Row) → length columns ≡ 1 → AreWide columns rows → map single vs ++ rows ≡ map single (vs ++ map (value_at 0) rows)
taken columns vs rows one wide = ap (λ (rs : List Row). map single vs ++ rs) (sym (firsts_are columns rows one wide)) ∙ sym (singles_behind vs (map (value_at 0) rows))
