-- The tables of a view, by their places.
use Rattle.std.proofs.Common.{◌≡◌, ℕ, suc, ◌+◌, arith, List, [], ◌∷◌, refl, ap, ◌∙◌, length, map}
use Rattle.std.specs.Prelude.{Some, slice_get}
use Rattle.cr_query.specs.Query.{Row}
use Rattle.cr_module.specs.Reading.{tables_between}
use Rattle.cr_replica.specs.declared.snapshot.Snapshot.{Snapshot}
use Rattle.cr_term.specs.declared.query.Joined.{Joined}
use Rattle.cr_snapshot.specs.Seen.{name_of, rows_seen}
use Rattle.cr_tables.specs.Views.{rows_at, rows_or_none}

module _ {X : Type 0} (f : ℕ → List Row) (g : X → List Row) where
  -- tables by number are those of the members of a list
  between_is : (xs : List X) (n : ℕ) → ((i : ℕ) (x : X) → slice_get xs i ≡ Some x → f (n + i) ≡ g x) → tables_between f n (length xs) ≡ map g xs
  between_is [] n same = refl
  between_is (x ∷ xs) n same =
      let first : f n ≡ g x = (let here : n ≡ n + 0 = omega arith in ap f here) ∙ same 0 x refl in
      let rest : tables_between f (suc n) (length xs) ≡ map g xs =
      between_is xs (suc n) (λ i y is. (let there : suc n + i ≡ n + suc i = omega arith in ap f there) ∙ same (suc i) y is) in
      λ i. first i ∷ rest i

-- the tables of a view are those that the query names
pub tables_seen : (s : Snapshot) (joined : List Joined) → tables_between (rows_at s joined) 0 (length joined) ≡ map (λ j. rows_seen s (name_of j)) joined
tables_seen s joined =
    between_is (rows_at s joined) (λ j. rows_seen s (name_of j)) joined 0
    (λ i j is. (let here : 0 + i ≡ i = omega arith in ap (rows_at s joined) here) ∙ ap (rows_or_none s) is)
