-- Which columns of its tables stand in a query. Source: this project's own.
use Rattle.std.specs.Prelude.{ℕ, ◌+◌, ◌==◌, Bool, List, [], ◌∷◌, ◌++◌, map, take, drop}
use Rattle.std.specs.Option.{option_to_list}
use Rattle.std.specs.List.{flat_map, list_any, range_with_len}
use Rattle.cr_query.specs.Queries.{Query, Joining}

-- a combination's columns, table by table
abbrev pub split : {E : Type 0} → List (Joining E) → List Bool → List (List Bool)
split [] mask = []
split (j ∷ js) mask = take j.width mask ∷ split js (drop j.width mask)

-- the number of a combination's columns
abbrev pub total : {E : Type 0} → List (Joining E) → ℕ
total [] = 0
total (j ∷ js) = j.width + total js

-- all expressions of a query
abbrev pub exprs : {E : Type 0} → Query E → List E
exprs q = flat_map (λ j. j.on) q.sources ++ q.terms ++ q.group ++ option_to_list q.having ++ q.results ++ map (λ t. t.expr) q.order

-- one of them has the place
abbrev pub is_at : {E : Type 0} → (E → List ℕ) → List E → ℕ → Bool
is_at places es n = list_any (λ e. list_any (λ p. p == n) (places e)) es

abbrev pub mask_of : {E : Type 0} → (E → List ℕ) → Query E → List Bool
mask_of places q = map (is_at places (exprs q)) (range_with_len 0 (total q.sources))

-- for each table those of its columns that stand in the query, where places are those of an expression's columns in a
-- combination
abbrev pub standing : {E : Type 0} → (E → List ℕ) → Query E → List (List Bool)
standing places q = split q.sources (mask_of places q)
