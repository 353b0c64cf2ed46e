-- The functions of the engine, and the counts of arguments that they take.
-- Source: "Built-In Scalar SQL Functions" and "Built-in Aggregate Functions" of SQLite, those that this project keeps.
use Rattle.std.specs.Prelude.{ℕ, List, Bool, ◌&&◌, ◌||◌, ◌==◌, nat_le, codes}
use Rattle.std.specs.Str.{bytes_eq}
use Rattle.cr_host.specs.Names.{folded}

-- the name, its ASCII letters in either case, is this one
abbrev is : List ℕ → List ℕ → Bool
is name known = bytes_eq (folded name) known

abbrev pub takes_one : List ℕ → Bool
takes_one name = is name (codes "abs") || is name (codes "hex") || is name (codes "length") || is name (codes "lower") || is name (codes "upper") || is name (codes "typeof")

abbrev pub takes_two : List ℕ → Bool
takes_two name = is name (codes "ifnull") || is name (codes "nullif")

abbrev pub takes_two_or_more : List ℕ → Bool
takes_two_or_more name = is name (codes "coalesce") || is name (codes "min") || is name (codes "max")

abbrev pub is_aggregate : List ℕ → Bool
is_aggregate name = is name (codes "count") || is name (codes "sum") || is name (codes "min") || is name (codes "max")

abbrev pub is_built_in_scalar : List ℕ → ℕ → Bool
is_built_in_scalar name count = (takes_one name && (count == 1)) || (takes_two name && (count == 2)) || (takes_two_or_more name && nat_le 2 count)

abbrev pub is_built_in_aggregate : List ℕ → ℕ → Bool
is_built_in_aggregate name count = is_aggregate name && (count == 1)

abbrev pub is_built_in_function : List ℕ → Bool
is_built_in_function name = takes_one name || takes_two name || takes_two_or_more name || is_aggregate name
