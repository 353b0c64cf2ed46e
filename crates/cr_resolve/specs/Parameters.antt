-- Which parameters a statement has. Source: this project's own.
use Rattle.std.specs.Prelude.{ℕ, ◌==◌, ◌&&◌, nat_le, max, Bool, List, fold}
use Rattle.std.specs.List.{flat_map, list_all}
use Rattle.cr_tree.specs.declared.statement.Statement.{Statement}
use Rattle.cr_resolve.specs.Trees.{params}
use Rattle.cr_resolve.specs.Resolve.{trees}

-- their numbers, in source order
abbrev pub parameters : Statement → List ℕ
parameters x = flat_map params (trees x)

-- the greatest is the count that is given, and each is 1 to 999
abbrev pub fits : Statement → ℕ → Bool
fits x count = (fold max 0 (parameters x) == count) && list_all (λ n. nat_le 1 n && nat_le n 999) (parameters x)
