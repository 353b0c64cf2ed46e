-- The words of a line. Source: this project's own line format.
use Rattle.std.specs.Prelude.{ℕ, ◌+◌, Bool, true, false, not, ◌==◌, nat_lt, List, [], ◌∷◌, length, take, drop, Option, Some, None, if◌then◌else◌}
use Rattle.std.specs.List.{list_any, prefix_len}

abbrev pub has_space : List ℕ → Bool
has_space bytes = list_any (λ c. c == 32) bytes

-- the word before the first space, and what follows the space
unfoldable pub split_at_space : List ℕ → Option (List ℕ × List ℕ)
split_at_space bytes =
    let n = prefix_len (λ c. not (c == 32)) bytes in
    if nat_lt n (length bytes) then Some (take n bytes, drop (n + 1) bytes) else None

-- what is behind a byte that stands here
unfoldable pub behind : ℕ → List ℕ → Option (List ℕ)
behind c [] = None
behind c (b ∷ bs) = if b == c then Some bs else None

abbrev pub is_empty : List ℕ → Bool
is_empty [] = true
is_empty (c ∷ cs) = false
