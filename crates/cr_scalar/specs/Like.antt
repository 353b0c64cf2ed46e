-- How LIKE is decided from the end of its pattern. Source: this project's own.
use Rattle.std.specs.Prelude.{◌≡◌, ℕ, ◌+◌, ◌≤◌, Bool, false, List, length, get_or, drop}
use Rattle.cr_scalar.specs.Texts.{matches}

-- for each end of a text, from the whole to the empty one, whether a pattern matches it
pub record MatchesEnds (ps : List ℕ) (text : List ℕ) (ends : List Bool) : Type 0 where
  pub len : length ends ≡ length text + 1
  pub each : (k : ℕ) → k ≤ length text → get_or ends k false ≡ matches ps (drop k text)
