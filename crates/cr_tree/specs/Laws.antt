-- Laws of languages and their limits. Source: this project's own.
use Rattle.std.specs.Prelude.{◌≡◌, ℕ, List}
use Rattle.cr_tree.specs.declared.symbol.Symbol.{Symbol}
use Rattle.cr_tree.specs.declared.limits.LimitKind.{LimitKind}
use Rattle.cr_tree.specs.Language.{Language}
use Rattle.cr_tree.specs.Judging.{IsRead, IsBadPlace, MeetsLimit}

-- what may be told of symbols
pub data Answer (A : Type 0) : Type 0 where
  Read : A → Answer A
  BadPlace : ℕ → Answer A
  Meets : LimitKind → Answer A

-- it is true of them
abbrev pub Holds : {A : Type 0} → Language A → List Symbol → Answer A → Type 0
Holds L ts (Read a) = IsRead L ts a
Holds L ts (BadPlace n) = IsBadPlace L ts n
Holds L ts (Meets k) = MeetsLimit k L ts

-- Of any symbols one answer is true, and no other: they are read in one way, or have one bad place, or meet a limit of
-- one kind.
abbrev pub OneAnswer : {A : Type 0} → Language A → Type 0
OneAnswer {A} L = (ts : List Symbol) → (answer : Answer A) × Holds L ts answer × ((other : Answer A) → Holds L ts other → other ≡ answer)
