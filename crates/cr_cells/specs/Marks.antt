-- For each peer's site the peer's version up to which its changes were taken. Source: this project's own.
use Rattle.std.specs.Prelude.{ℕ, ℤ, pos, ◌≤ℤ◌, List, ◌∷◌, ◌++◌, filter, find, Option, Some, None}
use Rattle.std.specs.List.{AllByRecursion}
use Rattle.std.specs.List.Sorted.{IsStrictlySortedBy}
use Rattle.std.specs.Option.{option_map_or}
use Rattle.std.specs.declared.cmp.Ordering.{Ordering}
use Rattle.std.specs.Ordering.{on, is_lt}
use Rattle.cr_value.specs.Order.{bytes_cmp}
use Rattle.cr_lattice.specs.Check.{same_bytes}

-- a peer's site and the version
abbrev pub Mark : Type 0
Mark = List ℕ × ℤ

-- by site
abbrev pub mark_cmp : Mark → Mark → Ordering
mark_cmp = on (λ m. m.0) bytes_cmp

-- the version of a site's mark, 0 where there is none
unfoldable pub seen_of : List Mark → List ℕ → ℤ
seen_of marks site = option_map_or (λ m. m.1) (find (λ m. same_bytes m.0 site) marks) (pos 0)

-- the marks of other sites stay, and this one stands among them by its site
unfoldable pub with_mark : List Mark → Mark → List Mark
with_mark marks m = filter (λ o. is_lt (mark_cmp o m)) marks ++ m ∷ filter (λ o. is_lt (mark_cmp m o)) marks

abbrev pub marks_after : List Mark → Option Mark → List Mark
marks_after marks None = marks
marks_after marks (Some m) = with_mark marks m

-- one mark per site, by site, each at least 0
pub record AreMarks (marks : List Mark) : Type 0 where
  pub by_site : IsStrictlySortedBy mark_cmp marks
  pub from_0 : AllByRecursion (λ m. pos 0 ≤ℤ m.1) marks
