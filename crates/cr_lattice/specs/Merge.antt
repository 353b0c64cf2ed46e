-- The order in which a merge goes over changes, and which of two neighbours stays. Source: this project's own.
use Rattle.std.specs.Prelude.{Bool, ◌||◌}
use Rattle.std.specs.declared.cmp.Ordering.{Ordering}
use Rattle.std.specs.Ordering.{int_cmp, on, then_cmp, flip_args, is_lt, eq_by_cmp}
use Rattle.cr_lattice.specs.declared.change.Change.{Change}
use Rattle.cr_lattice.specs.Change.{row_cmp, cid_cmp, weight_cmp, change_cmp, beats}

-- by row, the greatest causal length first, then by cid, the greatest weight first: what wins comes before what it beats
unfoldable pub merge_cmp : Change → Change → Ordering
merge_cmp = then_cmp row_cmp (then_cmp (flip_args (on (λ c. c.cl) int_cmp)) (then_cmp (on (λ c. c.cid) cid_cmp) (flip_args weight_cmp)))

-- c comes before d
abbrev pub comes_before : Change → Change → Bool
comes_before c d = is_lt (merge_cmp c d)

-- c goes: it is the one that stayed last, or that one beats it
unfoldable pub goes_after : Change → Change → Bool
goes_after c last = eq_by_cmp change_cmp c last || beats last c
