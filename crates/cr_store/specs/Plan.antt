-- What a commit writes.
use Rattle.std.specs.Prelude.{◌≡◌, ℤ, pos, Bool, not, ◌&&◌, List, [], ◌∷◌, filter, map, cond, int_lt}
use Rattle.std.specs.List.{flat_map, list_any, AllByRecursion}
use Rattle.cr_lattice.specs.declared.change.Change.{Change}
use Rattle.cr_lattice.specs.declared.stamped.Stamped.{Stamped}
use Rattle.cr_lattice.specs.Change.{beats}
use Rattle.cr_cells.specs.Holding.{changes_of}
pub use Rattle.cr_cells.specs.Commit.{is_new}
use Rattle.cr_cells.specs.Commit.{stamped}
use Rattle.cr_store.specs.declared.plan.New.{New}
use Rattle.cr_store.specs.declared.plan.Plan.{Plan}
use Rattle.cr_store.specs.Words.{same_key, replaced}

-- c beats d, which is of another cell
abbrev pub removes : Change → Change → Bool
removes c d = beats c d && not (same_key d c)

-- the kept changes of other cells that some of these beat
abbrev pub gone_by : List Change → List Change → List Change
gone_by kept news = flat_map (λ c. filter (removes c) kept) news

-- a cell of the change's key is there
abbrev pub is_there : List Stamped → Change → Bool
is_there ss c = list_any (λ s. same_key s.change c) ss

-- What is to be written where these changes are taken over these cells: each that is new, as a cell of a version, from
-- place 0 on, and whether it replaces a cell; and the changes of other cells that they remove.
pub record IsPlan (ss : List Stamped) (cs : List Change) (version : ℤ) (p : Plan) : Type 0 where
  pub news : map (λ n. n.cell) p.news.items ≡ stamped version (pos 0) (filter (is_new (changes_of ss)) cs)
  pub there : AllByRecursion (λ n. n.is_there ≡ is_there ss n.cell.change) p.news.items
  pub gone : p.gone.items ≡ gone_by (changes_of ss) (filter (is_new (changes_of ss)) cs)

-- the cells with one that comes in
abbrev pub put_new : New → List Stamped → List Stamped
put_new n ss = cond n.is_there (replaced n.cell ss) (n.cell ∷ ss)

abbrev pub put_all : List New → List Stamped → List Stamped
put_all [] ss = ss
put_all (n ∷ ns) ss = put_all ns (put_new n ss)

-- the cells but that of a change, if it was there before a version
abbrev pub without_old : ℤ → Change → List Stamped → List Stamped
without_old version c ss = filter (λ s. not (same_key s.change c && int_lt s.version version)) ss

abbrev pub without_all : ℤ → List Change → List Stamped → List Stamped
without_all version [] ss = ss
without_all version (c ∷ cs) ss = without_all version cs (without_old version c ss)
