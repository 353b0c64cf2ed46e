-- Nothing is stamped above a store's own version.
use Rattle.std.proofs.Common.{◌≡◌, ℤ, ◌≤ℤ◌, arith, false, List, [], ◌∷◌, refl, ap}
use Rattle.std.proofs.lemmas.Int.{ints}
use Rattle.std.specs.Prelude.{filter, int_lt}
use Rattle.std.specs.List.{AllByRecursion}
use Rattle.cr_lattice.specs.declared.stamped.Stamped.{Stamped}
use Rattle.cr_lattice.specs.Sets.{set_of}
use Rattle.cr_cells.specs.Holding.{Holding, IsSound, IsStampedTo, changes_of, since, stamp_cmp}

none_above : (version above : ℤ) (ss : List Stamped) → version ≤ℤ above → AllByRecursion (IsStampedTo version) ss → filter (λ s. int_lt above s.version) ss ≡ []
none_above version above [] past all = refl
none_above version above (s ∷ ss) past all =
    let low : int_lt above s.version ≡ false = (let up : s.version ≤ℤ version = all.0.past in grind (arith, ints)) in
    rw low (none_above version above ss past all.1)

pub nothing_above : (h : Holding) (above : ℤ) → IsSound h → h.version ≤ℤ above → changes_of (since h.cells above) ≡ []
unfolding since
nothing_above h above sound past = ap (λ ss. changes_of (set_of stamp_cmp ss)) (none_above h.version above h.cells past sound.stamped)
