use Rattle.std.proofs.Common.{◌≡◌, false, take}
use Rattle.std.specs.List.{list_any, AllByRecursion}
use Rattle.cr_lattice.specs.Check.{same_bytes}
use Rattle.cr_fleet.proofs.fleet.has_site.Given as goal

-- no store up to here has the site
abbrev pub invariant-loop-named : goal.invariant-loop-named
invariant-loop-named g l =
    AllByRecursion (λ r. g.C.Cells.is_clean r.session.0) l.replicas → list_any (λ r. same_bytes (g.C.Cells.holding r.session.0).site l.site) (take l.named-index l.replicas) ≡ false
