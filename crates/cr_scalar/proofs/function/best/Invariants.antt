use Rattle.std.proofs.Common.{◌≡◌, drop}
use Rattle.std.specs.List.{best_of}
use Rattle.cr_host.specs.Registry.{found_order}
use Rattle.cr_scalar.specs.Functions.{goes_before}
use Rattle.cr_scalar.proofs.function.best.Given as goal

abbrev pub invariant-loop-other : goal.invariant-loop-other
invariant-loop-other g l =
    best_of (goes_before (found_order (g.F.Functions.order_at l.functions) l.collation) l.is_greatest) l.best (drop l.other-index l.others)
    ≡ best_of (goes_before (found_order (g.F.Functions.order_at l.functions) l.collation) l.is_greatest) l.first l.others
