use Rattle.std.proofs.Common.{◌≡◌, drop}
use Rattle.cr_host.specs.Registry.{found_order}
use Rattle.cr_scalar.specs.Functions.{extreme}
use Rattle.cr_scalar.specs.Aggregates.{values, ranks_before}
use Rattle.cr_scalar.proofs.Folds.{best_from}
use Rattle.cr_scalar.proofs.aggregate.extreme.Given as goal

abbrev pub invariant-loop-row : goal.invariant-loop-row
invariant-loop-row g l =
    best_from (ranks_before (found_order (g.F.Functions.order_at l.functions) l.found) l.is_greatest) l.best (values (drop l.row-index l.rows))
    ≡ extreme (ranks_before (found_order (g.F.Functions.order_at l.functions) l.found) l.is_greatest) (values l.rows)
