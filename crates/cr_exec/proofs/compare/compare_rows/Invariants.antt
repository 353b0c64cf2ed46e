use Rattle.std.proofs.Common.{◌≡◌, drop, map}
use Rattle.cr_exec.specs.Comparisons.{by_orders, held_order}
use Rattle.cr_exec.proofs.compare.compare_rows.Given as goal

abbrev pub invariant-loop-place : goal.invariant-loop-place
invariant-loop-place g l =
    by_orders (map (held_order (g.F.Functions.order_at l.functions)) (drop l.place l.senses)) (drop l.place l.a) (drop l.place l.b)
    ≡ by_orders (map (held_order (g.F.Functions.order_at l.functions)) l.senses) l.a l.b
