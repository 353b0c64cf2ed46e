use Rattle.std.proofs.Common.{drop, map}
use Rattle.cr_scalar.specs.Host.{host}
use Rattle.cr_bags.specs.Bags.{gather}
use Rattle.cr_exec.specs.Answers.{behind}
use Rattle.cr_exec.specs.Comparisons.{held_order}
use Rattle.cr_exec.specs.Groups.{judged_by, pair_of, group_of}
use Rattle.cr_exec.specs.Shows.{shown_of}
use Rattle.cr_exec.proofs.Stages.{Gives}
use Rattle.cr_exec.proofs.grouped.show_classes.Given as goal

abbrev pub invariant-loop-class : goal.invariant-loop-class
invariant-loop-class g l =
    Gives (host (g.F.Functions.function_of l.functions) (g.F.Functions.scalar l.functions) (g.F.Functions.step l.functions) (g.F.Functions.finish l.functions) (g.F.Functions.order_of l.functions)) l.params
    (λ m. behind (map shown_of l.out.items) (gather (λ k. judged_by m (λ e. m.over e (group_of (map (held_order (g.F.Functions.order_at l.functions)) l.senses) (map pair_of l.keyed) k)) l.having l.results l.keys) (drop l.class-index l.classes)))
    (λ m. gather (λ k. judged_by m (λ e. m.over e (group_of (map (held_order (g.F.Functions.order_at l.functions)) l.senses) (map pair_of l.keyed) k)) l.having l.results l.keys) l.classes)
