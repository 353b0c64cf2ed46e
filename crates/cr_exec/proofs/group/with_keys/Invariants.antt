use Rattle.std.proofs.Common.{drop, map, option_map}
use Rattle.cr_scalar.specs.Host.{host}
use Rattle.cr_bags.specs.Bags.{gather, each, single}
use Rattle.cr_exec.specs.Answers.{behind}
use Rattle.cr_exec.specs.Groups.{keyed_by, pair_of}
use Rattle.cr_exec.proofs.Stages.{Gives}
use Rattle.cr_exec.proofs.group.with_keys.Given as goal

abbrev pub invariant-loop-combination : goal.invariant-loop-combination
invariant-loop-combination g l =
    Gives (host (g.F.Functions.function_of l.functions) (g.F.Functions.scalar l.functions) (g.F.Functions.step l.functions) (g.F.Functions.finish l.functions) (g.F.Functions.order_of l.functions)) l.params (λ m. behind (map pair_of l.out.items) (gather (λ d. option_map single (keyed_by m l.exprs d)) (drop l.combination-index l.combinations))) (λ m. each (keyed_by m l.exprs) l.combinations)
