use Rattle.std.proofs.Common.{drop, map, option_map}
use Rattle.cr_scalar.specs.Host.{host}
use Rattle.cr_bags.specs.Bags.{gather, each, single}
use Rattle.cr_query.specs.Writes as writes
use Rattle.cr_meaning.specs.View.{plain}
use Rattle.cr_exec.specs.Answers.{behind}
use Rattle.cr_exec.proofs.Stages.{Gives}
use Rattle.cr_wanted.proofs.insert.inserted_each.Given as goal

abbrev pub invariant-loop-tuple : goal.invariant-loop-tuple
invariant-loop-tuple g l =
    Gives (host (g.F.Functions.function_of l.functions) (g.F.Functions.scalar l.functions) (g.F.Functions.step l.functions) (g.F.Functions.finish l.functions) (g.F.Functions.order_of l.functions)) l.params (λ m. behind l.out.items (gather (λ t. option_map single (writes.inserted m l.columns l.places (map plain t))) (drop l.tuple-index l.tuples)))
    (λ m. each (λ t. writes.inserted m l.columns l.places (map plain t)) l.tuples)
