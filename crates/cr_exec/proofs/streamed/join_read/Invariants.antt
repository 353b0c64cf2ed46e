use Rattle.std.proofs.Common.{◌≡◌, List, Option, length, map}
use Rattle.cr_scalar.specs.Host.{host}
use Rattle.cr_bags.specs.Bags.{gather}
use Rattle.cr_query.specs.Query.{Row, Meaning}
use Rattle.cr_meaning.specs.View.{Ordered}
use Rattle.cr_exec.specs.Answers.{behind}
use Rattle.cr_exec.specs.Combinations.{tail}
use Rattle.cr_exec.specs.LookUps.{join_of, rows_of}
use Rattle.cr_exec.specs.Scopes.{there}
use Rattle.cr_exec.proofs.Stages.{Gives}
use Rattle.cr_exec.proofs.streamed.join_read.Given as goal

abbrev pub invariant-loop-alloc : goal.invariant-loop-alloc
invariant-loop-alloc g l =
    let s = g.S.Source in
    let f = g.F.Functions in
    let own = l.functions in
    let h = host (f.function_of own) (f.scalar own) (f.step own) (f.finish own) (f.order_of own) in
    let one : Meaning Ordered → Row → Option (List Row) = λ m. tail m (map there l.terms) (map join_of l.later) (map rows_of l.later) in
    Gives h l.params (λ m. behind l.out.items (gather (one m) (s.left l.source l.cursor)))
    (λ m. behind l.fn.out.items (gather (one m) (s.rows_of l.fn.source 0)))
    × (s.rows_of l.source ≡ s.rows_of l.fn.source) × (s.has_failed l.source ≡ s.has_failed l.fn.source)

abbrev pub decreases-loop-alloc : goal.decreases-loop-alloc
decreases-loop-alloc g l = length (g.S.Source.left l.source l.cursor)
