use Rattle.std.proofs.Common.{◌≡◌, List, [], Option, length}
use Rattle.cr_scalar.specs.Host.{host}
use Rattle.cr_bags.specs.Bags.{gather}
use Rattle.cr_query.specs.Query.{Row, Meaning}
use Rattle.cr_meaning.specs.View.{Ordered}
use Rattle.cr_exec.specs.Answers.{behind}
use Rattle.cr_exec.proofs.Stages.{Gives}
use Rattle.cr_wanted.specs.Rows.{kept_by}
use Rattle.cr_wanted.proofs.delete.kept_each.Given as goal

abbrev pub invariant-loop-alloc : goal.invariant-loop-alloc
invariant-loop-alloc g l =
    let s = g.S.Source in
    let f = g.F.Functions in
    let own = l.functions in
    let h = host (f.function_of own) (f.scalar own) (f.step own) (f.finish own) (f.order_of own) in
    let one : Meaning Ordered → Row → Option (List Row) = λ m. kept_by m l.terms in
    Gives h l.params (λ m. behind l.out.items (gather (one m) (s.left l.source l.cursor)))
    (λ m. behind [] (gather (one m) (s.rows_of l.fn.source l.table)))
    × (s.rows_of l.source ≡ s.rows_of l.fn.source) × (s.has_failed l.source ≡ s.has_failed l.fn.source)

abbrev pub decreases-loop-alloc : goal.decreases-loop-alloc
decreases-loop-alloc g l = length (g.S.Source.left l.source l.cursor)
