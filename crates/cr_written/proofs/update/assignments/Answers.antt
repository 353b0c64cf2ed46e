use Rattle.std.proofs.Common.{◌∷◌, [], rules}
use Rattle.cr_resolve.specs.Told.{Refuses}
use Rattle.cr_resolve.specs.Writes.{assignments}
use Rattle.cr_written.proofs.Columns.{assignment_fails, assignment_next}
use Rattle.cr_written.proofs.update.assignments.Goals as goal

pub returns-in_err-read : goal.returns-in_err-read
returns-in_err-read g c =
    let known = g.K.Naming.known c.args.known.now in
    let s = c.args.source.now in
    let trees = c.args.trees.now in
    let f = c.in_err-read.field-0.0 in
    let why : Refuses (assignments known (s ∷ []) s.relation.definition [] trees).bad f =
    assignment_fails known s trees c.loop-number.made c.loop-number.number c.index-trees-number.result c.is_assigned-is_repeated.result c.loop-number-test.true c.index-trees-number.is c.is_assigned-is_repeated.ensures c.loop-number.invariant
    f c.in_err-read.ensures in
    search rules

pub loop-number-preserved : goal.loop-number-preserved
loop-number-preserved g c =
    let known = g.K.Naming.known c.args.known.now in
    assignment_next known c.args.source.now c.args.trees.now c.loop-number.made c.loop-number.number c.index-trees-number.result c.is_assigned-is_repeated.result c.loop-number-test.true c.index-trees-number.is c.is_assigned-is_repeated.ensures c.loop-number.invariant
    c.push.new.self c.in_ok-read.read c.in_ok-read.ensures c.in_ok-push.ensures
