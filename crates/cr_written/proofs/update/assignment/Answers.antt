use Rattle.std.proofs.Common.{List, false, rules, subst}
use Rattle.cr_resolve.specs.declared.scope.Source.{Source}
use Rattle.cr_resolve.specs.Expressions.{expr}
use Rattle.cr_resolve.specs.Told.{Refuses}
use Rattle.cr_written.specs.Updates.{assignment}
use Rattle.cr_written.proofs.Wholes.{no_value}
use Rattle.cr_written.proofs.update.assignment.Goals as goal

pub returns-in_err-value : goal.returns-in_err-value
returns-in_err-value g c =
    let known = g.K.Naming.known c.args.known.now in
    let s = c.args.source.now in
    let a = c.args.tree.now in
    let f = c.in_err-value.field-0.0 in
    let why : Refuses (assignment known s c.args.is_repeated a).bad f =
    no_value known s c.args.is_repeated a c.in_ok-column.column f c.in_ok-column.ensures (subst (λ (ss : List Source). Refuses (expr known ss false a.value).bad f) c.from_ref.ensures.value c.in_err-value.ensures) in
    search rules
