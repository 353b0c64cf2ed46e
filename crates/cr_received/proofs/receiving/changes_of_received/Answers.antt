use Rattle.std.proofs.Common.{◌∙◌, ap, rules, subst}
use Rattle.cr_scalar.specs.Host.{host}
use Rattle.cr_query.specs.Writes.{inserted_rows}
use Rattle.cr_meaning.specs.View as view
use Rattle.cr_exec.specs.Answers.{Faults}
use Rattle.cr_received.specs.Received.{brought}
use Rattle.cr_received.proofs.Brought.{received}
use Rattle.cr_received.proofs.receiving.changes_of_received.Goals as goal

pub returns : goal.returns
returns g c =
    let h = host (g.F.Functions.function_of c.args.functions.now) (g.F.Functions.scalar c.args.functions.now) (g.F.Functions.step c.args.functions.now) (g.F.Functions.finish c.args.functions.now) (g.F.Functions.order_of c.args.functions.now) in
    received h c.args.params.now c.args.tables.now c.args.insert.now (λ v. v.items) c.as_slice-columns.result.now c.as_slice.result.now (c.as_slice-columns.ensures ∙ ap (λ d. d.columns) c.requires.changes)
    (rw c.as_slice.ensures.value c.in_ok-rows.ensures) c.changes_in.result c.changes_in.ensures

pub returns-in_err-rows : goal.returns-in_err-rows
returns-in_err-rows g c =
    let h = host (g.F.Functions.function_of c.args.functions.now) (g.F.Functions.scalar c.args.functions.now) (g.F.Functions.step c.args.functions.now) (g.F.Functions.finish c.args.functions.now) (g.F.Functions.order_of c.args.functions.now) in
    let why : Faults h c.args.params.now (brought c.args.insert.now) c.in_err-rows.field-0.0 =
    subst (λ cs. Faults h c.args.params.now (λ m. inserted_rows m cs (view.insert c.args.insert.now)) c.in_err-rows.field-0.0) (c.as_slice-columns.ensures ∙ ap (λ d. d.columns) c.requires.changes) c.in_err-rows.ensures in
    search rules
