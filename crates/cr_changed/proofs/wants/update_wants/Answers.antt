use Rattle.std.proofs.Common.{List, subst, sym}
use Rattle.cr_scalar.specs.Host.{host}
use Rattle.cr_lattice.specs.declared.change.Change.{Change}
use Rattle.cr_lattice.specs.declared.table.ColumnDef.{ColumnDef}
use Rattle.cr_lattice.specs.Rows.{rows}
use Rattle.cr_scalar.specs.declared.fault.EvalFault.{EvalFault}
use Rattle.cr_query.specs.Query.{Row}
use Rattle.cr_query.specs.Writes.{wanted_by_update}
use Rattle.cr_meaning.specs.View as view
use Rattle.cr_exec.specs.Answers.{Faults, IsMeant, Stage}
use Rattle.cr_changed.specs.Steps.{of_source}
use Rattle.cr_changed.proofs.Sources.{fault_told}
use Rattle.cr_changed.proofs.wants.update_wants.Goals as goal

pub returns-in-Ok : goal.returns-in-Ok
returns-in-Ok g c =
    let f = g.F.Functions in
    let own = c.args.functions.now in
    let h = host (f.function_of own) (f.scalar own) (f.step own) (f.finish own) (f.order_of own) in
    let w = c.args.update.now in
    let stage : List ColumnDef → List Change → Stage (List Row) = λ columns changes m. wanted_by_update m columns (view.update w) (rows changes w.relation.definition) in
    subst (λ (changes : List Change). IsMeant h c.args.params.now (stage w.relation.definition.columns changes) c.in-Ok.rows.items) c.as_slice-changes.ensures
    (subst (λ (columns : List ColumnDef). IsMeant h c.args.params.now (stage columns c.as_slice-changes.result.now) c.in-Ok.rows.items) c.as_slice-columns.ensures
    c.in-Ok.ensures.wanted)

pub returns-in-Err : goal.returns-in-Err
returns-in-Err g c =
    let f = g.F.Functions in
    let own = c.args.functions.now in
    let h = host (f.function_of own) (f.scalar own) (f.step own) (f.finish own) (f.order_of own) in
    let w = c.args.update.now in
    let stage : List ColumnDef → List Change → Stage (List Row) = λ columns changes m. wanted_by_update m columns (view.update w) (rows changes w.relation.definition) in
    subst (λ (e : EvalFault). Faults h c.args.params.now (stage w.relation.definition.columns c.args.snapshot.now.kept) e) (sym c.of_source.ensures)
    (subst (λ (changes : List Change). Faults h c.args.params.now (stage w.relation.definition.columns changes) (of_source c.in-Err.fault)) c.as_slice-changes.ensures
    (subst (λ (columns : List ColumnDef). Faults h c.args.params.now (stage columns c.as_slice-changes.result.now) (of_source c.in-Err.fault)) c.as_slice-columns.ensures
    (fault_told h c.args.params.now _ (stage c.as_slice-columns.result.now c.as_slice-changes.result.now) c.in-Err.fault c.in-Err.ensures.wanted)))
