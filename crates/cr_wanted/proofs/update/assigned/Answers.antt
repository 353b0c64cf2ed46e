use Rattle.std.proofs.Common.{◌∙◌, ap, rules}
use Rattle.cr_scalar.specs.Host.{host}
use Rattle.cr_query.specs.Writes.{put_all}
use Rattle.cr_exec.specs.Answers.{Faults}
use Rattle.cr_wanted.specs.Rows.{assigned_by}
use Rattle.cr_wanted.proofs.Written.{new_fault, new_both}
use Rattle.cr_wanted.proofs.update.assigned.Goals as goal

pub returns-in_err-values : goal.returns-in_err-values
returns-in_err-values g c =
    let f = g.F.Functions in
    let own = c.args.functions.now in
    let h = host (f.function_of own) (f.scalar own) (f.step own) (f.finish own) (f.order_of own) in
    let a = c.args.assigning.now in
    let why : Faults h c.args.params.now (λ m. assigned_by m a.columns.now a.places.now a.exprs.now c.args.row) c.in_err-values.field-0.0 =
    new_fault h c.args.params.now a.columns.now a.terms.now a.places.now a.exprs.now c.args.row c.as_slice.result.now c.as_slice.ensures
    c.in_err-values.field-0.0 c.in_err-values.ensures in
    search rules

pub returns : goal.returns
returns g c =
    let f = g.F.Functions in
    let own = c.args.functions.now in
    let h = host (f.function_of own) (f.scalar own) (f.step own) (f.finish own) (f.order_of own) in
    let a = c.args.assigning.now in
    new_both h c.args.params.now a.columns.now a.terms.now a.places.now a.exprs.now c.args.row c.as_slice.result.now c.as_slice.ensures
    c.in_ok-values.values c.into_vec-new.result.items c.new.result c.into_vec-new.ensures
    (c.new.ensures ∙ c.in_ok-put_all.ensures ∙ ap (λ vs. put_all a.columns.now a.places.now vs c.into_vec-new.result.items) c.as_slice-2.ensures)
    c.in_ok-values.ensures
