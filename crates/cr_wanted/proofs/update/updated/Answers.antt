use Rattle.std.proofs.Common.{rules}
use Rattle.cr_scalar.specs.Host.{host}
use Rattle.cr_exec.specs.Answers.{Faults}
use Rattle.cr_wanted.specs.Rows.{updated_by}
use Rattle.cr_wanted.proofs.Written.{left_fault, left_meant, left_other}
use Rattle.cr_wanted.proofs.update.updated.Goals as goal

pub returns-in_err-is_meant : goal.returns-in_err-is_meant
returns-in_err-is_meant g c =
    let f = g.F.Functions in
    let own = c.args.functions.now in
    let h = host (f.function_of own) (f.scalar own) (f.step own) (f.finish own) (f.order_of own) in
    let a = c.args.assigning.now in
    let why : Faults h c.args.params.now (λ m. updated_by m a.columns.now a.terms.now a.places.now a.exprs.now c.args.row) c.in_err-is_meant.field-0.0 =
    left_fault h c.args.params.now a.columns.now a.terms.now a.places.now a.exprs.now c.args.row c.as_slice.result.now c.as_slice.ensures
    c.in_err-is_meant.field-0.0 c.in_err-is_meant.ensures in
    search rules

pub returns-then-is_meant : goal.returns-then-is_meant
returns-then-is_meant g c =
    let f = g.F.Functions in
    let own = c.args.functions.now in
    let h = host (f.function_of own) (f.scalar own) (f.step own) (f.finish own) (f.order_of own) in
    let a = c.args.assigning.now in
    left_meant h c.args.params.now a.columns.now a.terms.now a.places.now a.exprs.now c.args.row c.as_slice.result.now c.as_slice.ensures (λ r. r)
    c.in_ok-is_meant.is_meant c.if-is_meant.true c.in_ok-is_meant.ensures c.assigned.result c.assigned.ensures

pub returns : goal.returns
returns g c =
    let f = g.F.Functions in
    let own = c.args.functions.now in
    let h = host (f.function_of own) (f.scalar own) (f.step own) (f.finish own) (f.order_of own) in
    let a = c.args.assigning.now in
    left_other h c.args.params.now a.columns.now a.terms.now a.places.now a.exprs.now c.args.row c.as_slice.result.now c.as_slice.ensures
    c.in_ok-is_meant.is_meant c.if-is_meant.false c.in_ok-is_meant.ensures
