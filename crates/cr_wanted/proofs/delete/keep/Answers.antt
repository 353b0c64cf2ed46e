use Rattle.std.proofs.Common.{rules}
use Rattle.cr_scalar.specs.Host.{host}
use Rattle.cr_exec.specs.Answers.{Faults}
use Rattle.cr_wanted.specs.Rows.{kept_by}
use Rattle.cr_wanted.proofs.Written.{kept_fault, gone, stays}
use Rattle.cr_wanted.proofs.delete.keep.Goals as goal

pub returns-in_err-is_meant : goal.returns-in_err-is_meant
returns-in_err-is_meant g c =
    let f = g.F.Functions in
    let own = c.args.functions.now in
    let h = host (f.function_of own) (f.scalar own) (f.step own) (f.finish own) (f.order_of own) in
    let why : Faults h c.args.params.now (λ m. kept_by m c.args.terms.now c.args.row) c.in_err-is_meant.field-0.0 =
    kept_fault h c.args.params.now c.args.terms.now c.args.row c.as_slice.result.now c.as_slice.ensures c.in_err-is_meant.field-0.0 c.in_err-is_meant.ensures in
    search rules

pub returns-then-is_meant : goal.returns-then-is_meant
returns-then-is_meant g c =
    let f = g.F.Functions in
    let own = c.args.functions.now in
    let h = host (f.function_of own) (f.scalar own) (f.step own) (f.finish own) (f.order_of own) in
    gone h c.args.params.now c.args.terms.now c.args.row c.as_slice.result.now c.as_slice.ensures c.in_ok-is_meant.is_meant c.args.out.now.items
    c.if-is_meant.true c.in_ok-is_meant.ensures

pub returns : goal.returns
returns g c =
    let f = g.F.Functions in
    let own = c.args.functions.now in
    let h = host (f.function_of own) (f.scalar own) (f.step own) (f.finish own) (f.order_of own) in
    stays h c.args.params.now c.args.terms.now c.args.row c.as_slice.result.now c.as_slice.ensures c.in_ok-is_meant.is_meant c.args.out.now.items
    c.push.new.out.items c.if-is_meant.false c.in_ok-push.ensures.puts c.in_ok-is_meant.ensures
