use Rattle.std.proofs.Common.{map, ◌∙◌, ap}
use Rattle.std.proofs.lemmas.Result.{err_from_is_err_and}
use Rattle.cr_scalar.specs.Host.{host}
use Rattle.cr_exec.specs.Scopes.{there}
use Rattle.cr_exec.proofs.Kept.{answers_kept, unkept}
use Rattle.cr_exec.proofs.select.select_rows.Goals as goal

pub returns : goal.returns
returns g c one =
    let h = host (g.F.Functions.function_of c.args.functions.now) (g.F.Functions.scalar c.args.functions.now) (g.F.Functions.step c.args.functions.now) (g.F.Functions.finish c.args.functions.now) (g.F.Functions.order_of c.args.functions.now) in
    answers_kept h c.args.params.now c.args.query.now one (map there c.as_slice.result.now) (ap (map there) c.as_slice.ensures.value ∙ c.in_ok-terms.ensures) c.args.rows.items c.in_ok-combinations.combinations.items c.in_ok-combinations.ensures
    (λ v. v.items) c.answered.result c.answered.ensures

pub returns-in_err-combinations : goal.returns-in_err-combinations
returns-in_err-combinations g c = λ one.
    let h = host (g.F.Functions.function_of c.args.functions.now) (g.F.Functions.scalar c.args.functions.now) (g.F.Functions.step c.args.functions.now) (g.F.Functions.finish c.args.functions.now) (g.F.Functions.order_of c.args.functions.now) in
    let p = err_from_is_err_and c.from_residual-in_err-combinations.result c.from_residual-in_err-combinations.ensures.1 in
    rw (p.1, p.2)
    (unkept h c.args.params.now c.args.query.now one (map there c.as_slice.result.now) (ap (map there) c.as_slice.ensures.value ∙ c.in_ok-terms.ensures) c.args.rows.items c.in_err-combinations.field-0.0 c.in_err-combinations.ensures)
