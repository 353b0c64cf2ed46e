use Rattle.std.proofs.Common.{List, map, subst}
use Rattle.cr_scalar.specs.Host.{host}
use Rattle.cr_query.specs.Query.{Row, shown}
use Rattle.cr_meaning.specs.View as view
use Rattle.cr_exec.specs.Answers.{IsMeant}
use Rattle.cr_exec.specs.Shows.{shown_of}
use Rattle.cr_exec.proofs.Selected.{answered_both}
use Rattle.cr_exec.proofs.select.answered.Goals as goal

pub returns : goal.returns
returns g c =
    let f = g.F.Functions in
    let own = c.args.functions.now in
    let h = host (f.function_of own) (f.scalar own) (f.step own) (f.finish own) (f.order_of own) in
    let given = map shown_of c.in_ok-shown.shown.items in
    answered_both h c.args.params.now c.args.query.now c.args.combinations.items given c.in_ok-rows.rows.items
    (subst (λ (cs : List Row). IsMeant h c.args.params.now (λ m. shown m (view.query c.args.query.now) cs) given) c.as_slice.ensures.value c.in_ok-shown.ensures)
    c.in_ok-rows.ensures
