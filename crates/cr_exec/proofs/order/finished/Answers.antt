use Rattle.std.proofs.Common.{◌∙◌, ap, map}
use Rattle.cr_scalar.specs.Host.{host}
use Rattle.cr_exec.specs.Comparisons.{held_order, term_order}
use Rattle.cr_exec.proofs.Orders.{of_ok, finished_is}
use Rattle.cr_exec.proofs.order.finished.Goals as goal

pub returns : goal.returns
returns g c =
    let h = host (g.F.Functions.function_of c.args.functions.now) (g.F.Functions.scalar c.args.functions.now) (g.F.Functions.step c.args.functions.now) (g.F.Functions.finish c.args.functions.now) (g.F.Functions.order_of c.args.functions.now) in
    of_ok _ _ c.limited.result
    (λ v is regard params. finished_is regard h params c.args.query.now (map (held_order (g.F.Functions.order_at c.args.functions.now)) c.as_slice-2.result.now) c.args.shown.items c.in_ok-shown.shown.items c.in_ok-shown-2.shown.items v.items
    (ap (map (held_order (g.F.Functions.order_at c.args.functions.now))) c.as_slice-2.ensures.value ∙ c.in_ok-senses.ensures ∙ ap (map (term_order h.order)) c.as_slice.ensures) (c.in_ok-shown.ensures regard params) c.in_ok-shown-2.ensures is)
    c.limited.ensures
