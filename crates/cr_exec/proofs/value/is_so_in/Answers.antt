use Rattle.std.proofs.Common.{◌∙◌, ap, sym, subst, rules}
use Rattle.cr_scalar.specs.Host.{host}
use Rattle.cr_scalar.specs.Numbers.{truth}
use Rattle.cr_meaning.specs.View.{plain}
use Rattle.cr_exec.specs.Answers.{Faults, IsMeant}
use Rattle.cr_exec.specs.Scopes as scopes
use Rattle.cr_exec.proofs.Evaluated.{so_known, so_faults}
use Rattle.cr_exec.proofs.value.is_so_in.Goals as goal

pub returns-in-Ok : goal.returns-in-Ok
returns-in-Ok g c =
    let h = host (g.F.Functions.function_of c.args.functions.now) (g.F.Functions.scalar c.args.functions.now) (g.F.Functions.step c.args.functions.now) (g.F.Functions.finish c.args.functions.now) (g.F.Functions.order_of c.args.functions.now) in
    subst (λ b. IsMeant h c.args.params.now (λ m. scopes.is_so_in m c.args.scope (plain c.args.expr.now)) b) (sym c.is_true.ensures)
    (so_known h c.args.params.now c.args.scope (plain c.args.expr.now) c.in_ok-value.value c.in-Ok.known c.in_ok-value.ensures (c.in-Ok.ensures ∙ ap truth c.get.ensures))

pub returns-in_err-value : goal.returns-in_err-value
returns-in_err-value g c =
    let why : Faults (host (g.F.Functions.function_of c.args.functions.now) (g.F.Functions.scalar c.args.functions.now) (g.F.Functions.step c.args.functions.now) (g.F.Functions.finish c.args.functions.now) (g.F.Functions.order_of c.args.functions.now)) c.args.params.now (λ m. scopes.is_so_in m c.args.scope (plain c.args.expr.now)) c.in_err-value.field-0.0 = so_faults (host (g.F.Functions.function_of c.args.functions.now) (g.F.Functions.scalar c.args.functions.now) (g.F.Functions.step c.args.functions.now) (g.F.Functions.finish c.args.functions.now) (g.F.Functions.order_of c.args.functions.now)) c.args.params.now c.args.scope (plain c.args.expr.now) c.in_err-value.field-0.0 c.in_err-value.ensures in
    search rules
