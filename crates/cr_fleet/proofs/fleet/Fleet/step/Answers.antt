use Rattle.std.proofs.Common.{ap, refl}
use Rattle.cr_script.specs.Speaking.{closures, HasHeard, spoken}
use Rattle.cr_session.specs.Sessions.{clean, honest, is_own, standing}
use Rattle.cr_fleet.proofs.Between.{own_between}
use Rattle.cr_fleet.proofs.fleet.Fleet.step.Goals as goal

pub returns-in-Policy-clause-heard : goal.returns-in-Policy-clause-heard
returns-in-Policy-clause-heard g c = λ has names.
    let l = spoken (g.F.Functions.function_of c.args.functions.now) (g.F.Functions.scalar c.args.functions.now) (g.F.Functions.step c.args.functions.now) (g.F.Functions.finish c.args.functions.now) (g.F.Functions.order_of c.args.functions.now) (g.F.Functions.orders_total c.args.functions.now) has in
    rw c.in-Policy.is (c.set_rule.ensures.heard l)

pub returns-in-Pull-clause-heard : goal.returns-in-Pull-clause-heard
returns-in-Pull-clause-heard g c = λ has names.
    let l = spoken (g.F.Functions.function_of c.args.functions.now) (g.F.Functions.scalar c.args.functions.now) (g.F.Functions.step c.args.functions.now) (g.F.Functions.finish c.args.functions.now) (g.F.Functions.order_of c.args.functions.now) (g.F.Functions.orders_total c.args.functions.now) has in
    rw c.in-Pull.is (c.pull.ensures.steps l).1

pub returns-in-Define-clause-heard : goal.returns-in-Define-clause-heard
returns-in-Define-clause-heard g c = λ has names. (c.step_used.ensures.steps has names).1

pub returns-in-Rows-clause-heard : goal.returns-in-Rows-clause-heard
returns-in-Rows-clause-heard g c = λ has names. (c.step_used-in-Rows.ensures.steps has names).1

pub returns-in-Changes-clause-heard : goal.returns-in-Changes-clause-heard
returns-in-Changes-clause-heard g c = λ has names. (c.step_used-in-Changes.ensures.steps has names).1

pub returns-in-PullSince-clause-heard : goal.returns-in-PullSince-clause-heard
returns-in-PullSince-clause-heard g c = λ has names.
    let l = spoken (g.F.Functions.function_of c.args.functions.now) (g.F.Functions.scalar c.args.functions.now) (g.F.Functions.step c.args.functions.now) (g.F.Functions.finish c.args.functions.now) (g.F.Functions.order_of c.args.functions.now) (g.F.Functions.orders_total c.args.functions.now) has in
    rw c.in-PullSince.is (c.pull-in-PullSince.ensures.steps l).1

pub returns-in-Open-clause-between : goal.returns-in-Open-clause-between
returns-in-Open-clause-between g c = λ has names. rw (c.in-Open.is, c.reply_of.ensures) (c.open.ensures.opens, (refl, refl))

pub returns-in-Use-clause-between : goal.returns-in-Use-clause-between
returns-in-Use-clause-between g c = λ has names. rw c.in-Use.is (c.use_replica.ensures.uses, (refl, refl))

pub returns-in-Policy-clause-between : goal.returns-in-Policy-clause-between
returns-in-Policy-clause-between g c = λ has names. rw c.in-Policy.is (c.set_rule.ensures.kept, refl, c.set_rule.ensures.quiet)

pub returns-in-Define-clause-between : goal.returns-in-Define-clause-between
returns-in-Define-clause-between g c = λ has names.
    own_between (closures (g.G.Guarding.allows c.args.guard.now) (g.G.Guarding.refuses c.args.guard.now)) (λ from to events. HasHeard g.G.Guarding.noted g.G.Guarding.noting from to events) (honest g.C.Cells.is_honest) (clean g.C.Cells.is_clean) (standing g.C.Cells.holding) _ _ _ _ _ (spoken (g.F.Functions.function_of c.args.functions.now) (g.F.Functions.scalar c.args.functions.now) (g.F.Functions.step c.args.functions.now) (g.F.Functions.finish c.args.functions.now) (g.F.Functions.order_of c.args.functions.now) (g.F.Functions.orders_total c.args.functions.now) has) c.args.command.now _ (ap is_own c.in-Define.is) (c.step_used.ensures.between has names)

pub returns-in-Take-clause-between : goal.returns-in-Take-clause-between
returns-in-Take-clause-between g c = λ has names.
    own_between (closures (g.G.Guarding.allows c.args.guard.now) (g.G.Guarding.refuses c.args.guard.now)) (λ from to events. HasHeard g.G.Guarding.noted g.G.Guarding.noting from to events) (honest g.C.Cells.is_honest) (clean g.C.Cells.is_clean) (standing g.C.Cells.holding) _ _ _ _ _ (spoken (g.F.Functions.function_of c.args.functions.now) (g.F.Functions.scalar c.args.functions.now) (g.F.Functions.step c.args.functions.now) (g.F.Functions.finish c.args.functions.now) (g.F.Functions.order_of c.args.functions.now) (g.F.Functions.orders_total c.args.functions.now) has) c.args.command.now _ (ap is_own c.in-Take.is) (c.step_used-in-Take.ensures.between has names)

pub returns-in-Rows-clause-between : goal.returns-in-Rows-clause-between
returns-in-Rows-clause-between g c = λ has names.
    own_between (closures (g.G.Guarding.allows c.args.guard.now) (g.G.Guarding.refuses c.args.guard.now)) (λ from to events. HasHeard g.G.Guarding.noted g.G.Guarding.noting from to events) (honest g.C.Cells.is_honest) (clean g.C.Cells.is_clean) (standing g.C.Cells.holding) _ _ _ _ _ (spoken (g.F.Functions.function_of c.args.functions.now) (g.F.Functions.scalar c.args.functions.now) (g.F.Functions.step c.args.functions.now) (g.F.Functions.finish c.args.functions.now) (g.F.Functions.order_of c.args.functions.now) (g.F.Functions.orders_total c.args.functions.now) has) c.args.command.now _ (ap is_own c.in-Rows.is) (c.step_used-in-Rows.ensures.between has names)

pub returns-in-Changes-clause-between : goal.returns-in-Changes-clause-between
returns-in-Changes-clause-between g c = λ has names.
    own_between (closures (g.G.Guarding.allows c.args.guard.now) (g.G.Guarding.refuses c.args.guard.now)) (λ from to events. HasHeard g.G.Guarding.noted g.G.Guarding.noting from to events) (honest g.C.Cells.is_honest) (clean g.C.Cells.is_clean) (standing g.C.Cells.holding) _ _ _ _ _ (spoken (g.F.Functions.function_of c.args.functions.now) (g.F.Functions.scalar c.args.functions.now) (g.F.Functions.step c.args.functions.now) (g.F.Functions.finish c.args.functions.now) (g.F.Functions.order_of c.args.functions.now) (g.F.Functions.orders_total c.args.functions.now) has) c.args.command.now _ (ap is_own c.in-Changes.is) (c.step_used-in-Changes.ensures.between has names)

pub returns-in-Sql-clause-between : goal.returns-in-Sql-clause-between
returns-in-Sql-clause-between g c = λ has names.
    own_between (closures (g.G.Guarding.allows c.args.guard.now) (g.G.Guarding.refuses c.args.guard.now)) (λ from to events. HasHeard g.G.Guarding.noted g.G.Guarding.noting from to events) (honest g.C.Cells.is_honest) (clean g.C.Cells.is_clean) (standing g.C.Cells.holding) _ _ _ _ _ (spoken (g.F.Functions.function_of c.args.functions.now) (g.F.Functions.scalar c.args.functions.now) (g.F.Functions.step c.args.functions.now) (g.F.Functions.finish c.args.functions.now) (g.F.Functions.order_of c.args.functions.now) (g.F.Functions.orders_total c.args.functions.now) has) c.args.command.now _ (ap is_own c.in-Sql.is) (c.step_used-in-Sql.ensures.between has names)
