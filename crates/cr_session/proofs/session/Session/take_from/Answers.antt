use Rattle.std.proofs.Common.{Some}
use Rattle.cr_script.specs.Speaking.{closures, host_under}
use Rattle.cr_session.specs.Sessions.{clean, honest, standing}
use Rattle.cr_session.proofs.Takings.{call_stopped, call_taken, not_told_at_once, tells_at_once, unless_none, unless_some}
use Rattle.cr_session.proofs.session.Session.take_from.Goals as goal

pub returns-in-Ok-clause-takes : goal.returns-in-Ok-clause-takes
returns-in-Ok-clause-takes g c =
    call_taken (host_under (closures (g.G.Guarding.allows c.args.guard.now) (g.G.Guarding.refuses c.args.guard.now)) (g.G.Guarding.rules c.args.guard.now)) (honest g.C.Cells.is_honest) (clean g.C.Cells.is_clean) (standing g.C.Cells.holding) c.args.self.now c.args.changes.now (Some c.args.mark) (Some c.args.mark)
    (λ clean. unless_none _ _ (c.in-Ok.ensures.told c.args.mark.1 clean)) c.take_all.result c.take_all.new.self c.take_all.ensures.takes

pub returns-in-Err-clause-takes : goal.returns-in-Err-clause-takes
returns-in-Err-clause-takes g c =
    call_stopped (host_under (closures (g.G.Guarding.allows c.args.guard.now) (g.G.Guarding.refuses c.args.guard.now)) (g.G.Guarding.rules c.args.guard.now)) (honest g.C.Cells.is_honest) (clean g.C.Cells.is_clean) (standing g.C.Cells.holding) c.args.self.now c.args.changes.now (Some c.args.mark) (Some c.args.mark) c.in-Err.refusal
    (λ clean. unless_some _ _ (c.in-Err.ensures.told c.args.mark.1 clean))

pub returns-in-Ok-clause-at_once : goal.returns-in-Ok-clause-at_once
returns-in-Ok-clause-at_once g c = λ clean. not_told_at_once _ c.args.self.now c.take_all.result c.take_all.new.self (unless_none _ _ (c.in-Ok.ensures.told c.args.mark.1 clean))

pub returns-in-Err-clause-at_once : goal.returns-in-Err-clause-at_once
returns-in-Err-clause-at_once g c = λ clean. tells_at_once _ c.in-Err.refusal c.args.self.now (unless_some _ _ (c.in-Err.ensures.told c.args.mark.1 clean))
