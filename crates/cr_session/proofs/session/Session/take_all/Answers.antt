use Rattle.cr_script.specs.Speaking.{HasHeard}
use Rattle.cr_session.specs.Sessions.{clean, honest}
use Rattle.cr_session.proofs.Hearing.{hears_take}
use Rattle.cr_session.proofs.session.Session.take_all.Goals as goal

pub returns-in-Ok-tell-clause-heard : goal.returns-in-Ok-tell-clause-heard
returns-in-Ok-tell-clause-heard g c = λ clean_then.
    hears_take _ (honest g.C.Cells.is_honest) (clean g.C.Cells.is_clean) g.C.Cells.holding (λ events. HasHeard g.G.Guarding.noted g.G.Guarding.noting c.args.guard.now c.tell.new.guard events)
    c.args.self.now c.tell.new.self c.commit_taking.new.self c.args.changes.now c.approve.new.self c.args.mark c.in-Ok.taking _ c.commit_taking.result c.in-Ok.ensures.approves c.in-Ok-tell.ensures.tells c.commit_taking.ensures.commits c.in-Ok.ensures.changes clean_then
