use Rattle.cr_script.specs.Speaking.{closures, host_under, HasHeard}
use Rattle.cr_session.specs.Sessions.{clean, honest}
use Rattle.cr_session.proofs.Hearing.{adds_on, hears_add}
use Rattle.cr_session.proofs.session.Session.add_changes.Goals as goal

pub returns-clause-adds : goal.returns-clause-adds
returns-clause-adds g c =
    adds_on (host_under (closures (g.G.Guarding.allows c.args.guard.now) (g.G.Guarding.refuses c.args.guard.now)) (g.G.Guarding.rules c.args.guard.now)) (honest g.C.Cells.is_honest) (clean g.C.Cells.is_clean) g.C.Cells.holding (λ events. HasHeard g.G.Guarding.noted g.G.Guarding.noting c.args.guard.now c.tell.new.guard events)
    c.args.self.now c.tell.new.self c.keep_changes.new.self c.args.changes.items c.keep_changes.result (rw c.deref-2.ensures.value at c.in_default.ensures.tells) (c.keep_changes.ensures.adds _)

pub returns-clause-heard : goal.returns-clause-heard
returns-clause-heard g c = λ clean_then.
    hears_add (host_under (closures (g.G.Guarding.allows c.args.guard.now) (g.G.Guarding.refuses c.args.guard.now)) (g.G.Guarding.rules c.args.guard.now)) (honest g.C.Cells.is_honest) (clean g.C.Cells.is_clean) g.C.Cells.holding (λ events. HasHeard g.G.Guarding.noted g.G.Guarding.noting c.args.guard.now c.tell.new.guard events)
    c.args.self.now c.tell.new.self c.keep_changes.new.self c.args.changes.items c.keep_changes.result (rw c.deref-2.ensures.value at c.in_default.ensures.tells) (c.keep_changes.ensures.adds _) c.keep_changes.ensures.wants clean_then
