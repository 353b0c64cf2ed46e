use Rattle.std.proofs.Common.{◌∙◌, None, sym}
use Rattle.cr_script.specs.Speaking.{closures, host_under}
use Rattle.cr_session.specs.Sessions.{clean, honest, standing}
use Rattle.cr_session.proofs.Takings.{at_once_outside, call_taken}
use Rattle.cr_session.proofs.session.Session.take.Goals as goal

pub returns-clause-takes : goal.returns-clause-takes
returns-clause-takes g c =
    call_taken (host_under (closures (g.G.Guarding.allows c.args.guard.now) (g.G.Guarding.refuses c.args.guard.now)) (g.G.Guarding.rules c.args.guard.now)) (honest g.C.Cells.is_honest) (clean g.C.Cells.is_clean) (standing g.C.Cells.holding) c.args.self.now c.args.changes.now None None
    (λ clean. at_once_outside (standing g.C.Cells.holding c.args.self.now) None (sym c.in_transaction.ensures ∙ c.if-in_transaction.false)) c.take_all.result c.take_all.new.self c.take_all.ensures.takes
