use Rattle.std.proofs.Common.{rules, ℤ, SFits, w64, subst, to_z-of_z}
use Rattle.cr_world.specs.declared.command.Command.TheVariants.{Changes}
use Rattle.cr_session.specs.Sessions.{Does, changes_reply, clean, honest, standing}
use Rattle.cr_hosted.proofs.session.HostedSession.changes_since.Goals as goal

pub returns-clause-does : goal.returns-clause-does
returns-clause-does g c = λ l host.
    let fits : SFits w64 c.args.version = search rules in
    subst (λ (v : ℤ). Does l host (honest g.C.Cells.is_honest) (clean g.C.Cells.is_clean) (standing g.C.Cells.holding) c.args.self.now.session (Changes v) (changes_reply c.changes_since.result) c.changes_since.new.self)
    (to_z-of_z fits) (c.changes_since.ensures.does l host)
