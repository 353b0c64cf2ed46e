use Rattle.std.proofs.Common.{rules, ℤ, SFits, w64, subst, to_z-of_z}
use Rattle.cr_world.specs.declared.command.Command.TheVariants.{Changes}
use Rattle.cr_world.specs.declared.command.FleetReply.TheVariants.{Changes as Told, Refused}
use Rattle.cr_session.specs.Sessions.{Does, clean, honest, standing}
use Rattle.cr_session.proofs.session.Session.changes.Goals as goal

pub returns-in-Ok : goal.returns-in-Ok
returns-in-Ok g c = λ l host.
    let fits : SFits w64 c.args.version.now = search rules in
    subst (λ (v : ℤ). Does l host (honest g.C.Cells.is_honest) (clean g.C.Cells.is_clean) (standing g.C.Cells.holding) c.args.self.now (Changes v) (Told c.in-Ok.changes) c.changes_since.new.self) (to_z-of_z fits) (c.in-Ok.ensures.does l host)

pub returns-in-Err : goal.returns-in-Err
returns-in-Err g c = λ l host.
    let fits : SFits w64 c.args.version.now = search rules in
    subst (λ (v : ℤ). Does l host (honest g.C.Cells.is_honest) (clean g.C.Cells.is_clean) (standing g.C.Cells.holding) c.args.self.now (Changes v) (Refused c.in-Err.refusal) c.changes_since.new.self) (to_z-of_z fits) (c.in-Err.ensures.does l host)
