use Rattle.std.proofs.Common.{ap, refl}
use Rattle.cr_language.specs.Engines.{total_or}
use Rattle.cr_session.specs.Performing.{placed}
use Rattle.cr_hosted.proofs.Showing.{selects}
use Rattle.cr_hosted.proofs.session.HostedSession.select.Goals as goal

pub returns : goal.returns
returns g c = λ host.
    selects c.args.self.now _ c.args.query.now c.answered.result (g.C.Cells.holding c.args.self.now.session.0) c.args.self.now.session.1 _ _ c.in-Ok.snapshot c.in_ok-snapshot.field-0 c.requires.touched refl
    (λ clean. ap (placed _) (c.in-Ok.ensures.looks clean).same) (total_or (g.F.Functions.order_of c.args.functions.now) (g.F.Functions.orders_total c.args.functions.now))
    (λ clean. rw c.as_slice-joined.ensures at (c.in-Ok.ensures.looks clean).looks) (rw c.as_slice-tables.ensures at c.in_ok-snapshot.ensures) (λ st shows. c.answered.ensures.says host st shows)
    c.in-Ok.ensures.device.was_honest c.in-Ok.ensures.device.was_clean c.in-Ok.ensures.device.stays_clean
