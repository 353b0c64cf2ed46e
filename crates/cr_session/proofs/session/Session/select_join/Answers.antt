use Rattle.std.proofs.Common.{refl}
use Rattle.cr_term.specs.declared.query.Resolved.TheVariants as r
use Rattle.cr_session.proofs.Joins.{retabled_join, suffice_as}
use Rattle.cr_session.proofs.Looking.{looks, unseen}
use Rattle.cr_session.proofs.session.Session.select_join.Goals as goal

pub returns-in-Ok : goal.returns-in-Ok
returns-in-Ok g c = λ host.
    let join = retabled_join _ _ _ _ _ c.as_slice.ensures c.requires.join in
    looks _ c.args.params.now host g.C.Cells.is_honest g.C.Cells.is_clean g.C.Cells.holding c.args.self.now c.see_join.new.self (r.Select c.args.query.now) c.see_join.ensures.device.was_honest c.see_join.ensures.device.was_clean
    (λ clean. (c.in-Ok.ensures.finds _ join clean).same) c.answered_over.result c.in-Ok.ensures.device.stays_clean
    (λ clean. c.answered_over.ensures host _ (suffice_as _ _ _ _ _ _ c.deref.ensures.value (c.in-Ok.ensures.finds _ join clean).finds))

pub returns-in-Err : goal.returns-in-Err
returns-in-Err g c = λ host.
    let join = retabled_join _ _ _ _ _ c.as_slice.ensures c.requires.join in
    unseen _ c.args.params.now host g.C.Cells.is_honest g.C.Cells.is_clean g.C.Cells.holding c.args.self.now c.see_join.new.self (r.Select c.args.query.now) c.see_join.ensures.device.was_honest c.see_join.ensures.device.was_clean
    (λ clean. (c.in-Err.ensures.finds _ join clean).same) c.in-Err.error c.from.result c.from.ensures refl c.in-Err.ensures.device.stays_clean (λ clean. (c.in-Err.ensures.finds _ join clean).finds)
