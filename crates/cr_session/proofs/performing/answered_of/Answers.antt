use Rattle.std.proofs.Common.{◌∷◌, [], Ok, Err, refl}
use Rattle.cr_session.proofs.Selecting.{performs_select}
use Rattle.cr_session.proofs.performing.answered_of.Goals as goal

pub returns-in-Ok : goal.returns-in-Ok
returns-in-Ok g c = λ host st one is. performs_select _ c.args.params.now host st (c.args.rows ∷ []) c.args.query.now is (Ok c.in-Ok.rows) _ (c.in-Ok.ensures one) refl

pub returns-in-Err : goal.returns-in-Err
returns-in-Err g c = λ host st one is. performs_select _ c.args.params.now host st (c.args.rows ∷ []) c.args.query.now is (Err c.in-Err.refusal) _ (c.in-Err.ensures one) refl
