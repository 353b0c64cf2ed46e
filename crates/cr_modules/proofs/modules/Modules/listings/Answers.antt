use Rattle.cr_modules.proofs.Listing.{next_listed}
use Rattle.cr_modules.proofs.modules.Modules.listings.Goals as goal

pub loop-registered-preserved : goal.loop-registered-preserved
loop-registered-preserved g c =
    rw c.in_ok-push.ensures.items (
    next_listed c.args.may_offer c.args.params.now c.args.query.now (λ r. g.M.Module.best r.host) _ c.deref-registered-items.result.now c.loop-registered.registered-index c.registered-item.result c.loop-registered.listings.items
    c.in_ok-listing.field-0 c.loop-registered-test.true c.registered-item.is c.loop-registered.invariant c.in_ok-listing.ensures)
