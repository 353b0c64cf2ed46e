use Rattle.std.proofs.Common.{map, take}
use Rattle.cr_modules.specs.States.{AreListed, made}
use Rattle.cr_modules.proofs.modules.Modules.listings.Given as goal

abbrev pub invariant-loop-registered : goal.invariant-loop-registered
invariant-loop-registered g l =
    AreListed l.may_offer l.params l.query
    (map (λ r. g.M.Module.best r.host) (take l.registered-index l.registered-items))
    (map (λ r. made r.name (g.M.Module.columns_of r.host) (g.M.Module.rows_of r.host) (g.M.Module.updated r.host)) (take l.registered-index l.registered-items))
    l.listings.items
