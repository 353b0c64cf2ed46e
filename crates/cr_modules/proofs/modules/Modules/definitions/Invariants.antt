use Rattle.std.proofs.Common.{◌≡◌, map, take}
use Rattle.cr_modules.specs.States.{definition_listed, made}
use Rattle.cr_modules.proofs.modules.Modules.definitions.Given as goal

abbrev pub invariant-loop-registered : goal.invariant-loop-registered
invariant-loop-registered g l =
    l.listings.items
    ≡ map definition_listed
    (map (λ r. made r.name (g.M.Module.columns_of r.host) (g.M.Module.rows_of r.host) (g.M.Module.updated r.host)) (take l.registered-index l.registered-items))
