use Rattle.std.proofs.Common.{◌≡◌, drop, map}
use Rattle.cr_resolve.specs.Known.{collations}
use Rattle.cr_created.proofs.names.check_collations.Given as goal

abbrev pub invariant-loop-column : goal.invariant-loop-column
invariant-loop-column g l = collations (g.K.Naming.known l.known) (map (λ c. c.collation) (drop l.column-index l.columns)) ≡ collations (g.K.Naming.known l.known) (map (λ c. c.collation) l.columns)
