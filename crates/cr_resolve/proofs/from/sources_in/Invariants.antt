use Rattle.std.proofs.Common.{◌≡◌, drop, Some}
use Rattle.cr_resolve.specs.Queries.{written, sources_of}
use Rattle.cr_resolve.proofs.Froms.{behind}
use Rattle.cr_resolve.proofs.from.sources_in.Given as goal

abbrev pub invariant-loop-join : goal.invariant-loop-join
invariant-loop-join g l = behind (g.K.Naming.known l.known) l.sources (drop l.join-index l.tables.joins) ≡ sources_of (g.K.Naming.known l.known) (written (Some l.tables))
