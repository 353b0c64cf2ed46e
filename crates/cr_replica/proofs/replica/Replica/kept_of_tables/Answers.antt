use Rattle.cr_replica.proofs.Shown.{kept_once}
use Rattle.cr_replica.proofs.replica.Replica.kept_of_tables.Goals as goal

pub returns-clause-kept : goal.returns-clause-kept
returns-clause-kept g c = kept_once c.in-Ok.changes.items c.in_ok-keep.field-0.items c.in_ok-keep.ensures
