use Rattle.std.proofs.Common.{w64}
use Rattle.std.proofs.lemmas.Int.{to_z-of_z}
use Rattle.sqlite.specs.Held.{state}
use Rattle.cr_store.proofs.UpdateLemmas.{sets_version}
use Rattle.cr_store.proofs.StoreLemmas.{ok_then}
use Rattle.cr_store.proofs.records.set_version.Goals as goal

pub returns-clause-set : goal.returns-clause-set
returns-clause-set g c clean site was b o cells marks it =
    ok_then c.write.result _ _ (λ ran. sets_version (state g.S.Store c.args.tx.now.conn.now) (state g.S.Store c.write.new.tx.conn.now) b o cells marks site ran.0 was c.args.version it
    (simp (to_z-of_z w64 c.args.version c.ranges.version) at ran.1)) (c.write.ensures.ran clean)
