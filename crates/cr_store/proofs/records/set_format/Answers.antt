use Rattle.sqlite.specs.Held.{state}
use Rattle.cr_store.proofs.UpdateLemmas.{sets_format}
use Rattle.cr_store.proofs.StoreLemmas.{ok_then}
use Rattle.cr_store.proofs.records.set_format.Goals as goal

pub returns-clause-set : goal.returns-clause-set
returns-clause-set g c clean site version b o cells marks it =
    ok_then c.write.result _ _ (λ ran. sets_format (state g.S.Store c.args.tx.now.conn.now) (state g.S.Store c.write.new.tx.conn.now) b o cells marks site ran.0 version it ran.1) (c.write.ensures.ran clean)
