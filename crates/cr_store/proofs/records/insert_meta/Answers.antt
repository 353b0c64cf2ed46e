use Rattle.sqlite.specs.Held.{state}
use Rattle.cr_store.proofs.InsertLemmas.{puts_meta}
use Rattle.cr_store.proofs.StoreLemmas.{ok_then}
use Rattle.cr_store.proofs.records.insert_meta.Goals as goal

pub returns-clause-put : goal.returns-clause-put
returns-clause-put g c clean a b o cells marks it =
    ok_then c.write.result _ _ (λ ran. puts_meta (state g.S.Store c.args.tx.now.conn.now) (state g.S.Store c.write.new.tx.conn.now) a b o cells marks _ _ ran.0 it (rw c.as_bytes.ensures.value at ran.1)) (c.write.ensures.ran clean)
