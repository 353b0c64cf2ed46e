use Rattle.sqlite.specs.Held.{state}
use Rattle.cr_store.proofs.UpdateLemmas.{sets_definition}
use Rattle.cr_store.proofs.StoreLemmas.{ok_then}
use Rattle.cr_store.proofs.records.set_definition.Goals as goal

pub returns-clause-set : goal.returns-clause-set
returns-clause-set g c clean a o cells marks column tables widened it =
    ok_then c.write.result _ _ (λ ran. sets_definition (state g.S.Store c.args.tx.now.conn.now) (state g.S.Store c.write.new.tx.conn.now) a o cells marks c.args.name.now column c.args.definition.now tables ran.0 widened it
    (rw c.as_bytes.ensures.value at ran.1)) (c.write.ensures.ran clean)
