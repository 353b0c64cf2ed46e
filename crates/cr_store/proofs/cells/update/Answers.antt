use Rattle.sqlite.specs.Held.{state}
use Rattle.cr_store.proofs.UpdateLemmas.{sets_cell}
use Rattle.cr_store.proofs.StoreLemmas.{ok_then}
use Rattle.cr_store.proofs.cells.update.Goals as goal

pub returns-clause-put : goal.returns-clause-put
returns-clause-put g c clean a b o d ss there it =
    ok_then c.write.result _ _ (λ ran. sets_cell (state g.S.Store c.args.tx.now.conn.now) (state g.S.Store c.write.new.tx.conn.now) c.args.tables.now a b o d ss c.args.cell.now ran.0 there it (rw c.columns-values.ensures at ran.1))
    (c.write.ensures.ran clean)
