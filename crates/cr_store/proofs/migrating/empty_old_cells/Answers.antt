use Rattle.sqlite.specs.Held.{state}
use Rattle.cr_store.proofs.DeleteLemmas.{drops_old}
use Rattle.cr_store.proofs.StoreLemmas.{ok_then}
use Rattle.cr_store.proofs.migrating.empty_old_cells.Goals as goal

pub returns-clause-cut : goal.returns-clause-cut
returns-clause-cut g c clean a b o cells d it =
    ok_then c.write.result _ _ (λ ran. drops_old (state g.S.Store c.args.tx.now.conn.now) (state g.S.Store c.write.new.tx.conn.now) a b o cells d ran.0 it ran.1) (c.write.ensures.ran clean)
