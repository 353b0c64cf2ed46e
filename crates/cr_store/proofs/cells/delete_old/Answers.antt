use Rattle.sqlite.specs.Held.{state}
use Rattle.std.proofs.Common.{w64}
use Rattle.std.proofs.lemmas.Int.{to_z-of_z}
use Rattle.cr_store.proofs.DeleteLemmas.{drops_cell}
use Rattle.cr_store.proofs.StoreLemmas.{ok_then}
use Rattle.cr_store.proofs.cells.delete_old.Goals as goal

pub returns-clause-cut : goal.returns-clause-cut
returns-clause-cut g c clean a b o d ss it =
    ok_then c.write.result _ _ (λ ran. drops_cell (state g.S.Store c.args.tx.now.conn.now) (state g.S.Store c.write.new.tx.conn.now) c.args.tables.now a b o d ss c.args.change.now c.args.version ran.0 it
    (simp (to_z-of_z w64 c.args.version c.ranges.version) at (rw c.old_key-values.ensures at ran.1))) (c.write.ensures.ran clean)
