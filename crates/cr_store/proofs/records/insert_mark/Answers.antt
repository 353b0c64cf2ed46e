use Rattle.std.proofs.Common.{w64, map}
use Rattle.std.proofs.lemmas.Int.{to_z-of_z}
use Rattle.sqlite.specs.Held.{state}
use Rattle.cr_store.specs.Rows.{mark_row}
use Rattle.cr_store.proofs.InsertLemmas.{puts_mark}
use Rattle.cr_store.proofs.StoreLemmas.{ok_then}
use Rattle.cr_store.proofs.records.insert_mark.Goals as goal

pub returns-clause-put : goal.returns-clause-put
returns-clause-put g c clean a b o cells marks it =
    ok_then c.write.result _ _ (λ ran. puts_mark (state g.S.Store c.args.tx.now.conn.now) (state g.S.Store c.write.new.tx.conn.now) a b o cells (map mark_row marks) _ _ ran.0 it
    (simp (to_z-of_z w64 c.args.version c.ranges.version) at ran.1)) (c.write.ensures.ran clean)
