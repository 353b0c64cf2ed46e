use Rattle.std.proofs.Common.{w64}
use Rattle.std.proofs.lemmas.Int.{to_z-of_z}
use Rattle.sqlite.specs.Held.{state}
use Rattle.cr_store.proofs.UpdateLemmas.{sets_mark}
use Rattle.cr_store.proofs.StoreLemmas.{ok_then}
use Rattle.cr_store.proofs.records.update_mark.Goals as goal

pub returns-clause-set : goal.returns-clause-set
returns-clause-set g c clean a b o cells marks it =
    ok_then c.write.result _ _ (λ ran. sets_mark (state g.S.Store c.args.tx.now.conn.now) (state g.S.Store c.write.new.tx.conn.now) a b o cells (c.args.site.now, c.args.version) marks ran.0 it
    (simp (to_z-of_z w64 c.args.version c.ranges.version) at ran.1)) (c.write.ensures.ran clean)
