use Rattle.sqlite.specs.Held.{state}
use Rattle.cr_store.proofs.MakeLemmas.{makes_fifth}
use Rattle.cr_store.proofs.StoreLemmas.{ok_then}
use Rattle.cr_store.proofs.schema.make_cells.Goals as goal

pub returns-clause-made : goal.returns-clause-made
returns-clause-made g c clean a b d e it =
    ok_then c.write.result _ _ (λ ran. makes_fifth (state g.S.Store c.args.tx.now.conn.now) (state g.S.Store c.write.new.tx.conn.now) a b d e ran.0 it ran.1) (c.write.ensures.ran clean)
