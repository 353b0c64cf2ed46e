use Rattle.sqlite.specs.Held.{state}
use Rattle.cr_store.proofs.MakeLemmas.{makes_four}
use Rattle.cr_store.proofs.StoreLemmas.{ok_then, was_clean}
use Rattle.cr_store.proofs.schema.make_first_tables.Goals as goal

pub returns-clause-made : goal.returns-clause-made
returns-clause-made g c clean none =
    let s3 = state g.S.Store c.write-3.new.tx.conn.now in
    let s2 = state g.S.Store c.write-2.new.tx.conn.now in
    let s1 = state g.S.Store c.write.new.tx.conn.now in
    let three = was_clean s3 (state g.S.Store c.write-4.new.tx.conn.now) c.write-4.ensures.survives clean in
    let two = was_clean s2 s3 c.write-3.ensures.survives three in
    let one = was_clean s1 s2 c.write-2.ensures.survives two in
    let p = c.in_ok-write.ensures.ran one in
    let q = c.in_ok-write-2.ensures.ran two in
    let r = c.in_ok-write-3.ensures.ran three in
    ok_then c.write-4.result _ _ (λ s. makes_four _ _ _ _ _ _ _ _ _ none p.1 q.1 r.1 s.1) (c.write-4.ensures.ran clean)
