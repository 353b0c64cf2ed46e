use Rattle.std.proofs.Common.{[]}
use Rattle.sqlite.specs.Held.{state}
use Rattle.cr_store.proofs.StoreLemmas.{was_clean}
use Rattle.cr_store.proofs.tables.insert_all_meta.Goals as goal

pub returns-clause-put : goal.returns-clause-put
returns-clause-put g c clean it =
    let s2 = state g.S.Store c.insert_meta-2.new.tx.conn.now in
    let s1 = state g.S.Store c.insert_meta.new.tx.conn.now in
    let two = was_clean s2 (state g.S.Store c.insert_meta-3.new.tx.conn.now) c.insert_meta-3.ensures.survives clean in
    let one = was_clean s1 s2 c.insert_meta-2.ensures.survives two in
    let p = c.in_ok-insert_meta.ensures.put one [] [] [] [] [] it in
    let q = c.in_ok-insert_meta-2.ensures.put two _ _ _ _ _ p in
    c.insert_meta-3.ensures.put clean _ _ _ _ _ q
