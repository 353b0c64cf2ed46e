use Rattle.std.proofs.Common.{map, w64}
use Rattle.std.proofs.lemmas.Int.{to_z-of_z}
use Rattle.sqlite.specs.Held.{state}
use Rattle.cr_store.specs.declared.format.Format.TheVariants.{Second}
use Rattle.cr_store.specs.Rows.{meta_rows, mark_row}
use Rattle.cr_store.proofs.StoreLemmas.{was_clean, ok_then}
use Rattle.cr_store.proofs.writing.write_all.Goals as goal

pub returns-clause-put : goal.returns-clause-put
returns-clause-put g c clean site old b o ss marks told named it =
    let s3 = state g.S.Store c.set_version.new.tx.conn.now in
    let s2 = state g.S.Store c.delete_all.new.tx.conn.now in
    let s1 = state g.S.Store c.put_all.new.tx.conn.now in
    let three = was_clean s3 (state g.S.Store c.put_mark.new.tx.conn.now) c.put_mark.ensures.survives clean in
    let two = was_clean s2 s3 c.set_version.ensures.survives three in
    let one = was_clean s1 s2 c.delete_all.ensures.survives two in
    let p = c.in_ok-put_all.ensures.put one (meta_rows Second site old) b o (map mark_row marks) ss (rw c.deref.ensures.value named) it in
    let q = c.in_ok-delete_all.ensures.cut two (meta_rows Second site old) b o (map mark_row marks) _ p in
    let r = c.in_ok-set_version.ensures.set three site old b o _ (map mark_row marks) q.held in
    let last = simp (c.deref.ensures.value, c.deref-2.ensures.value, to_z-of_z w64 c.args.stamp c.ranges.stamp, to_z-of_z w64 c.args.version c.ranges.version) at (c.put_mark.ensures.put clean _ b o _ marks told r) in
    let names = simp (c.deref.ensures.value, c.deref-2.ensures.value, to_z-of_z w64 c.args.stamp c.ranges.stamp) at q.named in
    ok_then c.put_mark.result _ _ (λ held. record { held = held; named = names }) last
