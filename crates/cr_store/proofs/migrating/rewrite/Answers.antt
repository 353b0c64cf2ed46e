use Rattle.std.proofs.Common.{[]}
use Rattle.sqlite.specs.Held.{state}
use Rattle.cr_store.proofs.StoreLemmas.{was_clean}
use Rattle.cr_store.proofs.migrating.rewrite.Goals as goal

pub returns-clause-made : goal.returns-clause-made
returns-clause-made g c clean site version b cells d named it =
    let s3 = state g.S.Store c.empty_old_cells.new.tx.conn.now in
    let s2 = state g.S.Store c.copy_cells.new.tx.conn.now in
    let s1 = state g.S.Store c.make_cells.new.tx.conn.now in
    let three = was_clean s3 (state g.S.Store c.set_format.new.tx.conn.now) c.set_format.ensures.survives clean in
    let two = was_clean s2 s3 c.empty_old_cells.ensures.survives three in
    let one = was_clean s1 s2 c.copy_cells.ensures.survives two in
    let p = c.in_ok-make_cells.ensures.made one _ b cells d it in
    let q = c.in_ok-copy_cells.ensures.put two _ b cells d named (record { held = p; named = tt }) in
    let r = c.in_ok-empty_old_cells.ensures.cut three _ b cells _ d q.held in
    c.set_format.ensures.set clean site version b [] _ d r
