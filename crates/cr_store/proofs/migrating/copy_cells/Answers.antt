use Rattle.std.proofs.Common.{◌∙◌, subst, take_all}
use Rattle.sqlite.specs.State.{HasCleanDisk}
use Rattle.sqlite.specs.Held.{state}
use Rattle.sqlite.proofs.StateLemmas.{survives_then}
use Rattle.cr_store.specs.Ordinals.{IsNamed}
use Rattle.cr_store.specs.Shows.{HasCells}
use Rattle.cr_store.proofs.StoreLemmas.{was_clean, keeps_then}
use Rattle.cr_store.proofs.MoveLemmas.{all_get, has_one_more}
use Rattle.cr_store.proofs.migrating.copy_cells.Goals as goal

pub loop-cell-preserved : goal.loop-cell-preserved
loop-cell-preserved g c =
    let old = state g.S.Store c.args.tx.now.conn.now in
    let mid = state g.S.Store c.loop-cell.tx.conn.now in
    let new = state g.S.Store c.insert.new.tx.conn.now in
    let was = c.loop-cell.invariant in
    let put = c.in_ok-insert.ensures in
    let early = λ (clean : HasCleanDisk new). was_clean mid new put.survives clean in
    record {
      same_reference = put.same_reference ∙ was.same_reference;
      survives = survives_then old mid new (λ _. ⊥) (λ _. ⊥) (λ _. ⊥) (λ _ db none. none) (λ _ db none. none) was.survives put.survives;
      inside = λ clean. put.inside clean ∙ was.inside (early clean);
      kept = λ clean. keeps_then old mid new (was.kept (early clean)) (put.kept clean);
      put = λ clean a b o d named it.
          let before = was.put (early clean) a b o d named it in
          let there = all_get (IsNamed c.args.tables.now) c.args.cells.now c.loop-cell.cell-index c.cell-item.result named c.loop-cell-test.true c.cell-item.is in
          has_one_more new.now c.args.tables.now a b o d c.args.cells.now c.loop-cell.cell-index c.cell-item.result c.loop-cell-test.true c.cell-item.is (put.put clean a b o d _ there before);
    }

pub returns-clause-put : goal.returns-clause-put
returns-clause-put g c clean a b o d named it =
    subst (HasCells (state g.S.Store c.loop-cell.tx.conn.now).now c.args.tables.now a b o d) (take_all _ _ c.loop-cell-test.false) (c.loop-cell.invariant.put clean a b o d named it)
