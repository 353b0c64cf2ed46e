use Rattle.std.proofs.Common.{◌∙◌, subst, sym, take_all, w64, to_z, of_z}
use Rattle.std.proofs.lemmas.Int.{to_z-of_z}
use Rattle.cr_store.specs.Plan.{without_all}
use Rattle.sqlite.specs.State.{HasCleanDisk}
use Rattle.sqlite.specs.Held.{state}
use Rattle.sqlite.proofs.StateLemmas.{survives_then}
use Rattle.cr_store.specs.Shows.{HasCells}
use Rattle.cr_store.proofs.StoreLemmas.{was_clean, keeps_then}
use Rattle.cr_store.proofs.WriteLemmas.{without_more}
use Rattle.cr_store.proofs.writing.delete_all.Goals as goal

pub loop-change-preserved : goal.loop-change-preserved
loop-change-preserved g c =
    let old = state g.S.Store c.args.tx.now.conn.now in
    let mid = state g.S.Store c.loop-change.tx.conn.now in
    let new = state g.S.Store c.delete_old.new.tx.conn.now in
    let was = c.loop-change.invariant in
    let put = c.in_ok-delete_old.ensures in
    let early = λ (clean : HasCleanDisk new). was_clean mid new put.survives clean in
    record {
      same_reference = put.same_reference ∙ was.same_reference;
      survives = survives_then old mid new (λ _. ⊥) (λ _. ⊥) (λ _. ⊥) (λ _ db none. none) (λ _ db none. none) was.survives put.survives;
      inside = λ clean. put.inside clean ∙ was.inside (early clean);
      kept = λ clean. keeps_then old mid new (was.kept (early clean)) (put.kept clean);
      cut = λ clean a b o d ss it.
          let before = was.cut (early clean) a b o d ss it in
          let after = put.cut clean a b o d _ before in
          subst (HasCells new.now c.args.tables.now a b o d) (sym (without_more (to_z w64 (of_z w64 c.args.version)) c.args.gone.now c.loop-change.change-index c.change-item.result ss c.loop-change-test.true c.change-item.is)) after;
    }

pub returns-clause-cut : goal.returns-clause-cut
returns-clause-cut g c clean a b o d ss it =
    let now = state g.S.Store c.loop-change.tx.conn.now in
    subst (λ cs. HasCells now.now c.args.tables.now a b o d (without_all c.args.version cs ss)) (take_all _ _ c.loop-change-test.false)
    (simp (to_z-of_z w64 c.args.version c.ranges.version) at (c.loop-change.invariant.cut clean a b o d ss it))
