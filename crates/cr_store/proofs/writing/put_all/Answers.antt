use Rattle.std.proofs.Common.{◌∙◌, subst, sym, take_all}
use Rattle.cr_store.specs.Plan.{put_all}
use Rattle.sqlite.specs.State.{HasCleanDisk}
use Rattle.sqlite.specs.Held.{state}
use Rattle.sqlite.proofs.StateLemmas.{survives_then}
use Rattle.cr_store.specs.declared.plan.New.{New}
use Rattle.cr_store.specs.Ordinals.{IsNamed}
use Rattle.cr_store.specs.Shows.{HasCells}
use Rattle.cr_store.proofs.MoveLemmas.{all_get}
use Rattle.cr_store.proofs.StoreLemmas.{was_clean, keeps_then}
use Rattle.cr_store.proofs.WriteLemmas.{put_more}
use Rattle.cr_store.proofs.writing.put_all.Goals as goal

pub loop-new-preserved : goal.loop-new-preserved
loop-new-preserved g c =
    let old = state g.S.Store c.args.tx.now.conn.now in
    let mid = state g.S.Store c.loop-new.tx.conn.now in
    let new = state g.S.Store c.put.new.tx.conn.now in
    let was = c.loop-new.invariant in
    let put = c.in_ok-put.ensures in
    let early = λ (clean : HasCleanDisk new). was_clean mid new put.survives clean in
    record {
      same_reference = put.same_reference ∙ was.same_reference;
      survives = survives_then old mid new (λ _. ⊥) (λ _. ⊥) (λ _. ⊥) (λ _ db none. none) (λ _ db none. none) was.survives put.survives;
      inside = λ clean. put.inside clean ∙ was.inside (early clean);
      kept = λ clean. keeps_then old mid new (was.kept (early clean)) (put.kept clean);
      put = λ clean a b o d ss named it.
          let before = was.put (early clean) a b o d ss named it in
          let there = all_get (λ (n : New). IsNamed c.args.tables.now n.cell) c.args.news.now c.loop-new.new-index c.new-item.result named c.loop-new-test.true c.new-item.is in
          let after = put.put clean a b o d _ there before in
          subst (HasCells new.now c.args.tables.now a b o d) (sym (put_more c.args.news.now c.loop-new.new-index c.new-item.result ss c.loop-new-test.true c.new-item.is)) after;
    }

pub returns-clause-put : goal.returns-clause-put
returns-clause-put g c clean a b o d ss named it =
    let now = state g.S.Store c.loop-new.tx.conn.now in
    subst (λ ns. HasCells now.now c.args.tables.now a b o d (put_all ns ss)) (take_all _ _ c.loop-new-test.false) (c.loop-new.invariant.put clean a b o d ss named it)
