use Rattle.std.proofs.Common.{arith, rules, subst, sym, w64, map}
use Rattle.std.proofs.lemmas.Int.{to_z-of_z}
use Rattle.sqlite.specs.State.{HasCleanDisk}
use Rattle.sqlite.specs.Held.{state}
use Rattle.cr_cells.specs.Marks.{marks_after}
use Rattle.cr_store.specs.Plan.{put_all, without_all}
use Rattle.cr_store.specs.declared.format.Format.TheVariants.{Second}
use Rattle.cr_store.specs.Rows.{meta_rows, mark_row}
use Rattle.cr_store.specs.Shows.{HasCells}
use Rattle.cr_store.proofs.writing.write_commit.Goals as goal

pub returns-clause-put : goal.returns-clause-put
returns-clause-put g c clean site old b o ss marks told named it =
    let late : HasCleanDisk (state g.S.Store c.commit.new.self.0) = search rules in
    let begun = c.transaction-tx.ensures.begun in
    let inside : HasCleanDisk (state g.S.Store c.write_all.new.tx.conn.now) = omega (arith, c.commit.ensures.survives.clean, late) in
    let done = simp (to_z-of_z w64 c.args.stamp c.ranges.stamp, to_z-of_z w64 c.args.version c.ranges.version) at (c.in_ok-write_all.ensures.put inside site old b o ss marks told named (rw begun it)) in
    let fact : HasCells (state g.S.Store c.commit.new.self.0).now c.args.tables.now (meta_rows Second site c.args.version) b o (map mark_row (marks_after marks c.args.mark)) (without_all c.args.stamp c.args.plan.now.gone.items (put_all c.args.plan.now.news.items ss)) =
    subst (λ db. HasCells db c.args.tables.now (meta_rows Second site c.args.version) b o (map mark_row (marks_after marks c.args.mark)) (without_all c.args.stamp c.args.plan.now.gone.items (put_all c.args.plan.now.news.items ss))) (sym (c.in_ok-commit.ensures.ok late).1.now_is) done in
    search (rules, fact)
