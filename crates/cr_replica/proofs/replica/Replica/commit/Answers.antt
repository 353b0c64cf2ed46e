use Rattle.std.proofs.Common.{[]}
use Rattle.cr_replica.proofs.Committing.{kept-once_more}
use Rattle.cr_replica.proofs.replica.Replica.commit.Goals.{in-Ok, in-Err}
use Rattle.cr_replica.proofs.replica.Replica.commit.Goals as goal

pub commit-requires-clause-well_formed : goal.commit-requires-clause-well_formed
commit-requires-clause-well_formed g c = λ clean. ((rw (← c.self.view_is) at c.requires.ready) clean).well_formed

pub returns-clause-joins : goal.returns-clause-joins
returns-clause-joins g c =
    elim c.match-commit.branch [
      | in-Ok w ↦ rw w.result-is (λ clean held stands.
          (let before = c.commit.ensures.device.was_clean clean in
          kept-once_more (g.C.Cells.holding c.self.inside.cells) (g.C.Cells.holding c.commit.new.self) [] held c.args.taking.now.changes.now c.args.mark (w.in-Ok.ensures.commits clean).0 (c.db_version.ensures.sound before) (rw c.self.view_is stands)))
      | in-Err w ↦ rw w.result-is (λ clean. tt)
    ]
