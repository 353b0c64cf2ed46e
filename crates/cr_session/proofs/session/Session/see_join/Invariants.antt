use Rattle.std.proofs.Common.{◌≡◌}
use Rattle.cr_cells.specs.Holding.{IsSound}
use Rattle.cr_scalar.specs.Host.{Host as Means}
use Rattle.cr_session.specs.Joining.{IsJoinOf}
use Rattle.cr_session.specs.Sessions.{standing}
use Rattle.cr_session.proofs.Joins.{SoFar}
use Rattle.cr_session.proofs.session.Session.see_join.Given as goal

abbrev pub invariant-loop-joined : goal.invariant-loop-joined
invariant-loop-joined g l = record {
  was_honest : g.C.Cells.is_honest l.self.0 → g.C.Cells.is_honest l.fn.self.0;
  stays_clean : g.C.Cells.is_honest l.self.0 → g.C.Cells.is_clean l.fn.self.0 → g.C.Cells.is_clean l.self.0;
  was_clean : g.C.Cells.is_clean l.self.0 → g.C.Cells.is_clean l.fn.self.0;
  same : g.C.Cells.is_clean l.self.0 → standing g.C.Cells.holding l.self ≡ standing g.C.Cells.holding l.fn.self;
  so_far :
      (means : Means) (sound : IsSound (g.C.Cells.holding l.fn.self.0)) (is : IsJoinOf means l.fn.self.1 (g.C.Cells.holding l.fn.self.0).tables l.query)
      → g.C.Cells.is_clean l.self.0
      → SoFar means l.params l.query (g.C.Cells.holding l.fn.self.0) sound l.fn.self.1 is l.joined-index l.base l.partners.items l.seen.items;
}
