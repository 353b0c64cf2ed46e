use Rattle.std.proofs.Common.{◌≡◌, take}
use Rattle.cr_heard.specs.Touched.{heard_of_touched}
use Rattle.cr_world.specs.State.{now}
use Rattle.cr_session.specs.Sessions.{standing}
use Rattle.cr_session.proofs.session.Session.events.Given as goal

abbrev pub invariant-loop-keys : goal.invariant-loop-keys
invariant-loop-keys g l = record {
  was_honest : g.C.Cells.is_honest l.self.0 → g.C.Cells.is_honest l.fn.self.0;
  stays_clean : g.C.Cells.is_honest l.self.0 → g.C.Cells.is_clean l.fn.self.0 → g.C.Cells.is_clean l.self.0;
  was_clean : g.C.Cells.is_clean l.self.0 → g.C.Cells.is_clean l.fn.self.0;
  pending : l.self.1 ≡ l.fn.self.1;
  same : g.C.Cells.is_clean l.self.0 → standing g.C.Cells.holding l.self ≡ standing g.C.Cells.holding l.fn.self;
  events : g.C.Cells.is_clean l.self.0 → l.events.items ≡ heard_of_touched (now (standing g.C.Cells.holding l.fn.self)) l.changes (take l.keys-index l.touched);
}
