use Rattle.std.proofs.Common.{ℕ, Bool, List, ◌≡◌, ◌≤◌, length, take, vec_len, vec_capacity}
use Rattle.cr_world.specs.World.{World}
use Rattle.cr_world.specs.Answers.{AreAnswered}
use Rattle.cr_world.specs.Run.{Run, world_after}
use Rattle.cr_fleet.specs.Fleets.{AreClean, Shows}
use Rattle.cr_fleet.specs.Hearing.{HearsRun}
use Rattle.cr_fleet.specs.Running.{InTurn, IsStep}
use Rattle.cr_script.specs.Speaking.{closures, HasHeard}
use Rattle.cr_session.specs.Sessions.{clean, honest, standing}
use Rattle.cr_script.specs.Speaking.{spoken}
use Rattle.cr_fleet.proofs.fleet.Fleet.run.Given as goal

-- the commands so far ran as a run, they were heard of, and there is room for the replies to all
abbrev pub invariant-loop-command : goal.invariant-loop-command
invariant-loop-command g l = record {
  was_clean : (has : List ℕ → Bool) → has ≡ g.F.Functions.names_function l.functions → AreClean (clean g.C.Cells.is_clean) l.self → AreClean (clean g.C.Cells.is_clean) l.fn.self;
  stays_clean : (has : List ℕ → Bool) → has ≡ g.F.Functions.names_function l.functions → AreClean (clean g.C.Cells.is_clean) l.fn.self → AreAnswered l.replies.items → AreClean (clean g.C.Cells.is_clean) l.self;
  ran : (has : List ℕ → Bool) → has ≡ g.F.Functions.names_function l.functions → AreClean (clean g.C.Cells.is_clean) l.self → (w : World) → Shows (standing g.C.Cells.holding) w (g.G.Guarding.rules l.fn.guard) l.fn.self
      → Run (spoken (g.F.Functions.function_of l.functions) (g.F.Functions.scalar l.functions) (g.F.Functions.step l.functions) (g.F.Functions.finish l.functions) (g.F.Functions.order_of l.functions) (g.F.Functions.orders_total l.functions) has) (closures (g.G.Guarding.allows l.fn.guard) (g.G.Guarding.refuses l.fn.guard)) w (take l.command-index l.commands) l.replies.items
      × Shows (standing g.C.Cells.holding) (world_after (spoken (g.F.Functions.function_of l.functions) (g.F.Functions.scalar l.functions) (g.F.Functions.step l.functions) (g.F.Functions.finish l.functions) (g.F.Functions.order_of l.functions) (g.F.Functions.orders_total l.functions) has) (closures (g.G.Guarding.allows l.fn.guard) (g.G.Guarding.refuses l.fn.guard)) w (take l.command-index l.commands) l.replies.items) (g.G.Guarding.rules l.guard) l.self;
  heard : (has : List ℕ → Bool) → has ≡ g.F.Functions.names_function l.functions → AreClean (clean g.C.Cells.is_clean) l.self → (w : World) → Shows (standing g.C.Cells.holding) w (g.G.Guarding.rules l.fn.guard) l.fn.self
      → HearsRun (spoken (g.F.Functions.function_of l.functions) (g.F.Functions.scalar l.functions) (g.F.Functions.step l.functions) (g.F.Functions.finish l.functions) (g.F.Functions.order_of l.functions) (g.F.Functions.orders_total l.functions) has) (closures (g.G.Guarding.allows l.fn.guard) (g.G.Guarding.refuses l.fn.guard)) (λ from to events. HasHeard g.G.Guarding.noted g.G.Guarding.noting from to events) l.fn.guard w (take l.command-index l.commands) l.replies.items l.guard;
  steps : (has : List ℕ → Bool) → has ≡ g.F.Functions.names_function l.functions
      → InTurn (IsStep (spoken (g.F.Functions.function_of l.functions) (g.F.Functions.scalar l.functions) (g.F.Functions.step l.functions) (g.F.Functions.finish l.functions) (g.F.Functions.order_of l.functions) (g.F.Functions.orders_total l.functions) has) (closures (g.G.Guarding.allows l.fn.guard) (g.G.Guarding.refuses l.fn.guard)) (λ from to events. HasHeard g.G.Guarding.noted g.G.Guarding.noting from to events)
      (honest g.C.Cells.is_honest) (clean g.C.Cells.is_clean) (standing g.C.Cells.holding) g.G.Guarding.rules) (l.fn.self, l.fn.guard) (take l.command-index l.commands) l.replies.items (l.self, l.guard);
  closures : closures (g.G.Guarding.allows l.guard) (g.G.Guarding.refuses l.guard) ≡ closures (g.G.Guarding.allows l.fn.guard) (g.G.Guarding.refuses l.fn.guard);
  noting : g.G.Guarding.noting l.guard ≡ g.G.Guarding.noting l.fn.guard;
  faithful : g.G.Guarding.is_faithful l.guard;
  count : vec_len l.replies ≡ l.command-index;
  room : length l.commands ≤ vec_capacity l.replies;
}
