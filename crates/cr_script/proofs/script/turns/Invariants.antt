use Rattle.std.proofs.Common.{◌≡◌, List, ℕ, Bool, length}
use Rattle.cr_script.specs.Scripts.{pieces_left}
use Rattle.cr_script.specs.Speaking.{closures, host_under, HasHeard, Stays}
use Rattle.cr_script.specs.Speaking.{spoken}
use Rattle.cr_script.proofs.Heeding.{Heeds}
use Rattle.cr_script.proofs.Turning.{Led}
use Rattle.cr_script.proofs.script.turns.Given as goal

-- the statements so far led here, they were heard of, and the guard answers as before
abbrev pub invariant-loop-reply : goal.invariant-loop-reply
invariant-loop-reply g l = record {
  led : (has : List ℕ → Bool) → has ≡ g.F.Functions.names_function l.functions
      → Led (spoken (g.F.Functions.function_of l.functions) (g.F.Functions.scalar l.functions) (g.F.Functions.step l.functions) (g.F.Functions.finish l.functions) (g.F.Functions.order_of l.functions) (g.F.Functions.orders_total l.functions) has)
      (host_under (closures (g.G.Guarding.allows l.fn.guard) (g.G.Guarding.refuses l.fn.guard)) (g.G.Guarding.rules l.fn.guard)) g.E.Executor.is_honest g.E.Executor.is_clean g.E.Executor.stands
      l.source (pieces_left (length l.tokens) l.source l.tokens) l.fn.executor l.executor l.rest l.replies.items;
  heeds : (has : List ℕ → Bool) → has ≡ g.F.Functions.names_function l.functions
      → Heeds (spoken (g.F.Functions.function_of l.functions) (g.F.Functions.scalar l.functions) (g.F.Functions.step l.functions) (g.F.Functions.finish l.functions) (g.F.Functions.order_of l.functions) (g.F.Functions.orders_total l.functions) has)
      (host_under (closures (g.G.Guarding.allows l.fn.guard) (g.G.Guarding.refuses l.fn.guard)) (g.G.Guarding.rules l.fn.guard)) g.E.Executor.is_honest g.E.Executor.is_clean g.E.Executor.stands
      (λ from to events. HasHeard g.G.Guarding.noted g.G.Guarding.noting from to events)
      l.source (pieces_left (length l.tokens) l.source l.tokens) l.fn.executor l.fn.guard l.executor l.guard l.rest l.replies.items;
  stays : Stays g.G.Guarding.is_faithful g.G.Guarding.rules g.G.Guarding.allows g.G.Guarding.refuses g.G.Guarding.noting l.fn.guard l.guard;
}

abbrev pub decreases-loop-reply : goal.decreases-loop-reply
decreases-loop-reply g l = length l.rest
