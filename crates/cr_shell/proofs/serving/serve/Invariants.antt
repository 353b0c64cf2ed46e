use Rattle.std.proofs.Common.{◌≡◌, [], false}
use Rattle.cr_script.specs.Speaking.{closures, spoken}
use Rattle.cr_served.specs.Running.{watch}
use Rattle.cr_shell.specs.Running.{RanAs}
use Rattle.cr_shell.proofs.ServeLemmas.{Going}
use Rattle.cr_shell.proofs.serving.serve.Given as goal

-- the lines so far were heard, the unfinished one is kept, and nothing has failed
abbrev pub invariant-loop : goal.invariant-loop
invariant-loop g l = record {
  so_far : Going g.R.Read.remaining g.W.Write.contents (RanAs g.T.Served.ran (λ has. has ≡ g.F.Functions.names_function l.functions) (λ has. spoken (g.F.Functions.function_of l.functions) (g.F.Functions.scalar l.functions) (g.F.Functions.step l.functions) (g.F.Functions.finish l.functions) (g.F.Functions.order_of l.functions) (g.F.Functions.orders_total l.functions) has)
      (closures (g.G.Guarding.allows l.fn.guard) (g.G.Guarding.refuses l.fn.guard))) l.fn.reader l.reader l.fn.writer l.writer (l.fn.served, watch g.G.Guarding.rules g.G.Guarding.noted g.G.Guarding.noting l.fn.guard, []) (l.served, watch g.G.Guarding.rules g.G.Guarding.noted g.G.Guarding.noting l.guard, l.input.gathered) l.input.line l.counter;
  reader : l.reader.1 ≡ false;
  writer : l.writer.1 ≡ false;
  closures : closures (g.G.Guarding.allows l.guard) (g.G.Guarding.refuses l.guard) ≡ closures (g.G.Guarding.allows l.fn.guard) (g.G.Guarding.refuses l.fn.guard);
  noting : g.G.Guarding.noting l.guard ≡ g.G.Guarding.noting l.fn.guard;
  faithful : g.G.Guarding.is_faithful l.guard;
}
