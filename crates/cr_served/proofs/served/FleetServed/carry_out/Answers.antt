use Rattle.std.proofs.Common.{refl}
use Rattle.cr_script.specs.Speaking.{HasHeard, closures, spoken}
use Rattle.cr_session.specs.Sessions.{clean, honest, standing}
use Rattle.cr_served.specs.Running.{watch, hears}
use Rattle.cr_served.proofs.Watching.{between_over, command_over}
use Rattle.cr_served.proofs.served.FleetServed.carry_out.Goals as goal

pub returns-clause-ran : goal.returns-clause-ran
returns-clause-ran g c = λ has names.
    let language = spoken (g.F.Functions.function_of c.args.functions.now) (g.F.Functions.scalar c.args.functions.now) (g.F.Functions.step c.args.functions.now) (g.F.Functions.finish c.args.functions.now) (g.F.Functions.order_of c.args.functions.now) (g.F.Functions.orders_total c.args.functions.now) has in
    let k = closures (g.G.Guarding.allows c.args.guard.now) (g.G.Guarding.refuses c.args.guard.now) in (
      (c.step.new.self, watch g.G.Guarding.rules g.G.Guarding.noted g.G.Guarding.noting c.step.new.guard),
      record {
        steps = c.step.ensures.steps has names;
        heard = λ clean w shows. command_over language (watch g.G.Guarding.rules g.G.Guarding.noted g.G.Guarding.noting) (HasHeard g.G.Guarding.noted g.G.Guarding.noting) hears (λ from to events heard. heard) k c.args.guard.now w c.args.command.now c.step.result c.step.new.guard
            (c.step.ensures.heard has names clean w shows);
        between = between_over language (watch g.G.Guarding.rules g.G.Guarding.noted g.G.Guarding.noting) (HasHeard g.G.Guarding.noted g.G.Guarding.noting) hears (λ from to events heard. heard) k (honest g.C.Cells.is_honest) (clean g.C.Cells.is_clean) (standing g.C.Cells.holding)
            c.args.guard.now (g.G.Guarding.rules c.args.guard.now) c.args.self.now c.step.result c.step.new.self c.step.new.guard c.args.command.now (c.step.ensures.between has names);
        policy = c.step.ensures.rules;
      },
      refl,
    )
