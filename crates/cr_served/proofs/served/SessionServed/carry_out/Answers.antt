use Rattle.std.proofs.Common.{refl}
use Rattle.cr_served.specs.Running.{watch}
use Rattle.cr_served.proofs.served.SessionServed.carry_out.Goals as goal

pub returns-clause-ran : goal.returns-clause-ran
returns-clause-ran g c = λ has names.
    ((c.step_alone.new.session, watch g.G.Guarding.rules g.G.Guarding.noted g.G.Guarding.noting c.step_alone.new.guard), c.step_alone.ensures.ran has names, refl)
