use Rattle.cr_session.specs.Sessions.{clean, honest, standing}
use Rattle.cr_served.specs.Running.{policy_of, hears}
use Rattle.cr_served.specs.RunningLaws as running
use Rattle.cr_served.proofs.laws.fleet_ran_steps.Goals as goal

pub returns : goal.returns
returns g c = λ l k s0 s1 cs rs steps. running.fleet_ran_steps policy_of hears l k (clean g.C.Cells.is_clean) (standing g.C.Cells.holding) (honest g.C.Cells.is_honest) s0 s1 cs rs steps
