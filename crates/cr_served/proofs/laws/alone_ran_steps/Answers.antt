use Rattle.cr_session.specs.Sessions.{clean, honest, standing}
use Rattle.cr_served.specs.Running.{policy_of, hears}
use Rattle.cr_served.specs.AloneLaws as alone
use Rattle.cr_served.proofs.laws.alone_ran_steps.Goals as goal

pub returns : goal.returns
returns g c = λ l k s0 s1 cs rs steps. alone.alone_ran_steps policy_of hears l k (honest g.C.Cells.is_honest) (clean g.C.Cells.is_clean) (standing g.C.Cells.holding) s0 s1 cs rs steps
