use Rattle.std.proofs.Common.{rules, Some, None}
use Rattle.cr_session.specs.Sessions.{clean, standing}
use Rattle.cr_fleet.proofs.Between.{uses_there, uses_nobody}
use Rattle.cr_fleet.proofs.Stepping.{use_step, use_none, place_paired}
use Rattle.cr_fleet.proofs.fleet.Fleet.use_replica.Goals as goal

pub returns-in-Some-clause-steps : goal.returns-in-Some-clause-steps
returns-in-Some-clause-steps g c = λ l k policy.
    rw (← c.self.view_is) (use_step l k (clean g.C.Cells.is_clean) (standing g.C.Cells.holding) policy _ c.args.name.now c.in-Some.at (place_paired c.self.inside.replicas.items c.self.inside.in_use c.args.name.now (Some c.in-Some.at) (search rules)))

pub returns-in-None-clause-steps : goal.returns-in-None-clause-steps
returns-in-None-clause-steps g c = λ l k policy.
    rw (← c.self.view_is) (use_none l k (clean g.C.Cells.is_clean) (standing g.C.Cells.holding) policy _ c.args.name.now (place_paired c.self.inside.replicas.items c.self.inside.in_use c.args.name.now None (search rules)))

pub returns-in-Some-clause-uses : goal.returns-in-Some-clause-uses
returns-in-Some-clause-uses g c = rw (← c.self.view_is) (uses_there _ _ c.in-Some.at (place_paired c.self.inside.replicas.items c.self.inside.in_use c.args.name.now (Some c.in-Some.at) (search rules)))

pub returns-in-None-clause-uses : goal.returns-in-None-clause-uses
returns-in-None-clause-uses g c = rw (← c.self.view_is) (uses_nobody _ _ (place_paired c.self.inside.replicas.items c.self.inside.in_use c.args.name.now None (search rules)))
