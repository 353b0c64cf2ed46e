use Rattle.std.proofs.Common.{rules, ◌≡◌, true, not, ◌&&◌, sym, ◌∙◌}
use Rattle.std.specs.Prelude.{is_some}
use Rattle.cr_world.specs.Answers.{is_replica_name}
use Rattle.cr_fleet.proofs.Stepping.{place_paired}
use Rattle.cr_fleet.proofs.fleet.Fleet.is_free.Goals as goal

pub returns-then-is_replica_name : goal.returns-then-is_replica_name
returns-then-is_replica_name g c =
    let replicas = c.self.inside.replicas in
    let place = place_paired replicas.items c.self.inside.in_use c.args.name.now c.place_of.result (search rules) in
    let named : is_replica_name c.args.name.now ≡ true = sym c.is_replica_name.ensures ∙ c.if-is_replica_name.true in
    let unused : c.is_none.result ≡ not (is_some c.place_of.result) = search rules in
    rw (← c.self.view_is) (unused ∙ sym (λ i. named i && not (is_some (place i))))
