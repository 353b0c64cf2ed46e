use Rattle.std.proofs.Common.{rules, ◌≡◌, ◌<◌, ℕ, Option, Some, sym, ap, ◌∙◌, refl, length, map, slice_get, arith}
use Rattle.std.proofs.lemmas.Option.{slice_get-get_or}
use Rattle.cr_script.specs.Speaking.{HasHeard, closures, spoken}
use Rattle.cr_script.proofs.Staying.{same_closures}
use Rattle.cr_session.specs.Sessions.{clean, honest, standing}
use Rattle.cr_world.specs.World.{item_at}
use Rattle.cr_fleet.specs.declared.fleet.Named.{Named}
use Rattle.cr_fleet.proofs.Between.{used_by}
use Rattle.cr_fleet.proofs.Places.{pair, map_set}
use Rattle.cr_fleet.proofs.Stepping.{pair_at}
use Rattle.cr_fleet.proofs.Using.{steps_and_tells}
use Rattle.cr_fleet.proofs.fleet.Fleet.step_used.Goals as goal

pub returns-clause-steps : goal.returns-clause-steps
returns-clause-steps g c = λ has names.
    let replicas = c.self.inside.replicas in
    let within : c.in-Some.at < length replicas.items = (let h = c.in-Some-get_mut.ensures.variant.0 refl in let n = replicas.ok.0 in omega arith) in
    let at : slice_get replicas.items c.in-Some.at ≡ Some c.in-Some-get_mut.named.now = slice_get-get_or replicas.items c.in-Some.at c.in-Some-get_mut.named.now within ∙ ap Some (sym c.in-Some-get_mut.ensures.value) in
    let place : c.self.inside.in_use ≡ Some c.in-Some.at = search rules in
    steps_and_tells
    (spoken (g.F.Functions.function_of c.args.functions.now) (g.F.Functions.scalar c.args.functions.now) (g.F.Functions.step c.args.functions.now) (g.F.Functions.finish c.args.functions.now) (g.F.Functions.order_of c.args.functions.now) (g.F.Functions.orders_total c.args.functions.now) has)
    (closures (g.G.Guarding.allows c.args.guard.now) (g.G.Guarding.refuses c.args.guard.now)) (HasHeard g.G.Guarding.noted g.G.Guarding.noting)
    (honest g.C.Cells.is_honest) (clean g.C.Cells.is_clean) (standing g.C.Cells.holding) (g.G.Guarding.rules c.args.guard.now) replicas.items c.in-Some.at c.in-Some-get_mut.named.now _ at refl (g.met.C.NewCells.always_honest _)
    c.args.command.now c.step.result c.args.guard.now c.step.new.guard c.requires.own (c.step.ensures.does has names) (c.step.ensures.heard has names)
    c.self.inside.in_use c.args.self.now (g.G.Guarding.rules c.step.new.guard) place c.self.view_is c.step.ensures.guard.same_rules

pub returns-clause-closures : goal.returns-clause-closures
returns-clause-closures g c = same_closures g.G.Guarding.is_faithful g.G.Guarding.rules g.G.Guarding.allows g.G.Guarding.refuses g.G.Guarding.noting _ _ c.step.ensures.guard

pub returns-clause-between : goal.returns-clause-between
returns-clause-between g c = λ has names.
    let replicas = c.self.inside.replicas in
    let within : c.in-Some.at < length replicas.items = (let h = c.in-Some-get_mut.ensures.variant.0 refl in let n = replicas.ok.0 in omega arith) in
    let named = c.in-Some-get_mut.named.now in
    let at : slice_get replicas.items c.in-Some.at ≡ Some named = slice_get-get_or replicas.items c.in-Some.at named within ∙ ap Some (sym c.in-Some-get_mut.ensures.value) in
    let place : c.self.inside.in_use ≡ Some c.in-Some.at = search rules in
    let used : item_at c.self.inside.in_use (map pair replicas.items) ≡ Some (pair named) = ap (λ (o : Option ℕ). item_at o (map pair replicas.items)) place ∙ pair_at replicas.items c.in-Some.at named at in
    let became : Named g.row.C.Denot = record { name = named.name; session = c.step.new.self } in
    rw (← c.self.view_is) (used_by (closures (g.G.Guarding.allows c.args.guard.now) (g.G.Guarding.refuses c.args.guard.now)) (λ from to events. HasHeard g.G.Guarding.noted g.G.Guarding.noting from to events) (honest g.C.Cells.is_honest) (clean g.C.Cells.is_clean) (standing g.C.Cells.holding) _ _ _ _ _ (spoken (g.F.Functions.function_of c.args.functions.now) (g.F.Functions.scalar c.args.functions.now) (g.F.Functions.step c.args.functions.now) (g.F.Functions.finish c.args.functions.now) (g.F.Functions.order_of c.args.functions.now) (g.F.Functions.orders_total c.args.functions.now) has) c.args.command.now _ _ (pair named) c.in-Some.at c.step.new.self used place
    (λ i. (map_set pair replicas.items c.in-Some.at became i, c.self.inside.in_use)) (c.step.ensures.does has names) (c.step.ensures.heard has names))
