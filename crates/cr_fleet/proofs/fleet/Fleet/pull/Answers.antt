use Rattle.std.proofs.Common.{rules, ◌≡◌, ℕ, Option, Some, None, sym, ap, subst, ◌∙◌, refl, map, position, slice_get, arith}
use Rattle.cr_lattice.specs.Check.{same_bytes}
use Rattle.cr_world.specs.World.{item_at}
use Rattle.cr_world.specs.declared.refusal.Refusal.TheVariants.{NoReplica}
use Rattle.cr_script.specs.Speaking.{closures, HasHeard}
use Rattle.cr_script.proofs.Staying.{same_closures}
use Rattle.cr_session.specs.Sessions.{SessionOf, clean, honest, reply_of, standing}
use Rattle.cr_fleet.specs.Between.{ByPull, of_itself}
use Rattle.cr_fleet.specs.Fleets.{FleetOf, Steps, place_in}
use Rattle.cr_fleet.specs.Hearing.{HearsStep}
use Rattle.cr_fleet.specs.Pulls.{pull_of}
use Rattle.cr_fleet.proofs.Places.{pair, found_there, none_found}
use Rattle.cr_fleet.proofs.Stepping.{pair_at, place_paired, none_paired}
use Rattle.cr_fleet.proofs.TwoPlaces.{left_behind, whole_pull}
use Rattle.cr_fleet.proofs.Pulling.{pull_unused, pull_unknown, pull_own, pull_told, quiet}
use Rattle.cr_fleet.proofs.Between.{pull_by_none, pull_by_nobody, pull_by_itself, pull_by_both}
use Rattle.cr_fleet.proofs.fleet.Fleet.pull.Goals.{then-in_transaction, else-in_transaction}
use Rattle.cr_fleet.proofs.fleet.Fleet.pull.Goals as goal

pub returns-in_default-get-clause-steps : goal.returns-in_default-get-clause-steps
returns-in_default-get-clause-steps g c = λ l.
    let items = c.self.inside.replicas.items in
    let place : c.self.inside.in_use ≡ Some c.in-Some.at = search rules in
    let none : slice_get items c.in-Some.at ≡ None = none_found c.deref.result.now items c.in-Some.at c.deref.ensures.value c.in_default-get.ensures.lookup.3 in
    let unused : item_at c.self.inside.in_use (map pair items) ≡ None = ap (λ (o : Option ℕ). item_at o (map pair items)) place ∙ none_paired items c.in-Some.at none in
    rw (← c.self.view_is) (pull_unused l _ (clean g.C.Cells.is_clean) (standing g.C.Cells.holding) _ _ c.args.name.now c.args.is_incremental unused, λ clean w s. quiet l (closures (g.G.Guarding.allows c.args.guard.now) (g.G.Guarding.refuses c.args.guard.now)) w c.args.name.now (λ from to events. HasHeard g.G.Guarding.noted g.G.Guarding.noting from to events) _ _ c.args.is_incremental NoReplica (refl, refl))

pub returns-in_default-get-clause-between : goal.returns-in_default-get-clause-between
returns-in_default-get-clause-between g c =
    let items = c.self.inside.replicas.items in
    let place : c.self.inside.in_use ≡ Some c.in-Some.at = search rules in
    let none : slice_get items c.in-Some.at ≡ None = none_found c.deref.result.now items c.in-Some.at c.deref.ensures.value c.in_default-get.ensures.lookup.3 in
    let unused : item_at c.self.inside.in_use (map pair items) ≡ None = ap (λ (o : Option ℕ). item_at o (map pair items)) place ∙ none_paired items c.in-Some.at none in
    rw (← c.self.view_is) (pull_by_none (closures (g.G.Guarding.allows c.args.guard.now) (g.G.Guarding.refuses c.args.guard.now)) (λ from to events. HasHeard g.G.Guarding.noted g.G.Guarding.noting from to events) (honest g.C.Cells.is_honest) (clean g.C.Cells.is_clean) (standing g.C.Cells.holding) c.args.guard.now (g.G.Guarding.rules c.args.guard.now) _ c.args.guard.now (refl, refl) c.args.is_incremental _ _ unused)

pub returns-in_default-place_of-clause-steps : goal.returns-in_default-place_of-clause-steps
returns-in_default-place_of-clause-steps g c = λ l.
    let items = c.self.inside.replicas.items in
    let place : c.self.inside.in_use ≡ Some c.in-Some.at = search rules in
    let found = c.in-Some-get.ensures.lookup in
    let paired = pair_at items c.in-Some.at c.in-Some-get.taker.now (found_there c.deref.result.now items c.in-Some.at c.in-Some-get.taker.now c.deref.ensures.value found.3.0 found.1) in
    let nobody = place_paired items c.self.inside.in_use c.args.name.now None (search rules) in
    rw (← c.self.view_is) (pull_unknown l _ (clean g.C.Cells.is_clean) (standing g.C.Cells.holding) _ _ c.args.name.now c.args.is_incremental c.in-Some.at _ place paired (ap (λ (o : Option ℕ). item_at o (map pair items)) nobody), λ clean w s. quiet l (closures (g.G.Guarding.allows c.args.guard.now) (g.G.Guarding.refuses c.args.guard.now)) w c.args.name.now (λ from to events. HasHeard g.G.Guarding.noted g.G.Guarding.noting from to events) _ _ c.args.is_incremental NoReplica (refl, refl))

pub returns-in_default-place_of-clause-between : goal.returns-in_default-place_of-clause-between
returns-in_default-place_of-clause-between g c =
    let items = c.self.inside.replicas.items in
    let place : c.self.inside.in_use ≡ Some c.in-Some.at = search rules in
    let found = c.in-Some-get.ensures.lookup in
    let paired = pair_at items c.in-Some.at c.in-Some-get.taker.now (found_there c.deref.result.now items c.in-Some.at c.in-Some-get.taker.now c.deref.ensures.value found.3.0 found.1) in
    let used : item_at c.self.inside.in_use (map pair items) ≡ Some (pair c.in-Some-get.taker.now) = ap (λ (o : Option ℕ). item_at o (map pair items)) place ∙ paired in
    let nobody = place_paired items c.self.inside.in_use c.args.name.now None (search rules) in
    rw (← c.self.view_is) (pull_by_nobody (closures (g.G.Guarding.allows c.args.guard.now) (g.G.Guarding.refuses c.args.guard.now)) (λ from to events. HasHeard g.G.Guarding.noted g.G.Guarding.noting from to events) (honest g.C.Cells.is_honest) (clean g.C.Cells.is_clean) (standing g.C.Cells.holding) c.args.guard.now (g.G.Guarding.rules c.args.guard.now) _ c.args.guard.now (refl, refl) c.args.is_incremental _ _ _ used nobody)

pub returns-then-at-from-clause-steps : goal.returns-then-at-from-clause-steps
returns-then-at-from-clause-steps g c = λ l.
    let items = c.self.inside.replicas.items in
    let place : c.self.inside.in_use ≡ Some c.in-Some.at = search rules in
    let found = c.in-Some-get.ensures.lookup in
    let paired = pair_at items c.in-Some.at c.in-Some-get.taker.now (found_there c.deref.result.now items c.in-Some.at c.in-Some-get.taker.now c.deref.ensures.value found.3.0 found.1) in
    let from = place_paired items c.self.inside.in_use c.args.name.now (Some c.in-Some-place_of.from) (sym c.in-Some-place_of.is ∙ c.place_of.ensures ∙ (λ i. position (λ n. same_bytes n.name (c.as_str.ensures.value i)) (c.deref-2.ensures.value i))) in
    let told : c.if-in_transaction.result ≡ of_itself c.in_transaction.result = elim c.if-in_transaction.branch [
      | then-in_transaction w ↦ w.result-is ∙ ap of_itself (sym w.if-in_transaction.true)
      | else-in_transaction w ↦ w.result-is ∙ ap of_itself (sym w.if-in_transaction.false)
    ] in
    let itself : place_in (map pair items, c.self.inside.in_use) c.args.name.now ≡ Some c.in-Some.at = from ∙ ap Some (sym c.if-at-from.true) in
    rw told (rw (← c.self.view_is) (pull_own l _ (clean g.C.Cells.is_clean) (standing g.C.Cells.holding) _ _ c.args.name.now c.args.is_incremental c.in-Some.at _ place paired c.in-Some.at _ itself paired c.in_transaction.result refl (sym c.in_transaction.ensures), λ clean w s. quiet l (closures (g.G.Guarding.allows c.args.guard.now) (g.G.Guarding.refuses c.args.guard.now)) w c.args.name.now (λ from to events. HasHeard g.G.Guarding.noted g.G.Guarding.noting from to events) _ _ c.args.is_incremental _ (refl, refl)))

pub returns-then-at-from-clause-between : goal.returns-then-at-from-clause-between
returns-then-at-from-clause-between g c =
    let items = c.self.inside.replicas.items in
    let place : c.self.inside.in_use ≡ Some c.in-Some.at = search rules in
    let found = c.in-Some-get.ensures.lookup in
    let paired = pair_at items c.in-Some.at c.in-Some-get.taker.now (found_there c.deref.result.now items c.in-Some.at c.in-Some-get.taker.now c.deref.ensures.value found.3.0 found.1) in
    let used : item_at c.self.inside.in_use (map pair items) ≡ Some (pair c.in-Some-get.taker.now) = ap (λ (o : Option ℕ). item_at o (map pair items)) place ∙ paired in
    let from = place_paired items c.self.inside.in_use c.args.name.now (Some c.in-Some-place_of.from) (sym c.in-Some-place_of.is ∙ c.place_of.ensures ∙ (λ i. position (λ n. same_bytes n.name (c.as_str.ensures.value i)) (c.deref-2.ensures.value i))) in
    let told : c.if-in_transaction.result ≡ of_itself c.in_transaction.result = elim c.if-in_transaction.branch [
      | then-in_transaction w ↦ w.result-is ∙ ap of_itself (sym w.if-in_transaction.true)
      | else-in_transaction w ↦ w.result-is ∙ ap of_itself (sym w.if-in_transaction.false)
    ] in
    let itself : place_in (map pair items, c.self.inside.in_use) c.args.name.now ≡ Some c.in-Some.at = from ∙ ap Some (sym c.if-at-from.true) in
    rw told (rw (← c.self.view_is) (pull_by_itself (closures (g.G.Guarding.allows c.args.guard.now) (g.G.Guarding.refuses c.args.guard.now)) (λ from to events. HasHeard g.G.Guarding.noted g.G.Guarding.noting from to events) (honest g.C.Cells.is_honest) (clean g.C.Cells.is_clean) (standing g.C.Cells.holding) c.args.guard.now (g.G.Guarding.rules c.args.guard.now) _ c.args.guard.now (refl, refl) c.args.is_incremental _ _ _ c.in-Some.at c.in_transaction.result used itself place (sym c.in_transaction.ensures)))

pub returns-clause-steps : goal.returns-clause-steps
returns-clause-steps g c = λ l.
    let items = c.self.inside.replicas.items in
    let place : c.self.inside.in_use ≡ Some c.in-Some.at = search rules in
    let from = place_paired items c.self.inside.in_use c.args.name.now (Some c.in-Some-place_of.from) (sym c.in-Some-place_of.is ∙ c.place_of.ensures ∙ (λ i. position (λ n. same_bytes n.name (c.as_str.ensures.value i)) (c.deref-2.ensures.value i))) in
    let s = whole_pull _ c.deref_mut.result.now items c.pull_between.new.replicas c.in-Some.at c.in-Some-place_of.from c.deref_mut.ensures.value c.pull_between.ensures.pulls in
    let view = left_behind _ items c.pull_between.new.replicas c.self.inside.replicas.len c.in-Some.at c.in-Some-place_of.from c.self.inside.in_use (let n = c.self.inside.replicas.ok.0 in omega (arith, n)) s in
    rw (c.reply_of.ensures, c.pull_between.ensures.guard.same_rules) (rw (← c.self.view_is) (
    subst (λ (f : FleetOf (SessionOf g.row.C.Denot)). Steps l (closures (g.G.Guarding.allows c.args.guard.now) (g.G.Guarding.refuses c.args.guard.now)) (clean g.C.Cells.is_clean) (standing g.C.Cells.holding) (g.G.Guarding.rules c.args.guard.now) (map pair items, c.self.inside.in_use) (pull_of c.args.is_incremental c.args.name.now) (reply_of c.pull_between.result) (g.G.Guarding.rules c.args.guard.now) f
    × HearsStep l (closures (g.G.Guarding.allows c.args.guard.now) (g.G.Guarding.refuses c.args.guard.now)) (λ from to events. HasHeard g.G.Guarding.noted g.G.Guarding.noting from to events) (clean g.C.Cells.is_clean) (standing g.C.Cells.holding) c.args.guard.now (g.G.Guarding.rules c.args.guard.now) (map pair items, c.self.inside.in_use) (pull_of c.args.is_incremental c.args.name.now) (reply_of c.pull_between.result) f c.pull_between.new.guard) (sym view)
    (pull_told l (closures (g.G.Guarding.allows c.args.guard.now) (g.G.Guarding.refuses c.args.guard.now)) (clean g.C.Cells.is_clean) (standing g.C.Cells.holding) _ _ c.args.name.now c.args.is_incremental c.in-Some.at s.taker place s.taker_at c.in-Some-place_of.from s.peer from s.peer_at (λ from to events. HasHeard g.G.Guarding.noted g.G.Guarding.noting from to events) c.args.guard.now c.pull_between.new.guard c.if-at-from.false
    (honest g.C.Cells.is_honest) (λ x. g.met.C.NewCells.always_honest _) c.pull_between.result s.taker_new s.peer_new s.pulled)))

pub returns-clause-between : goal.returns-clause-between
returns-clause-between g c =
    let items = c.self.inside.replicas.items in
    let place : c.self.inside.in_use ≡ Some c.in-Some.at = search rules in
    let from = place_paired items c.self.inside.in_use c.args.name.now (Some c.in-Some-place_of.from) (sym c.in-Some-place_of.is ∙ c.place_of.ensures ∙ (λ i. position (λ n. same_bytes n.name (c.as_str.ensures.value i)) (c.deref-2.ensures.value i))) in
    let s = whole_pull _ c.deref_mut.result.now items c.pull_between.new.replicas c.in-Some.at c.in-Some-place_of.from c.deref_mut.ensures.value c.pull_between.ensures.pulls in
    let view = left_behind _ items c.pull_between.new.replicas c.self.inside.replicas.len c.in-Some.at c.in-Some-place_of.from c.self.inside.in_use (let n = c.self.inside.replicas.ok.0 in omega (arith, n)) s in
    let used : item_at c.self.inside.in_use (map pair items) ≡ Some s.taker = ap (λ (o : Option ℕ). item_at o (map pair items)) place ∙ s.taker_at in
    rw c.reply_of.ensures (rw (← c.self.view_is) (
    subst (λ (f : FleetOf (SessionOf g.row.C.Denot)). ByPull (closures (g.G.Guarding.allows c.args.guard.now) (g.G.Guarding.refuses c.args.guard.now)) (λ from to events. HasHeard g.G.Guarding.noted g.G.Guarding.noting from to events) (honest g.C.Cells.is_honest) (clean g.C.Cells.is_clean) (standing g.C.Cells.holding) c.args.guard.now (g.G.Guarding.rules c.args.guard.now) (map pair items, c.self.inside.in_use) (reply_of c.pull_between.result) f c.pull_between.new.guard c.args.is_incremental (item_at c.self.inside.in_use (map pair items)) (place_in (map pair items, c.self.inside.in_use) c.args.name.now)) (sym view)
    (pull_by_both (closures (g.G.Guarding.allows c.args.guard.now) (g.G.Guarding.refuses c.args.guard.now)) (λ from to events. HasHeard g.G.Guarding.noted g.G.Guarding.noting from to events) (honest g.C.Cells.is_honest) (clean g.C.Cells.is_clean) (standing g.C.Cells.holding) c.args.guard.now (g.G.Guarding.rules c.args.guard.now) (map pair items, c.self.inside.in_use) _ c.pull_between.new.guard c.args.is_incremental _ s.taker _ c.in-Some.at c.in-Some-place_of.from c.pull_between.result used from place c.if-at-from.false refl
    (record { taker = s.taker; peer = s.peer; taker_new = s.taker_new; peer_new = s.peer_new; taker_at = s.taker_at; peer_at = s.peer_at; left = refl; pulled = s.pulled }))))

pub returns-clause-closures : goal.returns-clause-closures
returns-clause-closures g c = same_closures g.G.Guarding.is_faithful g.G.Guarding.rules g.G.Guarding.allows g.G.Guarding.refuses g.G.Guarding.noting _ _ c.pull_between.ensures.guard
