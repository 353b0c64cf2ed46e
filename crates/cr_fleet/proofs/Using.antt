-- What a command of the replica in use means for its fleet, and what is heard of it.
use Rattle.std.proofs.Common.{◌≡◌, ℕ, true, List, map, Option, Some, refl, sym, subst, slice_get, slice_set}
use Rattle.cr_guard.specs.declared.event.Event.{Event}
use Rattle.cr_guard.specs.Policy.{Rules}
use Rattle.cr_tree.specs.declared.statement.Statement.{Statement}
use Rattle.cr_world.specs.declared.command.Command.{Command}
use Rattle.cr_world.specs.declared.command.FleetReply.{FleetReply}
use Rattle.cr_world.specs.Language.{Language}
use Rattle.cr_world.specs.State.{State}
use Rattle.cr_world.specs.World.{Closures}
use Rattle.cr_script.specs.Speaking.{host_under}
use Rattle.cr_session.specs.Hearing.{HearsOwn}
use Rattle.cr_session.specs.Sessions.{Does, SessionOf, is_own}
use Rattle.cr_fleet.specs.declared.fleet.Named.{Named}
use Rattle.cr_fleet.specs.Fleets.{FleetOf, Steps}
use Rattle.cr_fleet.specs.Hearing.{HearsStep}
use Rattle.cr_fleet.proofs.Honest.{does_always}
use Rattle.cr_fleet.proofs.Hearing.{own_step_heard}
use Rattle.cr_fleet.proofs.Places.{pair, map_set, set_there, all_set}
use Rattle.cr_fleet.proofs.Stepping.{pair_at, own_steps}

module _ {E C G : Type 0} (l : Language Statement E) (k : Closures) (hears : G → G → List Event → Type 0) (is_honest is_clean : SessionOf C → Type 0) (stands : SessionOf C → State) where
  abbrev StepsAndTells : Rules → FleetOf (SessionOf C) → Command → FleetReply → Rules → FleetOf (SessionOf C) → G → G → Type 0
  StepsAndTells before old c reply rules new g h = Steps l k is_clean stands before old c reply rules new × HearsStep l k hears is_clean stands g before old c reply new h

  -- over the replicas as they stand
  module _ (rules : Rules) (items : List (Named C)) (i : ℕ) (n n' : Named C) (at : slice_get items i ≡ Some n) (named : n'.name ≡ n.name) (honest : is_honest n'.session) (c : Command) (reply : FleetReply) (g h : G)
      (own : is_own c ≡ true) (does : Does l (host_under k rules) is_honest is_clean stands n.session c reply n'.session)
      (heard : is_clean n'.session → HearsOwn hears l (host_under k rules) g (stands n.session) c reply (stands n'.session) h) where
    stepped : StepsAndTells rules (map pair items, Some i) c reply rules (slice_set (map pair items) i (pair n'), Some i) g h
    stepped =
        let place : Some i ≡ Some i = refl in
        let paired = pair_at items i n at in
        let always = does_always is_honest is_clean stands n.session n'.session honest l (host_under k rules) c reply does in
        let step = own_steps l k is_clean stands rules (map pair items, Some i) i (pair n) (pair n') place paired always.was_clean c reply own named always in (
          step,
          λ clean w s. own_step_heard l k hears is_clean stands rules rules (map pair items, Some i) (slice_set (map pair items) i (pair n'), Some i) i (pair n) (pair n') place paired (set_there (map pair items) i (pair n) (pair n') paired)
              c reply g h own step (heard (all_set (λ x. is_clean x.1) (map pair items) i (pair n) (pair n') clean paired)) clean w s,
        )

    -- of the fleet, under the rules that the call leaves
    pub steps_and_tells : (in_use : Option ℕ) (old : FleetOf (SessionOf C)) (rules' : Rules) → in_use ≡ Some i → (map pair items, in_use) ≡ old → rules' ≡ rules
        → StepsAndTells rules old c reply rules' (map pair (slice_set items i n'), in_use) g h
    steps_and_tells in_use old rules' used view same =
        subst (λ (o : FleetOf (SessionOf C)). StepsAndTells rules o c reply rules' (map pair (slice_set items i n'), in_use) g h) view
        (subst (λ (o : Option ℕ). StepsAndTells rules (map pair items, o) c reply rules' (map pair (slice_set items i n'), o) g h) (sym used)
        (subst (λ (x : Rules). StepsAndTells rules (map pair items, Some i) c reply x (map pair (slice_set items i n'), Some i) g h) (sym same)
        (subst (λ (xs : List (List ℕ × SessionOf C)). StepsAndTells rules (map pair items, Some i) c reply rules (xs, Some i) g h) (sym (map_set pair items i n')) stepped)))
