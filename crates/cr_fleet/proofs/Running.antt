-- Runs of a fleet, command by command.
use Rattle.std.proofs.Common.{◌≡◌, inl, inr, false, List, [], ◌∷◌, ◌++◌, refl, sym, subst}
use Rattle.cr_guard.specs.Policy.{Rules}
use Rattle.cr_world.specs.declared.command.Command.{Command}
use Rattle.cr_world.specs.declared.command.FleetReply.{FleetReply}
use Rattle.cr_world.specs.Language.{Language}
use Rattle.cr_world.specs.State.{State}
use Rattle.cr_world.specs.World.{World, AllKeep, Closures}
use Rattle.cr_world.specs.Answers.{Answers, after, tells_want, AreAnswered}
use Rattle.cr_world.specs.Run.{Run, world_after}
use Rattle.cr_fleet.specs.Fleets.{FleetOf, AreClean, IsUnharmed, Shows, Steps}
use Rattle.cr_fleet.specs.Running.{InTurn}
use Rattle.cr_fleet.proofs.Places.{all_front, all_last}

module _ {S E : Type 0} (l : Language S E) (k : Closures) where
  -- a run goes on by one command
  run_more : (w : World) (cs : List Command) (rs : List FleetReply) (c : Command) (r : FleetReply) → Run l k w cs rs → Answers l k (world_after l k w cs rs) c r
      → AllKeep (after l k (world_after l k w cs rs) c r) → Run l k w (cs ++ c ∷ []) (rs ++ r ∷ [])
  run_more w [] [] c r p a keep = (p, a, keep)
  run_more w [] (x ∷ xs) c r p a keep = absurd p
  run_more w (d ∷ ds) [] c r p a keep = absurd p
  run_more w (d ∷ ds) (x ∷ xs) c r p a keep = (p.0, p.1, run_more (after l k w d x) ds xs c r p.2 a keep)

  world_more : (w : World) (cs : List Command) (rs : List FleetReply) (c : Command) (r : FleetReply) → Run l k w cs rs
      → world_after l k w (cs ++ c ∷ []) (rs ++ r ∷ []) ≡ after l k (world_after l k w cs rs) c r
  world_more w [] [] c r p = refl
  world_more w [] (x ∷ xs) c r p = absurd p
  world_more w (d ∷ ds) [] c r p = absurd p
  world_more w (d ∷ ds) (x ∷ xs) c r p = world_more (after l k w d x) ds xs c r p.2

  -- a run of a fleet goes on by one step
  pub goes_on : {C : Type 0} (is_clean : C → Type 0) (stands : C → State) (before rules rules' : Rules) (old mid new : FleetOf C) (cs cs' : List Command) (rs rs' : List FleetReply) (c : Command) (r : FleetReply)
      → cs' ≡ cs ++ c ∷ [] → rs' ≡ rs ++ r ∷ []
      → (AreClean is_clean mid → (w : World) → Shows stands w before old → Run l k w cs rs × Shows stands (world_after l k w cs rs) rules mid)
      → Steps l k is_clean stands rules mid c r rules' new
      → AreClean is_clean new → (w : World) → Shows stands w before old → Run l k w cs' rs' × Shows stands (world_after l k w cs' rs') rules' new
  goes_on is_clean stands before rules rules' old mid new cs cs' rs rs' c r e f ran step clean w s =
      let told_before = ran (step.was_clean clean) w s in
      let told = step.steps clean (world_after l k w cs rs) told_before.1 in
      subst (λ (x : List Command). Run l k w x rs' × Shows stands (world_after l k w x rs') rules' new) (sym e)
      (subst (λ (x : List FleetReply). Run l k w (cs ++ c ∷ []) x × Shows stands (world_after l k w (cs ++ c ∷ []) x) rules' new) (sym f)
      (run_more w cs rs c r told_before.0 told.0 told.1.keep, subst (λ (v : World). Shows stands v rules' new) (sym (world_more w cs rs c r told_before.0)) told.1))

-- ---- clean sessions

pub answered_more : (rs rs' : List FleetReply) (r : FleetReply) → rs' ≡ rs ++ r ∷ [] → AreAnswered rs' → AreAnswered rs × (tells_want r ≡ false)
answered_more rs rs' r e answered =
    let all = subst AreAnswered e answered in (all_front (λ x. tells_want x ≡ false) rs (r ∷ []) all, all_last (λ x. tells_want x ≡ false) rs r all)

pub clean_after_run : {C : Type 0} (is_clean : C → Type 0) (old new : FleetOf C) (rs : List FleetReply) → (AreClean is_clean old → AreAnswered rs → AreClean is_clean new) → IsUnharmed is_clean old rs new → AreClean is_clean new
clean_after_run is_clean old new rs lasts (inl clean) = clean
clean_after_run is_clean old new rs lasts (inr both) = lasts both.0 both.1

-- ---- one after another

in_turn_more : {S : Type 0} (leads : S → Command → FleetReply → S → Type 0) (s mid t : S) (cs : List Command) (rs : List FleetReply) (c : Command) (r : FleetReply)
    → InTurn leads s cs rs mid → leads mid c r t → InTurn leads s (cs ++ c ∷ []) (rs ++ r ∷ []) t
in_turn_more {S} leads s mid t [] [] c r p one = (t, subst (λ (x : S). leads x c r t) p one, refl)
in_turn_more leads s mid t [] (x ∷ xs) c r p one = absurd p
in_turn_more leads s mid t (d ∷ ds) [] c r p one = absurd p
in_turn_more leads s mid t (d ∷ ds) (x ∷ xs) c r p one = (p.0, p.1, in_turn_more leads p.0 mid t ds xs c r p.2 one)

pub turns_on : {S : Type 0} (leads : S → Command → FleetReply → S → Type 0) (s mid t : S) (cs cs' : List Command) (rs rs' : List FleetReply) (c : Command) (r : FleetReply)
    → cs' ≡ cs ++ c ∷ [] → rs' ≡ rs ++ r ∷ [] → InTurn leads s cs rs mid → leads mid c r t → InTurn leads s cs' rs' t
turns_on leads s mid t cs cs' rs rs' c r e f p one = subst (λ (x : List Command × List FleetReply). InTurn leads s x.0 x.1 t) (λ i. (sym e i, sym f i)) (in_turn_more leads s mid t cs rs c r p one)
