-- Runs of a fleet, one after another.
use Rattle.std.proofs.Common.{◌≡◌, refl, sym, subst, false, List, [], ◌∷◌, ◌++◌, inl}
use Rattle.std.specs.List.{AllByRecursion}
use Rattle.cr_guard.specs.Policy.{Rules}
use Rattle.cr_guard.specs.declared.event.Event.{Event}
use Rattle.cr_tree.specs.declared.statement.Statement.{Statement}
use Rattle.cr_world.specs.declared.command.Command.{Command}
use Rattle.cr_world.specs.declared.command.FleetReply.{FleetReply}
use Rattle.cr_world.specs.Language.{Language}
use Rattle.cr_world.specs.State.{State}
use Rattle.cr_world.specs.World.{World, Closures}
use Rattle.cr_world.specs.Answers.{after, tells_want, AreAnswered}
use Rattle.cr_world.specs.Run.{Run, world_after}
use Rattle.cr_world.proofs.Running.{rows_converge, run_converges}
use Rattle.cr_fleet.specs.Fleets.{FleetOf, AreClean, Shows}
use Rattle.cr_fleet.specs.Hearing.{HearsRun}
use Rattle.cr_fleet.specs.Running.{InTurn, IsStep}
use Rattle.cr_fleet.proofs.Running.{clean_after_run}
use Rattle.cr_served.specs.Running.{InSteps, Ran}

-- one list after another
pub turns_more : {S : Type 0} (leads : S → Command → FleetReply → S → Type 0) (s0 s1 s2 : S) (cs ds : List Command) (rs ss : List FleetReply)
    → InTurn leads s0 cs rs s1 → InTurn leads s1 ds ss s2 → InTurn leads s0 (cs ++ ds) (rs ++ ss) s2
turns_more {S} leads s0 s1 s2 [] ds [] ss p q = subst (λ (s : S). InTurn leads s ds ss s2) p q
turns_more leads s0 s1 s2 [] ds (r ∷ rs) ss p q = absurd p
turns_more leads s0 s1 s2 (c ∷ cs) ds [] ss p q = absurd p
turns_more leads s0 s1 s2 (c ∷ cs) ds (r ∷ rs) ss p q = (p.0, p.1, turns_more leads p.0 s1 s2 cs ds rs ss p.2 q)

pub steps_more : {S : Type 0} (ran : S → S → List Command → List FleetReply → Type 0) (s0 s1 s2 : S) (cs ds : List Command) (rs ss : List FleetReply)
    → InSteps ran s0 s1 cs rs → InSteps ran s1 s2 ds ss → InSteps ran s0 s2 (cs ++ ds) (rs ++ ss)
steps_more {S} ran s0 s1 s2 cs ds rs ss p q = turns_more (λ (s : S) (c : Command) (r : FleetReply) (t : S). ran s t (c ∷ []) (r ∷ [])) s0 s1 s2 cs ds rs ss p q

-- what leads on so leads on in another way, too
turns_as : {S : Type 0} (leads also : S → Command → FleetReply → S → Type 0) → ((s : S) (c : Command) (r : FleetReply) (t : S) → leads s c r t → also s c r t)
    → (s t : S) (cs : List Command) (rs : List FleetReply) → InTurn leads s cs rs t → InTurn also s cs rs t
turns_as leads also so s t [] [] p = p
turns_as leads also so s t [] (r ∷ rs) p = absurd p
turns_as leads also so s t (c ∷ cs) [] p = absurd p
turns_as leads also so s t (c ∷ cs) (r ∷ rs) p = (p.0, so s c r p.0 p.1, turns_as leads also so p.0 t cs rs p.2)

-- steps are what ran, where none may run, and one list after another
pub steps_ran : {S : Type 0} (ran : S → S → List Command → List FleetReply → Type 0) → ((s : S) → ran s s [] [])
    → ((s0 s1 s2 : S) (cs ds : List Command) (rs ss : List FleetReply) → ran s0 s1 cs rs → ran s1 s2 ds ss → ran s0 s2 (cs ++ ds) (rs ++ ss))
    → (s0 s1 : S) (cs : List Command) (rs : List FleetReply) → InSteps ran s0 s1 cs rs → ran s0 s1 cs rs
steps_ran {S} ran none more s0 s1 [] [] p = subst (λ (s : S). ran s0 s [] []) (sym p) (none s0)
steps_ran ran none more s0 s1 [] (r ∷ rs) p = absurd p
steps_ran ran none more s0 s1 (c ∷ cs) [] p = absurd p
steps_ran ran none more s0 s1 (c ∷ cs) (r ∷ rs) p = more s0 p.0 s1 (c ∷ []) cs (r ∷ []) rs p.1 (steps_ran ran none more p.0 s1 cs rs p.2)

pub all_both : {X : Type 0} (P : X → Type 0) (xs ys : List X) → AllByRecursion P (xs ++ ys) → AllByRecursion P xs × AllByRecursion P ys
all_both P [] ys a = (tt, a)
all_both P (x ∷ xs) ys a = let t = all_both P xs ys a.1 in ((a.0, t.0), t.1)

module _ {S E : Type 0} (l : Language S E) (k : Closures) where
  pub run_both : (w : World) (cs : List Command) (rs : List FleetReply) (ds : List Command) (ss : List FleetReply) → Run l k w cs rs → Run l k (world_after l k w cs rs) ds ss
      → Run l k w (cs ++ ds) (rs ++ ss) × (world_after l k w (cs ++ ds) (rs ++ ss) ≡ world_after l k (world_after l k w cs rs) ds ss)
  run_both w [] [] ds ss p q = (q, refl)
  run_both w [] (r ∷ rs) ds ss p q = absurd p
  run_both w (c ∷ cs) [] ds ss p q = absurd p
  run_both w (c ∷ cs) (r ∷ rs) ds ss p q = let t = run_both (after l k w c r) cs rs ds ss p.2 q in ((p.0, p.1, t.0), t.1)

-- what is heard of one list, and then of another
pub hears_both : {E G : Type 0} (l : Language Statement E) (k : Closures) (hears : G → G → List Event → Type 0) (g mid h : G) (w : World) (cs : List Command) (rs : List FleetReply) (ds : List Command) (ss : List FleetReply)
    → HearsRun l k hears g w cs rs mid → HearsRun l k hears mid (world_after l k w cs rs) ds ss h → HearsRun l k hears g w (cs ++ ds) (rs ++ ss) h
hears_both l k hears g mid h w [] [] ds ss p q = subst (λ x. HearsRun l k hears x w ds ss h) p q
hears_both l k hears g mid h w [] (r ∷ rs) ds ss p q = absurd p
hears_both l k hears g mid h w (c ∷ cs) [] ds ss p q = absurd p
hears_both l k hears g mid h w (c ∷ cs) (r ∷ rs) ds ss p q = (p.0, p.1, hears_both l k hears p.0 mid h (after l k w c r) cs rs ds ss p.2 q)

module _ {E C G : Type 0} (rules : G → Rules) (hears : G → G → List Event → Type 0) (l : Language Statement E) (k : Closures) (is_clean : C → Type 0) (stands : C → State) where
  abbrev Becomes : FleetOf C × G → FleetOf C × G → List Command → List FleetReply → Type 0
  Becomes = Ran rules hears l k is_clean stands

  -- what it takes to say where the fleet then stands, and what was heard
  abbrev Leaves : FleetOf C × G → FleetOf C × G → List Command → List FleetReply → Type 0
  Leaves s0 s1 cs rs = AreClean is_clean s1.0 → (w : World) → Shows stands w (rules s0.1) s0.0
      → Run l k w cs rs × Shows stands (world_after l k w cs rs) (rules s1.1) s1.0 × HearsRun l k hears s0.1 w cs rs s1.1

  ran_where : (s0 s1 : FleetOf C × G) (cs : List Command) (rs : List FleetReply) → (AreClean is_clean s1.0 → AreClean is_clean s0.0) → (AreClean is_clean s0.0 → AreAnswered rs → AreClean is_clean s1.0) → Leaves s0 s1 cs rs → Becomes s0 s1 cs rs
  ran_where s0 s1 cs rs was stays leaves = record {
    was_clean = was;
    stays_clean = stays;
    ran = λ harm w s. let t = leaves (clean_after_run is_clean s0.0 s1.0 rs stays harm) w s in (t.0, t.1);
    heard = λ harm w s. (leaves (clean_after_run is_clean s0.0 s1.0 rs stays harm) w s).2;
    rows_converge = λ harm w s. rows_converge l k w cs rs (leaves (clean_after_run is_clean s0.0 s1.0 rs stays harm) w s).0;
    converges = λ is harm w s. run_converges l k is w cs rs (leaves (clean_after_run is_clean s0.0 s1.0 rs stays harm) w s).0;
  }

  pub fleet_ran_none : (s : FleetOf C × G) → Becomes s s [] []
  fleet_ran_none s = ran_where s s [] [] (λ clean. clean) (λ clean answered. clean) (λ clean w h. (h.keep, h, refl))

  pub fleet_ran_more : (s0 s1 s2 : FleetOf C × G) (cs ds : List Command) (rs ss : List FleetReply) → Becomes s0 s1 cs rs → Becomes s1 s2 ds ss → Becomes s0 s2 (cs ++ ds) (rs ++ ss)
  fleet_ran_more s0 s1 s2 cs ds rs ss p q = ran_where s0 s2 (cs ++ ds) (rs ++ ss) (λ clean. p.was_clean (q.was_clean clean))
      (λ clean answered. let both = all_both (λ r. tells_want r ≡ false) rs ss answered in q.stays_clean (p.stays_clean clean both.0) both.1)
      (λ clean w s.
      let a = p.ran (inl (q.was_clean clean)) w s in
      let b = q.ran (inl clean) (world_after l k w cs rs) a.1 in
      let t = run_both l k w cs rs ds ss a.0 b.0 in (
        t.0,
        subst (λ (v : World). Shows stands v (rules s2.1) s2.0) (sym t.1) b.1,
        hears_both l k hears s0.1 s1.1 s2.1 w cs rs ds ss (p.heard (inl (q.was_clean clean)) w s) (q.heard (inl clean) (world_after l k w cs rs) a.1),
      ))

  module _ (is_honest : C → Type 0) where
    fleet_ran_one : (s0 s1 : FleetOf C × G) (c : Command) (r : FleetReply) → IsStep l k hears is_honest is_clean stands rules s0 c r s1 → Becomes s0 s1 (c ∷ []) (r ∷ [])
    fleet_ran_one s0 s1 c r step = ran_where s0 s1 (c ∷ []) (r ∷ []) step.steps.was_clean (λ clean answered. step.steps.stays_clean clean answered.0)
        (λ clean w shows. let t = step.steps.steps clean w shows in ((shows.keep, t.0, t.1.keep), t.1, (s1.1, step.heard clean w shows, refl)))

    -- what was carried out one command after another ran as a list
    pub fleet_ran_steps : (s0 s1 : FleetOf C × G) (cs : List Command) (rs : List FleetReply) → InTurn (IsStep l k hears is_honest is_clean stands rules) s0 cs rs s1 → Becomes s0 s1 cs rs
    fleet_ran_steps s0 s1 cs rs p = steps_ran Becomes fleet_ran_none fleet_ran_more s0 s1 cs rs
        (turns_as (IsStep l k hears is_honest is_clean stands rules) (λ (s : FleetOf C × G) (c : Command) (r : FleetReply) (t : FleetOf C × G). Becomes s t (c ∷ []) (r ∷ [])) (λ s c r t step. fleet_ran_one s t c r step) s0 s1 cs rs p)
