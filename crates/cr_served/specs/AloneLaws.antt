-- Runs of one replica alone, one after another, and of one command.
use Rattle.std.proofs.Common.{◌≡◌, refl, sym, ap, subst, ◌∙◌, Bool, true, false, List, [], ◌∷◌, ◌++◌}
use Rattle.cr_guard.specs.Policy.{Rules}
use Rattle.cr_guard.specs.declared.event.Event.{Event}
use Rattle.cr_tree.specs.declared.statement.Statement.{Statement}
use Rattle.cr_world.specs.declared.command.Command.{Command}
use Rattle.cr_world.specs.declared.command.FleetReply.{FleetReply}
use Rattle.cr_world.specs.Language.{Language}
use Rattle.cr_world.specs.State.{State}
use Rattle.cr_world.specs.World.{World, Closures}
use Rattle.cr_world.specs.Answers.{tells_want, AreAnswered}
use Rattle.cr_world.specs.Run.{Run, world_after}
use Rattle.cr_world.proofs.Running.{rows_converge, run_converges}
use Rattle.cr_fleet.specs.Hearing.{HearsRun}
use Rattle.cr_served.specs.Running.{InSteps}
use Rattle.cr_served.specs.RunningLaws.{all_both, run_both, hears_both, steps_ran}
use Rattle.cr_served.specs.Alone.{wants_others, unless, own, own_replies, OthersAreRefused, ShowsAlone, RanAlone}

unless_more : {X : Type 0} (b : Bool) (x : X) (xs ys : List X) → unless b x (xs ++ ys) ≡ unless b x xs ++ ys
unless_more true x xs ys = refl
unless_more false x xs ys = refl

own_more : (cs ds : List Command) → own (cs ++ ds) ≡ own cs ++ own ds
own_more [] ds = refl
own_more (c ∷ cs) ds = ap (unless (wants_others c) c) (own_more cs ds) ∙ unless_more (wants_others c) c (own cs) (own ds)

replies_more : (cs ds : List Command) (rs ss : List FleetReply) → OthersAreRefused cs rs → own_replies (cs ++ ds) (rs ++ ss) ≡ own_replies cs rs ++ own_replies ds ss
replies_more [] ds [] ss p = refl
replies_more [] ds (r ∷ rs) ss p = absurd p
replies_more (c ∷ cs) ds [] ss p = absurd p
replies_more (c ∷ cs) ds (r ∷ rs) ss p = ap (unless (wants_others c) r) (replies_more cs ds rs ss p.1) ∙ unless_more (wants_others c) r (own_replies cs rs) (own_replies ds ss)

refused_more : (cs ds : List Command) (rs ss : List FleetReply) → OthersAreRefused cs rs → OthersAreRefused ds ss → OthersAreRefused (cs ++ ds) (rs ++ ss)
refused_more [] ds [] ss p q = q
refused_more [] ds (r ∷ rs) ss p q = absurd p
refused_more (c ∷ cs) ds [] ss p q = absurd p
refused_more (c ∷ cs) ds (r ∷ rs) ss p q = (p.0, refused_more cs ds rs ss p.1 q)

module _ {E C G : Type 0} (rules : G → Rules) (hears : G → G → List Event → Type 0) (l : Language Statement E) (k : Closures) (is_honest is_clean : C → Type 0) (stands : C → State) where
  abbrev pub Becomes : C × G → C × G → List Command → List FleetReply → Type 0
  Becomes = RanAlone rules hears l k is_honest is_clean stands

  -- what it takes to say where the replica then stands, and what was heard
  abbrev pub Leaves : C × G → C × G → List Command → List FleetReply → Type 0
  Leaves s0 s1 cs rs = is_clean s1.0 → (w : World) → ShowsAlone stands w (rules s0.1) s0.0
      → Run l k w (own cs) (own_replies cs rs) × ShowsAlone stands (world_after l k w (own cs) (own_replies cs rs)) (rules s1.1) s1.0 × HearsRun l k hears s0.1 w (own cs) (own_replies cs rs) s1.1

  pub alone_ran_where : (s0 s1 : C × G) (cs : List Command) (rs : List FleetReply) → OthersAreRefused cs rs → (is_honest s1.0 → is_honest s0.0) → (is_clean s1.0 → is_clean s0.0) → (is_honest s1.0 → is_clean s0.0 → AreAnswered rs → is_clean s1.0)
      → Leaves s0 s1 cs rs → Becomes s0 s1 cs rs
  alone_ran_where s0 s1 cs rs refused honest was stays leaves = record {
    refused = refused;
    was_honest = honest;
    was_clean = was;
    stays_clean = stays;
    ran = λ clean w s. let t = leaves clean w s in (t.0, t.1);
    heard = λ clean w s. (leaves clean w s).2;
    rows_converge = λ clean w s. rows_converge l k w (own cs) (own_replies cs rs) (leaves clean w s).0;
    converges = λ is clean w s. run_converges l k is w (own cs) (own_replies cs rs) (leaves clean w s).0;
  }

  pub alone_ran_none : (s : C × G) → Becomes s s [] []
  alone_ran_none s = alone_ran_where s s [] [] tt (λ honest. honest) (λ clean. clean) (λ honest clean answered. clean) (λ clean w h. (h.keep, h, refl))

  pub alone_ran_more : (s0 s1 s2 : C × G) (cs ds : List Command) (rs ss : List FleetReply) → Becomes s0 s1 cs rs → Becomes s1 s2 ds ss → Becomes s0 s2 (cs ++ ds) (rs ++ ss)
  alone_ran_more s0 s1 s2 cs ds rs ss p q = alone_ran_where s0 s2 (cs ++ ds) (rs ++ ss) (refused_more cs ds rs ss p.refused q.refused)
      (λ honest. p.was_honest (q.was_honest honest))
      (λ clean. p.was_clean (q.was_clean clean))
      (λ honest clean answered. let both = all_both (λ r. tells_want r ≡ false) rs ss answered in q.stays_clean honest (p.stays_clean (q.was_honest honest) clean both.0) both.1)
      (λ clean w s.
      let a = p.ran (q.was_clean clean) w s in
      let between = world_after l k w (own cs) (own_replies cs rs) in
      let b = q.ran clean between a.1 in
      let t = run_both l k w (own cs) (own_replies cs rs) (own ds) (own_replies ds ss) a.0 b.0 in
      let heard = hears_both l k hears s0.1 s1.1 s2.1 w (own cs) (own_replies cs rs) (own ds) (own_replies ds ss) (p.heard (q.was_clean clean) w s) (q.heard clean between a.1) in
      let shows : ShowsAlone stands (world_after l k w (own cs ++ own ds) (own_replies cs rs ++ own_replies ds ss)) (rules s2.1) s2.0 = subst (λ (v : World). ShowsAlone stands v (rules s2.1) s2.0) (sym t.1) b.1 in
      rw (own_more cs ds, replies_more cs ds rs ss p.refused) (t.0, shows, heard))

  -- what ran one command after another ran as a list
  pub alone_ran_steps : (s0 s1 : C × G) (cs : List Command) (rs : List FleetReply) → InSteps Becomes s0 s1 cs rs → Becomes s0 s1 cs rs
  alone_ran_steps s0 s1 cs rs p = steps_ran Becomes alone_ran_none alone_ran_more s0 s1 cs rs p
