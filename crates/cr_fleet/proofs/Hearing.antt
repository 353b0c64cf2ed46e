-- What a host's listener hears of a step of a fleet, from what it hears of the replica in use.
use Rattle.std.proofs.Common.{◌≡◌, inr, ℕ, zero, suc, true, false, List, [], ◌∷◌, ◌++◌, Option, Some, None, Result, Ok, Err, refl, sym, ap, subst, ◌∙◌, slice_get}
use Rattle.cr_guard.specs.declared.event.Event.{Event}
use Rattle.cr_guard.specs.Policy.{Rules}
use Rattle.cr_tree.specs.declared.statement.Statement.{Statement}
use Rattle.cr_world.specs.declared.command.Command.{Command}
use Rattle.cr_world.specs.declared.command.Command.TheVariants.{Open, Use, Define, Take, Rows, Changes, Pull, PullSince, Policy, Sql}
use Rattle.cr_world.specs.declared.command.FleetReply.{FleetReply}
use Rattle.cr_world.specs.declared.command.FleetReply.TheVariants.{Script, Rows as Shown, Changes as Told, Done, Refused}
use Rattle.cr_world.specs.declared.refusal.Refusal.{Refusal}
use Rattle.cr_world.specs.Language.{Language}
use Rattle.cr_world.specs.State.{State, heard_between}
use Rattle.cr_world.specs.Statement.{Host}
use Rattle.cr_world.specs.Takings.{pulling, pulling_since}
use Rattle.cr_world.specs.World.{World, Member, Closures, host_of, changed_at, changed_in_use, with_used, named, used, item_at}
use Rattle.cr_world.specs.Answers.{after}
use Rattle.cr_world.specs.Run.{Run, world_after}
use Rattle.cr_script.specs.Hearing.{Hears}
use Rattle.cr_script.specs.Speaking.{host_under}
use Rattle.cr_session.specs.Hearing.{HearsOwn, HearsTaking}
use Rattle.cr_session.specs.Sessions.{is_own, own_after, reply_of}
use Rattle.cr_fleet.specs.Fleets.{FleetOf, AreClean, Shows, Steps}
use Rattle.cr_fleet.specs.Hearing.{HearsUsed, HearsCommand, HearsRun, HearsStep}
use Rattle.cr_fleet.proofs.Places.{same_at}
use Rattle.cr_fleet.proofs.Stepping.{own_leaves}

changed_there : (f : Member → Member) (i : ℕ) (ms : List Member) (m : Member) → slice_get ms i ≡ Some m → slice_get (changed_at i f ms) i ≡ Some (f m)
changed_there f i [] m e = absurd (let q : ⊥ = cc in q)
changed_there f zero (x ∷ ms) m e = ap (λ (o : Option Member). map-some f o) e
  where
    map-some : (Member → Member) → Option Member → Option Member
    map-some f None = None
    map-some f (Some m) = Some (f m)
changed_there f (suc i) (x ∷ ms) m e = changed_there f i ms m e

module _ {E G : Type 0} (l : Language Statement E) (k : Closures) (hears : G → G → List Event → Type 0) where
  -- ---- nothing is heard

  -- of what none carries out, or is refused
  quiet_taking : (u : Option Member) (g h : G) (events : Member → List Event) (r : Refusal) → hears g h [] → HearsUsed l k hears u g (λ m. HearsTaking hears g (events m) (Refused r) h) h
  quiet_taking None g h events r e = e
  quiet_taking (Some m) g h events r e = inr e

  quiet_used : (u : Option Member) (g h : G) (P : Member → Type 0) → hears g h [] → u ≡ None → HearsUsed l k hears u g P h
  quiet_used None g h P e n = e
  quiet_used (Some m) g h P e n = absurd (let q : ⊥ = cc in q)

  pub quiet_pull : (w : World) (name : List ℕ) (g h : G) (r : Refusal) → hears g h [] → HearsCommand l k hears g w (Pull name) (Refused r) h
  quiet_pull w name g h r e = quiet_taking (used w) g h (λ m. heard_between m.state (pulling (named w name) m).state) r e

  pub quiet_pull_since : (w : World) (name : List ℕ) (g h : G) (r : Refusal) → hears g h [] → HearsCommand l k hears g w (PullSince name) (Refused r) h
  quiet_pull_since w name g h r e = quiet_taking (used w) g h (λ m. heard_between m.state (pulling_since (named w name) m).state) r e

  -- no replica is in use
  pub quiet_unused : (w : World) (c : Command) (g h : G) (reply : FleetReply) → used w ≡ None → hears g h [] → HearsCommand l k hears g w c reply h
  quiet_unused w (Take row) g h reply u e = quiet_used (used w) g h _ e u
  quiet_unused w (Pull name) g h reply u e = quiet_used (used w) g h _ e u
  quiet_unused w (PullSince name) g h reply u e = quiet_used (used w) g h _ e u
  quiet_unused w (Sql text) g h reply u e = quiet_used (used w) g h _ e u
  quiet_unused w (Open name site) g h reply u e = e
  quiet_unused w (Use name) g h reply u e = e
  quiet_unused w (Policy rule) g h reply u e = e
  quiet_unused w (Define declaration) g h reply u e = e
  quiet_unused w (Rows name) g h reply u e = e
  quiet_unused w (Changes n) g h reply u e = e

  -- ---- the replica in use

  of_member : (u : Option Member) (m : Member) (g h : G) (P : Member → Type 0) → u ≡ Some m → P m → HearsUsed l k hears u g P h
  of_member u m g h P e p = subst (λ (o : Option Member). HearsUsed l k hears o g P h) (sym e) p

  -- a command of its own
  pub own_heard : (w : World) (c : Command) (m : Member) (g h : G) (reply : FleetReply) → used w ≡ Some m → is_own c ≡ true
      → HearsOwn hears l (host_of k w) g m.state c reply (own_after l (host_of k w) c reply m).state h → HearsCommand l k hears g w c reply h
  own_heard w (Take row) m g h Done u o e = of_member (used w) m g h _ u e
  own_heard w (Take row) m g h (Refused r) u o e = of_member (used w) m g h _ u e
  own_heard w (Take row) m g h (Script x) u o e = of_member (used w) m g h _ u e
  own_heard w (Take row) m g h (Shown rows) u o e = of_member (used w) m g h _ u e
  own_heard w (Take row) m g h (Told cells) u o e = of_member (used w) m g h _ u e
  own_heard w (Sql text) m g h reply u o e = of_member (used w) m g h _ u e
  own_heard w (Define declaration) m g h reply u o e = e
  own_heard w (Rows name) m g h reply u o e = e
  own_heard w (Changes n) m g h reply u o e = e
  own_heard w (Open name site) m g h reply u o e = e
  own_heard w (Use name) m g h reply u o e = e
  own_heard w (Policy rule) m g h reply u o e = e
  own_heard w (Pull name) m g h reply u o e = absurd (let q : false ≡ true = o in cc)
  own_heard w (PullSince name) m g h reply u o e = absurd (let q : false ≡ true = o in cc)

  module _ {C : Type 0} (is_clean : C → Type 0) (stands : C → State) (rules rules' : Rules) (old new : FleetOf C) (i : ℕ) (r r' : List ℕ × C)
      (place : old.1 ≡ Some i) (at : slice_get old.0 i ≡ Some r) (at_new : slice_get new.0 i ≡ Some r') where
    -- the member in use, and where it stands
    in_use : (w : World) → Shows stands w rules old → (m : Member) × (used w ≡ Some m) × (m.state ≡ stands r.1) × (slice_get w.members i ≡ Some m)
    in_use w s =
        let found = same_at stands w.members old.0 i r s.members at in
        (found.0, ap (λ (o : Option ℕ). item_at o w.members) (s.in_use ∙ place) ∙ found.1, ap (λ (x : List ℕ × State). x.1) found.2, found.1)

    -- where it stands after a step
    stands_after : (w : World) (f : Member → Member) (m : Member) → Shows stands w rules old → slice_get w.members i ≡ Some m → Shows stands (with_used w f) rules' new → (f m).state ≡ stands r'.1
    stands_after w f m s e shown =
        let changed : (with_used w f).members ≡ changed_at i f w.members = ap (λ (o : Option ℕ). changed_in_use o f w.members) (s.in_use ∙ place) in
        let found = same_at stands (with_used w f).members new.0 i r' shown.members at_new in
        let both : Some found.0 ≡ Some (f m) = sym found.1 ∙ ap (λ (ms : List Member). slice_get ms i) changed ∙ changed_there f i w.members m e in
        let q : found.0 ≡ f m = cc in
        ap (λ (n : Member). n.state) (sym q) ∙ ap (λ (x : List ℕ × State). x.1) found.2

    -- What a taking tells of the rows of the replica is heard of the command that it is: it stood as it did before a peer was read.
    pub taking_heard : (c : Command) (f : World → Member → Member) → ((w : World) → after l k w c Done ≡ with_used w (f w)) → (result : Result (Unit {0}) Refusal) (t : State) (g h : G)
        → t ≡ stands r.1 → Hears (hears g h) (heard_between t (stands r'.1)) result → Steps l k is_clean stands rules old c (reply_of result) rules' new → AreClean is_clean new
        → (w : World) → Shows stands w rules old → HearsUsed l k hears (used w) g (λ m. HearsTaking hears g (heard_between m.state (f w m).state) (reply_of result) h) h
    taking_heard c f is (Err e) t g h same heard step clean w s =
        let m = in_use w s in
        of_member (used w) m.0 g h _ m.1 heard
    taking_heard c f is (Ok u) t g h same heard step clean w s =
        let m = in_use w s in
        let shown : Shows stands (with_used w (f w)) rules' new = subst (λ (v : World). Shows stands v rules' new) (is w) (step.steps clean w s).1 in
        let before : t ≡ m.0.state = same ∙ sym m.2 in
        let behind : stands r'.1 ≡ (f w m.0).state = sym (stands_after w (f w) m.0 s m.3 shown) in
        of_member (used w) m.0 g h (λ m. hears g h (heard_between m.state (f w m).state)) m.1 (subst (λ (p : State × State). hears g h (heard_between p.0 p.1)) (λ x. (before x, behind x)) heard)

    -- what a command of the replica's own tells
    pub own_step_heard : (c : Command) (reply : FleetReply) (g h : G) → is_own c ≡ true → Steps l k is_clean stands rules old c reply rules' new
        → HearsOwn hears l (host_under k rules) g (stands r.1) c reply (stands r'.1) h → AreClean is_clean new → (w : World) → Shows stands w rules old → HearsCommand l k hears g w c reply h
    own_step_heard c reply g h o step heard clean w s =
        let m = in_use w s in
        let became : Member → Member = own_after l (host_of k w) c reply in
        let shown : Shows stands (with_used w became) rules' new = subst (λ (v : World). Shows stands v rules' new) (own_leaves l k w c reply o) (step.steps clean w s).1 in
        let behind : stands r'.1 ≡ (became m.0).state = sym (stands_after w became m.0 s m.3 shown) in
        own_heard w c m.0 g h reply m.1 o
        (subst (λ (p : Host × State × State). HearsOwn hears l p.0 g p.1 c reply p.2 h) (λ x. (host_under k (sym s.rules x), sym m.2 x, behind x)) heard)

  -- ---- one command after another

  -- what was heard of a run, and of one command more
  pub hears_more : (g : G) (w : World) (cs : List Command) (rs : List FleetReply) (mid : G) (c : Command) (r : FleetReply) (h : G)
      → HearsRun l k hears g w cs rs mid → HearsCommand l k hears mid (world_after l k w cs rs) c r h → HearsRun l k hears g w (cs ++ c ∷ []) (rs ++ r ∷ []) h
  hears_more g w [] [] mid c r h ran one = (h, subst (λ (x : G). HearsCommand l k hears x w c r h) ran one, refl)
  hears_more g w [] (x ∷ xs) mid c r h ran one = absurd ran
  hears_more g w (d ∷ ds) [] mid c r h ran one = absurd ran
  hears_more g w (d ∷ ds) (x ∷ xs) mid c r h ran one = (ran.0, ran.1, hears_more ran.0 (after l k w d x) ds xs mid c r h ran.2 one)

  -- the same of a fleet that goes on by one step
  pub hears_on : {C : Type 0} (is_clean : C → Type 0) (stands : C → State) (before rules : Rules) (old mid new : FleetOf C) (cs cs' : List Command) (rs rs' : List FleetReply) (c : Command) (r : FleetReply) (g m h : G)
      → cs' ≡ cs ++ c ∷ [] → rs' ≡ rs ++ r ∷ [] → (AreClean is_clean new → AreClean is_clean mid)
      → (AreClean is_clean mid → (w : World) → Shows stands w before old → Run l k w cs rs × Shows stands (world_after l k w cs rs) rules mid)
      → (AreClean is_clean mid → (w : World) → Shows stands w before old → HearsRun l k hears g w cs rs m)
      → HearsStep l k hears is_clean stands m rules mid c r new h
      → AreClean is_clean new → (w : World) → Shows stands w before old → HearsRun l k hears g w cs' rs' h
  hears_on is_clean stands before rules old mid new cs cs' rs rs' c r g m h e f was ran heard one clean w s =
      subst (λ (xs : List Command). HearsRun l k hears g w xs rs' h) (sym e)
      (subst (λ (ys : List FleetReply). HearsRun l k hears g w (cs ++ c ∷ []) ys h) (sym f)
      (hears_more g w cs rs m c r h (heard (was clean) w s) (one clean (world_after l k w cs rs) (ran (was clean) w s).1)))
