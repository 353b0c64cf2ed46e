-- A pull of one replica from another, and what the fleet then is.
use Rattle.std.proofs.Common.{◌≡◌, ◌⊎◌, ℕ, ℤ, pos, Bool, true, false, List, [], ◌∷◌, ◌++◌, Option, Some, None, Result, Ok, Err, refl, sym, ap, subst, ◌∙◌, map, slice_get, slice_set}
use Rattle.std.specs.Prelude.{◌≢◌, ◌≤ℤ◌, if◌then◌else◌}
use Rattle.std.specs.List.{AllByRecursion}
use Rattle.cr_lattice.specs.declared.change.Change.{Change}
use Rattle.cr_lattice.specs.declared.stamped.Stamped.{Stamped}
use Rattle.cr_lattice.specs.Check.{same_bytes}
use Rattle.cr_lattice.specs.Keep.{has, is_beaten, keep}
use Rattle.cr_lattice.specs.Sync.{Knows, covers}
use Rattle.cr_cells.specs.Calls.{StaysClean}
use Rattle.cr_cells.specs.Commit.{committed}
use Rattle.cr_cells.specs.Holding.{kept_of}
use Rattle.cr_cells.specs.Marks.{seen_of}
use Rattle.cr_cells.proofs.NewLemmas.{same_itself}
use Rattle.cr_guard.specs.Policy.{Rules}
use Rattle.cr_guard.specs.declared.event.Event.{Event}
use Rattle.cr_tree.specs.declared.statement.Statement.{Statement}
use Rattle.cr_world.specs.declared.command.FleetReply.{FleetReply}
use Rattle.cr_world.specs.declared.command.FleetReply.TheVariants.{Done, Refused}
use Rattle.cr_world.specs.declared.refusal.Refusal.{Refusal}
use Rattle.cr_world.specs.declared.refusal.Refusal.TheVariants.{NoReplica, SameSite, TransactionState}
use Rattle.cr_world.specs.Refusals.{is_want}
use Rattle.cr_world.specs.Language.{Language}
use Rattle.cr_world.specs.Causes.{Cause, Free, Is, Evaluation, Tells, IsWant, first_cause, of_option, or_else}
use Rattle.cr_world.specs.State.{State, in_transaction, heard_between}
use Rattle.cr_world.specs.Statement.{Host}
use Rattle.cr_world.specs.Takings.{at_once, taking, taking_cause, changes_above, seen_at, pulling, pulling_since}
use Rattle.cr_world.specs.World.{World, Member, Keeps, Closures, host_of, used, named, item_at, with_used}
use Rattle.cr_world.specs.Answers.{Answers, IsDoneUnless, Pulls, PullsSince, after, tells_want}
use Rattle.cr_world.proofs.Keeping.{incremental_pull_keeps}
use Rattle.cr_script.specs.Speaking.{host_under}
use Rattle.cr_session.specs.Hearing.{HearsTaking}
use Rattle.cr_session.specs.Sessions.{IsToldAtOnce, TakenUnless, reply_of}
use Rattle.cr_fleet.specs.Between.{of_itself}
use Rattle.cr_fleet.specs.Fleets.{FleetOf, AreClean, AreMarked, Shows, Steps, seen, name_and_state, place_in}
use Rattle.cr_fleet.specs.Hearing.{HearsCommand, HearsStep, HearsUsed}
use Rattle.cr_fleet.specs.Pulls.{PullsFrom, cause_of, mark_of, offered, pull_of}
use Rattle.cr_fleet.proofs.Marking.{Moves, moves, same_grows, commit_grows, pull_moves}
use Rattle.cr_fleet.proofs.Hearing.{quiet_pull, quiet_pull_since, taking_heard}
use Rattle.cr_fleet.proofs.Places.{same_at, none_at, stays_at, set_there, all_at, all_set, all_before, all_after}
use Rattle.cr_fleet.proofs.Stepping.{place_same, unused, refused_steps, refused_stays, pull_none, pull_since_none, of_used, used_steps, unchanged}
use Rattle.cr_fleet.proofs.TwoPlaces.{get_elsewhere}

-- ---- what is answered

or_free_behind : (c : Cause) → or_else c Free ≡ c
or_free_behind Free = refl
or_free_behind (Is f) = refl
or_free_behind (Evaluation b) = refl

-- it is done, or a cause is told, or want
abbrev Says : Cause → Result (Unit {0}) Refusal → Type 0
Says c (Ok u) = c ≡ Free
Says c (Err r) = IsWant r ⊎ Tells c r

says : (c : Cause) (old : State) (more : List Change) (mark : Option (List ℕ × ℤ)) (result : Result (Unit {0}) Refusal) (new : State) → TakenUnless c old more mark result new → Says c result
says c old more mark (Ok u) new t = t.0
says c old more mark (Err r) new t = t.0

done_unless : {C : Type 0} (first : Option Refusal) (rest : Cause) (old : C) (result : Result (Unit {0}) Refusal) (new : C) → IsToldAtOnce first old result new
    → Says (first_cause (of_option first ∷ rest ∷ [])) result → IsDoneUnless first rest (reply_of result)
done_unless None rest old (Ok u) new told s = sym (or_free_behind rest) ∙ s
done_unless None rest old (Err r) new told s = subst (λ (c : Cause). IsWant r ⊎ Tells c r) (or_free_behind rest) s
done_unless (Some f) rest old result new told s = ap reply_of told.0

abbrev PullsOf : Bool → Host → State → Option Member → FleetReply → Type 0
PullsOf true = PullsSince
PullsOf false = Pulls

pulls_of : {C : Type 0} (b : Bool) (host : Host) (st : State) (peer : Member) (old : C) (result : Result (Unit {0}) Refusal) (new : C)
    → IsToldAtOnce (at_once st (Some (peer.state.holding.site, pos 0))) old result new → Says (cause_of host b st peer.state.holding) result → PullsOf b host st (Some peer) (reply_of result)
pulls_of true host st peer old result new told s =
    done_unless (at_once st (Some (peer.state.holding.site, pos 0))) (taking_cause host st (changes_above peer.state.holding (seen_at st peer.state.holding))) old result new told s
pulls_of false host st peer old result new told s =
    done_unless (at_once st (Some (peer.state.holding.site, pos 0))) (taking_cause host st (changes_above peer.state.holding (pos 0))) old result new told s

-- of itself a replica pulls nothing
abbrev unless : Bool → Bool → Option Refusal
unless t b = if t then Some TransactionState else if b then Some SameSite else None

itself_inside : (t b : Bool) (c : Cause) → t ≡ true → IsDoneUnless (unless t b) c (Refused TransactionState)
itself_inside true b c o = refl
itself_inside false b c o = absurd (let q : false ≡ true = o in cc)

itself_outside : (t b : Bool) (c : Cause) → t ≡ false → b ≡ true → IsDoneUnless (unless t b) c (Refused SameSite)
itself_outside false true c o e = refl
itself_outside false false c o e = absurd (let q : false ≡ true = e in cc)
itself_outside true b c o e = absurd (let q : true ≡ false = o in cc)

pulls_itself_inside : (b : Bool) (host : Host) (st : State) (m : Member) → m.state ≡ st → in_transaction st ≡ true → PullsOf b host st (Some m) (Refused TransactionState)
pulls_itself_inside true host st m e inside = itself_inside _ (same_bytes m.state.holding.site st.holding.site) _ inside
pulls_itself_inside false host st m e inside = itself_inside _ (same_bytes m.state.holding.site st.holding.site) _ inside

own_site_is : (st : State) (m : Member) → m.state ≡ st → same_bytes m.state.holding.site st.holding.site ≡ true
own_site_is st m e = (λ i. same_bytes (e i).holding.site st.holding.site) ∙ same_itself st.holding.site

pulls_itself_outside : (b : Bool) (host : Host) (st : State) (m : Member) → m.state ≡ st → in_transaction st ≡ false → PullsOf b host st (Some m) (Refused SameSite)
pulls_itself_outside true host st m e outside = itself_outside _ _ _ outside (own_site_is st m e)
pulls_itself_outside false host st m e outside = itself_outside _ _ _ outside (own_site_is st m e)

nobody_pulls : (b : Bool) (host : Host) (st : State) → PullsOf b host st None (Refused NoReplica)
nobody_pulls true host st = refl
nobody_pulls false host st = refl

-- the peer by its state alone
by_state : (b : Bool) (host : Host) (st : State) (peer : Member) (there : State) (reply : FleetReply) → there ≡ peer.state
    → PullsOf b host st (Some (record { name = []; state = there; held = [] })) reply → PullsOf b host st (Some peer) reply
by_state true host st peer there reply e p = subst (λ (x : State). PullsSince host st (Some (record { name = []; state = x; held = [] })) reply) e p
by_state false host st peer there reply e p = subst (λ (x : State). Pulls host st (Some (record { name = []; state = x; held = [] })) reply) e p

-- a pull by what it was asked for
pub asked_for : {C : Type 0} (host : Host) (is_honest is_clean : C → Type 0) (stands : C → State) (hears : List Event → Type 0) (taker peer : C) (result : Result (Unit {0}) Refusal) (taker_new peer_new : C) (b c : Bool) → b ≡ c
    → PullsFrom host c is_honest is_clean stands hears taker peer result taker_new peer_new → PullsFrom host b is_honest is_clean stands hears taker peer result taker_new peer_new
asked_for host is_honest is_clean stands hears taker peer result taker_new peer_new b c e p = subst (λ (x : Bool). PullsFrom host x is_honest is_clean stands hears taker peer result taker_new peer_new) (sym e) p

-- ---- what becomes of the replica in use

abbrev becomes : Bool → Option Member → Member → Member
becomes true = pulling_since
becomes false = pulling

named_as_before : (b : Bool) (peer m : Member) → (becomes b (Some peer) m).name ≡ m.name
named_as_before true peer m = refl
named_as_before false peer m = refl

stands_then : (b : Bool) (peer m : Member) (there here new : State) → peer.state ≡ there → m.state ≡ here → new ≡ taking (offered b here there.holding) (mark_of b there.holding) here → (becomes b (Some peer) m).state ≡ new
stands_then true peer m there here new e h t = (λ i. taking (changes_above (e i).holding (seen_at (h i) (e i).holding)) (Some ((e i).holding.site, (e i).holding.version)) (h i)) ∙ sym t
stands_then false peer m there here new e h t = (λ i. taking (changes_above (e i).holding (pos 0)) None (h i)) ∙ sym t

-- changes that are stamped from 1 on are known up to 0 by all
none_covered : (c : Change) → covers [] c ≡ true → ⊥
unfolding covers has is_beaten
none_covered c e = let q : false ≡ true = e in let z : ⊥ = cc in z

known_by_all : (mine : List Change) (mark : ℤ) (ss : List Stamped) → AllByRecursion (λ s. s.version ≤ℤ mark → covers [] s.change ≡ true) ss → AllByRecursion (λ s. s.version ≤ℤ mark → covers mine s.change ≡ true) ss
known_by_all mine mark [] a = tt
known_by_all mine mark (s ∷ ss) a = ((λ h. absurd (none_covered s.change (a.0 h))), known_by_all mine mark ss a.1)

no_marks : (site : List ℕ) → seen_of [] site ≡ pos 0
unfolding seen_of
no_marks site = refl

module _ {E : Type 0} (l : Language Statement E) (k : Closures) where
  -- a pull of all leaves what an incremental one does that no mark precedes
  pull_keeps : (m peer : Member) → Keeps m → Keeps peer → Knows [] peer.state.holding.cells peer.state.holding.version (pos 0) → Keeps (pulling (Some peer) m)
  pull_keeps m peer h g from_1 =
      let unmarked : Member = record m { state = record m.state { holding = record m.state.holding { marks = [] } } } in
      let site = peer.state.holding.site in
      let knows : Knows (kept_of m.state.holding) peer.state.holding.cells peer.state.holding.version (pos 0) = record {
        covered = known_by_all (kept_of m.state.holding) (pos 0) peer.state.holding.cells from_1.covered;
        past = from_1.past;
      } in
      let keeps = incremental_pull_keeps l k unmarked peer (record { keeps = h.keeps; no_modules = h.no_modules }) g
      (subst (λ (mark : ℤ). Knows (kept_of m.state.holding) peer.state.holding.cells peer.state.holding.version mark) (sym (no_marks site)) knows) in
      record {
        keeps = subst (λ (mark : ℤ). kept_of (committed m.state.holding (changes_above peer.state.holding mark) None) ≡ keep (m.held ++ peer.held)) (no_marks site) keeps.0.keeps;
        no_modules = h.no_modules;
      }

  grown : (b : Bool) (ms : List Member) (i j : ℕ) (m peer : Member) → AreMarked ms → slice_get ms i ≡ Some m → slice_get ms j ≡ Some peer → Keeps m → Keeps peer
      → Keeps (becomes b (Some peer) m) × Moves ms m (becomes b (Some peer) m)
  grown true ms i j m peer marks at there h g =
      let kept = incremental_pull_keeps l k m peer h g (marks.known i j m peer at there) in
      (kept.0, pull_moves ms i j m peer marks at there h _ _ kept.1)
  grown false ms i j m peer marks at there h g =
      (pull_keeps m peer h g (marks.from_1 j peer there), moves ms i m (pulling (Some peer) m) marks at h (commit_grows m.state.holding _))

  module _ (w : World) (name : List ℕ) where
    answers_pull : (b : Bool) (m : Member) (reply : FleetReply) → used w ≡ Some m → PullsOf b (host_of k w) m.state (named w name) reply → Answers l k w (pull_of b name) reply
    answers_pull true m reply u p = of_used l k w m reply (λ m. PullsSince (host_of k w) m.state (named w name) reply) u p
    answers_pull false m reply u p = of_used l k w m reply (λ m. Pulls (host_of k w) m.state (named w name) reply) u p

    pulls_none : (b : Bool) → used w ≡ None → Answers l k w (pull_of b name) (Refused NoReplica)
    pulls_none true u = pull_since_none l k w name u
    pulls_none false u = pull_none l k w name u

    after_pull : (b : Bool) → after l k w (pull_of b name) Done ≡ with_used w (becomes b (named w name))
    after_pull true = refl
    after_pull false = refl

    module _ {G : Type 0} (hears : G → G → List Event → Type 0) (g h : G) where
      hears_pull : (b : Bool) (reply : FleetReply) → HearsUsed l k hears (used w) g (λ m. HearsTaking hears g (heard_between m.state (becomes b (named w name) m).state) reply h) h → HearsCommand l k hears g w (pull_of b name) reply h
      hears_pull true reply p = p
      hears_pull false reply p = p

      pub quiet : (b : Bool) (r : Refusal) → hears g h [] → HearsCommand l k hears g w (pull_of b name) (Refused r) h
      quiet true r e = quiet_pull_since l k hears w name g h r e
      quiet false r e = quiet_pull l k hears w name g h r e

-- ---- steps

lasts : {C : Type 0} (is_honest is_clean : C → Type 0) (old new : C) (result : Result (Unit {0}) Refusal) → StaysClean is_honest is_clean is_want old new result → is_honest new → is_clean old → tells_want (reply_of result) ≡ false → is_clean new
lasts is_honest is_clean old new (Ok u) d honest clean told = d.stays_clean honest clean
lasts is_honest is_clean old new (Err r) d honest clean told = d.stays_clean honest clean told

module _ {E C : Type 0} (l : Language Statement E) (k : Closures) (is_clean : C → Type 0) (stands : C → State) (rules : Rules) (old : FleetOf C) (name : List ℕ) (b : Bool) where
  pub pull_unused : item_at old.1 old.0 ≡ None → Steps l k is_clean stands rules old (pull_of b name) (Refused NoReplica) rules old
  pull_unused e = refused_steps l k is_clean stands rules old (pull_of b name) NoReplica (λ clean w s. pulls_none l k w name b (unused l k is_clean stands rules w old s e))

  module _ (i : ℕ) (r : List ℕ × C) (place : old.1 ≡ Some i) (at : slice_get old.0 i ≡ Some r) where
    -- the member in use
    taker : (w : World) → Shows stands w rules old → (m : Member) × (used w ≡ Some m) × (m.state ≡ stands r.1)
    taker w s =
        let found = same_at stands w.members old.0 i r s.members at in
        (found.0, ap (λ (o : Option ℕ). item_at o w.members) (s.in_use ∙ place) ∙ found.1, ap (λ (x : List ℕ × State). x.1) found.2)

    pub pull_unknown : item_at (place_in old name) old.0 ≡ None → Steps l k is_clean stands rules old (pull_of b name) (Refused NoReplica) rules old
    pull_unknown e = refused_steps l k is_clean stands rules old (pull_of b name) NoReplica (λ clean w s. (
        let m = taker w s in
        let nobody : named w name ≡ None = ap (λ (o : Option ℕ). item_at o w.members) (place_same l k is_clean stands rules w old name s) ∙ absent w s (place_in old name) e in
        answers_pull l k w name b m.0 (Refused NoReplica) m.1 (subst (λ (o : Option Member). PullsOf b (host_of k w) m.0.state o (Refused NoReplica)) (sym nobody) (nobody_pulls b (host_of k w) m.0.state))))
      where
        absent : (w : World) → Shows stands w rules old → (o : Option ℕ) → item_at o old.0 ≡ None → item_at o w.members ≡ None
        absent w s None e = refl
        absent w s (Some j) e = none_at stands w.members old.0 j s.members e

    module _ (j : ℕ) (p : List ℕ × C) (from : place_in old name ≡ Some j) (there : slice_get old.0 j ≡ Some p) where
      -- the member that is named
      peer : (w : World) → Shows stands w rules old → (q : Member) × (named w name ≡ Some q) × (q.state ≡ stands p.1) × Keeps q × (slice_get w.members j ≡ Some q)
      peer w s =
          let found = same_at stands w.members old.0 j p s.members there in (
            found.0,
            ap (λ (o : Option ℕ). item_at o w.members) (place_same l k is_clean stands rules w old name s ∙ from) ∙ found.1,
            ap (λ (x : List ℕ × State). x.1) found.2,
            all_at Keeps w.members j found.0 s.keep found.1,
            found.1,
          )

      abbrev peer_now : Member
      peer_now = record { name = []; state = stands p.1; held = [] }

      -- what is answered by the states of both
      answered : (w : World) (reply : FleetReply) → Shows stands w rules old → PullsOf b (host_of k w) (stands r.1) (Some peer_now) reply → Answers l k w (pull_of b name) reply
      answered w reply s a =
          let m = taker w s in
          let q = peer w s in
          answers_pull l k w name b m.0 reply m.1 (subst (λ (o : Option Member). PullsOf b (host_of k w) m.0.state o reply) (sym q.1)
          (subst (λ (st : State). PullsOf b (host_of k w) st (Some q.0) reply) (sym m.2) (by_state b (host_of k w) (stands r.1) q.0 (stands p.1) reply (sym q.2) a)))

      -- the peer is the replica in use
      pull_inside : stands p.1 ≡ stands r.1 → in_transaction (stands r.1) ≡ true → Steps l k is_clean stands rules old (pull_of b name) (Refused TransactionState) rules old
      pull_inside e inside = refused_steps l k is_clean stands rules old (pull_of b name) TransactionState (λ clean w s. answered w (Refused TransactionState) s (pulls_itself_inside b (host_of k w) (stands r.1) peer_now e inside))

      pull_itself : stands p.1 ≡ stands r.1 → in_transaction (stands r.1) ≡ false → Steps l k is_clean stands rules old (pull_of b name) (Refused SameSite) rules old
      pull_itself e outside = refused_steps l k is_clean stands rules old (pull_of b name) SameSite (λ clean w s. answered w (Refused SameSite) s (pulls_itself_outside b (host_of k w) (stands r.1) peer_now e outside))

      pub pull_own : (inside : Bool) → stands p.1 ≡ stands r.1 → in_transaction (stands r.1) ≡ inside → Steps l k is_clean stands rules old (pull_of b name) (Refused (of_itself inside)) rules old
      pull_own true e t = pull_inside e t
      pull_own false e t = pull_itself e t

      module _ (apart : i ≢ j) (is_honest : C → Type 0) (always : (c : C) → is_honest c) (hears : List Event → Type 0) (result : Result (Unit {0}) Refusal) (r' p' : C)
          (pulls : PullsFrom (host_under k rules) b is_honest is_clean stands hears r.1 p.1 result r' p') where
        abbrev mid : FleetOf C
        mid = (slice_set old.0 j (p.0, p'), old.1)

        abbrev new : FleetOf C
        new = (slice_set mid.0 i (r.0, r'), old.1)

        at_mid : slice_get mid.0 i ≡ Some r
        at_mid = get_elsewhere old.0 i j (p.0, p') apart ∙ at

        clean_mid : AreClean is_clean new → AreClean is_clean mid
        clean_mid clean = all_before (λ x. is_clean x.1) mid.0 i r (r.0, r') clean at_mid pulls.pulls.device.was_clean

        clean_old : AreClean is_clean mid → AreClean is_clean old
        clean_old clean = all_before (λ x. is_clean x.1) old.0 j p (p.0, p') clean there pulls.pulls.peer_device.was_clean

        clean_taker : AreClean is_clean new → is_clean r'
        clean_taker clean = all_set (λ x. is_clean x.1) mid.0 i r (r.0, r') clean at_mid

        clean_peer : AreClean is_clean mid → is_clean p'
        clean_peer clean = all_set (λ x. is_clean x.1) old.0 j p (p.0, p') clean there

        seen_mid : AreClean is_clean mid → map (seen stands) mid.0 ≡ map (seen stands) old.0
        seen_mid clean = stays_at stands old.0 j p (p.0, p') there (λ x. (p.0, pulls.pulls.peer_same (clean_peer clean) x))

        shows_mid : AreClean is_clean mid → (w : World) → Shows stands w rules old → Shows stands w rules mid
        shows_mid clean w s = record { members = s.members ∙ sym (seen_mid clean); in_use = s.in_use; rules = s.rules; keep = s.keep; marks = s.marks }

        shows_old : AreClean is_clean mid → (w : World) → Shows stands w rules mid → Shows stands w rules old
        shows_old clean w s = record { members = s.members ∙ seen_mid clean; in_use = s.in_use; rules = s.rules; keep = s.keep; marks = s.marks }

        taken : AreClean is_clean new → TakenUnless (cause_of (host_under k rules) b (stands r.1) (stands p.1).holding) (stands r.1) (offered b (stands r.1) (stands p.1).holding) (mark_of b (stands p.1).holding) result (stands r')
        taken clean = pulls.pulls.takes (clean_taker clean) (clean_peer (clean_mid clean))

        answers : AreClean is_clean new → (w : World) → Shows stands w rules old → Answers l k w (pull_of b name) (reply_of result)
        answers clean w s =
            let told = pulls.told (pulls.pulls.device.was_clean (clean_taker clean)) (pulls.pulls.peer_device.was_clean (clean_peer (clean_mid clean))) in
            answered w (reply_of result) s (subst (λ (x : Rules). PullsOf b (host_under k x) (stands r.1) (Some peer_now) (reply_of result)) (sym s.rules)
            (pulls_of b (host_under k rules) (stands r.1) peer_now r.1 result r' told (says _ (stands r.1) _ (mark_of b (stands p.1).holding) result (stands r') (taken clean))))

        -- what the fleet is once the replica in use took what it takes
        abbrev StepsOn : Result (Unit {0}) Refusal → Type 0
        StepsOn x = result ≡ x → Steps l k is_clean stands rules mid (pull_of b name) (reply_of x) rules new

        done : StepsOn (Ok tt)
        done is = used_steps l k is_clean stands rules mid i r (r.0, r') place at_mid pulls.pulls.device.was_clean (pull_of b name) Done
            (λ clean told. lasts is_honest is_clean r.1 r' result pulls.pulls.device (always r') clean (ap (λ (x : Result (Unit {0}) Refusal). tells_want (reply_of x)) is))
            (λ w. becomes b (named w name)) (λ w. after_pull l k w name b) (λ all clean w m s u at_m h n keeps. (
            let s_old = shows_old (clean_mid all) w s in
            let q = peer w s_old in
            let left = subst (λ (x : Result (Unit {0}) Refusal). TakenUnless (cause_of (host_under k rules) b (stands r.1) (stands p.1).holding) (stands r.1) (offered b (stands r.1) (stands p.1).holding) (mark_of b (stands p.1).holding) x (stands r')) is (taken all) in
            let grew = grown l k b w.members i j m q.0 s.marks at_m q.4 keeps q.3 in (
              subst (λ (x : Result (Unit {0}) Refusal). Answers l k w (pull_of b name) (reply_of x)) is (answers all w s_old),
              ap (λ (o : Option Member). name_and_state (becomes b o m)) q.1
                  ∙ (λ x. ((named_as_before b q.0 m ∙ n) x, stands_then b q.0 m (stands p.1) (stands r.1) (stands r') q.2 h left.1 x)),
              subst (λ (o : Option Member). Keeps (becomes b o m)) (sym q.1) grew.0,
              subst (λ (o : Option Member). Moves w.members m (becomes b o m)) (sym q.1) grew.1,
            )))

        refused : (f : Refusal) → StepsOn (Err f)
        refused f is = used_steps l k is_clean stands rules mid i r (r.0, r') place at_mid pulls.pulls.device.was_clean (pull_of b name) (Refused f)
            (λ clean told. lasts is_honest is_clean r.1 r' result pulls.pulls.device (always r') clean (ap (λ (x : Result (Unit {0}) Refusal). tells_want (reply_of x)) is ∙ told))
            (λ w m. m) (λ w. refused_stays l k w (pull_of b name) f ∙ sym (unchanged w)) (λ all clean w m s u at_m h n keeps. (
            let left = subst (λ (x : Result (Unit {0}) Refusal). TakenUnless (cause_of (host_under k rules) b (stands r.1) (stands p.1).holding) (stands r.1) (offered b (stands r.1) (stands p.1).holding) (mark_of b (stands p.1).holding) x (stands r')) is (taken all) in (
              subst (λ (x : Result (Unit {0}) Refusal). Answers l k w (pull_of b name) (reply_of x)) is (answers all w (shows_old (clean_mid all) w s)),
              (λ x. (n x, (h ∙ sym left.1) x)),
              keeps,
              moves w.members i m m s.marks at_m keeps (same_grows m.state.holding),
            )))

        steps_on : (x : Result (Unit {0}) Refusal) → StepsOn x
        steps_on (Ok u) is = done is
        steps_on (Err f) is = refused f is

        pub pull_steps : Steps l k is_clean stands rules old (pull_of b name) (reply_of result) rules new
        pull_steps =
            let step = steps_on result refl in
            record {
              was_clean = λ clean. clean_old (clean_mid clean);
              stays_clean = λ clean told. all_after (λ x. is_clean x.1) mid.0 i r (r.0, r')
                  (all_after (λ x. is_clean x.1) old.0 j p (p.0, p') clean there (λ c. lasts is_honest is_clean p.1 p' result pulls.pulls.peer_device (always p') c told))
                  at_mid (λ c. lasts is_honest is_clean r.1 r' result pulls.pulls.device (always r') c told);
              steps = λ clean w s. step.steps clean w (shows_mid (clean_mid clean) w s);
            }

      -- and what becomes of rows is heard
      module _ {G : Type 0} (listens : G → G → List Event → Type 0) (g h : G) (apart : i ≢ j) (is_honest : C → Type 0) (always : (c : C) → is_honest c) (result : Result (Unit {0}) Refusal) (r' p' : C)
          (pulls : PullsFrom (host_under k rules) b is_honest is_clean stands (listens g h) r.1 p.1 result r' p') where
        abbrev left : FleetOf C
        left = new apart is_honest always (listens g h) result r' p' pulls

        pub pull_told : Steps l k is_clean stands rules old (pull_of b name) (reply_of result) rules left × HearsStep l k listens is_clean stands g rules old (pull_of b name) (reply_of result) left h
        pull_told =
            let step = pull_steps apart is_honest always (listens g h) result r' p' pulls in
            let in_place = at_mid apart is_honest always (listens g h) result r' p' pulls in (
              step,
              λ clean w s. hears_pull l k w name listens g h b (reply_of result) (taking_heard l k listens is_clean stands rules rules old left i r (r.0, r') place at (set_there (slice_set old.0 j (p.0, p')) i r (r.0, r') in_place) (pull_of b name)
                  (λ w. becomes b (named w name)) (λ w. after_pull l k w name b) result (stands r.1) g h refl (pulls.heard (clean_taker apart is_honest always (listens g h) result r' p' pulls clean)) step clean w s),
            )
