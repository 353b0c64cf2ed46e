-- Steps of a fleet: what a call of one of its replicas means for the world.
use Rattle.std.proofs.Common.{◌≡◌, ℕ, zero, suc, List, [], ◌∷◌, Bool, true, false, Option, Some, None, refl, sym, ap, subst, ◌∙◌, map, find, position, slice_get, slice_set}
use Rattle.std.specs.Option.{option_map}
use Rattle.std.proofs.lemmas.Option.{slice_get-map}
use Rattle.cr_lattice.specs.declared.change.Change.{Change}
use Rattle.cr_lattice.specs.Check.{same_bytes}
use Rattle.cr_cells.specs.Tables.{is_named}
use Rattle.cr_guard.specs.declared.policy.PolicyRule.{PolicyRule}
use Rattle.cr_guard.specs.Policy.{Rules, with_rule, wants_memory}
use Rattle.cr_replica.specs.ChangeRow.{change_of}
use Rattle.cr_world.specs.declared.command.Command.{Command}
use Rattle.cr_world.specs.declared.command.Command.TheVariants.{Open, Use, Define, Take, Rows, Changes, Pull, PullSince, Policy, Sql}
use Rattle.cr_world.specs.declared.command.Declaration.TheVariants.{Real, Table as Declared}
use Rattle.cr_world.specs.declared.command.FleetReply.{FleetReply}
use Rattle.cr_world.specs.declared.command.FleetReply.TheVariants.{Script, Rows as Shown, Changes as Told, Done, Refused}
use Rattle.cr_world.specs.declared.refusal.Refusal.{Refusal}
use Rattle.cr_world.specs.declared.refusal.Refusal.TheVariants.{Memory, NoReplica}
use Rattle.cr_world.specs.Language.{Language}
use Rattle.cr_world.specs.State.{State}
use Rattle.cr_world.specs.Statement.{Host}
use Rattle.cr_world.specs.Takings.{define_cause, taking_row}
use Rattle.cr_world.specs.World.{World, Member, Keeps, Closures, host_of, changed_at, changed_in_use, with_used, used, place_of, item_at}
use Rattle.cr_world.specs.Answers as answers
use Rattle.cr_world.specs.Answers.{Answers, OfUsed, IsDone, Takes, ShowsRows, ShowsChanges, Uses, after, tells_want}
use Rattle.cr_world.proofs.Keeping.{kept_more, script_stays}
use Rattle.cr_fleet.proofs.Honest.{always}
use Rattle.cr_fleet.specs.declared.fleet.Named.{Named}
use Rattle.cr_fleet.specs.Fleets.{FleetOf, AreClean, Shows, Steps, seen, name_and_state, place_in}
use Rattle.cr_script.specs.Speaking.{host_under}
use Rattle.cr_session.specs.Sessions.{Does, OwnAnswers, RunsScript, SessionOf, own_after, is_own}
use Rattle.cr_fleet.proofs.Marking.{Moves, moves, own_grows, marks_set}
use Rattle.cr_fleet.proofs.Places.{pair, map_set, position_map, same_at, none_at, set_at, keeps_set, all_at, all_set, all_before, all_after}

-- nothing becomes of a member that stays as it is
unchanged_at : (i : ℕ) (ms : List Member) → changed_at i (λ m. m) ms ≡ ms
unchanged_at i [] = refl
unchanged_at zero (m ∷ ms) = refl
unchanged_at (suc i) (m ∷ ms) = ap (λ l. m ∷ l) (unchanged_at i ms)

unchanged_in : (o : Option ℕ) (ms : List Member) → changed_in_use o (λ m. m) ms ≡ ms
unchanged_in None ms = refl
unchanged_in (Some i) ms = unchanged_at i ms

pub unchanged : (w : World) → with_used w (λ m. m) ≡ w
unchanged w = ap (λ (ms : List Member). record w { members = ms }) (unchanged_in w.in_use w.members)

keeps_taken : (m : Member) (o : Option Change) → Keeps m → Keeps (taking_row o m)
keeps_taken m None k = k
keeps_taken m (Some c) k = record { keeps = kept_more m.state.holding m.held (c ∷ []) None k.keeps; no_modules = k.no_modules }

-- ---- a command of the replica in use

module _ {S E : Type 0} (l : Language S E) (host : Host) where
  pub name_stays : (c : Command) (reply : FleetReply) (m : Member) → (own_after l host c reply m).name ≡ m.name
  name_stays (Define Real) reply m = refl
  name_stays (Define (Declared def)) Done m = refl
  name_stays (Define (Declared def)) (Script x) m = refl
  name_stays (Define (Declared def)) (Shown rows) m = refl
  name_stays (Define (Declared def)) (Told cells) m = refl
  name_stays (Define (Declared def)) (Refused r) m = refl
  name_stays (Take row) Done m = named (change_of row)
    where
      named : (o : Option Change) → (taking_row o m).name ≡ m.name
      named None = refl
      named (Some c) = refl
  name_stays (Take row) (Script x) m = refl
  name_stays (Take row) (Shown rows) m = refl
  name_stays (Take row) (Told cells) m = refl
  name_stays (Take row) (Refused r) m = refl
  name_stays (Sql text) (Script x) m = refl
  name_stays (Sql text) Done m = refl
  name_stays (Sql text) (Shown rows) m = refl
  name_stays (Sql text) (Told cells) m = refl
  name_stays (Sql text) (Refused r) m = refl
  name_stays (Rows name) reply m = refl
  name_stays (Changes n) reply m = refl
  name_stays (Open name site) reply m = refl
  name_stays (Use name) reply m = refl
  name_stays (Policy rule) reply m = refl
  name_stays (Pull name) reply m = refl
  name_stays (PullSince name) reply m = refl

  pub own_keeps : (c : Command) (reply : FleetReply) (m : Member) → Keeps m → Keeps (own_after l host c reply m)
  own_keeps (Define Real) reply m k = k
  own_keeps (Define (Declared def)) Done m k = record { keeps = k.keeps; no_modules = k.no_modules }
  own_keeps (Define (Declared def)) (Script x) m k = k
  own_keeps (Define (Declared def)) (Shown rows) m k = k
  own_keeps (Define (Declared def)) (Told cells) m k = k
  own_keeps (Define (Declared def)) (Refused r) m k = k
  own_keeps (Take row) Done m k = keeps_taken m (change_of row) k
  own_keeps (Take row) (Script x) m k = k
  own_keeps (Take row) (Shown rows) m k = k
  own_keeps (Take row) (Told cells) m k = k
  own_keeps (Take row) (Refused r) m k = k
  own_keeps (Sql text) (Script x) m k =
      let s = script_stays l host m.state (l.pieces text) x.replies x.refusal m.held (record { keeps = k.keeps; none = k.no_modules }) in
      record { keeps = s.keeps; no_modules = s.none }
  own_keeps (Sql text) Done m k = k
  own_keeps (Sql text) (Shown rows) m k = k
  own_keeps (Sql text) (Told cells) m k = k
  own_keeps (Sql text) (Refused r) m k = k
  own_keeps (Rows name) reply m k = k
  own_keeps (Changes n) reply m k = k
  own_keeps (Open name site) reply m k = k
  own_keeps (Use name) reply m k = k
  own_keeps (Policy rule) reply m k = k
  own_keeps (Pull name) reply m k = k
  own_keeps (PullSince name) reply m k = k

module _ {S E : Type 0} (l : Language S E) (k : Closures) (w : World) where
  script_answers : (m : Member) (text : List ℕ) (reply : FleetReply) → RunsScript l (host_of k w) m.state text reply → answers.RunsScript l k w m text reply
  script_answers m text (Script x) p = p
  script_answers m text (Refused r) p = p
  script_answers m text Done p = p
  script_answers m text (Shown rows) p = p
  script_answers m text (Told cells) p = p

  pub of_used : (m : Member) (reply : FleetReply) (P : Member → Type 0) → used w ≡ Some m → P m → OfUsed (used w) reply P
  of_used m reply P u p = subst (λ (o : Option Member). OfUsed o reply P) (sym u) p

  pub own_answers : (c : Command) (reply : FleetReply) (m : Member) → used w ≡ Some m → OwnAnswers l (host_of k w) m.state c reply → Answers l k w c reply
  own_answers (Define Real) reply m u p = of_used m reply (λ m. reply ≡ _) u p
  own_answers (Define (Declared def)) reply m u p = of_used m reply (λ m. IsDone (define_cause l.has_collation m.state def) reply) u p
  own_answers (Take row) reply m u p = of_used m reply (λ m. Takes (host_of k w) m.state (change_of row) reply) u p
  own_answers (Rows name) reply m u p = of_used m reply (λ m. ShowsRows m.state.holding name (find (is_named name) m.state.holding.tables) reply) u p
  own_answers (Changes n) reply m u p = of_used m reply (λ m. ShowsChanges m.state.holding n reply) u p
  own_answers (Sql text) reply m u p = of_used m reply (λ m. answers.RunsScript l k w m text reply) u (script_answers m text reply p)
  own_answers (Open name site) reply m u p = absurd p
  own_answers (Use name) reply m u p = absurd p
  own_answers (Policy rule) reply m u p = absurd p
  own_answers (Pull name) reply m u p = absurd p
  own_answers (PullSince name) reply m u p = absurd p

  pub own_leaves : (c : Command) (reply : FleetReply) → is_own c ≡ true → after l k w c reply ≡ with_used w (own_after l (host_of k w) c reply)
  own_leaves (Define Real) reply o = sym (unchanged w)
  own_leaves (Define (Declared def)) Done o = refl
  own_leaves (Define (Declared def)) (Script x) o = sym (unchanged w)
  own_leaves (Define (Declared def)) (Shown rows) o = sym (unchanged w)
  own_leaves (Define (Declared def)) (Told cells) o = sym (unchanged w)
  own_leaves (Define (Declared def)) (Refused r) o = sym (unchanged w)
  own_leaves (Take row) Done o = refl
  own_leaves (Take row) (Script x) o = sym (unchanged w)
  own_leaves (Take row) (Shown rows) o = sym (unchanged w)
  own_leaves (Take row) (Told cells) o = sym (unchanged w)
  own_leaves (Take row) (Refused r) o = sym (unchanged w)
  own_leaves (Rows name) reply o = sym (unchanged w)
  own_leaves (Changes n) reply o = sym (unchanged w)
  own_leaves (Sql text) (Script x) o = refl
  own_leaves (Sql text) Done o = sym (unchanged w)
  own_leaves (Sql text) (Shown rows) o = sym (unchanged w)
  own_leaves (Sql text) (Told cells) o = sym (unchanged w)
  own_leaves (Sql text) (Refused r) o = sym (unchanged w)
  own_leaves (Open name site) reply o = absurd (let q : false ≡ true = o in cc)
  own_leaves (Use name) reply o = absurd (let q : false ≡ true = o in cc)
  own_leaves (Policy rule) reply o = absurd (let q : false ≡ true = o in cc)
  own_leaves (Pull name) reply o = absurd (let q : false ≡ true = o in cc)
  own_leaves (PullSince name) reply o = absurd (let q : false ≡ true = o in cc)

  none_used : (P : Member → Type 0) → used w ≡ None → OfUsed (used w) (Refused NoReplica) P
  none_used P u = subst (λ (o : Option Member). OfUsed o (Refused NoReplica) P) (sym u) refl

  -- none is in use
  pub own_none : (c : Command) → is_own c ≡ true → used w ≡ None → Answers l k w c (Refused NoReplica)
  own_none (Define Real) o u = none_used _ u
  own_none (Define (Declared def)) o u = none_used _ u
  own_none (Take row) o u = none_used _ u
  own_none (Rows name) o u = none_used _ u
  own_none (Changes n) o u = none_used _ u
  own_none (Sql text) o u = none_used _ u
  own_none (Open name site) o u = absurd (let q : false ≡ true = o in cc)
  own_none (Use name) o u = absurd (let q : false ≡ true = o in cc)
  own_none (Policy rule) o u = absurd (let q : false ≡ true = o in cc)
  own_none (Pull name) o u = absurd (let q : false ≡ true = o in cc)
  own_none (PullSince name) o u = absurd (let q : false ≡ true = o in cc)

  pub pull_none : (name : List ℕ) → used w ≡ None → Answers l k w (Pull name) (Refused NoReplica)
  pull_none name u = none_used _ u

  pub pull_since_none : (name : List ℕ) → used w ≡ None → Answers l k w (PullSince name) (Refused NoReplica)
  pull_since_none name u = none_used _ u

  pub refused_stays : (c : Command) (r : Refusal) → after l k w c (Refused r) ≡ w
  refused_stays (Define Real) r = refl
  refused_stays (Define (Declared def)) r = refl
  refused_stays (Take row) r = refl
  refused_stays (Rows name) r = refl
  refused_stays (Changes n) r = refl
  refused_stays (Sql text) r = refl
  refused_stays (Open name site) r = refl
  refused_stays (Use name) r = refl
  refused_stays (Policy rule) r = refl
  refused_stays (Pull name) r = refl
  refused_stays (PullSince name) r = refl

-- ---- steps

module _ {S E C : Type 0} (l : Language S E) (k : Closures) (is_clean : C → Type 0) (stands : C → State) (rules : Rules) where
  -- a name has the same place in a world and in its fleet
  pub place_same : (w : World) (f : FleetOf C) (name : List ℕ) → Shows stands w rules f → place_of w name ≡ place_in f name
  place_same w f name s =
      let by_name : List ℕ × State → Bool = (λ r. same_bytes r.0 name) in
      sym (position_map name_and_state by_name w.members) ∙ ap (position by_name) s.members ∙ position_map (seen stands) by_name f.0

  unused_at : (w : World) (f : FleetOf C) → Shows stands w rules f → (place : Option ℕ) → item_at place f.0 ≡ None → item_at place w.members ≡ None
  unused_at w f s None e = refl
  unused_at w f s (Some i) e = none_at stands w.members f.0 i s.members e

  -- no replica is in use where none has the place
  pub unused : (w : World) (f : FleetOf C) → Shows stands w rules f → item_at f.1 f.0 ≡ None → used w ≡ None
  unused w f s e = ap (λ (o : Option ℕ). item_at o w.members) s.in_use ∙ unused_at w f s f.1 e

  -- ---- nothing changes

  -- a fleet that is as it was
  pub refused_steps : (old : FleetOf C) (c : Command) (r : Refusal) → (AreClean is_clean old → (w : World) → Shows stands w rules old → Answers l k w c (Refused r)) → Steps l k is_clean stands rules old c (Refused r) rules old
  refused_steps old c r answers = record {
    was_clean = λ clean. clean;
    stays_clean = λ clean answered. clean;
    steps = λ clean w s. (answers clean w s, subst (λ (v : World). Shows stands v rules old) (sym (refused_stays l k w c r)) s);
  }

  pub own_unused : (old : FleetOf C) (c : Command) → is_own c ≡ true → item_at old.1 old.0 ≡ None → Steps l k is_clean stands rules old c (Refused NoReplica) rules old
  own_unused old c o e = refused_steps old c NoReplica (λ clean w s. own_none l k w c o (unused w old s e))

  -- ---- the policy

  pub policy_set : (old : FleetOf C) (rule : PolicyRule) (new : Rules) → new ≡ with_rule rule rules → Steps l k is_clean stands rules old (Policy rule) Done new old
  policy_set old rule new e = record {
    was_clean = λ clean. clean;
    stays_clean = λ clean answered. clean;
    steps = λ clean w s. (tt, record { members = s.members; in_use = s.in_use; rules = ap (with_rule rule) s.rules ∙ sym e; keep = s.keep; marks = s.marks });
  }

  pub policy_refused : (old : FleetOf C) (rule : PolicyRule) (new : Rules) → wants_memory rule ≡ true → new ≡ rules → Steps l k is_clean stands rules old (Policy rule) (Refused Memory) new old
  policy_refused old rule new wants e = record {
    was_clean = λ clean. clean;
    stays_clean = λ clean answered. clean;
    steps = λ clean w s. ((wants, refl), record { members = s.members; in_use = s.in_use; rules = s.rules ∙ sym e; keep = s.keep; marks = s.marks });
  }

  -- ---- the replica that is named is put in use

  pub use_step : (old : FleetOf C) (name : List ℕ) (at : ℕ) → place_in old name ≡ Some at → Steps l k is_clean stands rules old (Use name) Done rules (old.0, Some at)
  use_step old name at e = record {
    was_clean = λ clean. clean;
    stays_clean = λ clean answered. clean;
    steps = λ clean w s. (
        let there : place_of w name ≡ Some at = place_same w old name s ∙ e in
        (subst (λ (o : Option ℕ). Uses o Done) (sym there) refl, record { members = s.members; in_use = there; rules = s.rules; keep = s.keep; marks = s.marks }));
  }

  pub use_none : (old : FleetOf C) (name : List ℕ) → place_in old name ≡ None → Steps l k is_clean stands rules old (Use name) (Refused NoReplica) rules old
  use_none old name e = refused_steps old (Use name) NoReplica (λ clean w s. subst (λ (o : Option ℕ). Uses o (Refused NoReplica)) (sym (place_same w old name s ∙ e)) refl)

  -- ---- the replica in use is called

  module _ (old : FleetOf C) (i : ℕ) (r r' : List ℕ × C) (place : old.1 ≡ Some i) (at : slice_get old.0 i ≡ Some r) (cleans : is_clean r'.1 → is_clean r.1) where
    abbrev pub new : FleetOf C
    new = (slice_set old.0 i r', old.1)

    pub clean_before : AreClean is_clean new → AreClean is_clean old
    clean_before clean = all_before (λ x. is_clean x.1) old.0 i r r' clean at cleans

    pub clean_after : AreClean is_clean old → (is_clean r.1 → is_clean r'.1) → AreClean is_clean new
    clean_after clean = all_after (λ x. is_clean x.1) old.0 i r r' clean at

    clean_called : AreClean is_clean new → is_clean r'.1
    clean_called clean = all_set (λ x. is_clean x.1) old.0 i r r' clean at

    -- the member in use, and what is known of it
    in_use : (w : World) → Shows stands w rules old → (m : Member) × (used w ≡ Some m) × (slice_get w.members i ≡ Some m) × (m.name ≡ r.0) × (m.state ≡ stands r.1) × Keeps m
    in_use w s =
        let found = same_at stands w.members old.0 i r s.members at in
        let m = found.0 in
        let is_used : used w ≡ Some m = ap (λ (o : Option ℕ). item_at o w.members) (s.in_use ∙ place) ∙ found.1 in
        (m, is_used, found.1, ap (λ (x : List ℕ × State). x.0) found.2, ap (λ (x : List ℕ × State). x.1) found.2, all_at Keeps w.members i m s.keep found.1)

    used_is : (f : Member → Member) (w : World) → Shows stands w rules old → with_used w f ≡ record w { members = changed_at i f w.members }
    used_is f w s = ap (λ (o : Option ℕ). record w { members = changed_in_use o f w.members }) (s.in_use ∙ place)

    -- what becomes of it
    pub used_steps : (c : Command) (reply : FleetReply) → (is_clean r.1 → tells_want reply ≡ false → is_clean r'.1) → (f : World → Member → Member)
        → ((w : World) → after l k w c reply ≡ with_used w (f w))
        → (AreClean is_clean new → is_clean r'.1 → (w : World) (m : Member) → Shows stands w rules old → used w ≡ Some m → slice_get w.members i ≡ Some m → m.state ≡ stands r.1 → m.name ≡ r.0 → Keeps m
        → Answers l k w c reply × (name_and_state (f w m) ≡ seen stands r') × Keeps (f w m) × Moves w.members m (f w m))
        → Steps l k is_clean stands rules old c reply rules new
    used_steps c reply lasts f changes called = record {
      was_clean = clean_before;
      stays_clean = λ clean answered. clean_after clean (λ before. lasts before answered);
      steps = λ clean w s. (
          let m = in_use w s in
          let told = called clean (clean_called clean) w m.0 s m.1 m.2 m.4 m.3 m.5 in (
            told.0,
            subst (λ (v : World). Shows stands v rules new) (sym (changes w ∙ used_is (f w) w s)) (record {
              members = set_at stands (f w) w.members old.0 i m.0 r' s.members m.2 told.1;
              in_use = s.in_use;
              rules = s.rules;
              keep = keeps_set (f w) w.members i m.0 s.keep m.2 told.2;
              marks = marks_set (f w) w.members i m.0 s.marks m.2 told.3;
            }),
          ));
    }

    pub own_steps : (c : Command) (reply : FleetReply) → is_own c ≡ true → r'.0 ≡ r.0 → Does l (host_under k rules) always is_clean stands r.1 c reply r'.1 → Steps l k is_clean stands rules old c reply rules new
    own_steps c reply o same d =
        used_steps c reply (d.stays_clean tt) (λ w. own_after l (host_of k w) c reply) (λ w. own_leaves l k w c reply o) (λ all clean w m s u at_m h n keeps. (
        let e : Does l (host_of k w) always is_clean stands r.1 c reply r'.1 = subst (λ (x : Rules). Does l (host_under k x) always is_clean stands r.1 c reply r'.1) (sym s.rules) d in (
          own_answers l k w c reply m u (subst (λ (st : State). OwnAnswers l (host_of k w) st c reply) (sym h) (e.answers clean)),
          (λ j. ((name_stays l (host_of k w) c reply m ∙ n ∙ sym same) j, e.leaves clean m h j)),
          own_keeps l (host_of k w) c reply m keeps,
          moves w.members i m (own_after l (host_of k w) c reply m) s.marks at_m keeps (own_grows l (host_of k w) c reply m),
        )))

-- ---- the sessions of a fleet, by their names

module _ {S E C : Type 0} (l : Language S E) (k : Closures) (is_clean : SessionOf C → Type 0) (stands : SessionOf C → State) (rules : Rules) where
  pub viewed : (items : List (Named C)) (in_place : Option ℕ) (i : ℕ) (n : Named C) (c : Command) (reply : FleetReply)
      → Steps l k is_clean stands rules (map pair items, in_place) c reply rules (slice_set (map pair items) i (pair n), in_place)
      → Steps l k is_clean stands rules (map pair items, in_place) c reply rules (map pair (slice_set items i n), in_place)
  viewed items in_place i n c reply = subst (λ (xs : List (List ℕ × SessionOf C)). Steps l k is_clean stands rules (map pair items, in_place) c reply rules (xs, in_place)) (sym (map_set pair items i n))

-- what a look-up in a fleet's sessions finds
pub pair_at : {C : Type 0} (items : List (Named C)) (i : ℕ) (n : Named C) → slice_get items i ≡ Some n → slice_get (map pair items) i ≡ Some (pair n)
pair_at items i n e = slice_get-map pair items i ∙ ap (option_map pair) e

pub place_paired : {C : Type 0} (items : List (Named C)) (in_place : Option ℕ) (name : List ℕ) (place : Option ℕ) → place ≡ position (λ n. same_bytes n.name name) items → place_in (map pair items, in_place) name ≡ place
place_paired items in_place name place e = position_map pair (λ r. same_bytes r.0 name) items ∙ sym e

pub none_paired : {C : Type 0} (items : List (Named C)) (i : ℕ) → slice_get items i ≡ None → slice_get (map pair items) i ≡ None
none_paired items i e = slice_get-map pair items i ∙ ap (option_map pair) e
