-- One command to one replica alone.
use Rattle.std.proofs.Common.{◌≡◌, refl, sym, ap, subst, ◌∙◌, ℕ, Bool, true, false, List, [], ◌∷◌, map, Option, Some, slice_get}
use Rattle.std.specs.List.{AllByRecursion}
use Rattle.cr_guard.specs.declared.event.Event.{Event}
use Rattle.cr_guard.specs.declared.policy.PolicyRule.{PolicyRule}
use Rattle.cr_guard.specs.Policy.{Rules, with_rule, wants_memory}
use Rattle.cr_world.specs.declared.command.Command.{Command}
use Rattle.cr_world.specs.declared.command.Command.TheVariants.{Open, Use, Define, Take, Rows, Changes, Pull, PullSince, Policy, Sql}
use Rattle.cr_world.specs.declared.command.FleetReply.{FleetReply}
use Rattle.cr_world.specs.declared.command.FleetReply.TheVariants.{Done, Refused}
use Rattle.cr_world.specs.declared.refusal.Refusal.TheVariants.{Memory, NoReplica}
use Rattle.cr_tree.specs.declared.statement.Statement.{Statement}
use Rattle.cr_world.specs.Language.{Language}
use Rattle.cr_world.specs.State.{State}
use Rattle.cr_world.specs.Statement.{Host}
use Rattle.cr_world.specs.World.{World, Member, Keeps, Closures, host_of, changed_at, changed_in_use, item_at, used}
use Rattle.cr_world.specs.Answers.{Answers, after, tells_want}
use Rattle.cr_world.specs.Run.{Run, world_after}
use Rattle.cr_script.specs.Speaking.{host_under}
use Rattle.cr_session.specs.Hearing.{HearsOwn}
use Rattle.cr_session.specs.Sessions.{Does, OwnAnswers, own_after, is_own}
use Rattle.cr_fleet.specs.Hearing.{HearsCommand, HearsRun}
use Rattle.cr_fleet.proofs.Hearing.{own_heard}
use Rattle.cr_fleet.proofs.Stepping.{own_answers, own_leaves, own_keeps}
use Rattle.cr_served.specs.Alone.{wants_others, unless, IsRefused, ShowsAlone, RanAlone}
use Rattle.cr_served.specs.AloneLaws.{alone_ran_where}

own_wants_none : (c : Command) → is_own c ≡ true → wants_others c ≡ false
own_wants_none (Define declaration) o = refl
own_wants_none (Take row) o = refl
own_wants_none (Rows name) o = refl
own_wants_none (Changes n) o = refl
own_wants_none (Sql text) o = refl
own_wants_none (Policy rule) o = refl
own_wants_none (Open name site) o = absurd (let q : false ≡ true = o in cc)
own_wants_none (Use name) o = absurd (let q : false ≡ true = o in cc)
own_wants_none (Pull name) o = absurd (let q : false ≡ true = o in cc)
own_wants_none (PullSince name) o = absurd (let q : false ≡ true = o in cc)

-- the only member of a world
only : (ms : List Member) (st : State) → map (λ m. m.state) ms ≡ st ∷ [] → (m : Member) × (ms ≡ m ∷ []) × (m.state ≡ st)
only [] st e = absurd (let q : [] ≡ st ∷ [] = e in cc)
only (m ∷ []) st e = (m, refl, (let q : m.state ∷ [] ≡ st ∷ [] = e in cc))
only (m ∷ n ∷ ms) st e = absurd (let q : m.state ∷ n.state ∷ map (λ x. x.state) ms ≡ st ∷ [] = e in cc)

module _ {E C G : Type 0} (rules : G → Rules) (hears : G → G → List Event → Type 0) (l : Language Statement E) (k : Closures) (is_honest is_clean : C → Type 0) (stands : C → State) where
  abbrev Becomes : C × G → C × G → List Command → List FleetReply → Type 0
  Becomes = RanAlone rules hears l k is_honest is_clean stands

  -- a command that wants others is refused, and changes nothing
  pub others_refused : (s : C) (g : G) (c : Command) → wants_others c ≡ true → Becomes (s, g) (s, g) (c ∷ []) (Refused NoReplica ∷ [])
  others_refused s g c wants = alone_ran_where rules hears l k is_honest is_clean stands (s, g) (s, g) (c ∷ []) (Refused NoReplica ∷ [])
      (subst (λ (b : Bool). IsRefused b (Refused NoReplica)) (sym wants) refl, tt) (λ honest. honest) (λ clean. clean) (λ honest clean answered. clean)
      (λ clean w h. subst (λ (b : Bool). Run l k w (unless b c []) (unless b (Refused NoReplica) []) × ShowsAlone stands (world_after l k w (unless b c []) (unless b (Refused NoReplica) [])) (rules g) s
      × HearsRun l k hears g w (unless b c []) (unless b (Refused NoReplica) []) g) (sym wants) (h.keep, h, refl))

  -- one that wants none is answered
  ran_one : (s0 s1 : C) (g h : G) (c : Command) (r : FleetReply) → wants_others c ≡ false → (is_honest s1 → is_honest s0) → (is_clean s1 → is_clean s0) → (is_honest s1 → is_clean s0 → tells_want r ≡ false → is_clean s1)
      → (is_clean s1 → (w : World) → ShowsAlone stands w (rules g) s0 → Answers l k w c r × ShowsAlone stands (after l k w c r) (rules h) s1 × HearsCommand l k hears g w c r h) → Becomes (s0, g) (s1, h) (c ∷ []) (r ∷ [])
  ran_one s0 s1 g h c r wants honest was stays step = alone_ran_where rules hears l k is_honest is_clean stands (s0, g) (s1, h) (c ∷ []) (r ∷ [])
      (subst (λ (b : Bool). IsRefused b r) (sym wants) tt, tt) honest was (λ is clean answered. stays is clean answered.0)
      (λ clean w shows.
      let t = step clean w shows in
      subst (λ (b : Bool). Run l k w (unless b c []) (unless b r []) × ShowsAlone stands (world_after l k w (unless b c []) (unless b r [])) (rules h) s1 × HearsRun l k hears g w (unless b c []) (unless b r []) h) (sym wants)
      ((shows.keep, t.0, t.1.keep), t.1, (h, t.2, refl)))

  pub rule_set : (s : C) (g h : G) (rule : PolicyRule) → rules h ≡ with_rule rule (rules g) → hears g h [] → Becomes (s, g) (s, h) (Policy rule ∷ []) (Done ∷ [])
  rule_set s g h rule e heard = ran_one s s g h (Policy rule) Done refl (λ honest. honest) (λ clean. clean) (λ honest clean told. clean)
      (λ clean w shows. (tt, record { members = shows.members; in_use = shows.in_use; rules = ap (with_rule rule) shows.rules ∙ sym e; keep = shows.keep }, heard))

  pub rule_refused : (s : C) (g h : G) (rule : PolicyRule) → wants_memory rule ≡ true → rules h ≡ rules g → hears g h [] → Becomes (s, g) (s, h) (Policy rule ∷ []) (Refused Memory ∷ [])
  rule_refused s g h rule wants e heard = ran_one s s g h (Policy rule) (Refused Memory) refl (λ honest. honest) (λ clean. clean) (λ honest clean told. clean)
      (λ clean w shows. ((wants, refl), record { members = shows.members; in_use = shows.in_use; rules = shows.rules ∙ sym e; keep = shows.keep }, heard))

  -- a command that the replica carries out by itself, which leaves the rules as they are
  pub own_ran : (s0 s1 : C) (g h : G) (c : Command) (r : FleetReply) → rules h ≡ rules g → is_own c ≡ true → Does l (host_under k (rules g)) is_honest is_clean stands s0 c r s1
      → (is_clean s1 → HearsOwn hears l (host_under k (rules g)) g (stands s0) c r (stands s1) h) → Becomes (s0, g) (s1, h) (c ∷ []) (r ∷ [])
  own_ran s0 s1 g h c r same own d heard = ran_one s0 s1 g h c r (own_wants_none c own) d.was_honest d.was_clean d.stays_clean
      (λ clean w shows.
      let t = only w.members (stands s0) shows.members in
      let m = t.0 in
      let used_is : used w ≡ Some m = ap (λ (o : Option ℕ). item_at o w.members) shows.in_use ∙ ap (λ (ms : List Member). slice_get ms 0) t.1 in
      let e : Does l (host_of k w) is_honest is_clean stands s0 c r s1 = subst (λ (x : Rules). Does l (host_under k x) is_honest is_clean stands s0 c r s1) (sym shows.rules) d in
      let keeps : Keeps m = (subst (λ (ms : List Member). AllByRecursion Keeps ms) t.1 shows.keep).0 in
      let f : Member → Member = own_after l (host_of k w) c r in
      let left : (f m).state ≡ stands s1 = e.leaves clean m t.2 in
      let after_is : after l k w c r ≡ record w { members = f m ∷ [] } = own_leaves l k w c r own ∙ ap (λ (o : Option ℕ). record w { members = changed_in_use o f w.members }) shows.in_use ∙ ap (λ (ms : List Member). record w { members = changed_at 0 f ms }) t.1 in (
        own_answers l k w c r m used_is (subst (λ (st : State). OwnAnswers l (host_of k w) st c r) (sym t.2) (e.answers clean)),
        subst (λ (v : World). ShowsAlone stands v (rules h) s1) (sym after_is) (record {
          members = ap (λ (st : State). st ∷ []) left;
          in_use = shows.in_use;
          rules = shows.rules ∙ sym same;
          keep = (own_keeps l (host_of k w) c r m keeps, tt);
        }),
        own_heard l k hears w c m g h r used_is own
            (subst (λ (p : Host × State × State). HearsOwn hears l p.0 g p.1 c r p.2 h) (λ i. (host_under k (sym shows.rules i), sym t.2 i, sym left i)) (heard clean)),
      ))
