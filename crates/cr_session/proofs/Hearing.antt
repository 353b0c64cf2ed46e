-- What a listener has heard of changes, and what there was to hear of them once they are kept.
use Rattle.std.proofs.Common.{◌≡◌, inl, inr, List, [], ◌∷◌, ◌++◌, Option, Some, None, Result, Ok, Err, refl, sym, ap, subst, ◌∙◌}
use Rattle.std.specs.Prelude.{Bool, true, false, cond, is_some, unwrap_or, IfErr}
use Rattle.std.specs.List.{flat_map}
use Rattle.cr_value.specs.declared.value.Value.{Value}
use Rattle.cr_lattice.specs.declared.change.Change.{Change}
use Rattle.cr_lattice.specs.declared.table.Table.{Table}
use Rattle.cr_lattice.specs.Keep.{join}
use Rattle.cr_lattice.proofs.KeepLaws.{join_assoc, join_comm, join_keeps_second}
use Rattle.cr_cells.specs.Holding.{Holding, IsSound, kept_of}
use Rattle.cr_cells.specs.Marks.{Mark}
use Rattle.cr_cells.proofs.LawLemmas.{kept-committed}
use Rattle.cr_guard.specs.declared.event.Event.{Event}
use Rattle.cr_guard.specs.Run.{noted_with}
use Rattle.cr_heard.proofs.Telling.{staying_says_nothing}
use Rattle.cr_meaning.specs.View.{Ordered}
use Rattle.cr_query.specs.Query.{Row}
use Rattle.cr_scalar.specs.Host.{Host as Means}
use Rattle.cr_script.specs.Hearing.{Hears}
use Rattle.cr_script.specs.Speaking.{HasHeard, Noting}
use Rattle.cr_world.specs.declared.refusal.Refusal.{Refusal}
use Rattle.cr_world.specs.Causes.{IsWant}
use Rattle.cr_world.specs.State.{ModuleState, State, by_name, heard_between, heard_of_table, now}
use Rattle.cr_world.specs.declared.command.Reply.{Reply}
use Rattle.cr_world.specs.Resolved.{Resolved}
use Rattle.cr_world.specs.Resolved as world
use Rattle.cr_world.specs.Statement.{Host, adding, left_by, with_tables}
use Rattle.cr_world.specs.Takings.{taking}
use Rattle.cr_replica.specs.declared.replica.Taking.{Taking}
use Rattle.cr_session.specs.Listening.{IsTold, TellsListener, heard_with}
use Rattle.cr_session.specs.Performing.{Adds, AreAdded, Performs, with_limit}
use Rattle.cr_session.specs.Sessions.{Approves, CommitsTaking, IsCommitted, SessionOf, standing, state_of}

-- ---- what shows once changes are kept

swapped : (a b c : List Change) → join (join a b) c ≡ join (join a c) b
swapped a b c = join_assoc a b c ∙ ap (join a) (join_comm b c) ∙ sym (join_assoc a c b)

now_taken : (h : Holding) (pending : Option (List Change)) (more : List Change) (mark : Option Mark) → IsSound h → now (taking more mark (state_of h pending)) ≡ join (now (state_of h pending)) more
unfolding now
now_taken h None more mark sound = kept-committed h more mark sound.kept
now_taken h (Some p) more mark sound = ap (λ (k : List Change). join k p) (kept-committed h more mark sound.kept) ∙ swapped (kept_of h) more p

now_added : (h : Holding) (pending : Option (List Change)) (more : List Change) → IsSound h → now (adding more (state_of h pending)) ≡ join (now (state_of h pending)) more
unfolding now
now_added h None more sound = kept-committed h more None sound.kept
now_added h (Some p) more sound = sym (join_assoc (kept_of h) p more ∙ join_keeps_second (kept_of h) (p ++ more))

-- what there is to hear, by what shows then
heard_then : (old new : State) (kept : List Change) → now new ≡ kept → heard_between old new ≡ flat_map (heard_of_table (now old) kept) (by_name old.holding.tables)
heard_then old new kept e = ap (λ (k : List Change). flat_map (heard_of_table (now old) k) (by_name old.holding.tables)) e

-- statements that change no row
abbrev pub is_quiet : Resolved Ordered → Bool
is_quiet (world.Select names q) = true
is_quiet (world.Mark t is_ignored) = true
is_quiet (world.Create def is_there) = true
is_quiet (world.Alter t col) = true
is_quiet (world.Insert t w) = false
is_quiet (world.Update t w) = false
is_quiet (world.Delete t w) = false
is_quiet world.Begin = false
is_quiet world.Commit = false
is_quiet world.Rollback = false

now_tables : (ts : List Table) (st : State) → now (with_tables ts st) ≡ now st
unfolding now
now_tables ts st = refl

now_unless : (b : Bool) (ts : List Table) (st : State) → now (cond b st (with_tables ts st)) ≡ now st
now_unless true ts st = refl
now_unless false ts st = now_tables ts st

pub now_left : (st : State) (x : Resolved Ordered) (rows : List Row) (ms : List ModuleState) → is_quiet x ≡ true → now (left_by st x rows ms) ≡ now st
now_left st (world.Select names q) rows ms e = refl
now_left st (world.Mark t is_ignored) rows ms e = now_unless is_ignored _ st
now_left st (world.Create def is_there) rows ms e = now_unless is_there _ st
now_left st (world.Alter t col) rows ms e = now_tables _ st
now_left st (world.Insert t w) rows ms e = absurd (let z : ⊥ = cc in z)
now_left st (world.Update t w) rows ms e = absurd (let z : ⊥ = cc in z)
now_left st (world.Delete t w) rows ms e = absurd (let z : ⊥ = cc in z)
now_left st world.Begin rows ms e = absurd (let z : ⊥ = cc in z)
now_left st world.Commit rows ms e = absurd (let z : ⊥ = cc in z)
now_left st world.Rollback rows ms e = absurd (let z : ⊥ = cc in z)

-- where what shows stays as it was, there is nothing to hear
pub unheard_same : (old new : State) → now new ≡ now old → heard_between old new ≡ []
unheard_same old new e = heard_then old new (now old) e ∙ staying_says_nothing old.holding.tables (now old)

-- ---- who hears nothing

none_noted : (noting : Noting) (o : Option (List Event)) → is_some o ≡ false → (events : List Event) → o ≡ noted_with noting o events
none_noted noting None e [] = refl
none_noted noting None e (x ∷ xs) = refl
none_noted noting (Some l) e events = absurd (let z : ⊥ = cc in z)

-- nobody listens
pub nobody_hears : {G : Type 0} (noted : G → Option (List Event)) (noting : G → Noting) (g : G) → is_some (noted g) ≡ false → (events : List Event) → HasHeard noted noting g g events
nobody_hears noted noting g e events = (none_noted (noting g) (noted g) e events, refl)

module _ (hears : List Event → Type 0) where
  -- nothing is heard where what shows stays as it was
  pub hears_nothing : {T : Type 0} (old new : State) (result : Result T Refusal) → now new ≡ now old → hears [] → Hears hears (heard_between old new) result
  hears_nothing old new (Ok x) e h = subst hears (sym (unheard_same old new e)) h
  hears_nothing old new (Err r) e h = inr h

  -- what is heard from a state that is the same
  pub hears_from : {T : Type 0} (old mid new : State) (result : Result T Refusal) → mid ≡ old → Hears hears (heard_between mid new) result → Hears hears (heard_between old new) result
  hears_from old mid new result e h = subst (λ (st : State). Hears hears (heard_between st new) result) e h

  -- ---- statements

  -- one that changes no row
  pub hears_quiet : (means : Means) (params : List Value) (host : Host) (st : State) (x : Resolved Ordered) (result : Result Reply Refusal) (new : State) → is_quiet x ≡ true → Performs means params host st x result new → hears []
      → Hears hears (heard_between st new) result
  hears_quiet means params host st x (Ok reply) new e p h = hears_nothing st new (Ok reply) (ap now p.1.1 ∙ now_left st x (unwrap_or (with_limit means params host st x) []) [] e) h
  hears_quiet means params host st x (Err r) new e p h = inr h

  -- ---- what was told is what there was to hear

  told_is : (st : State) (more : List Change) (events : List Event) → (IsSound st.holding → events ≡ heard_with st more) → IsTold hears st more (Ok tt) → hears events
  told_is st more events e (inl all) = all events
  told_is st more events e (inr t) = subst hears (sym (e t.0)) t.1

  pub hears_taken : (h : Holding) (pending : Option (List Change)) (more : List Change) (mark : Option Mark) (here new : State) (result : Result (Unit {0}) Refusal) → here ≡ state_of h pending
      → IsTold hears (state_of h pending) more (Ok tt) → IsCommitted here more mark result new → Hears hears (heard_between (state_of h pending) new) result
  hears_taken h pending more mark here new (Ok u) same told c =
      told_is (state_of h pending) more _ (λ sound. heard_then (state_of h pending) new _ (ap now (c ∙ ap (taking more mark) same) ∙ now_taken h pending more mark sound)) told
  hears_taken h pending more mark here new (Err r) same told c = inl c.0

  pub hears_added : (h : Holding) (pending : Option (List Change)) (more : List Change) (new : State) → new ≡ adding more (state_of h pending)
      → IsTold hears (state_of h pending) more (Ok tt) → hears (heard_between (state_of h pending) new)
  hears_added h pending more new c told =
      told_is (state_of h pending) more _ (λ sound. heard_then (state_of h pending) new _ (ap now c ∙ now_added h pending more sound)) told

-- ---- the calls of a session

module _ {C : Type 0} (host : Host) (is_honest is_clean : SessionOf C → Type 0) (holding : C → Holding) (hears : List Event → Type 0) (old here new : SessionOf C) (more : List Change) where
  -- a taking that was told of, whatever came of its commit
  pub hears_take : (mid : SessionOf C) (mark : Option Mark) (t : Taking) (changes : List Change) (result : Result (Unit {0}) Refusal) → Approves host is_honest is_clean (standing holding) old more (Ok t) mid
      → TellsListener is_honest is_clean (standing holding) hears mid more (Ok tt) here → CommitsTaking is_honest is_clean (standing holding) here changes mark result new → changes ≡ more → is_clean new
      → Hears hears (heard_between (standing holding old) (standing holding new)) result
  hears_take mid mark t changes result a told c e clean =
      let at_here = c.device.was_clean clean in
      let at_mid = told.device.was_clean at_here in
      hears_taken hears (holding old.0) old.1 more mark (standing holding here) (standing holding new) result (told.same at_here ∙ a.same at_mid)
      (subst (λ (st : State). IsTold hears st more (Ok tt)) (a.same at_mid) (told.told at_here))
      (subst (λ (cs : List Change). IsCommitted (standing holding here) cs mark result (standing holding new)) e (c.commits clean))

  -- changes that were told of are kept from where nothing has changed
  pub adds_on : (result : Result Reply Refusal) → TellsListener is_honest is_clean (standing holding) hears old more (Ok tt) here → Adds host is_honest is_clean (standing holding) here more result new
      → Adds host is_honest is_clean (standing holding) old more result new
  adds_on result told a = record {
    device = record { was_honest = λ honest. told.device.was_honest (a.device.was_honest honest); was_clean = λ clean. told.device.was_clean (a.device.was_clean clean); stays_clean = λ honest clean. a.device.stays_clean honest (told.device.stays_clean (a.device.was_honest honest) clean) };
    adds = λ clean. subst (λ (st : State). AreAdded host st more result (standing holding new)) (told.same (a.device.was_clean clean)) (a.adds clean);
  }

  pub hears_add : (result : Result Reply Refusal) → TellsListener is_honest is_clean (standing holding) hears old more (Ok tt) here → Adds host is_honest is_clean (standing holding) here more result new → IfErr result IsWant → is_clean new
      → Hears hears (heard_between (standing holding old) (standing holding new)) result
  hears_add (Ok reply) told a w clean =
      hears_added hears (holding old.0) old.1 more (standing holding new) ((a.adds clean).1.1 ∙ ap (adding more) (told.same (a.device.was_clean clean))) (told.told (a.device.was_clean clean))
  hears_add (Err r) told a w clean = inl w
