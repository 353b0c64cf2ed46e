-- Takings: what the two steps of a replica mean for a session.
use Rattle.std.proofs.Common.{◌≡◌, ◌⊎◌, inl, inr, ℕ, ℤ, Bool, true, false, List, [], ◌∷◌, Option, Some, None, Result, Ok, Err, refl, sym, ap, subst, ◌∙◌}
use Rattle.std.specs.Prelude.{is_some, if◌then◌else◌}
use Rattle.std.specs.Option.{option_map}
use Rattle.cr_lattice.specs.declared.change.Change.{Change}
use Rattle.cr_lattice.specs.declared.check.BadChange.{BadChange}
use Rattle.cr_lattice.specs.Check.{same_bytes}
use Rattle.cr_cells.specs.declared.store.CellsError.{CellsError}
use Rattle.cr_cells.specs.declared.store.CellsError.TheVariants as cells
use Rattle.cr_cells.specs.Calls as calls
use Rattle.cr_cells.specs.Calls.{IsRefusal, is_past_limit}
use Rattle.cr_cells.specs.Commit.{newly_kept}
use Rattle.cr_cells.specs.Holding.{Holding, kept_of}
use Rattle.cr_cells.specs.Marks.{Mark}
use Rattle.cr_cells.specs.Tables.{first_fault}
use Rattle.cr_replica.specs.declared.replica.TakeError.{TakeError}
use Rattle.cr_replica.specs.declared.replica.TakeError.TheVariants as take
use Rattle.cr_replica.specs.declared.replica.Taking.{Taking}
use Rattle.cr_replica.specs.Taking as takings
use Rattle.cr_guard.specs.declared.event.Event.{Event}
use Rattle.cr_replica.specs.Taking.{IsNotTaken, IsReady, Prepares, CommitsAll}
use Rattle.cr_world.specs.declared.refusal.Refusal.{Refusal}
use Rattle.cr_world.specs.declared.refusal.Refusal.TheVariants as refusal
use Rattle.cr_world.specs.Refusals.{is_want, of_store, of_taking}
use Rattle.cr_world.specs.Causes.{Cause, Free, Is, Evaluation, Tells, IsWant, first_cause, of_option, or_else, where_true}
use Rattle.cr_world.specs.State.{State}
use Rattle.cr_world.specs.Statement.{Host}
use Rattle.cr_world.specs.Takings.{at_once, own_site, take_cause, taking, taking_cause}
use Rattle.cr_session.specs.Listening.{TellsListener}
use Rattle.cr_session.specs.Sessions.{Approves, CommitsTaking, IsCommitted, IsToldAtOnce, TakenUnless, TakesAll, TakesUnless, clean, honest, standing, state_of, unless}

pub want_of_taking : (e : TakeError) → is_want (of_taking e) ≡ takings.is_want e
want_of_taking take.Memory = refl
want_of_taking (take.Store f) = refl
want_of_taking (take.Bad b) = refl
want_of_taking take.VersionLimit = refl

pub want_of_store : (e : CellsError) → is_want (of_store e) ≡ calls.is_want e
want_of_store cells.Memory = refl
want_of_store (cells.Store f) = refl
want_of_store cells.VersionLimit = refl

-- a store's refusal of a reading is want of memory, or that it refuses
pub wanting : (e : CellsError) → IsRefusal e → IsWant (of_store e)
wanting cells.Memory p = inl refl
wanting (cells.Store f) p = inr (ap refusal.Store p)
wanting cells.VersionLimit p = absurd p

abbrev cause_by : Option BadChange → Bool → Bool → Cause
cause_by fault past vetoed = first_cause (of_option (option_map refusal.BadChange fault) ∷ where_true past refusal.VersionLimit ∷ where_true vetoed refusal.Veto ∷ [])

module _ (host : Host) (h : Holding) (pending : Option (List Change)) (more : List Change) where
  cause_is : (fault : Option BadChange) (past vetoed : Bool) → first_fault h.tables more ≡ fault → is_past_limit h more ≡ past → host.vetoes (newly_kept (kept_of h) more) ≡ vetoed
      → taking_cause host (state_of h pending) more ≡ cause_by fault past vetoed
  cause_is fault past vetoed e f g = λ i. cause_by (e i) (f i) (g i)

  tells : (c : Cause) (r : Refusal) → taking_cause host (state_of h pending) more ≡ c → Tells c r → IsWant r ⊎ Tells (taking_cause host (state_of h pending) more) r
  tells c r e t = inr (subst (λ (x : Cause). Tells x r) (sym e) t)

  pub not_prepared : (e : TakeError) → IsNotTaken h more e → IsWant (of_taking e) ⊎ Tells (taking_cause host (state_of h pending) more) (of_taking e)
  not_prepared take.Memory p = inl (inl refl)
  not_prepared (take.Store f) p = inl (inr (ap refusal.Store p))
  not_prepared (take.Bad b) p = tells _ _ (cause_is (Some b) (is_past_limit h more) (host.vetoes (newly_kept (kept_of h) more)) p refl refl) refl
  not_prepared take.VersionLimit p = tells _ _ (cause_is None true (host.vetoes (newly_kept (kept_of h) more)) p.0 p.1 refl) refl

  veto_is : (news : List Change) (b : Bool) → IsReady h more news → host.vetoes news ≡ b → taking_cause host (state_of h pending) more ≡ cause_by None false b
  veto_is news b r v = cause_is None false b r.none_bad r.within (sym (ap host.vetoes r.comes_in) ∙ v)

  pub told_veto : (news : List Change) → IsReady h more news → host.vetoes news ≡ true → IsWant refusal.Veto ⊎ Tells (taking_cause host (state_of h pending) more) refusal.Veto
  told_veto news r v = tells _ _ (veto_is news true r v) refl

-- of a store; the open transaction stays as it is
module _ {C : Type 0} (host : Host) (is_honest is_clean : C → Type 0) (holding : C → Holding) (old new : C) (pending : Option (List Change)) (more : List Change) (honests : is_honest new → is_honest old) (cleans : is_clean new → is_clean old) where
  abbrev left : Holding → State
  left h = state_of h pending

  abbrev Approved : Result Taking Refusal → Type 0
  Approved result = Approves host (honest is_honest) (clean is_clean) (standing holding) (old, pending) more result (new, pending)

  pub approve_unready : (e : TakeError) → (is_honest new → is_clean old → takings.is_want e ≡ false → is_clean new) → (is_clean new → Prepares (holding old) (holding new) more (Err e)) → Approved (Err (of_taking e))
  approve_unready e lasts p = record {
    device = record { was_honest = honests; was_clean = cleans; stays_clean = λ honest clean w. lasts honest clean (sym (want_of_taking e) ∙ w) };
    same = λ clean. ap left (p clean).0;
    approves = λ clean. not_prepared host (holding old) pending more e (p clean).1;
  }

  module _ (taking : Taking) (lasts : is_honest new → is_clean old → is_clean new) (p : is_clean new → Prepares (holding old) (holding new) more (Ok taking)) where
    pub approve_vetoed : host.vetoes taking.newly_kept ≡ true → Approved (Err refusal.Veto)
    approve_vetoed v = record {
      device = record { was_honest = honests; was_clean = cleans; stays_clean = λ honest clean w. lasts honest clean };
      same = λ clean. ap left (p clean).0;
      approves = λ clean. told_veto host (holding old) pending more taking.newly_kept (p clean).2 v;
    }

    pub approved : host.vetoes taking.newly_kept ≡ false → Approved (Ok taking)
    approved v = record {
      device = record { was_honest = honests; was_clean = cleans; stays_clean = λ honest clean. lasts honest clean };
      same = λ clean. ap left (p clean).0;
      approves = λ clean. (
        subst (λ (h : Holding). IsReady h more taking.newly_kept) (sym (p clean).0) (p clean).2,
        veto_is host (holding old) pending more taking.newly_kept false (p clean).2 v,
      );
    }

  module _ (mark : Option Mark) where
    abbrev Committed : Result (Unit {0}) Refusal → Type 0
    Committed result = CommitsTaking (honest is_honest) (clean is_clean) (standing holding) (old, pending) more mark result (new, pending)

    pub committed_all : (is_honest new → is_clean old → is_clean new) → (is_clean new → CommitsAll (holding old) (holding new) more mark (Ok tt)) → Committed (Ok tt)
    committed_all lasts c = record { device = record { was_honest = honests; was_clean = cleans; stays_clean = λ honest clean. lasts honest clean }; commits = λ clean. ap left (c clean) }

    pub commit_refused : (e : CellsError) → (is_honest new → is_clean old → calls.is_want e ≡ false → is_clean new) → (is_clean new → CommitsAll (holding old) (holding new) more mark (Err e)) → Committed (Err (of_store e))
    commit_refused e lasts c = record {
      device = record { was_honest = honests; was_clean = cleans; stays_clean = λ honest clean w. lasts honest clean (sym (want_of_store e) ∙ w) };
      commits = λ clean. (wanting e (c clean).1, ap left (c clean).0);
    }

-- ---- the steps of a taking

module _ {C : Type 0} (host : Host) (is_honest is_clean : C → Type 0) (stands : C → State) (old : C) (more : List Change) (mark : Option Mark) where
  abbrev Takes : Result (Unit {0}) Refusal → C → Type 0
  Takes result new = TakesAll host is_honest is_clean stands old more mark result new

  pub take_unapproved : (r : Refusal) (new : C) → Approves host is_honest is_clean stands old more (Err r) new → Takes (Err r) new
  take_unapproved r new a = record {
    device = record { was_honest = a.device.was_honest; was_clean = a.device.was_clean; stays_clean = a.device.stays_clean };
    takes = λ clean. (a.approves clean, a.same clean);
  }

  -- it is approved, and then the session stands where it stood
  module _ (t : Taking) (mid : C) (a : Approves host is_honest is_clean stands old more (Ok t) mid) where
    taken_by : (result : Result (Unit {0}) Refusal) (at : State) (new : State) → at ≡ stands old → taking_cause host (stands old) more ≡ Free → IsCommitted at more mark result new → TakenUnless (taking_cause host (stands old) more) (stands old) more mark result new
    taken_by (Ok u) at new e free c = (free, c ∙ ap (taking more mark) e)
    taken_by (Err r) at new e free c = (inl c.0, c.1 ∙ e)

    -- the second step follows, from where nothing has changed
    pub take_on : (here new : C) (result : Result (Unit {0}) Refusal) → (is_honest here → is_honest mid) → (is_clean here → is_clean mid) → (is_honest here → is_clean mid → is_clean here) → (is_clean here → stands here ≡ stands mid)
        → CommitsTaking is_honest is_clean stands here more mark result new → Takes result new
    take_on here new result honests cleans lasts same c = record {
      device = record { was_honest = λ honest. a.device.was_honest (honests (c.device.was_honest honest)); was_clean = λ clean. a.device.was_clean (cleans (c.device.was_clean clean)); stays_clean = λ honest clean. c.device.stays_clean honest (lasts (c.device.was_honest honest) (a.device.stays_clean (honests (c.device.was_honest honest)) clean)) };
      takes = λ clean.
          let still = c.device.was_clean clean in
          taken_by result (stands here) (stands new) (same still ∙ a.same (cleans still)) (a.approves (cleans still)).1 (c.commits clean);
    }

    pub take_quietly : (new : C) (result : Result (Unit {0}) Refusal) → CommitsTaking is_honest is_clean stands mid more mark result new → Takes result new
    take_quietly new result c = take_on mid new result (λ honest. honest) (λ clean. clean) (λ honest clean. clean) (λ clean. refl) c

    module _ (hears : List Event → Type 0) (here : C) where
      pub take_told : (new : C) (result : Result (Unit {0}) Refusal) → TellsListener is_honest is_clean stands hears mid more (Ok tt) here → CommitsTaking is_honest is_clean stands here more mark result new → Takes result new
      take_told new result t c = take_on here new result t.device.was_honest t.device.was_clean t.device.stays_clean t.same c

      pub take_untold : (r : Refusal) → TellsListener is_honest is_clean stands hears mid more (Err r) here → Takes (Err r) here
      take_untold r t = record {
        device = record { was_honest = λ honest. a.device.was_honest (t.device.was_honest honest); was_clean = λ clean. a.device.was_clean (t.device.was_clean clean); stays_clean = λ honest clean w. t.device.stays_clean honest (a.device.stays_clean (t.device.was_honest honest) clean) w };
        takes = λ clean. (inl (t.refused clean), t.same clean ∙ a.same (t.device.was_clean clean));
      }

-- ---- takings by a call

or_free_behind : (c : Cause) → or_else c Free ≡ c
or_free_behind Free = refl
or_free_behind (Is f) = refl
or_free_behind (Evaluation b) = refl

-- the causes of a taking by a call, by what is told at once
abbrev call_cause : Option Refusal → Cause → Cause
call_cause first rest = first_cause (of_option first ∷ rest ∷ [])

told_at_once : (o : Option Refusal) (rest : Cause) (r : Refusal) → o ≡ Some r → Tells (call_cause o rest) r
told_at_once o rest r e = subst (λ (o : Option Refusal). Tells (call_cause o rest) r) (sym e) refl

not_at_once : (o : Option Refusal) (rest : Cause) → o ≡ None → call_cause o rest ≡ rest
not_at_once o rest e = ap (λ (o : Option Refusal). call_cause o rest) e ∙ or_free_behind rest

pub unless_some : (o : Option Refusal) (r : Refusal) → Err r ≡ unless o → o ≡ Some r
unless_some None r e = absurd (let q : Err r ≡ Ok tt = e in cc)
unless_some (Some f) r e = cc

pub unless_none : (o : Option Refusal) (u : Unit {0}) → Ok u ≡ unless o → o ≡ None
unless_none None u e = refl
unless_none (Some f) u e = absurd (let q : Ok u ≡ Err f = e in cc)

-- what is told at once where it stands, with nothing changed
pub tells_at_once : {C : Type 0} (o : Option Refusal) (r : Refusal) (old : C) → o ≡ Some r → IsToldAtOnce o old (Err r) old
tells_at_once o r old e = subst (λ (x : Option Refusal). IsToldAtOnce x old (Err r) old) (sym e) (refl, refl)

-- and nothing is said of a call where nothing stands against it at once
pub not_told_at_once : {C : Type 0} (o : Option Refusal) (old : C) (result : Result (Unit {0}) Refusal) (new : C) → o ≡ None → IsToldAtOnce o old result new
not_told_at_once o old result new e = subst (λ (x : Option Refusal). IsToldAtOnce x old result new) (sym e) tt

abbrev opened_cause : Bool → Option Refusal → Option Refusal
opened_cause opened own = if opened then Some refusal.TransactionState else own

pub at_once_inside : (st : State) (mark : Option Mark) → is_some st.pending ≡ true → at_once st mark ≡ Some refusal.TransactionState
at_once_inside st mark e = ap (λ (b : Bool). opened_cause b (own_site st mark)) e

pub at_once_outside : (st : State) (mark : Option Mark) → is_some st.pending ≡ false → at_once st mark ≡ own_site st mark
at_once_outside st mark e = ap (λ (b : Bool). opened_cause b (own_site st mark)) e

-- what stands against no taking with a mark stands against none without
pub unmarked : (st : State) (mark : Mark) → at_once st (Some mark) ≡ None → at_once st None ≡ None
unmarked st mark e =
    elim (is_some st.pending) as (λ b. opened_cause b (own_site st (Some mark)) ≡ None → opened_cause b None ≡ None) [
      | true ↦ λ told. told
      | false ↦ λ told. refl
    ] e

abbrev own_cause : Bool → Option Refusal
own_cause own = if own then Some refusal.SameSite else None

pub own_is : (st : State) (site : List ℕ) (version : ℤ) (b : Bool) → same_bytes site st.holding.site ≡ b → own_site st (Some (site, version)) ≡ own_cause b
own_is st site version b e = ap own_cause e

-- what the first cause and the changes are that a call takes
module _ (host : Host) (st : State) (first : Option Mark) (more : List Change) (mark : Option Mark) where
  pub stopped : (r : Refusal) → at_once st first ≡ Some r → TakenUnless (take_cause host st more first) st more mark (Err r) st
  stopped r e = (inr (told_at_once (at_once st first) (taking_cause host st more) r e), refl)

  pub wanted : (r : Refusal) (new : State) → new ≡ st → IsWant r → TakenUnless (take_cause host st more first) st more mark (Err r) new
  wanted r new e w = (inl w, e)

  pub goes_on : (result : Result (Unit {0}) Refusal) (new : State) → at_once st first ≡ None → TakenUnless (taking_cause host st more) st more mark result new
      → TakenUnless (take_cause host st more first) st more mark result new
  goes_on (Ok u) new e t = (not_at_once (at_once st first) (taking_cause host st more) e ∙ t.0, t.1)
  goes_on (Err r) new e t = (subst (λ (c : Cause). IsWant r ⊎ Tells c r) (sym (not_at_once (at_once st first) (taking_cause host st more) e)) t.0, t.1)

module _ {C : Type 0} (host : Host) (is_honest is_clean : C → Type 0) (stands : C → State) (old : C) (more : List Change) (first mark : Option Mark) where
  abbrev ByCall : Result (Unit {0}) Refusal → C → Type 0
  ByCall result new = TakesUnless is_honest is_clean stands (λ st. take_cause host st more first) old more mark result new

  -- refused before the store is asked for anything
  pub call_stopped : (r : Refusal) → (is_clean old → at_once (stands old) first ≡ Some r) → ByCall (Err r) old
  call_stopped r told = record {
    device = record { was_honest = λ honest. honest; was_clean = λ clean. clean; stays_clean = λ honest clean w. clean };
    takes = λ clean. stopped host (stands old) first more mark r (told clean);
  }

  pub call_taken : (is_clean old → at_once (stands old) first ≡ None) → (result : Result (Unit {0}) Refusal) (new : C) → TakesAll host is_honest is_clean stands old more mark result new → ByCall result new
  call_taken free result new t = record {
    device = t.device;
    takes = λ clean. goes_on host (stands old) first more mark result (stands new) (free (t.device.was_clean clean)) (t.takes clean);
  }
