-- Pulls by a call: what was read of the peer is taken, or nothing is changed.
use Rattle.std.proofs.Common.{◌≡◌, Bool, false, is_some, List, Option, Some, None, Result, Ok, Err, inl, inr, refl, sym, ap, subst, ◌∙◌}
use Rattle.cr_lattice.specs.declared.change.Change.{Change}
use Rattle.cr_cells.specs.declared.store.CellsError.{CellsError}
use Rattle.cr_cells.specs.Calls as calls
use Rattle.cr_cells.specs.Calls.{IsRefusal}
use Rattle.cr_cells.specs.Holding.{Holding}
use Rattle.cr_cells.specs.Marks.{Mark}
use Rattle.cr_world.specs.declared.refusal.Refusal.{Refusal}
use Rattle.cr_world.specs.Refusals.{is_want, of_store}
use Rattle.cr_world.specs.Causes.{IsWant}
use Rattle.cr_world.specs.State.{State}
use Rattle.cr_world.specs.Statement.{Host}
use Rattle.cr_world.specs.Takings.{at_once, take_cause, taking, taking_cause}
use Rattle.cr_session.specs.Sessions.{AllOrNone, PullsUnless, SessionOf, TakenUnless, TakesAll, standing, state_of}
use Rattle.cr_session.proofs.Takings.{goes_on, stopped, want_of_store, wanted, wanting}

-- a reading left a session where it stood
pub record Stays {C : Type 0} (is_honest is_clean : C → Type 0) (stands : C → State) (old new : C) : Type 0 where
  pub was_honest : is_honest new → is_honest old
  pub was_clean : is_clean new → is_clean old
  pub lasts : is_honest new → is_clean old → is_clean new
  pub same : is_clean new → stands new ≡ stands old

-- the same of a reading that failed
pub record StaysUnless {C : Type 0} (is_honest is_clean : C → Type 0) (stands : C → State) (e : CellsError) (old new : C) : Type 0 where
  pub was_honest : is_honest new → is_honest old
  pub was_clean : is_clean new → is_clean old
  pub lasts : is_honest new → is_clean old → calls.is_want e ≡ false → is_clean new
  pub same : is_clean new → stands new ≡ stands old
  pub refusal : is_clean new → IsRefusal e

pub stays_here : {C : Type 0} (is_honest is_clean : C → Type 0) (stands : C → State) (s : C) → Stays is_honest is_clean stands s s
stays_here is_honest is_clean stands s = record { was_honest = λ h. h; was_clean = λ c. c; lasts = λ h c. c; same = λ c. refl }

-- the store holds what it held, and the open transaction is as it was
pub stands_still : {C : Type 0} (holding : C → Holding) (old new : SessionOf C) → holding new.0 ≡ holding old.0 → new.1 ≡ old.1 → standing holding new ≡ standing holding old
stands_still holding old new e p = λ i. state_of (e i) (p i)

module _ {C D : Type 0} (host : Host) (is_marked : Bool) (more : State → Holding → List Change) (first mark : Holding → Option Mark)
    (is_honest is_clean : C → Type 0) (stands : C → State) (peer_honest peer_clean : D → Type 0) (peer_stands : D → State) (old : C) (peer : D) where
  abbrev from : Holding
  from = (peer_stands peer).holding

  abbrev Pulls : Result (Unit {0}) Refusal → C → D → Type 0
  Pulls result new peer_new =
      PullsUnless host is_marked is_honest is_clean stands peer_honest peer_clean peer_stands (λ st h. take_cause host st (more st h) (first h)) more mark old peer result new peer_new

  -- nothing was read
  pub pull_stopped : (r : Refusal) → (is_clean old → peer_clean peer → at_once (stands old) (first from) ≡ Some r) → Pulls (Err r) old peer
  pull_stopped r told = record {
    device = record { was_honest = λ h. h; was_clean = λ c. c; stays_clean = λ h c w. c };
    peer_device = record { was_honest = λ h. h; was_clean = λ c. c; stays_clean = λ h c w. c };
    peer_same = λ c. refl;
    takes = λ c d. stopped host (stands old) (first from) (more (stands old) from) (mark from) r (told c d);
    all_or_none = λ c. refl;
    not_both = inl (λ h c. c);
  }

  -- this replica's store failed
  pub pull_unread : (e : CellsError) (new : C) → StaysUnless is_honest is_clean stands e old new → Pulls (Err (of_store e)) new peer
  pull_unread e new s = record {
    device = record { was_honest = s.was_honest; was_clean = s.was_clean; stays_clean = λ h c w. s.lasts h c (sym (want_of_store e) ∙ w) };
    peer_device = record { was_honest = λ h. h; was_clean = λ c. c; stays_clean = λ h c w. c };
    peer_same = λ c. refl;
    takes = λ c d. wanted host (stands old) (first from) (more (stands old) from) (mark from) (of_store e) (stands new) (s.same c) (wanting e (s.refusal c));
    all_or_none = s.same;
    not_both = inr (λ h c. c);
  }

  module _ (mid : C) (s : Stays is_honest is_clean stands old mid) where
    -- the peer's store failed
    pub pull_unsent : (e : CellsError) (peer_new : D) → StaysUnless peer_honest peer_clean peer_stands e peer peer_new → Pulls (Err (of_store e)) mid peer_new
    pull_unsent e peer_new t = record {
      device = record { was_honest = s.was_honest; was_clean = s.was_clean; stays_clean = λ h c w. s.lasts h c };
      peer_device = record { was_honest = t.was_honest; was_clean = t.was_clean; stays_clean = λ h c w. t.lasts h c (sym (want_of_store e) ∙ w) };
      peer_same = t.same;
      takes = λ c d. wanted host (stands old) (first from) (more (stands old) from) (mark from) (of_store e) (stands mid) (s.same c) (wanting e (t.refusal d));
      all_or_none = s.same;
      not_both = inl s.lasts;
    }

    module _ (peer_new : D) (t : Stays peer_honest peer_clean peer_stands peer peer_new) where
      -- what it sent is not taken, for want
      pub pull_untaken : (r : Refusal) → IsWant r → Pulls (Err r) mid peer_new
      pull_untaken r w = record {
        device = record { was_honest = s.was_honest; was_clean = s.was_clean; stays_clean = λ h c u. s.lasts h c };
        peer_device = record { was_honest = t.was_honest; was_clean = t.was_clean; stays_clean = λ h c u. t.lasts h c };
        peer_same = t.same;
        takes = λ c d. wanted host (stands old) (first from) (more (stands old) from) (mark from) r (stands mid) (s.same c) w;
        all_or_none = s.same;
        not_both = inl s.lasts;
      }

      moved : (st : State) (changes : List Change) (m : Option Mark) (result : Result (Unit {0}) Refusal) (new : State) → st ≡ stands old → changes ≡ more (stands old) from → m ≡ mark from
          → TakenUnless (taking_cause host st changes) st changes m result new → TakenUnless (taking_cause host (stands old) (more (stands old) from)) (stands old) (more (stands old) from) (mark from) result new
      moved st changes m result new e f k = subst (λ (x : State × List Change × Option Mark). TakenUnless (taking_cause host x.0 x.1) x.0 x.1 x.2 result new) (λ i. (e i, f i, k i))

      -- what it sent is taken
      pub pull_taken : (is_clean old → peer_clean peer → at_once (stands old) (first from) ≡ None) → (changes : List Change) (m : Option Mark)
          → (is_clean mid → peer_clean peer_new → changes ≡ more (stands old) from) → (peer_clean peer_new → m ≡ mark from)
          → (is_clean old → at_once (stands old) m ≡ None) → is_some m ≡ is_marked
          → (result : Result (Unit {0}) Refusal) (new : C) → TakesAll host is_honest is_clean stands mid changes m result new → Pulls result new peer_new
      pull_taken free changes m sent marked alone marks result new k = record {
        device = record { was_honest = λ h. s.was_honest (k.device.was_honest h); was_clean = λ c. s.was_clean (k.device.was_clean c); stays_clean = λ h c. k.device.stays_clean h (s.lasts (k.device.was_honest h) c) };
        peer_device = record { was_honest = t.was_honest; was_clean = t.was_clean; stays_clean = lasting result };
        peer_same = t.same;
        takes = λ c d.
            let was = k.device.was_clean c in
            goes_on host (stands old) (first from) (more (stands old) from) (mark from) result (stands new) (free (s.was_clean was) (t.was_clean d))
            (moved (stands mid) changes m result (stands new) (s.same was) (sent was d) (marked d) (k.takes c));
        all_or_none = λ c. (let was = k.device.was_clean c in whole result (stands new) (alone (s.was_clean was)) (s.same was) (k.takes c));
        not_both = inr t.lasts;
      } where
        told : (result : Result (Unit {0}) Refusal) (new : State) → TakenUnless (take_cause host (stands old) changes m) (stands old) changes m result new → AllOrNone host is_marked (stands old) result new
        told (Ok u) new x = (changes, m, marks, x.0, x.1)
        told (Err r) new x = x.1

        whole : (result : Result (Unit {0}) Refusal) (new : State) → at_once (stands old) m ≡ None → stands mid ≡ stands old → TakenUnless (taking_cause host (stands mid) changes) (stands mid) changes m result new
            → AllOrNone host is_marked (stands old) result new
        whole result new free e x =
            told result new (goes_on host (stands old) m changes m result new free (subst (λ (st : State). TakenUnless (taking_cause host st changes) st changes m result new) e x))

        lasting : (result : Result (Unit {0}) Refusal) → peer_honest peer_new → peer_clean peer → calls.UnlessWant is_want result (peer_clean peer_new)
        lasting (Ok u) h c = t.lasts h c
        lasting (Err r) h c = λ w. t.lasts h c
