-- What a session finds that there is to hear of changes, key by key, and tells.
use Rattle.std.proofs.Common.{◌≡◌, inl, inr, true, false, List, [], ◌∷◌, Option, Ok, Err, sym, ap, subst, ◌∙◌, append-nil}
use Rattle.std.specs.Option.{ForSome}
use Rattle.cr_lattice.specs.declared.change.Change.{Change}
use Rattle.cr_lattice.specs.declared.table.Table.{Table}
use Rattle.cr_cells.specs.declared.store.CellsError.{CellsError}
use Rattle.cr_cells.specs.Calls as calls
use Rattle.cr_cells.specs.Calls.{IsRefusal}
use Rattle.cr_cells.specs.Holding.{Holding, IsSound}
use Rattle.cr_cells.specs.Tables.{AreWellFormed}
use Rattle.cr_guard.specs.declared.event.Event.{Event}
use Rattle.cr_heard.specs.declared.touched.Touched.{Touched}
use Rattle.cr_heard.specs.Touched.{heard_of_keys, heard_of_touched, touched}
use Rattle.cr_heard.proofs.Telling.{touched_keys_tell_all}
use Rattle.cr_taken.specs.Taken.{AreKept}
use Rattle.cr_touched.specs.Parts.{is_key_of, part}
use Rattle.cr_world.specs.declared.refusal.Refusal.{Refusal}
use Rattle.cr_world.specs.Refusals.{is_want, of_store}
use Rattle.cr_world.specs.Causes.{IsWant}
use Rattle.cr_world.specs.State.{State, now}
use Rattle.cr_session.specs.Listening.{FindsEvents, IsTold, TellsListener, heard_with}
use Rattle.cr_session.specs.Sessions.{SessionOf, standing, state_of}
use Rattle.cr_session.proofs.Seeing.{now_kept}
use Rattle.cr_session.proofs.Takings.{want_of_store, wanting}

-- what is told of a want, is want
wants_so : (r : Refusal) → IsWant r → is_want r ≡ true
wants_so r (inl e) = ap is_want e
wants_so r (inr e) = ap is_want e

-- a want stays one
never : {P : Type 0} (r : Refusal) → IsWant r → is_want r ≡ false → P
never r w e = absurd (let q : true ≡ false = sym (wants_so r w) ∙ e in let z : ⊥ = cc in z)

module _ {C : Type 0} (is_honest is_clean : C → Type 0) (stands : C → State) (old new : C) (more : List Change) (honests : is_honest new → is_honest old) (cleans : is_clean new → is_clean old) (same : is_clean new → stands new ≡ stands old) where
  module _ {T : Type 0} (events : T → List Event) (ts : List Touched) where
    -- what can't be read
    pub unread : (e : CellsError) → (is_honest new → is_clean old → calls.is_want e ≡ false → is_clean new) → (is_clean new → IsRefusal e) → FindsEvents events is_honest is_clean stands old ts more (Err (of_store e)) new
    unread e lasts is = record {
      device = record { was_honest = honests; was_clean = cleans; stays_clean = λ honest clean w. lasts honest clean (sym (want_of_store e) ∙ w) };
      same = same;
      refused = λ clean. wanting e (is clean);
      finds = λ clean. tt;
    }

    -- what there is no memory for, or what isn't as it was a moment ago
    pub unfound : (r : Refusal) → IsWant r → FindsEvents events is_honest is_clean stands old ts more (Err r) new
    unfound r w = record {
      device = record { was_honest = honests; was_clean = cleans; stays_clean = λ honest clean. never r w };
      same = same;
      refused = λ clean. w;
      finds = λ clean. tt;
    }

    pub found : (v : T) → (is_honest new → is_clean old → is_clean new) → (is_clean new → events v ≡ heard_of_touched (now (stands old)) more ts) → FindsEvents events is_honest is_clean stands old ts more (Ok v) new
    found v lasts is = record { device = record { was_honest = honests; was_clean = cleans; stays_clean = λ honest clean. lasts honest clean }; same = same; refused = λ clean. tt; finds = is }

  -- of one table
  pub found_keys : {T : Type 0} (events : T → List Event) (t : Touched) (kept : List Change) (v : T) → (is_honest new → is_clean old → is_clean new)
      → (is_clean new → kept ≡ part t.definition.name (is_key_of t.keys) (now (stands old))) → events v ≡ heard_of_keys kept more t → FindsEvents events is_honest is_clean stands old (t ∷ []) more (Ok v) new
  found_keys events t kept v lasts is e = found events (t ∷ []) v lasts
      (λ clean. e ∙ ap (λ (k : List Change). heard_of_keys k more t) (is clean) ∙ sym (append-nil (heard_of_keys (part t.definition.name (is_key_of t.keys) (now (stands old))) more t)))

  -- ---- a telling

  module _ (hears : List Event → Type 0) where
    pub untold : (r : Refusal) → IsWant r → hears [] → TellsListener is_honest is_clean stands hears old more (Err r) new
    untold r w none = record {
      device = record { was_honest = honests; was_clean = cleans; stays_clean = λ honest clean. never r w };
      same = same;
      refused = λ clean. w;
      told = λ clean. none;
    }

    pub told_of_store : (e : CellsError) → (is_honest new → is_clean old → calls.is_want e ≡ false → is_clean new) → (is_clean new → IsRefusal e) → hears [] → TellsListener is_honest is_clean stands hears old more (Err (of_store e)) new
    told_of_store e lasts is none = record {
      device = record { was_honest = honests; was_clean = cleans; stays_clean = λ honest clean w. lasts honest clean (sym (want_of_store e) ∙ w) };
      same = same;
      refused = λ clean. wanting e (is clean);
      told = λ clean. none;
    }

    pub told_all : (is_honest new → is_clean old → is_clean new) → (is_clean new → IsTold hears (stands old) more (Ok tt)) → TellsListener is_honest is_clean stands hears old more (Ok tt) new
    told_all lasts told = record { device = record { was_honest = honests; was_clean = cleans; stays_clean = λ honest clean. lasts honest clean }; same = same; refused = λ clean. tt; told = told }

-- what the touched keys tell is all that there is to hear
pub tell_all : (h : Holding) (pending : Option (List Change)) (tables : List Table) (more : List Change) → IsSound h → tables ≡ h.tables → ForSome pending (AreWellFormed tables) → AreWellFormed tables more
    → heard_of_touched (now (state_of h pending)) more (touched tables more) ≡ heard_with (state_of h pending) more
tell_all h pending tables more sound e fit good =
    let kept : AreKept h.tables (now (state_of h pending)) = now_kept h pending sound (subst (λ (ts : List Table). ForSome pending (AreWellFormed ts)) e fit) in
    ap (λ (ts : List Table). heard_of_touched (now (state_of h pending)) more (touched ts more)) e
    ∙ touched_keys_tell_all h.tables (now (state_of h pending)) more sound.names sound.stored kept.unbeaten kept.well_formed (subst (λ (ts : List Table). AreWellFormed ts more) e good)

-- so all is told, where a session stands as before
pub all_told : {C : Type 0} (holding : C → Holding) (hears : List Event → Type 0) (old mid : SessionOf C) (tables : List Table) (more : List Change) (ts : List Touched) (events : List Event) → IsSound (holding mid.0) → standing holding mid ≡ standing holding old
    → tables ≡ (holding old.0).tables → ForSome mid.1 (AreWellFormed tables) → AreWellFormed tables more → ts ≡ touched tables more → events ≡ heard_of_touched (now (standing holding mid)) more ts → hears events → IsTold hears (standing holding old) more (Ok tt)
all_told holding hears old mid tables more ts events sound same named fit good found told heard =
    let here = named ∙ sym (ap (λ (st : State). st.holding.tables) same) in
    inr (
      subst (λ (st : State). IsSound st.holding) same sound,
      subst hears (told ∙ ap (heard_of_touched (now (standing holding mid)) more) found ∙ tell_all (holding mid.0) mid.1 tables more sound here fit good ∙ ap (λ (st : State). heard_with st more) same) heard,
    )
