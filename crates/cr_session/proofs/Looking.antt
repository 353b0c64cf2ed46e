-- A reading of the store leaves a session where it stands.
use Rattle.std.proofs.Common.{◌≡◌, inl, Bool, false, not, ◌&&◌, cond, List, Result, Err, sym, ap, subst, ◌∙◌}
use Rattle.cr_value.specs.declared.value.Value.{Value}
use Rattle.cr_cells.specs.declared.store.CellsError.{CellsError}
use Rattle.cr_cells.specs.Calls.{IsRefusal}
use Rattle.cr_cells.specs.Calls as calls
use Rattle.cr_cells.specs.Holding.{Holding}
use Rattle.cr_term.specs.declared.query.Resolved.{Resolved}
use Rattle.cr_scalar.specs.Host.{Host as Means}
use Rattle.cr_meaning.specs.Meaning.{regarded}
use Rattle.cr_language.specs.Sql.{view}
use Rattle.cr_world.specs.declared.command.Reply.{Reply}
use Rattle.cr_world.specs.declared.refusal.Refusal.{Refusal}
use Rattle.cr_world.specs.Refusals.{is_want, of_store}
use Rattle.cr_world.specs.Causes.{IsWant}
use Rattle.cr_world.specs.State.{State, in_transaction}
use Rattle.cr_world.specs.Statement.{Host, ended, is_memory}
use Rattle.cr_session.specs.Performing.{IsFound, Performed, Performs, is_commit}
use Rattle.cr_session.specs.Sessions.{SessionOf, clean, honest, standing}
use Rattle.cr_session.proofs.Making.{still, store_finds}
use Rattle.cr_session.proofs.Takings.{want_of_store, wanting}

module _ {C : Type 0} (means : Means) (params : List Value) (host : Host) (is_honest is_clean : C → Type 0) (holding : C → Holding) (old middle : SessionOf C) (x : Resolved)
    (honest_was : is_honest middle.0 → is_honest old.0) (was : is_clean middle.0 → is_clean old.0) (same : is_clean middle.0 → standing holding middle ≡ standing holding old) where
  abbrev here : State
  here = standing holding old

  abbrev Does : SessionOf C → Result Reply Refusal → SessionOf C → Type 0
  Does from result new = Performed means params host (honest is_honest) (clean is_clean) (standing holding) from x result new

  -- what is carried out by what was read alone
  pub looks : (result : Result Reply Refusal) → (is_honest middle.0 → is_clean old.0 → is_clean middle.0) → (is_clean middle.0 → Performs means params host here (view x) result here) → Does old result middle
  looks result stays p = record {
    device = record { was_honest = honest_was; was_clean = was; stays_clean = λ honest clean. still result (is_clean middle.0) (stays honest clean) };
    performs = λ clean. subst (λ (st : State). Performs means params host here (view x) result st) (sym (same clean)) (p clean);
  }

  -- what is carried out after it
  pub after_look : (result : Result Reply Refusal) (new : SessionOf C) → (is_honest middle.0 → is_clean old.0 → is_clean middle.0) → Does middle result new → Does old result new
  after_look result new stays d = record {
    device = record { was_honest = λ honest. honest_was (d.device.was_honest honest); was_clean = λ clean. was (d.device.was_clean clean); stays_clean = λ honest clean. d.device.stays_clean honest (stays (d.device.was_honest honest) clean) };
    performs = λ clean. subst (λ (st : State). Performs means params host st (view x) result (standing holding new)) (same (d.device.was_clean clean)) (d.performs clean);
  }

  -- what can't be read
  pub unseen : (e : CellsError) (f : Refusal) → f ≡ of_store e → is_commit (view x) ≡ false → (is_honest middle.0 → is_clean old.0 → calls.is_want e ≡ false → is_clean middle.0) → (is_clean middle.0 → IsRefusal e) → Does old (Err f) middle
  unseen e f told lasts stays is = record {
    device = record { was_honest = honest_was; was_clean = was; stays_clean = λ honest clean want. stays honest clean (sym (want_of_store e) ∙ ap is_want (sym told) ∙ want) };
    performs = λ clean. (
      inl (subst IsWant (sym told) (wanting e (is clean))),
      (
        same clean ∙ sym (ap (λ (b : Bool). cond (b && (in_transaction here && not (is_memory f))) (ended here) here) lasts),
        subst (IsFound means params host here (view x)) (sym told) (store_finds (λ g. regarded g means params) here (view x) e),
      ),
    );
  }
