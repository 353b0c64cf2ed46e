-- What is heard of a session that has modules beside it.
use Rattle.std.proofs.Common.{◌≡◌, inr, List, [], true, Result, Ok, Err, refl, ap, subst, ◌∙◌}
use Rattle.std.specs.Prelude.{unwrap_or}
use Rattle.std.specs.List.{flat_map}
use Rattle.cr_value.specs.declared.value.Value.{Value}
use Rattle.cr_guard.specs.declared.event.Event.{Event}
use Rattle.cr_meaning.specs.View.{Ordered}
use Rattle.cr_scalar.specs.Host.{Host as Means}
use Rattle.cr_script.specs.Hearing.{Hears}
use Rattle.cr_world.specs.declared.command.Reply.{Reply}
use Rattle.cr_world.specs.declared.refusal.Refusal.{Refusal}
use Rattle.cr_world.specs.Resolved.{Resolved}
use Rattle.cr_world.specs.State.{ModuleState, State, by_name, heard_between, heard_of_table, now}
use Rattle.cr_world.specs.Statement.{Host}
use Rattle.cr_session.specs.Performing.{PerformsWith, placed, with_limit}
use Rattle.cr_session.proofs.Hearing.{hears_nothing, is_quiet, now_left}

now_placed : (ms : List ModuleState) (st : State) → now st ≡ now (placed ms st)
unfolding now
now_placed ms st = refl

module _ (hears : List Event → Type 0) where
  -- modules are not heard of
  pub hears_beside : {T : Type 0} (ms ns : List ModuleState) (old new : State) (result : Result T Refusal) → Hears hears (heard_between old new) result → Hears hears (heard_between (placed ms old) (placed ns new)) result
  hears_beside ms ns old new result h =
      subst (λ (events : List Event). Hears hears events result) (λ i. flat_map (heard_of_table (now_placed ms old i) (now_placed ns new i)) (by_name old.holding.tables)) h

  -- nor is what an update makes of one
  pub hears_module : {T : Type 0} (ms ns : List ModuleState) (st : State) (result : Result T Refusal) → hears [] → Hears hears (heard_between (placed ms st) (placed ns st)) result
  hears_module ms ns st result h = hears_beside ms ns st st result (hears_nothing hears st st result refl h)

  -- a statement that changes no row
  pub hears_quiet_with : (means : Means) (params : List Value) (host : Host) (st : State) (x : Resolved Ordered) (result : Result Reply Refusal) (new : State) → is_quiet x ≡ true → PerformsWith means params host st x result new → hears []
      → Hears hears (heard_between st new) result
  hears_quiet_with means params host st x (Ok reply) new e p h =
      hears_nothing hears st new (Ok reply) (ap now p.1.1.1 ∙ now_left st x (unwrap_or (with_limit means params host st x) []) new.modules e) h
  hears_quiet_with means params host st x (Err r) new e p h = inr h
