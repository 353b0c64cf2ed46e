-- What a session tells its host's listener of changes before they are kept. Source: this project's own.
use Rattle.std.specs.Prelude.{◌≡◌, ◌⊎◌, List, [], Result, Ok, Err, IfErr, IfOk}
use Rattle.std.specs.List.{flat_map}
use Rattle.cr_lattice.specs.declared.change.Change.{Change}
use Rattle.cr_lattice.specs.Keep.{join}
use Rattle.cr_cells.specs.Calls.{StaysClean}
use Rattle.cr_cells.specs.Holding.{IsSound}
use Rattle.cr_guard.specs.declared.event.Event.{Event}
use Rattle.cr_heard.specs.declared.touched.Touched.{Touched}
use Rattle.cr_heard.specs.Touched.{heard_of_touched}
use Rattle.cr_world.specs.declared.refusal.Refusal.{Refusal}
use Rattle.cr_world.specs.Refusals.{is_want}
use Rattle.cr_world.specs.Causes.{IsWant}
use Rattle.cr_world.specs.State.{State, by_name, heard_of_table, now}

-- what becomes of the rows of replicated tables where these changes come to those that show there
abbrev pub heard_with : State → List Change → List Event
heard_with st more = flat_map (heard_of_table (now st) (join (now st) more)) (by_name st.holding.tables)

-- What there is to hear of some keys, where these changes come to what shows there. It leaves a session where it stands, and is refused
-- for want alone.
pub record FindsEvents {C T : Type 0} (events : T → List Event) (is_honest is_clean : C → Type 0) (stands : C → State) (old : C) (touched : List Touched) (more : List Change) (result : Result T Refusal) (new : C) : Type 0 where
  pub device : StaysClean is_honest is_clean is_want old new result
  pub same : is_clean new → stands new ≡ stands old
  pub refused : is_clean new → IfErr result IsWant
  pub finds : is_clean new → IfOk result (λ v. events v ≡ heard_of_touched (now (stands old)) more touched)

-- What was told of changes: nobody listens, or all that there is to hear was heard; where it is refused, nothing.
abbrev pub IsTold : (List Event → Type 0) → State → List Change → Result (Unit {0}) Refusal → Type 0
IsTold hears st more (Ok u) = ((events : List Event) → hears events) ⊎ (IsSound st.holding × hears (heard_with st more))
IsTold hears st more (Err r) = hears []

-- A telling leaves a session where it stands. It is refused for want alone.
pub record TellsListener {C : Type 0} (is_honest is_clean : C → Type 0) (stands : C → State) (hears : List Event → Type 0) (old : C) (more : List Change) (result : Result (Unit {0}) Refusal) (new : C) : Type 0 where
  pub device : StaysClean is_honest is_clean is_want old new result
  pub same : is_clean new → stands new ≡ stands old
  pub refused : is_clean new → IfErr result IsWant
  pub told : is_clean new → IsTold hears (stands old) more result
