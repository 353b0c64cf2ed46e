-- What becomes of a fleet and its policy over commands, and what is heard of them. Source: this project's own.
use Rattle.std.specs.Prelude.{List, [], ◌∷◌, Option}
use Rattle.cr_guard.specs.Policy.{Rules}
use Rattle.cr_guard.specs.declared.event.Event.{Event}
use Rattle.cr_tree.specs.declared.statement.Statement.{Statement}
use Rattle.cr_world.specs.declared.command.Command.{Command}
use Rattle.cr_world.specs.declared.command.FleetReply.{FleetReply}
use Rattle.cr_world.specs.Language.{Language, IsLanguage}
use Rattle.cr_world.specs.State.{State}
use Rattle.cr_world.specs.World.{World, Closures}
use Rattle.cr_world.specs.Answers.{AreAnswered}
use Rattle.cr_world.specs.Run.{Run, world_after}
use Rattle.cr_world.specs.Headline.{Converges, RowsConverge}
use Rattle.cr_script.specs.Speaking.{HasHeard, Noting}
use Rattle.cr_fleet.specs.Fleets.{FleetOf, AreClean, IsUnharmed, Shows}
use Rattle.cr_fleet.specs.Hearing.{HearsRun}
use Rattle.cr_fleet.specs.Running.{InTurn}

-- what a guard is known by: its policy, what its listener has noted, where there is one, and how that one notes
abbrev pub Watch : Type 0
Watch = Rules × Option (List Event) × Noting

abbrev pub watch : {G : Type 0} → (G → Rules) → (G → Option (List Event)) → (G → Noting) → G → Watch
watch rules noted noting g = (rules g, noted g, noting g)

abbrev pub policy_of : Watch → Rules
policy_of w = w.0

-- its listener, where there is one, has heard these events since
abbrev pub hears : Watch → Watch → List Event → Type 0
hears old new events = HasHeard (λ (w : Watch). w.1) (λ (w : Watch). w.2) old new events

-- The commands ran as a run of the fleet with these replies, whatever its replicas ever held, what there is to hear of them was
-- heard, and it converges. This holds where each store is clean after it, as it is where each was clean before and no reply tells
-- of want. Beside the fleet stands what it ran under, with the policy of that.
pub record Ran {E C G : Type 0} (rules : G → Rules) (hears : G → G → List Event → Type 0) (l : Language Statement E) (k : Closures) (is_clean : C → Type 0) (stands : C → State)
    (s0 s1 : FleetOf C × G) (cs : List Command) (rs : List FleetReply) : Type 0 where
  pub was_clean : AreClean is_clean s1.0 → AreClean is_clean s0.0
  pub stays_clean : AreClean is_clean s0.0 → AreAnswered rs → AreClean is_clean s1.0
  pub ran : IsUnharmed is_clean s0.0 rs s1.0 → (w : World) → Shows stands w (rules s0.1) s0.0 → Run l k w cs rs × Shows stands (world_after l k w cs rs) (rules s1.1) s1.0
  pub heard : IsUnharmed is_clean s0.0 rs s1.0 → (w : World) → Shows stands w (rules s0.1) s0.0 → HearsRun l k hears s0.1 w cs rs s1.1
  pub rows_converge : IsUnharmed is_clean s0.0 rs s1.0 → (w : World) → Shows stands w (rules s0.1) s0.0 → RowsConverge l k w cs rs
  pub converges : IsLanguage l → IsUnharmed is_clean s0.0 rs s1.0 → (w : World) → Shows stands w (rules s0.1) s0.0 → Converges l k w cs rs

-- One command after another ran so, with its reply.
abbrev pub InSteps : {S : Type 0} → (S → S → List Command → List FleetReply → Type 0) → S → S → List Command → List FleetReply → Type 0
InSteps ran s0 s1 cs rs = InTurn (λ s c r t. ran s t (c ∷ []) (r ∷ [])) s0 cs rs s1
