-- Commands of a fleet, one after another. Source: this project's own.
use Rattle.std.specs.Prelude.{◌≡◌, List, [], ◌∷◌}
use Rattle.cr_guard.specs.declared.event.Event.{Event}
use Rattle.cr_guard.specs.Policy.{Rules}
use Rattle.cr_tree.specs.declared.statement.Statement.{Statement}
use Rattle.cr_world.specs.declared.command.Command.{Command}
use Rattle.cr_world.specs.declared.command.FleetReply.{FleetReply}
use Rattle.cr_world.specs.Language.{Language}
use Rattle.cr_world.specs.State.{State}
use Rattle.cr_world.specs.World.{Closures}
use Rattle.cr_fleet.specs.Between.{Between}
use Rattle.cr_fleet.specs.Fleets.{FleetOf, Steps, rules_after}
use Rattle.cr_fleet.specs.Hearing.{HearsStep}

-- each command, with its reply, leads on from where the one before it left
abbrev pub InTurn : {S : Type 0} → (S → Command → FleetReply → S → Type 0) → S → List Command → List FleetReply → S → Type 0
InTurn leads s [] [] t = t ≡ s
InTurn {S} leads s (c ∷ cs) (r ∷ rs) t = (mid : S) × leads s c r mid × InTurn leads mid cs rs t
InTurn leads s [] (r ∷ rs) t = ⊥
InTurn leads s (c ∷ cs) [] t = ⊥

-- A command is carried out as a step of the fleet, of what its listener hears, and of the replicas that it looks at; and the policy has
-- the rule that it adds, whatever becomes of a store later.
pub record IsStep {E C G : Type 0} (l : Language Statement E) (k : Closures) (hears : G → G → List Event → Type 0) (is_honest is_clean : C → Type 0) (stands : C → State) (rules : G → Rules)
    (before : FleetOf C × G) (command : Command) (reply : FleetReply) (behind : FleetOf C × G) : Type 0 where
  pub steps : Steps l k is_clean stands (rules before.1) before.0 command reply (rules behind.1) behind.0
  pub heard : HearsStep l k hears is_clean stands before.1 (rules before.1) before.0 command reply behind.0 behind.1
  pub between : Between k hears is_honest is_clean stands before.1 (rules before.1) before.0 reply behind.0 behind.1 l command
  pub policy : rules behind.1 ≡ rules_after command reply (rules before.1)
