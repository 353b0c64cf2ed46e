-- What a host's listener hears of the commands of a fleet. Source: this project's own.
use Rattle.std.specs.Prelude.{◌≡◌, List, [], ◌∷◌, Option, Some, None}
use Rattle.cr_guard.specs.declared.event.Event.{Event}
use Rattle.cr_guard.specs.Policy.{Rules}
use Rattle.cr_replica.specs.ChangeRow.{change_of}
use Rattle.cr_tree.specs.declared.statement.Statement.{Statement}
use Rattle.cr_world.specs.declared.command.Command.{Command}
use Rattle.cr_world.specs.declared.command.Command.TheVariants.{Open, Use, Define, Take, Rows, Changes, Pull, PullSince, Policy, Sql}
use Rattle.cr_world.specs.declared.command.FleetReply.{FleetReply}
use Rattle.cr_world.specs.Language.{Language}
use Rattle.cr_world.specs.State.{State, heard_between}
use Rattle.cr_world.specs.Takings.{taking_row, pulling, pulling_since}
use Rattle.cr_world.specs.World.{World, Member, Closures, host_of, named, used}
use Rattle.cr_world.specs.Answers.{after}
use Rattle.cr_session.specs.Hearing.{HearsScript, HearsTaking}
use Rattle.cr_fleet.specs.Fleets.{FleetOf, AreClean, Shows}

module _ {E G : Type 0} (l : Language Statement E) (k : Closures) (hears : G → G → List Event → Type 0) where
  -- what is heard of the replica in use; where none is, nothing
  abbrev pub HearsUsed : Option Member → G → (Member → Type 0) → G → Type 0
  HearsUsed None g P h = hears g h []
  HearsUsed (Some m) g P h = P m

  -- Of a taking or a pull what becomes of the rows of the replica in use; of a script what its statements make of them, one after
  -- another; of all else nothing.
  abbrev pub HearsCommand : G → World → Command → FleetReply → G → Type 0
  HearsCommand g w (Take row) reply h = HearsUsed (used w) g (λ m. HearsTaking hears g (heard_between m.state (taking_row (change_of row) m).state) reply h) h
  HearsCommand g w (Pull name) reply h = HearsUsed (used w) g (λ m. HearsTaking hears g (heard_between m.state (pulling (named w name) m).state) reply h) h
  HearsCommand g w (PullSince name) reply h = HearsUsed (used w) g (λ m. HearsTaking hears g (heard_between m.state (pulling_since (named w name) m).state) reply h) h
  HearsCommand g w (Sql text) reply h = HearsUsed (used w) g (λ m. HearsScript hears l (host_of k w) g m.state text reply h) h
  HearsCommand g w (Open name site) reply h = hears g h []
  HearsCommand g w (Use name) reply h = hears g h []
  HearsCommand g w (Policy rule) reply h = hears g h []
  HearsCommand g w (Define declaration) reply h = hears g h []
  HearsCommand g w (Rows name) reply h = hears g h []
  HearsCommand g w (Changes n) reply h = hears g h []

  -- of commands with their replies, one after another
  abbrev pub HearsRun : G → World → List Command → List FleetReply → G → Type 0
  HearsRun g w [] [] h = h ≡ g
  HearsRun g w (c ∷ cs) (r ∷ rs) h = (mid : G) × HearsCommand g w c r mid × HearsRun mid (after l k w c r) cs rs h
  HearsRun g w [] (r ∷ rs) h = ⊥
  HearsRun g w (c ∷ cs) [] h = ⊥

  -- the same of a step of a fleet, whatever its replicas ever held; it holds where each store is clean after it
  abbrev pub HearsStep : {C : Type 0} → (C → Type 0) → (C → State) → G → Rules → FleetOf C → Command → FleetReply → FleetOf C → G → Type 0
  HearsStep is_clean stands g rules old c reply new h = AreClean is_clean new → (w : World) → Shows stands w rules old → HearsCommand g w c reply h
