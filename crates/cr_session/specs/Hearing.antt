-- What a host's listener hears of a command of one replica. Source: this project's own.
use Rattle.std.specs.Prelude.{◌⊎◌, ℕ, List, []}
use Rattle.cr_guard.specs.declared.event.Event.{Event}
use Rattle.cr_tree.specs.declared.statement.Statement.{Statement}
use Rattle.cr_world.specs.declared.command.Command.{Command}
use Rattle.cr_world.specs.declared.command.Command.TheVariants.{Open, Use, Define, Take, Rows, Changes, Pull, PullSince, Policy, Sql}
use Rattle.cr_world.specs.declared.command.FleetReply.{FleetReply}
use Rattle.cr_world.specs.declared.command.FleetReply.TheVariants.{Script, Rows as Shown, Changes as Told, Done, Refused}
use Rattle.cr_world.specs.Causes.{IsWant}
use Rattle.cr_world.specs.Language.{Language}
use Rattle.cr_world.specs.State.{State, heard_between}
use Rattle.cr_world.specs.Statement.{Host}
use Rattle.cr_script.specs.Hearing.{HearsAll}

module _ {G : Type 0} (hears : G → G → List Event → Type 0) where
  -- Of a taking that is done these events are heard; of one that is refused nothing, or perhaps something if for want.
  abbrev pub HearsTaking : G → List Event → FleetReply → G → Type 0
  HearsTaking g events Done h = hears g h events
  HearsTaking g events (Refused r) h = IsWant r ⊎ hears g h []
  HearsTaking g events (Script x) h = hears g h []
  HearsTaking g events (Shown rows) h = hears g h []
  HearsTaking g events (Told cells) h = hears g h []

  module _ {E : Type 0} (l : Language Statement E) (host : Host) where
    -- of a script, its statements one after another
    abbrev pub HearsScript : G → State → List ℕ → FleetReply → G → Type 0
    HearsScript g st text (Script x) h = HearsAll l host hears g st (l.pieces text) x.replies x.refusal h
    HearsScript g st text Done h = hears g h []
    HearsScript g st text (Refused r) h = hears g h []
    HearsScript g st text (Shown rows) h = hears g h []
    HearsScript g st text (Told cells) h = hears g h []

    -- of a command that the replica in use carries out by itself, which leads from one state to another
    abbrev pub HearsOwn : G → State → Command → FleetReply → State → G → Type 0
    HearsOwn g st (Take row) reply new h = HearsTaking g (heard_between st new) reply h
    HearsOwn g st (Sql text) reply new h = HearsScript g st text reply h
    HearsOwn g st (Define declaration) reply new h = hears g h []
    HearsOwn g st (Rows name) reply new h = hears g h []
    HearsOwn g st (Changes n) reply new h = hears g h []
    HearsOwn g st (Open name site) reply new h = hears g h []
    HearsOwn g st (Use name) reply new h = hears g h []
    HearsOwn g st (Pull name) reply new h = hears g h []
    HearsOwn g st (PullSince name) reply new h = hears g h []
    HearsOwn g st (Policy rule) reply new h = hears g h []
