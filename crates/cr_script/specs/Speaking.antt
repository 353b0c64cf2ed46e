-- The language that statements are in, with a host's functions and collations, and what a host allows. Source: this project's
-- own.
use Rattle.std.specs.Prelude.{◌≡◌, ℕ, Bool, List, Option, Result}
use Rattle.cr_value.specs.declared.value.Value.{Value}
use Rattle.cr_lattice.specs.declared.change.Change.{Change}
use Rattle.cr_guard.specs.declared.event.Event.{Event}
use Rattle.cr_guard.specs.Guard.{asked, vetoed}
use Rattle.cr_guard.specs.Policy.{Rules}
use Rattle.cr_guard.specs.Run.{noted_with}
use Rattle.cr_host.specs.declared.function.Definition.{Definition}
use Rattle.cr_tree.specs.declared.statement.Statement.{Statement}
use Rattle.cr_meaning.specs.View.{Ordered}
use Rattle.cr_world.specs.Language.{Language, Asked}
use Rattle.cr_world.specs.Statement.{Host}
use Rattle.cr_world.specs.World.{Closures}
use Rattle.cr_language.specs.Sql.{sql}
use Rattle.cr_language.specs.Engines.{OrderOf, AreTotal, engine}

-- this project's SQL
unfoldable pub spoken : (List ℕ → ℕ → Option Definition) → (ℕ → List Value → Result Value (List ℕ)) → (ℕ → Value → List Value → Result Value (List ℕ)) → (ℕ → Value → Result Value (List ℕ))
    → (order_of : OrderOf) → AreTotal order_of → (List ℕ → Bool) → Language Statement Ordered
spoken function_of scalar step finish order_of total has = sql (engine function_of scalar step finish order_of total has)

-- ---- what a host allows

-- what authorizer and commit hook say
abbrev pub closures : Asked → (List Change → Bool) → Closures
closures allows refuses = record { allows = allows; refuses = refuses }

-- the same under a policy
abbrev pub host_under : Closures → Rules → Host
host_under k rules = record { ask = asked rules k.allows; vetoes = vetoed rules k.refuses }

-- ---- what is left of what a host gave

-- how a listener notes what it hears: what it has noted then, by what it had noted
abbrev pub Noting : Type 0
Noting = List Event → List Event → List Event

-- it answers as before, and its listener notes as before
pub record Stays {G : Type 0} (is_faithful : G → Type 0) (rules : G → Rules) (allows : G → Asked) (refuses : G → List Change → Bool) (noting : G → Noting) (old new : G) : Type 0 where
  pub faithful : is_faithful new
  pub same_rules : rules new ≡ rules old
  pub same_allows : allows new ≡ allows old
  pub same_refuses : refuses new ≡ refuses old
  pub same_noting : noting new ≡ noting old

-- A listener, where there is one, has heard these events at once, and notes what comes as before; of none it isn't told.
abbrev pub HasHeard : {G : Type 0} → (G → Option (List Event)) → (G → Noting) → G → G → List Event → Type 0
HasHeard noted noting old new events = (noted new ≡ noted_with (noting old) (noted old) events) × (noting new ≡ noting old)
