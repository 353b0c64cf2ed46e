-- A fleet of stores as a world sees it. Source: this project's own.
use Rattle.std.specs.Prelude.{◌≡◌, ◌⊎◌, ℕ, pos, Bool, true, false, not, ◌&&◌, is_some, List, [], map, position, slice_get, Option, Some}
use Rattle.std.specs.List.{AllByRecursion, list_any}
use Rattle.cr_lattice.specs.Check.{same_bytes}
use Rattle.cr_lattice.specs.Sync.{Knows}
use Rattle.cr_cells.specs.Holding.{kept_of}
use Rattle.cr_cells.specs.Marks.{seen_of}
use Rattle.cr_guard.specs.Policy.{Rules, with_rule}
use Rattle.cr_world.specs.declared.command.Command.{Command}
use Rattle.cr_world.specs.declared.command.Command.TheVariants.{Policy}
use Rattle.cr_world.specs.declared.command.FleetReply.{FleetReply}
use Rattle.cr_world.specs.declared.command.FleetReply.TheVariants.{Done}
use Rattle.cr_world.specs.Language.{Language}
use Rattle.cr_world.specs.State.{State}
use Rattle.cr_world.specs.World.{World, Member, Closures, AllKeep}
use Rattle.cr_world.specs.Answers.{Answers, after, tells_want, AreAnswered, is_replica_name, has_site}

-- the named sessions of a fleet, and the place of the one in use
abbrev pub FleetOf : Type 0 → Type 0
FleetOf C = List (List ℕ × C) × Option ℕ

-- the device of each store gave back what was written, and it is still there
abbrev pub AreClean : {C : Type 0} → (C → Type 0) → FleetOf C → Type 0
AreClean is_clean f = AllByRecursion (λ r. is_clean r.1) f.0

-- a session as a world sees it, by where it stands
abbrev pub seen : {C : Type 0} → (C → State) → List ℕ × C → List ℕ × State
seen stands r = (r.0, stands r.1)

abbrev pub name_and_state : Member → List ℕ × State
name_and_state m = (m.name, m.state)

-- ---- what marks promise

-- each kept change of the peer that is stamped at or below the mark of its site is kept here, or beaten
abbrev pub KnowsOf : Member → Member → Type 0
KnowsOf m peer = Knows (kept_of m.state.holding) peer.state.holding.cells peer.state.holding.version (seen_of m.state.holding.marks peer.state.holding.site)

-- The promise of every mark holds. So that it goes on to hold, each member's changes are stamped from 1 on, no two members
-- have one site, and no site has a mark that is no member's.
pub record AreMarked (members : List Member) : Type 0 where
  pub known : (i j : ℕ) (m peer : Member) → slice_get members i ≡ Some m → slice_get members j ≡ Some peer → KnowsOf m peer
  pub from_1 : (i : ℕ) (m : Member) → slice_get members i ≡ Some m → Knows [] m.state.holding.cells m.state.holding.version (pos 0)
  pub apart : (i j : ℕ) (m peer : Member) → slice_get members i ≡ Some m → slice_get members j ≡ Some peer → same_bytes m.state.holding.site peer.state.holding.site ≡ true → i ≡ j
  pub none_else : (i : ℕ) (m : Member) (site : List ℕ) → slice_get members i ≡ Some m → list_any (has_site site) members ≡ false → seen_of m.state.holding.marks site ≡ pos 0

-- ---- a fleet and its world

-- the fleet is one of this world, under this policy
pub record Shows {C : Type 0} (stands : C → State) (w : World) (policy : Rules) (f : FleetOf C) : Type 0 where
  pub members : map name_and_state w.members ≡ map (seen stands) f.0
  pub in_use : w.in_use ≡ f.1
  pub rules : w.rules ≡ policy
  pub keep : AllKeep w
  pub marks : AreMarked w.members

-- each store is clean after it; so it is where each was clean before, and no reply tells of want
abbrev pub IsUnharmed : {C : Type 0} → (C → Type 0) → FleetOf C → List FleetReply → FleetOf C → Type 0
IsUnharmed is_clean old replies new = AreClean is_clean new ⊎ (AreClean is_clean old × AreAnswered replies)

-- A command of a fleet: whatever its replicas ever held, the reply is one for that, and the fleet is then one of the world
-- after it. This holds where each store is clean after it, as it is where each was clean before and the reply does not tell
-- of want.
pub record Steps {S E C : Type 0} (l : Language S E) (k : Closures) (is_clean : C → Type 0) (stands : C → State)
    (before : Rules) (old : FleetOf C) (command : Command) (reply : FleetReply) (rules : Rules) (new : FleetOf C) : Type 0 where
  pub was_clean : AreClean is_clean new → AreClean is_clean old
  pub stays_clean : AreClean is_clean old → tells_want reply ≡ false → AreClean is_clean new
  pub steps : AreClean is_clean new → (w : World) → Shows stands w before old → Answers l k w command reply × Shows stands (after l k w command reply) rules new

-- the policy behind a command: a rule that was added is in it, whatever becomes of the stores
abbrev pub rules_after : Command → FleetReply → Rules → Rules
rules_after (Policy rule) Done rules = with_rule rule rules
rules_after command reply rules = rules

-- the place of the replica of a name
abbrev pub place_in : {C : Type 0} → FleetOf C → List ℕ → Option ℕ
place_in f name = position (λ r. same_bytes r.0 name) f.0

-- a new replica may have the name
abbrev pub is_free_name : {C : Type 0} → List ℕ → FleetOf C → Bool
is_free_name name f = is_replica_name name && not (is_some (place_in f name))
