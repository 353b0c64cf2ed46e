-- Which reply a command may have in a world, and the world after it. Where memory or the store is asked for something, want
-- of them may be the reply; else the reply is the one that is said here. Source: this project's own.
use Rattle.std.specs.Prelude.{◌≡◌, ◌⊎◌, ℕ, ℤ, nat_le, nat_lt, Bool, true, false, not, ◌&&◌, ◌||◌, pos, List, [], ◌∷◌, ◌++◌, length, find, Option, Some, None, is_some, if◌then◌else◌}
use Rattle.std.specs.List.{list_any, list_all, AllByRecursion}
use Rattle.std.specs.Char.{is_ascii_alphanumeric}
use Rattle.cr_lattice.specs.declared.change.Change.{Change}
use Rattle.cr_lattice.specs.declared.check.BadChange.TheVariants.{Shape}
use Rattle.cr_lattice.specs.declared.table.Table.{Table}
use Rattle.cr_lattice.specs.Check.{same_bytes}
use Rattle.cr_cells.specs.Holding.{Holding, since}
use Rattle.cr_cells.specs.Tables.{is_named, has_folded_names}
use Rattle.cr_cells.specs.Marks.{Mark}
use Rattle.cr_guard.specs.Policy.{with_rule, wants_memory}
use Rattle.cr_replica.specs.ChangeRow.{change_of}
use Rattle.cr_replica.specs.Showing.{shown_of}
use Rattle.cr_world.specs.declared.command.Command.{Command}
use Rattle.cr_world.specs.declared.command.Command.TheVariants.{Open, Use, Define, Take, Rows, Changes, Pull, PullSince, Policy, Sql}
use Rattle.cr_world.specs.declared.command.Declaration.TheVariants.{Real, Table as Declared}
use Rattle.cr_world.specs.declared.command.Script.{Script as TheScript}
use Rattle.cr_world.specs.declared.command.FleetReply.{FleetReply}
use Rattle.cr_world.specs.declared.command.FleetReply.TheVariants.{Script, Rows as Shown, Changes as Told, Done, Refused}
use Rattle.cr_world.specs.declared.refusal.Refusal.{Refusal}
use Rattle.cr_world.specs.declared.refusal.Refusal.TheVariants as refusal
use Rattle.cr_world.specs.declared.refusal.OutOfProfile.TheVariants as out
use Rattle.cr_world.specs.declared.refusal.Limit.TheVariants as limit
use Rattle.cr_world.specs.Refusals.{has_name, is_want}
use Rattle.cr_world.specs.Language.{Language}
use Rattle.cr_world.specs.State.{State}
use Rattle.cr_world.specs.Causes.{Cause, Free, Tells, IsWant}
use Rattle.cr_world.specs.Statement.{Host}
use Rattle.cr_world.specs.Scripts.{Runs, after_script, added_by_script}
use Rattle.cr_world.specs.World.{World, Member, Closures, host_of, place_of, named, used, with_used, new_member}
use Rattle.cr_world.specs.Takings.{at_once, taking_cause, changes_above, seen_at, define_cause, defining, taking_row, pulling, pulling_since}

-- ---- replies that tell of want

abbrev pub script_wants : Option Refusal → Bool
script_wants None = false
script_wants (Some r) = is_want r

-- the reply tells that memory or the store does not suffice
abbrev pub tells_want : FleetReply → Bool
tells_want Done = false
tells_want (Shown rows) = false
tells_want (Told cells) = false
tells_want (Script x) = script_wants x.refusal
tells_want (Refused r) = is_want r

-- no reply does
abbrev pub AreAnswered : List FleetReply → Type 0
AreAnswered replies = AllByRecursion (λ r. tells_want r ≡ false) replies

-- ---- a new replica

-- 1 to 64 ASCII letters and digits
abbrev pub is_replica_name : List ℕ → Bool
is_replica_name name = nat_lt 0 (length name) && (nat_le (length name) 64 && list_all is_ascii_alphanumeric name)

abbrev pub has_site : List ℕ → Member → Bool
has_site site m = same_bytes m.state.holding.site site

-- a name that may not be or is in use, then the number of replicas, then the site
abbrev pub opening_refusal : World → List ℕ → List ℕ → Option Refusal
opening_refusal w name site =
    if not (is_replica_name name) || is_some (place_of w name) then Some (refusal.BadName name)
    else if nat_le 64 (length w.members) then Some (refusal.Limit limit.Replicas)
    else if list_any (has_site site) w.members then Some refusal.SameSite
    else None

-- what may be told in place of the first cause: of a cause with a name that there is no memory for the name, of another
-- nothing, and where there is no cause that memory or the store does not suffice
abbrev pub IsWantFor : Option Refusal → Refusal → Type 0
IsWantFor None r = IsWant r
IsWantFor (Some cause) r = (has_name cause ≡ true) × (r ≡ refusal.Memory)

abbrev pub Opens : Option Refusal → FleetReply → Type 0
Opens cause Done = cause ≡ None
Opens cause (Refused r) = IsWantFor cause r ⊎ (cause ≡ Some r)
Opens cause reply = ⊥

-- the replica of that name, where there is one
abbrev pub Uses : Option ℕ → FleetReply → Type 0
Uses None reply = reply ≡ Refused refusal.NoReplica
Uses (Some i) reply = reply ≡ Done

-- a rule is kept, unless there is no memory where one more is kept
abbrev pub Rules : Bool → FleetReply → Type 0
Rules wants Done = Unit {0}
Rules wants (Refused r) = (wants ≡ true) × (r ≡ refusal.Memory)
Rules wants reply = ⊥

-- ---- the replica in use

-- done exactly where nothing holds, else refused for the cause that holds first, or for want
abbrev pub IsDone : Cause → FleetReply → Type 0
IsDone c Done = c ≡ Free
IsDone c (Refused r) = IsWant r ⊎ Tells c r
IsDone c reply = ⊥

-- the same, but that the first, if there is one, is told without fail
abbrev pub IsDoneUnless : Option Refusal → Cause → FleetReply → Type 0
IsDoneUnless (Some r) c reply = reply ≡ Refused r
IsDoneUnless None c reply = IsDone c reply

-- a row without the shape of a change is none, which no store is asked for
abbrev pub IsShapeless : FleetReply → Type 0
IsShapeless (Refused r) = (r ≡ refusal.Memory) ⊎ (r ≡ refusal.BadChange Shape)
IsShapeless reply = ⊥

abbrev pub ShapelessUnless : Option Refusal → FleetReply → Type 0
ShapelessUnless (Some r) reply = reply ≡ Refused r
ShapelessUnless None reply = IsShapeless reply

abbrev pub Takes : Host → State → Option Change → FleetReply → Type 0
Takes host st None reply = ShapelessUnless (at_once st None) reply
Takes host st (Some c) reply = IsDoneUnless (at_once st None) (taking_cause host st (c ∷ [])) reply

-- changes of a peer of this site
abbrev pub TakesFrom : Host → State → List Change → Mark → FleetReply → Type 0
TakesFrom host st more mark reply = IsDoneUnless (at_once st (Some mark)) (taking_cause host st more) reply

abbrev pub Pulls : Host → State → Option Member → FleetReply → Type 0
Pulls host st None reply = reply ≡ Refused refusal.NoReplica
Pulls host st (Some peer) reply = TakesFrom host st (changes_above peer.state.holding (pos 0)) (peer.state.holding.site, pos 0) reply

abbrev pub PullsSince : Host → State → Option Member → FleetReply → Type 0
PullsSince host st None reply = reply ≡ Refused refusal.NoReplica
PullsSince host st (Some peer) reply =
    TakesFrom host st (changes_above peer.state.holding (seen_at st peer.state.holding)) (peer.state.holding.site, peer.state.holding.version) reply

-- the rows of the last commit, in ascending order
abbrev pub ShowsRows : Holding → List ℕ → Option Table → FleetReply → Type 0
ShowsRows h name (Some t) (Shown rows) = rows ≡ shown_of h t
ShowsRows h name t (Refused r) = IsWant r ⊎ ((t ≡ None) × (r ≡ refusal.NoSuchTable name))
ShowsRows h name t reply = ⊥

abbrev pub ShowsChanges : Holding → ℤ → FleetReply → Type 0
ShowsChanges h n (Told cells) = cells ≡ since h.cells n
ShowsChanges h n (Refused r) = IsWant r
ShowsChanges h n reply = ⊥

-- the reply of the replica in use, where there is one
abbrev pub OfUsed : Option Member → FleetReply → (Member → Type 0) → Type 0
OfUsed None reply P = reply ≡ Refused refusal.NoReplica
OfUsed (Some m) reply P = P m

module _ {S E : Type 0} (l : Language S E) (k : Closures) where
  -- the script's replies are those of a run of its statements
  abbrev pub RunsScript : World → Member → List ℕ → FleetReply → Type 0
  RunsScript w m text (Script x) = (new : State) × Runs l (host_of k w) m.state (l.pieces text) x.replies x.refusal new
  RunsScript w m text (Refused r) = ⊥
  RunsScript w m text Done = ⊥
  RunsScript w m text (Shown rows) = ⊥
  RunsScript w m text (Told cells) = ⊥

  abbrev pub script_run : World → List ℕ → TheScript → Member → Member
  script_run w text x m = record m {
    state = after_script l (host_of k w) m.state (l.pieces text) x.replies x.refusal;
    held = m.held ++ added_by_script l (host_of k w) m.state (l.pieces text) x.replies;
  }

  -- the reply may be given in this world
  abbrev pub Answers : World → Command → FleetReply → Type 0
  Answers w (Open name site) reply = Opens (opening_refusal w name site) reply
  Answers w (Use name) reply = Uses (place_of w name) reply
  Answers w (Policy rule) reply = Rules (wants_memory rule) reply
  Answers w (Define Real) reply = OfUsed (used w) reply (λ m. reply ≡ Refused (refusal.OutOfProfile out.Real))
  Answers w (Define (Declared def)) reply = OfUsed (used w) reply (λ m. IsDone (define_cause l.has_collation m.state def) reply)
  Answers w (Take row) reply = OfUsed (used w) reply (λ m. Takes (host_of k w) m.state (change_of row) reply)
  Answers w (Rows name) reply = OfUsed (used w) reply (λ m. ShowsRows m.state.holding name (find (is_named name) m.state.holding.tables) reply)
  Answers w (Changes n) reply = OfUsed (used w) reply (λ m. ShowsChanges m.state.holding n reply)
  Answers w (Pull name) reply = OfUsed (used w) reply (λ m. Pulls (host_of k w) m.state (named w name) reply)
  Answers w (PullSince name) reply = OfUsed (used w) reply (λ m. PullsSince (host_of k w) m.state (named w name) reply)
  Answers w (Sql text) reply = OfUsed (used w) reply (λ m. RunsScript w m text reply)

  -- the world after a command and its reply
  abbrev pub after : World → Command → FleetReply → World
  after w (Open name site) Done = record w { members = w.members ++ new_member name site ∷ []; in_use = Some (length w.members) }
  after w (Use name) Done = record w { in_use = place_of w name }
  after w (Policy rule) Done = record w { rules = with_rule rule w.rules }
  after w (Define (Declared def)) Done = with_used w (defining def)
  after w (Take row) Done = with_used w (taking_row (change_of row))
  after w (Pull name) Done = with_used w (pulling (named w name))
  after w (PullSince name) Done = with_used w (pulling_since (named w name))
  after w (Sql text) (Script x) = with_used w (script_run w text x)
  after w command reply = w

-- the names of a definition are in ASCII lower case
abbrev pub IsReady : Command → Type 0
IsReady (Open name site) = Unit {0}
IsReady (Use name) = Unit {0}
IsReady (Policy rule) = Unit {0}
IsReady (Define Real) = Unit {0}
IsReady (Define (Declared def)) = has_folded_names def ≡ true
IsReady (Take row) = Unit {0}
IsReady (Rows name) = Unit {0}
IsReady (Changes n) = Unit {0}
IsReady (Pull name) = Unit {0}
IsReady (PullSince name) = Unit {0}
IsReady (Sql text) = Unit {0}
