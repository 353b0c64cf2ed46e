-- What a replica replies to a command that looks at no other, and where it then stands. Source: this project's own.
use Rattle.std.specs.Prelude.{◌≡◌, ◌⊎◌, ℕ, Bool, true, false, List, [], ◌++◌, find, Option, Some, None, Result, Ok, Err, IfErr, MatchResult, is_some}
use Rattle.cr_lattice.specs.declared.change.Change.{Change}
use Rattle.cr_lattice.specs.declared.stamped.Stamped.{Stamped}
use Rattle.cr_cells.specs.declared.store.CellsError.{CellsError}
use Rattle.cr_cells.specs.Calls.{IsRefusal, StaysClean}
use Rattle.cr_cells.specs.Holding.{Holding}
use Rattle.cr_cells.specs.Marks.{Mark}
use Rattle.cr_cells.specs.Tables.{is_named}
use Rattle.cr_replica.specs.declared.snapshot.Snapshot.{Snapshot}
use Rattle.cr_replica.specs.declared.replica.Taking.{Taking}
use Rattle.cr_replica.specs.ChangeRow.{change_of}
use Rattle.cr_replica.specs.Taking.{IsReady}
use Rattle.cr_replica.specs.declared.definition.DefineError.{DefineError}
use Rattle.cr_replica.specs.declared.definition.DefineError.TheVariants as define
use Rattle.cr_snapshot.specs.Seen.{IsNamed, IsSeen}
use Rattle.cr_touched.specs.Parts.{is_key_of, part}
use Rattle.cr_query.specs.Query.{Row}
use Rattle.cr_world.specs.declared.command.Command.{Command}
use Rattle.cr_world.specs.declared.command.Command.TheVariants.{Open, Use, Define, Take, Rows, Changes, Pull, PullSince, Policy, Sql}
use Rattle.cr_world.specs.declared.command.Declaration.TheVariants.{Real, Table as Declared}
use Rattle.cr_world.specs.declared.command.FleetReply.{FleetReply}
use Rattle.cr_world.specs.declared.command.FleetReply.TheVariants.{Script, Rows as Shown, Changes as Told, Done, Refused}
use Rattle.cr_world.specs.declared.command.Script.{Script as TheScript}
use Rattle.cr_world.specs.declared.refusal.Refusal.{Refusal}
use Rattle.cr_world.specs.declared.refusal.Refusal.TheVariants as refusal
use Rattle.cr_world.specs.declared.refusal.OutOfProfile.TheVariants as out
use Rattle.cr_world.specs.Refusals.{is_want}
use Rattle.cr_world.specs.Language.{Language}
use Rattle.cr_world.specs.State.{State, now}
use Rattle.cr_world.specs.Causes.{Cause, Free, Tells, IsWant}
use Rattle.cr_world.specs.Statement.{Host}
use Rattle.cr_world.specs.Scripts.{Runs, after_script, added_by_script}
use Rattle.cr_world.specs.World.{Member}
use Rattle.cr_world.specs.Answers.{IsDone, Takes, ShowsRows, ShowsChanges, tells_want}
use Rattle.cr_world.specs.Takings.{take_cause, taking_cause, taking, define_cause, defining, taking_row}

-- the reply that tells whether a command was carried out
abbrev pub reply_of : Result (Unit {0}) Refusal → FleetReply
reply_of (Ok u) = Done
reply_of (Err r) = Refused r

abbrev pub rows_reply : Result (List Row) Refusal → FleetReply
rows_reply (Ok rows) = Shown rows
rows_reply (Err r) = Refused r

abbrev pub changes_reply : Result (List Stamped) Refusal → FleetReply
changes_reply (Ok changes) = Told changes
changes_reply (Err r) = Refused r

-- ---- what a session is over: a store, and the changes of the open transaction, if there is one

abbrev pub SessionOf : Type 0 → Type 0
SessionOf C = C × Option (List Change)

-- the device of its store gave back what was written
abbrev pub honest : {C : Type 0} → (C → Type 0) → SessionOf C → Type 0
honest is_honest s = is_honest s.0

-- the same, and it is still there
abbrev pub clean : {C : Type 0} → (C → Type 0) → SessionOf C → Type 0
clean is_clean s = is_clean s.0

-- what the last commit left, the changes of the open transaction, and no modules
abbrev pub state_of : Holding → Option (List Change) → State
state_of h pending = record { holding = h; pending = pending; modules = [] }

-- where it stands
abbrev pub standing : {C : Type 0} → (C → Holding) → SessionOf C → State
standing holding s = state_of (holding s.0) s.1

-- a reading leaves a session where it stands, and gives the names there, or memory or the store does not suffice
pub record Names (old new : State) (result : Result Snapshot CellsError) : Type 0 where
  pub same : new ≡ old
  pub names : MatchResult result (IsNamed old) IsRefusal

-- the same of what is seen there
pub record Sees (old new : State) (result : Result Snapshot CellsError) : Type 0 where
  pub same : new ≡ old
  pub sees : MatchResult result (IsSeen old) IsRefusal

-- the same of what is seen there of some keys of a table
pub record SeesKeys {T : Type 0} (changes : T → List Change) (old new : State) (table : List ℕ) (keys : List (List ℕ)) (result : Result T CellsError) : Type 0 where
  pub same : new ≡ old
  pub sees : MatchResult result (λ kept. changes kept ≡ part table (is_key_of keys) (now old)) IsRefusal

-- ---- takings by a call

-- all changes are taken, with a mark, where no cause holds; else the first is told, or want, and nothing is changed
abbrev pub TakenUnless : Cause → State → List Change → Option Mark → Result (Unit {0}) Refusal → State → Type 0
TakenUnless cause old more mark (Ok u) new = (cause ≡ Free) × (new ≡ taking more mark old)
TakenUnless cause old more mark (Err r) new = (IsWant r ⊎ Tells cause r) × (new ≡ old)

pub record TakesUnless {C : Type 0} (is_honest is_clean : C → Type 0) (stands : C → State) (cause : State → Cause) (old : C) (more : List Change) (mark : Option Mark) (result : Result (Unit {0}) Refusal) (new : C) : Type 0 where
  pub device : StaysClean is_honest is_clean is_want old new result
  pub takes : is_clean new → TakenUnless (cause (stands old)) (stands old) more mark result (stands new)

-- whether a call may take them is its caller's to ask
abbrev pub TakesAll : {C : Type 0} → Host → (C → Type 0) → (C → Type 0) → (C → State) → C → List Change → Option Mark → Result (Unit {0}) Refusal → C → Type 0
TakesAll host is_honest is_clean stands old more mark result new = TakesUnless is_honest is_clean stands (λ st. taking_cause host st more) old more mark result new

-- The first step: the changes may be taken, with what their commit would bring in, or the first cause that holds is told, or want; and
-- a session stays where it stands.
pub record Approves {C : Type 0} (host : Host) (is_honest is_clean : C → Type 0) (stands : C → State) (old : C) (more : List Change) (result : Result Taking Refusal) (new : C) : Type 0 where
  pub device : StaysClean is_honest is_clean is_want old new result
  pub same : is_clean new → stands new ≡ stands old
  pub approves : is_clean new → MatchResult result (λ t. IsReady (stands new).holding more t.newly_kept × (taking_cause host (stands old) more ≡ Free)) (λ r. IsWant r ⊎ Tells (taking_cause host (stands old) more) r)

-- the second step commits them, with a mark, or is refused for want
abbrev pub IsCommitted : State → List Change → Option Mark → Result (Unit {0}) Refusal → State → Type 0
IsCommitted old more mark (Ok u) new = new ≡ taking more mark old
IsCommitted old more mark (Err r) new = IsWant r × (new ≡ old)

pub record CommitsTaking {C : Type 0} (is_honest is_clean : C → Type 0) (stands : C → State) (old : C) (more : List Change) (mark : Option Mark) (result : Result (Unit {0}) Refusal) (new : C) : Type 0 where
  pub device : StaysClean is_honest is_clean is_want old new result
  pub commits : is_clean new → IsCommitted (stands old) more mark result (stands new)

-- Some changes were taken at once, against which nothing stood, with a mark just where one is asked for; or nothing is changed.
abbrev pub AllOrNone : Host → Bool → State → Result (Unit {0}) Refusal → State → Type 0
AllOrNone host is_marked old (Ok u) new =
    (sent : List Change) × (mark : Option Mark) × (is_some mark ≡ is_marked) × (take_cause host old sent mark ≡ Free) × (new ≡ taking sent mark old)
AllOrNone host is_marked old (Err r) new = new ≡ old

-- A session takes what a peer holds, which stands where it stood. Where the peer is read and its store fails, that is want; whatever
-- becomes of the peer's store, nothing stands against what is taken, what is refused changes nothing, and no failure is of both stores.
pub record PullsUnless {C D : Type 0} (host : Host) (is_marked : Bool) (is_honest is_clean : C → Type 0) (stands : C → State) (peer_honest peer_clean : D → Type 0) (peer_stands : D → State)
    (cause : State → Holding → Cause) (more : State → Holding → List Change) (mark : Holding → Option Mark) (old : C) (peer : D) (result : Result (Unit {0}) Refusal) (new : C) (peer_new : D) : Type 0 where
  pub device : StaysClean is_honest is_clean is_want old new result
  pub peer_device : StaysClean peer_honest peer_clean is_want peer peer_new result
  pub peer_same : peer_clean peer_new → peer_stands peer_new ≡ peer_stands peer
  pub takes : is_clean new → peer_clean peer_new
      → TakenUnless (cause (stands old) (peer_stands peer).holding) (stands old) (more (stands old) (peer_stands peer).holding) (mark (peer_stands peer).holding) result (stands new)
  pub all_or_none : is_clean new → AllOrNone host is_marked (stands old) result (stands new)
  pub not_both : (is_honest new → is_clean old → is_clean new) ⊎ (peer_honest peer_new → peer_clean peer → peer_clean peer_new)

-- done, or the refusal that there is
abbrev pub unless : Option Refusal → Result (Unit {0}) Refusal
unless None = Ok tt
unless (Some r) = Err r

-- what is told before a store is asked for anything: it is told whatever memory there is, and nothing has happened
abbrev pub IsToldAtOnce : {C : Type 0} → Option Refusal → C → Result (Unit {0}) Refusal → C → Type 0
IsToldAtOnce cause old result new = IfErr (unless cause) (λ r. (result ≡ Err r) × (new ≡ old))

-- ---- commands

-- what stands against a definition and is told before an open transaction: all but a default that a column lacks
abbrev pub is_early : DefineError → Bool
is_early define.Memory = true
is_early (define.Store fault) = true
is_early (define.Profile fault) = true
is_early define.TableExists = true
is_early (define.Duplicate i) = true
is_early (define.NoSuchCollation i) = true
is_early (define.NoDefault i) = false

-- a command that the replica in use carries out by itself
abbrev pub is_own : Command → Bool
is_own (Open name site) = false
is_own (Use name) = false
is_own (Policy rule) = false
is_own (Define declaration) = true
is_own (Take row) = true
is_own (Rows name) = true
is_own (Changes n) = true
is_own (Pull name) = false
is_own (PullSince name) = false
is_own (Sql text) = true

module _ {S E : Type 0} (l : Language S E) (host : Host) where
  abbrev pub RunsScript : State → List ℕ → FleetReply → Type 0
  RunsScript st text (Script x) = (new : State) × Runs l host st (l.pieces text) x.replies x.refusal new
  RunsScript st text (Refused r) = ⊥
  RunsScript st text Done = ⊥
  RunsScript st text (Shown rows) = ⊥
  RunsScript st text (Told cells) = ⊥

  -- the reply may be given where the replica stands so
  abbrev pub OwnAnswers : State → Command → FleetReply → Type 0
  OwnAnswers st (Define Real) reply = reply ≡ Refused (refusal.OutOfProfile out.Real)
  OwnAnswers st (Define (Declared def)) reply = IsDone (define_cause l.has_collation st def) reply
  OwnAnswers st (Take row) reply = Takes host st (change_of row) reply
  OwnAnswers st (Rows name) reply = ShowsRows st.holding name (find (is_named name) st.holding.tables) reply
  OwnAnswers st (Changes n) reply = ShowsChanges st.holding n reply
  OwnAnswers st (Sql text) reply = RunsScript st text reply
  OwnAnswers st (Open name site) reply = ⊥
  OwnAnswers st (Use name) reply = ⊥
  OwnAnswers st (Policy rule) reply = ⊥
  OwnAnswers st (Pull name) reply = ⊥
  OwnAnswers st (PullSince name) reply = ⊥

  abbrev pub script_left : List ℕ → TheScript → Member → Member
  script_left text x m = record m {
    state = after_script l host m.state (l.pieces text) x.replies x.refusal;
    held = m.held ++ added_by_script l host m.state (l.pieces text) x.replies;
  }

  -- what becomes of the replica
  abbrev pub own_after : Command → FleetReply → Member → Member
  own_after (Define (Declared def)) Done m = defining def m
  own_after (Take row) Done m = taking_row (change_of row) m
  own_after (Sql text) (Script x) m = script_left text x m
  own_after command reply m = m

  -- A command of one replica. It holds where the store is clean after it, as it is where it was clean before, its device is
  -- honest, and the reply does not tell of want.
  pub record Does {C : Type 0} (is_honest is_clean : C → Type 0) (stands : C → State) (old : C) (command : Command) (reply : FleetReply) (new : C) : Type 0 where
    pub was_honest : is_honest new → is_honest old
    pub was_clean : is_clean new → is_clean old
    pub stays_clean : is_honest new → is_clean old → tells_want reply ≡ false → is_clean new
    pub answers : is_clean new → OwnAnswers (stands old) command reply
    pub leaves : is_clean new → (m : Member) → m.state ≡ stands old → (own_after command reply m).state ≡ stands new
