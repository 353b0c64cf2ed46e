-- What holds over every run of a fleet and over every statement of a session. Source: this project's own.
use Rattle.std.specs.Prelude.{◌≡◌, ◌⊎◌, ℕ, Bool, true, false, find, Result, Ok, Err, List, Option, Some, None, slice_get}
use Rattle.std.specs.List.{AllByRecursion}
use Rattle.cr_value.specs.declared.value.Value.{Value}
use Rattle.cr_lattice.specs.declared.change.Change.{Change}
use Rattle.cr_lattice.specs.declared.table.Table.{Table}
use Rattle.cr_lattice.specs.Keep.{SameMembers, join}
use Rattle.cr_lattice.specs.Sync.{Knows}
use Rattle.cr_cells.specs.Holding.{kept_of, IsSound}
use Rattle.cr_cells.specs.Marks.{Mark, seen_of}
use Rattle.cr_cells.specs.Tables.{is_named}
use Rattle.cr_query.specs.Queries.{Query}
use Rattle.cr_query.specs.Query.{SameTables}
use Rattle.cr_query.specs.Plans.{seen, AllWithin}
use Rattle.cr_world.specs.declared.command.Command.{Command}
use Rattle.cr_world.specs.declared.command.Command.TheVariants.{Rows}
use Rattle.cr_world.specs.declared.command.FleetReply.{FleetReply}
use Rattle.cr_world.specs.declared.command.FleetReply.TheVariants.{Refused}
use Rattle.cr_world.specs.declared.command.Reply.{Reply}
use Rattle.cr_world.specs.declared.command.Script.{Script as TheScript}
use Rattle.cr_world.specs.declared.refusal.Refusal.{Refusal}
use Rattle.cr_world.specs.Resolved.{Select}
use Rattle.cr_world.specs.Language.{Language, AreWide, definition_in}
use Rattle.cr_world.specs.State.{State, ModuleState, catalog, table_of, now, tables_named}
use Rattle.cr_world.specs.Causes.{IsFault, IsWant}
use Rattle.cr_world.specs.Statement.{Host, Answers, adding, ended, is_memory, stepped, ends, resolved_of}
use Rattle.cr_world.specs.Scripts.{Moment}
use Rattle.cr_world.specs.World.{World, Member, Keeps, Closures, used}
use Rattle.cr_world.specs.Answers.{tells_want, after, script_run}
use Rattle.cr_world.specs.Run.{world_before, moment_at}
use Rattle.cr_world.specs.Takings.{taking, pulling, pulling_since}

-- ---- replies that say the same

-- the same refusal; or both are for an evaluation, and which of several faults is told is open
abbrev pub RefuseAlike : Refusal → Refusal → Type 0
RefuseAlike r s = (r ≡ s) ⊎ (IsFault true r × IsFault true s)

-- Unless one of them tells of want, both show the same list of rows, or both are refused alike.
abbrev pub SayTheSame : Result Reply Refusal → Result Reply Refusal → Type 0
SayTheSame (Ok x) (Ok y) = x ≡ y
SayTheSame (Ok x) (Err s) = IsWant s
SayTheSame (Err r) (Ok y) = IsWant r
SayTheSame (Err r) (Err s) = IsWant r ⊎ (IsWant s ⊎ RefuseAlike r s)

-- ---- what two sessions have in common

-- both define a table of the name alike, and it is replicated in both
pub record HaveTable (st new : State) (name : List ℕ) : Type 0 where
  pub table : Table
  pub first : table_of st name ≡ Some table
  pub second : table_of new name ≡ Some table
  pub replicated : table.is_replicated ≡ true

-- they held the same changes, however ordered, grouped or repeated, both stand outside a transaction, and define each of
-- these tables alike
pub record AreAlike {S : Type 0} (names : List (List ℕ)) (m n : Moment S) : Type 0 where
  pub held : SameMembers m.held n.held
  pub first : m.state.pending ≡ None
  pub second : n.state.pending ≡ None
  pub tables : AllByRecursion (HaveTable m.state n.state) names

-- ---- rows as the last commit left them

-- a replica's table of a name
abbrev pub table_in : Option Member → List ℕ → Option Table
table_in None name = None
table_in (Some m) name = find (is_named name) m.state.holding.tables

-- both replicas are there and held the same changes, however ordered, grouped or repeated
abbrev pub HeldTheSame : Option Member → Option Member → Type 0
HeldTheSame (Some m) (Some n) = SameMembers m.held n.held
HeldTheSame (Some m) None = ⊥
HeldTheSame None n = ⊥

-- the replies show the same rows or tell the same refusal, unless one of them tells of want
abbrev pub ShowTheSame : Option FleetReply → Option FleetReply → Type 0
ShowTheSame (Some r) (Some s) = tells_want r ≡ false → tells_want s ≡ false → r ≡ s
ShowTheSame None s = Unit {0}
ShowTheSame (Some r) None = Unit {0}

module _ {S E : Type 0} (l : Language S E) (k : Closures) where
  -- ---- the headline

  -- After any commands, at whichever place of whichever script of a run two replicas that held the same changes come to the
  -- same select, over replicated tables that both define alike, asking for neither site nor version, outside of transactions
  -- and under the same policy: both answer it with the same list of rows, or refuse it alike.
  abbrev pub Converges : World → List Command → List FleetReply → Type 0
  Converges w cs rs = (p q i j : ℕ) (m n : Moment S)
      → moment_at l k w cs rs p i ≡ Some m → moment_at l k w cs rs q j ≡ Some n → m.statement ≡ n.statement
      → l.is_select n.statement ≡ true → l.is_free n.statement ≡ true
      → AreAlike (l.names n.statement) m n
      → (world_before l k w cs rs p).rules ≡ (world_before l k w cs rs q).rules
      → SayTheSame m.reply n.reply

  -- Wherever in a run a replica shows a table's rows, and wherever a replica that held the same changes shows a table of the
  -- same definition, they show the same rows or tell the same refusal.
  abbrev pub RowsConverge : World → List Command → List FleetReply → Type 0
  RowsConverge w cs rs = (p q : ℕ) (name : List ℕ)
      → slice_get cs p ≡ Some (Rows name) → slice_get cs q ≡ Some (Rows name)
      → HeldTheSame (used (world_before l k w cs rs p)) (used (world_before l k w cs rs q))
      → table_in (used (world_before l k w cs rs p)) name ≡ table_in (used (world_before l k w cs rs q)) name
      → ShowTheSame (slice_get rs p) (slice_get rs q)

  -- The same of two sessions, whatever their parameters and modules: what each shows now is the same.
  abbrev pub SessionsAgree : Type 0
  SessionsAgree = (host : Host) (st new : State) (params : List Value) (s : S) (r t : Result Reply Refusal) (ms ns : List ModuleState)
      → l.is_select s ≡ true → l.is_free s ≡ true → now st ≡ now new → AllByRecursion (HaveTable st new) (l.names s)
      → Answers l host st params s r ms → Answers l host new params s t ns → SayTheSame r t

  -- Blindness: for each of the query's tables some of its columns, those that stand in it among them. Two sessions whose names stand
  -- for the same, and whose tables have the same rows once NULL is put for the other columns, answer the same.
  abbrev pub Blind : Type 0
  Blind = (host : Host) (st new : State) (params : List Value) (s : S) (r t : Result Reply Refusal) (ms ns : List ModuleState)
      → l.is_select s ≡ true → l.is_free s ≡ true → AllByRecursion (λ n. definition_in (catalog st) n ≡ definition_in (catalog new) n) (l.names s)
      → ((names : List (List ℕ)) (q : Query E) → resolved_of l host st params s ≡ Ok (Select names q)
      → (columns : List (List Bool)) × (AllWithin (l.standing q) columns
      × SameTables (seen columns (tables_named st names)) (seen columns (tables_named new names))
      × AreWide q.sources (tables_named st names) × AreWide q.sources (tables_named new names)))
      → Answers l host st params s r ms → Answers l host new params s t ns → SayTheSame r t

  -- ---- the other claims

  -- Every taking is a join: what is kept after it is what is kept before it and the taken keep together. Inside a
  -- transaction this is said of what is kept with the transaction's changes.
  abbrev pub TakingsAreJoins : Type 0
  TakingsAreJoins = (st : State) (more : List Change) (mark : Option Mark) → IsSound st.holding
      → (kept_of (taking more mark st).holding ≡ join (kept_of st.holding) more) × (now (adding more st) ≡ join (now st) more)

  -- What is refused changes nothing. A COMMIT that is carried out and then refused ends its transaction, as a rollback does;
  -- for want of memory it leaves it open.
  abbrev pub RefusedChangesNothing : Type 0
  RefusedChangesNothing = (host : Host) (st : State) (params : List Value) (s : S) (r : Refusal)
      → ((stepped l host st params s (Err r) st.modules).holding ≡ st.holding)
      × (ends l host st params s ≡ false → stepped l host st params s (Err r) st.modules ≡ st)
      × (is_memory r ≡ true → stepped l host st params s (Err r) st.modules ≡ st)
      × (is_memory r ≡ false → ends l host st params s ≡ true → stepped l host st params s (Err r) st.modules ≡ ended st)

  abbrev pub RefusedCommandChangesNothing : Type 0
  RefusedCommandChangesNothing = (w : World) (c : Command) (r : Refusal) → after l k w c (Refused r) ≡ w

  -- a script leaves a replica that keeps what all that it ever held keeps
  abbrev pub ScriptsKeep : Type 0
  ScriptsKeep = (w : World) (text : List ℕ) (x : TheScript) (m : Member) → Keeps m → Keeps (script_run l k w text x m)

  -- each kept change of a peer that is stamped at or below its mark is kept here, or beaten
  abbrev pub KnowsOf : Member → Member → Type 0
  KnowsOf m peer = Knows (kept_of m.state.holding) peer.state.holding.cells peer.state.holding.version (seen_of m.state.holding.marks peer.state.holding.site)

  -- So does a pull.
  abbrev pub PullsKeep : Type 0
  PullsKeep = (m peer : Member) → Keeps m → Keeps peer → IsSound peer.state.holding → Keeps (pulling (Some peer) m)

  -- An incremental pull leaves what a pull of all that the peer ever held leaves, where the mark's promise holds; and the
  -- promise holds of the new mark.
  abbrev pub IncrementalPullsKeep : Type 0
  IncrementalPullsKeep = (m peer : Member) → Keeps m → Keeps peer → KnowsOf m peer
      → Keeps (pulling_since (Some peer) m)
      × Knows (kept_of (pulling_since (Some peer) m).state.holding) peer.state.holding.cells peer.state.holding.version peer.state.holding.version
