-- One statement: why it is refused, what it replies, and what it leaves. Source: this project's own; what a statement does
-- is SQLite's, what a write changes is cr-sqlite's.
use Rattle.std.specs.Prelude.{◌≡◌, ℕ, Bool, true, false, not, ◌&&◌, ◌||◌, ◌⊎◌, cond, length, List, [], ◌∷◌, ◌++◌, find, position, Option, Some, None, is_some, slice_get, unwrap_or, Result, Ok, Err, codes}
use Rattle.std.specs.List.{filter_map, list_any}
use Rattle.std.specs.Option.{option_map, option_map_or, option_and_then}
use Rattle.cr_value.specs.declared.value.Value.{Value}
use Rattle.cr_value.specs.declared.value.Value.TheVariants.{Null, Text}
use Rattle.cr_lattice.specs.declared.change.Change.{Change}
use Rattle.cr_lattice.specs.declared.check.BadChange.{BadChange}
use Rattle.cr_lattice.specs.declared.check.BadChange.TheVariants.{Shape}
use Rattle.cr_lattice.specs.declared.table.ColumnDef.{ColumnDef}
use Rattle.cr_lattice.specs.declared.table.Table.{Table}
use Rattle.cr_lattice.specs.declared.table.TableDef.{TableDef}
use Rattle.cr_lattice.specs.Profile.{lacks_default}
use Rattle.cr_cells.specs.Holding.{kept_of}
use Rattle.cr_cells.specs.Tables.{with_table, with_replicated, with_added, fault_in, earlier}
use Rattle.cr_cells.specs.Commit.{committed, newly_kept}
use Rattle.cr_cells.specs.Calls.{is_past_limit}
use Rattle.cr_delta.specs.Delta.{delta, passes_limit}
use Rattle.cr_replica.specs.ChangeRow.{change_with, text_of, blob_of, integer_of, site_of}
use Rattle.cr_query.specs.Query.{Row, Meaning, answer}
use Rattle.cr_scalar.specs.declared.fault.EvalFault.{EvalFault}
use Rattle.cr_scalar.specs.declared.fault.EvalFault.TheVariants as fault
use Rattle.cr_scalar.specs.Meaning.{byte_limit}
use Rattle.cr_meaning.specs.Meaning.{Counts, Regard, strict}
use Rattle.cr_query.specs.Writes.{inserted_rows, wanted_by_insert, wanted_by_update, wanted_by_delete, has_long_key, lacks_value, has_twice, by_key}
use Rattle.cr_world.specs.declared.refusal.Refusal.{Refusal}
use Rattle.cr_world.specs.declared.refusal.Refusal.TheVariants as refusal
use Rattle.cr_world.specs.declared.refusal.EvalFault.TheVariants as eval
use Rattle.cr_world.specs.declared.command.Reply.{Reply}
use Rattle.cr_world.specs.declared.command.Reply.TheVariants.{Rows, Done}
use Rattle.cr_world.specs.Resolved.{Target, Resolved, Select, Mark, Insert, Update, Delete, Create, Alter, Begin, Commit, Rollback}
use Rattle.cr_world.specs.Resolved as target
use Rattle.cr_world.specs.Language.{Language, Asked}
use Rattle.cr_world.specs.State.{State, ModuleState, now, in_transaction, catalog, table_of, module_of, is_module, rows_named, tables_named, columns_of, name_of}
use Rattle.cr_world.specs.Causes.{Cause, Free, Is, Evaluation, first_cause, or_else, of_option, of_result, where_true, Tells, IsWant}

-- what a host allows: its authorizer with the policy, and its commit hook with the policy
pub record Host : Type 0 where
  pub ask : Asked
  pub vetoes : List Change → Bool

-- ---- rows of changes

abbrev pub at : ℕ → Row → Value
at i row = unwrap_or (slice_get row i) Null

-- the change that a row of the table of changes tells of
abbrev pub change_of_row : Row → Option Change
change_of_row row = change_with (at 3 row) (text_of (at 0 row)) (blob_of (at 1 row)) (text_of (at 2 row)) (integer_of (at 4 row)) (site_of (at 6 row)) (integer_of (at 7 row))

abbrev pub fault_of_change : State → Option Change → Option BadChange
fault_of_change st None = Some Shape
fault_of_change st (Some c) = fault_in st.holding.tables c

-- why the first row is no well-formed change
abbrev pub first_bad : State → List Row → Option BadChange
first_bad st [] = None
first_bad st (row ∷ rows) = earlier (fault_of_change st (change_of_row row)) (first_bad st rows)

-- ---- what is evaluated

-- what a write wants of a replicated table, given what it shows; of any other target the rows that it brings
abbrev pub wanted_of : {A : Type 0} → Target → (TableDef → A) → A → A
wanted_of (target.Table def) f other = f def
wanted_of target.Changes f other = other
wanted_of (target.Module name columns) f other = other

module _ {E : Type 0} (m : Meaning E) (st : State) where
  -- A query's answer; the rows that a write wants of its table; the rows that an INSERT brings to another
  abbrev pub evaluated : Resolved E → Option (List Row)
  evaluated (Select names q) = answer m q (tables_named st names)
  evaluated (Insert t w) = wanted_of t (λ def. wanted_by_insert m def.columns w (rows_named st def.name)) (inserted_rows m (columns_of t) w)
  evaluated (Update t w) = wanted_of t (λ def. wanted_by_update m def.columns w (rows_named st def.name)) (Some [])
  evaluated (Delete t w) = wanted_of t (λ def. wanted_by_delete m w (rows_named st def.name)) (Some [])
  evaluated (Mark t is_ignored) = Some []
  evaluated (Create def is_there) = Some []
  evaluated (Alter t col) = Some []
  evaluated Begin = Some []
  evaluated Commit = Some []
  evaluated Rollback = Some []

abbrev pub unless_ignored : Bool → Option TableDef → Option TableDef
unless_ignored ignored def = cond ignored None def

abbrev pub table_def : Target → Option TableDef
table_def t = wanted_of t (λ def. Some def) None

-- the table whose rows are wanted
abbrev pub written : {E : Type 0} → Resolved E → Option TableDef
written (Insert t w) = unless_ignored w.is_ignored (table_def t)
written (Update t w) = table_def t
written (Delete t w) = table_def t
written (Select names q) = None
written (Mark t is_ignored) = None
written (Create def is_there) = None
written (Alter t col) = None
written Begin = None
written Commit = None
written Rollback = None

abbrev pub is_changes : Target → Bool
is_changes (target.Table def) = false
is_changes target.Changes = true
is_changes (target.Module name columns) = false

abbrev pub is_module_target : Target → Bool
is_module_target (target.Table def) = false
is_module_target target.Changes = false
is_module_target (target.Module name columns) = true

abbrev pub takes_changes : {E : Type 0} → Resolved E → Bool
takes_changes (Insert t w) = is_changes t && not w.is_ignored
takes_changes r = false

-- the module that takes rows
abbrev pub updates_module : {E : Type 0} → Resolved E → Option (List ℕ)
updates_module (Insert t w) = cond (is_module_target t && not w.is_ignored) (Some (name_of t)) None
updates_module r = None

-- ---- the changes of a statement

abbrev pub changes_by : {E : Type 0} → State → Resolved E → List Row → List Change
changes_by st r rows =
    elim (written r) as (λ _. List Change) [
      | Some def ↦ delta def st.holding.site (now st) (by_key def rows)
      | None ↦ cond (takes_changes r) (filter_map change_of_row rows) []
    ]

abbrev pub writes : {E : Type 0} → Resolved E → Bool
writes r = is_some (written r) || takes_changes r

-- the changes that are committed, if the statement commits
abbrev pub commits : {E : Type 0} → State → Resolved E → List Row → Option (List Change)
commits st Commit rows = st.pending
commits st r rows = cond (writes r && not (in_transaction st)) (Some (changes_by st r rows)) None

-- ---- causes

-- inside a transaction, or outside of one
abbrev pub transaction_cause : {E : Type 0} → State → Resolved E → Cause
transaction_cause st Begin = where_true (in_transaction st) refusal.TransactionState
transaction_cause st Commit = where_true (not (in_transaction st)) refusal.TransactionState
transaction_cause st Rollback = where_true (not (in_transaction st)) refusal.TransactionState
transaction_cause st (Create def is_there) = where_true (in_transaction st) refusal.TransactionState
transaction_cause st (Alter t col) = where_true (in_transaction st) refusal.TransactionState
transaction_cause st (Mark t is_ignored) = where_true (in_transaction st) refusal.TransactionState
transaction_cause st (Insert t w) = where_true (in_transaction st && is_module_target t) refusal.TransactionState
transaction_cause st (Update t w) = Free
transaction_cause st (Delete t w) = Free
transaction_cause st (Select names q) = Free

-- a module is changed by INSERT alone, and the table of changes too
abbrev pub not_a_table : Target → Cause
not_a_table t = wanted_of t (λ def. Free) (Is (refusal.ReadOnly (name_of t)))

abbrev pub read_only_cause : {E : Type 0} → Resolved E → Cause
read_only_cause (Update t w) = not_a_table t
read_only_cause (Delete t w) = not_a_table t
read_only_cause (Mark t is_ignored) = not_a_table t
read_only_cause (Alter t col) = not_a_table t
read_only_cause r = Free

abbrev pub is_replicated : State → List ℕ → Bool
is_replicated st name = option_map_or (λ t. t.is_replicated) (table_of st name) false

abbrev pub not_yet : State → Target → Cause
not_yet st t = wanted_of t (λ def. where_true (not (is_replicated st def.name)) (refusal.NotYet def.name)) Free

abbrev pub column_name : List ColumnDef → ℕ → List ℕ
column_name cols i = option_map_or (λ c. c.name) (slice_get cols i) []

abbrev pub no_default : Target → Cause
no_default t = wanted_of t (λ def. of_option (option_map (λ i. refusal.NoDefault (column_name def.columns i)) (position lacks_default def.columns))) Free

abbrev pub replicable_cause : {E : Type 0} → State → Resolved E → Cause
replicable_cause st (Insert t w) = not_yet st t
replicable_cause st (Update t w) = not_yet st t
replicable_cause st (Delete t w) = not_yet st t
replicable_cause st (Mark t is_ignored) = no_default t
replicable_cause st (Alter t col) = where_true (lacks_default col) (refusal.NoDefault col.name)
replicable_cause st r = Free

abbrev pub is_fault : Option (List Row) → Bool
is_fault o = not (is_some o)

abbrev pub has_long : Option TableDef → List Row → Bool
has_long None rows = false
has_long (Some def) rows = has_long_key def rows

-- without a limit on values and with it
abbrev pub evaluation_cause : Option TableDef → Option (List Row) → Option (List Row) → Cause
evaluation_cause def exact None = Evaluation (is_fault exact)
evaluation_cause def exact (Some rows) = cond (has_long def rows) (Evaluation false) Free

abbrev pub answer_of_module : State → List Row → List ℕ → Cause
answer_of_module st rows name = option_map_or (λ md. elim (md.updated (rows ∷ [])) as (λ _. Cause) [ Ok more ↦ Free | Err r ↦ Is r ]) (module_of st name) Free

abbrev pub module_cause : {E : Type 0} → State → Resolved E → List Row → Cause
module_cause st r rows = option_map_or (answer_of_module st rows) (updates_module r) Free

abbrev pub null_cause : {E : Type 0} → Resolved E → List Row → Cause
null_cause r rows = option_map_or (λ def. where_true (lacks_value def rows) refusal.NotNull) (written r) Free

abbrev pub key_cause : {E : Type 0} → Resolved E → List Row → Cause
key_cause r rows = option_map_or (λ def. where_true (has_twice def rows) refusal.PrimaryKey) (written r) Free

abbrev pub version_cause : {E : Type 0} → State → Resolved E → List Row → Cause
version_cause st r rows = where_true (is_some (written r) && passes_limit (changes_by st r rows)) refusal.VersionLimit

abbrev pub change_cause : {E : Type 0} → State → Resolved E → List Row → Cause
change_cause st r rows = cond (takes_changes r) (of_option (option_map refusal.BadChange (first_bad st rows))) Free

abbrev pub limit_cause : {E : Type 0} → State → Resolved E → List Row → Cause
limit_cause st r rows = option_map_or (λ more. where_true (is_past_limit st.holding more) refusal.VersionLimit) (commits st r rows) Free

abbrev pub veto_cause : {E : Type 0} → Host → State → Resolved E → List Row → Cause
veto_cause host st r rows = option_map_or (λ more. where_true (host.vetoes (newly_kept (kept_of st.holding) more)) refusal.Veto) (commits st r rows) Free

-- what holds against rows that are there
abbrev pub causes_of_rows : {E : Type 0} → Host → State → Resolved E → List Row → List Cause
causes_of_rows host st r rows =
    module_cause st r rows ∷ null_cause r rows ∷ key_cause r rows ∷ version_cause st r rows ∷ change_cause st r rows ∷ limit_cause st r rows
    ∷ veto_cause host st r rows ∷ []

-- what holds against a statement that is allowed, of which this is evaluated
abbrev pub causes_of : {E : Type 0} → Host → State → Resolved E → Option (List Row) → Option (List Row) → List Cause
causes_of host st r exact sized =
    transaction_cause st r ∷ read_only_cause r ∷ replicable_cause st r ∷ evaluation_cause (written r) exact sized
    ∷ causes_of_rows host st r (unwrap_or sized [])

-- ---- what it replies and leaves

abbrev pub marked_reply : Bool → Reply
marked_reply ignored = Rows ((cond ignored Null (Text (codes "OK")) ∷ []) ∷ [])

abbrev pub reply_to : {E : Type 0} → Resolved E → List Row → Reply
reply_to (Select names q) rows = Rows rows
reply_to (Mark t is_ignored) rows = marked_reply is_ignored
reply_to r rows = Done

-- changes are committed, or stand with those of the open transaction
abbrev pub adding : List Change → State → State
adding more st = elim st.pending as (λ _. State) [
  | None ↦ record st { holding = committed st.holding more None }
  | Some p ↦ record st { pending = Some (p ++ more) }
]

abbrev pub ended : State → State
ended st = record st { pending = None }

abbrev pub with_tables : List Table → State → State
with_tables ts st = record st { holding = record st.holding { tables = ts } }

-- the last argument is what the modules are then
abbrev pub left_by : {E : Type 0} → State → Resolved E → List Row → List ModuleState → State
left_by st (Select names q) rows ms = st
left_by st (Mark t is_ignored) rows ms = cond is_ignored st (with_tables (with_replicated (name_of t) st.holding.tables) st)
left_by st (Create def is_there) rows ms = cond is_there st (with_tables (with_table st.holding.tables def false) st)
left_by st (Alter t col) rows ms = with_tables (with_added (name_of t) col st.holding.tables) st
left_by st Begin rows ms = record st { pending = Some [] }
left_by st Commit rows ms = ended (record st { holding = committed st.holding (unwrap_or st.pending []) None })
left_by st Rollback rows ms = ended st
left_by st (Insert t w) rows ms = record (cond (writes (Insert t w)) (adding (changes_by st (Insert t w) rows) st) st) { modules = ms }
left_by st (Update t w) rows ms = cond (writes (Update t w)) (adding (changes_by st (Update t w) rows) st) st
left_by st (Delete t w) rows ms = cond (writes (Delete t w)) (adding (changes_by st (Delete t w) rows) st) st

abbrev pub result_ok : {X : Type 0} → Result X Refusal → Option X
result_ok (Ok x) = Some x
result_ok (Err r) = None

abbrev pub is_memory : Refusal → Bool
is_memory refusal.Memory = true
is_memory r = false

-- a module that takes rows shows what one update says, and takes further ones as behind that; the others stay
abbrev pub ModuleLeaves : Option (List ℕ) → List Row → ModuleState → ModuleState → Type 0
ModuleLeaves None rows old new = new ≡ old
ModuleLeaves (Some name) rows old new =
    elim (is_module name old) as (λ _. Type 0) [
      | true ↦ (new.name ≡ old.name) × (new.columns ≡ old.columns) × (old.updated (rows ∷ []) ≡ Ok new.rows) × (new.updated ≡ (λ more. old.updated (rows ∷ more)))
      | false ↦ new ≡ old
    ]

abbrev pub ModulesLeave : Option (List ℕ) → List Row → List ModuleState → List ModuleState → Type 0
ModulesLeave name rows [] [] = Unit {0}
ModulesLeave name rows (m ∷ ms) (n ∷ ns) = ModuleLeaves name rows m n × ModulesLeave name rows ms ns
ModulesLeave name rows [] (n ∷ ns) = ⊥
ModulesLeave name rows (m ∷ ms) [] = ⊥

-- a module is written to, or a name in FROM is one's
abbrev pub touches : {E : Type 0} → List ModuleState → Resolved E → Bool
touches ms (Select names q) = list_any (λ name. is_some (find (is_module name) ms)) names
touches ms (Mark t is_ignored) = is_module_target t
touches ms (Insert t w) = is_module_target t
touches ms (Update t w) = is_module_target t
touches ms (Delete t w) = is_module_target t
touches ms (Create def is_there) = false
touches ms (Alter t col) = is_module_target t
touches ms Begin = false
touches ms Commit = false
touches ms Rollback = false

-- ---- which fault is told

module _ {E : Type 0} (under : Regard → Meaning E) (st : State) (r : Resolved E) where
  -- where it evaluates to nothing it does so wherever this fault counts, whatever stands for others
  abbrev pub Remains : EvalFault → Type 0
  Remains f = evaluated (under (strict byte_limit)) st r ≡ None → (g : Regard) → Counts g f → evaluated (under g) st r ≡ None

  -- a fault of evaluation that is told is one that remains
  abbrev pub IsFound : Refusal → Type 0
  IsFound (refusal.Eval eval.Overflow) = Remains fault.Overflow
  IsFound (refusal.Eval eval.NotANumber) = Remains fault.NotANumber
  IsFound (refusal.Eval eval.NotUtf8) = Remains fault.NotUtf8
  IsFound (refusal.Eval (eval.Host text)) = Remains (fault.Host text)
  IsFound refusal.TooBig = Remains fault.TooBig
  IsFound x = Unit {0}

-- ---- a statement as it was read

module _ {S E : Type 0} (l : Language S E) (host : Host) (st : State) (params : List Value) where
  -- the statement, or what stands against its definition, its names, or what is denied of it
  abbrev pub resolved_of : S → Result (Resolved E) Refusal
  resolved_of s = l.resolved (catalog st) host.ask s

  abbrev pub allowed_of : S → Option (Resolved E)
  allowed_of s = result_ok (resolved_of s)

  abbrev pub exact_of : Resolved E → Option (List Row)
  exact_of r = evaluated (l.regarded (strict None) params) st r

  abbrev pub sized_of : Resolved E → Option (List Row)
  sized_of r = evaluated (l.regarded (strict byte_limit) params) st r

  -- before a statement is carried out
  abbrev pub early_cause : S → Cause
  early_cause s = or_else (of_result (resolved_of s)) (where_true (not (l.fits s (length params))) refusal.Parameters)

  abbrev pub later_cause : Option (Resolved E) → Cause
  later_cause None = Free
  later_cause (Some r) = first_cause (causes_of host st r (exact_of r) (sized_of r))

  -- the one cause for which a statement is refused
  abbrev pub cause_of : S → Cause
  cause_of s = or_else (early_cause s) (later_cause (allowed_of s))

  abbrev pub rows_of : Resolved E → List Row
  rows_of r = unwrap_or (sized_of r) []

  -- what an accepted statement replies, and what it leaves where the modules are these then
  abbrev pub replied : S → Option Reply
  replied s = option_map (λ r. reply_to r (rows_of r)) (allowed_of s)

  abbrev pub left : S → List ModuleState → State
  left s ms = option_map_or (λ r. left_by st r (rows_of r) ms) (allowed_of s) st

  abbrev pub modules_leave : S → List ModuleState → Type 0
  modules_leave s ms = ModulesLeave (option_and_then updates_module (allowed_of s)) (option_map_or rows_of (allowed_of s) []) st.modules ms

  -- a COMMIT that is carried out ends its transaction
  abbrev pub is_commit : Option (Resolved E) → Bool
  is_commit (Some Commit) = true
  is_commit (Some r) = false
  is_commit None = false

  abbrev pub is_free : Cause → Bool
  is_free Free = true
  is_free c = false

  abbrev pub ends : S → Bool
  ends s = is_commit (allowed_of s) && (in_transaction st && is_free (early_cause s))

  -- Want of memory leaves a transaction open; any other refusal of a COMMIT that is carried out ends it.
  abbrev pub left_refused : S → Refusal → State
  left_refused s r = cond (is_memory r) st (cond (ends s) (ended st) st)

  -- a fault of evaluation that is told is one that remains, unless a module is touched: the order of its rows is its own
  abbrev pub IsFoundOf : S → Refusal → Type 0
  IsFoundOf s x = (r : Resolved E) → allowed_of s ≡ Some r → touches st.modules r ≡ false → IsFound (λ g. l.regarded g params) st r x

  -- the reply may be given, where the modules are these then
  abbrev pub Answers : S → Result Reply Refusal → List ModuleState → Type 0
  Answers s (Ok reply) ms = (cause_of s ≡ Free) × (replied s ≡ Some reply) × modules_leave s ms
  Answers s (Err r) ms = (IsWant r ⊎ Tells (cause_of s) r) × ((ms ≡ st.modules) × IsFoundOf s r)

  abbrev pub stepped : S → Result Reply Refusal → List ModuleState → State
  stepped s (Ok reply) ms = left s ms
  stepped s (Err r) ms = left_refused s r
