-- Worked examples of statements and scripts, over small expressions.
use Rattle.std.proofs.Common.{◌≡◌, ℕ, ℤ, pos, Bool, true, false, List, [], ◌∷◌, None, Ok, Err, refl}
use Rattle.std.specs.Prelude.{codes, length, map, nat_lt}
use Rattle.cr_lattice.specs.declared.check.BadChange.TheVariants.{Shape}
use Rattle.cr_value.specs.declared.value.Value.TheVariants.{Null}
use Rattle.cr_value.specs.Unpacking.{sized_at, int_at, text_at, blob_at, value_at, values_at}
use Rattle.cr_value.specs.Affinity.{int_of_text}
use Rattle.cr_lattice.specs.declared.stamped.Stamped.{Stamped}
use Rattle.cr_lattice.specs.declared.table.Table.{Table}
use Rattle.cr_lattice.specs.Change.{change_cmp, row_cmp, weight_cmp, cid_cmp, beats}
use Rattle.cr_lattice.specs.Keep.{has, in_order, is_beaten, keep}
use Rattle.cr_lattice.specs.Rows.{is_alive, alive_keys, kept_change, row, rows}
use Rattle.cr_value.specs.Unpacking.{unpacked}
use Rattle.cr_delta.specs.Key.{key_part, key_values, key_of}
use Rattle.cr_delta.specs.Delta.{length_of, version_of, value_cells, is_wanted, arrival, update, row_delta, removals, delta, passes_limit}
use Rattle.cr_cells.specs.Tables.{with_added}
use Rattle.cr_cells.specs.Holding.{cell_cmp, stamp_cmp, since}
use Rattle.cr_cells.specs.Commit.{newly_kept, is_changed, cells_after}
use Rattle.cr_lattice.specs.declared.table.ColumnDef.{ColumnDef}
use Rattle.cr_value.specs.declared.value.Value.{Value}
use Rattle.cr_value.specs.declared.affinity.Affinity.TheVariants as affinity
use Rattle.cr_world.specs.Resolved.{Resolved, Insert, Update, Delete, Alter, Begin, Commit, Rollback}
use Rattle.cr_world.specs.Resolved as target
use Rattle.cr_query.specs.Writes.{has_long_key, lacks_value, has_twice, by_key}
use Rattle.cr_query.proofs.Examples.{Expr, Lit, Half, m, def, int, text}
use Rattle.cr_host.specs.declared.meaning.Auth.TheVariants.{Ok as Allowed}
use Rattle.cr_world.specs.declared.refusal.Refusal.{Refusal}
use Rattle.cr_world.specs.declared.refusal.Refusal.TheVariants as refusal
use Rattle.cr_world.specs.declared.command.Reply.TheVariants.{Done}
use Rattle.cr_world.specs.Language.{Language}
use Rattle.cr_world.specs.State.{State, new_state, now, rows_named, change_rows, changes_name}
use Rattle.cr_world.specs.Causes.{Cause, Free, Is, Evaluation}
use Rattle.cr_world.specs.Statement.{Host, cause_of, stepped}

-- statements that are resolved already
abbrev l : Language (Resolved Expr) Expr
l = record {
  pieces = λ text. [];
  single = λ text. None;
  names = λ s. [];
  has_collation = λ name. false;
  resolved = λ c ask s. Ok s;
  fits = λ s n. true;
  is_select = λ s. true;
  is_free = λ s. true;
  standing = λ q. [];
  regarded = λ regard g. m;
}

abbrev host : Host
host = record { ask = λ action a b. Allowed; vetoes = λ cs. false }

abbrev t : Table
t = record { definition = def; is_replicated = true }

abbrev empty : State
empty = new_state (record { tables = t ∷ []; site = []; version = pos 0; cells = []; marks = [] })

-- INSERT INTO t VALUES(id, name)
abbrev insert : ℕ → List ℕ → Resolved Expr
insert i n = Insert (target.Table def) (record { places = 0 ∷ 1 ∷ []; tuples = (Lit (int i) ∷ Lit (text n) ∷ []) ∷ []; is_ignored = false })

abbrev rename : List ℕ → Resolved Expr
rename n = Update (target.Table def) (record { assignments = record { place = 1; expr = Lit (text n) } ∷ []; terms = [] })

abbrev done : State → Resolved Expr → State
done st s = stepped l host st [] s (Ok Done) []

abbrev refused : State → Resolved Expr → Refusal → State
refused st s r = stepped l host st [] s (Err r) []

abbrev cause : State → Resolved Expr → Cause
cause st s = cause_of l host st [] s

-- ---- transactions

begin_inside : cause (done empty Begin) Begin ≡ Is refusal.TransactionState
begin_inside = refl

commit_outside : cause empty Commit ≡ Is refusal.TransactionState
commit_outside = refl

rollback_ends : done (done empty Begin) Rollback ≡ empty
rollback_ends = refl

-- a table that isn't replicated yet refuses writes, also an ignored one
not_yet : cause (new_state (record { tables = record { definition = def; is_replicated = false } ∷ []; site = []; version = pos 0; cells = []; marks = [] })) (insert 1 (codes "a")) ≡ Is (refusal.NotYet (codes "t"))
not_yet = refl

-- DELETE FROM crsql_changes
read_only : cause empty (Delete target.Changes (record { terms = [] })) ≡ Is (refusal.ReadOnly changes_name)
read_only = refl

-- a fault comes before a repeated key, and TransactionState before it
faults_first : cause empty (Insert (target.Table def) (record { places = 0 ∷ []; tuples = (Half (Lit (int 1)) ∷ []) ∷ []; is_ignored = false })) ≡ Evaluation true
faults_first = refl

-- ---- writes

no_key : cause empty (Insert (target.Table def) (record { places = 0 ∷ []; tuples = (Lit Null ∷ []) ∷ []; is_ignored = false })) ≡ Is refusal.NotNull
unfolding lacks_value has_long_key now rows alive_keys row kept_change keep in_order
no_key = refl

twice : cause empty (Insert (target.Table def) (record { places = 0 ∷ []; tuples = (Lit (int 1) ∷ []) ∷ (Lit (int 1) ∷ []) ∷ []; is_ignored = false })) ≡ Is refusal.PrimaryKey
unfolding lacks_value has_long_key has_twice key_of key_values key_part now rows alive_keys row kept_change keep in_order
twice = refl

-- INSERT INTO t VALUES(1,'a') outside of a transaction commits: one version more, and the row is shown
abbrev inserted : State
inserted = done empty (insert 1 (codes "a"))

inserts : cause empty (insert 1 (codes "a")) ≡ Free
unfolding now rows alive_keys is_alive row kept_change keep in_order has is_beaten beats row_cmp weight_cmp cid_cmp change_cmp lacks_value has_long_key has_twice by_key key_of key_values key_part delta row_delta arrival update removals length_of version_of value_cells is_wanted passes_limit newly_kept is_changed cells_after cell_cmp stamp_cmp since sized_at int_at text_at blob_at value_at values_at unpacked int_of_text
inserts = refl

one_version : inserted.holding.version ≡ pos 1
unfolding now rows alive_keys is_alive row kept_change keep in_order has is_beaten beats row_cmp weight_cmp cid_cmp change_cmp lacks_value has_long_key has_twice by_key key_of key_values key_part delta row_delta arrival update removals length_of version_of value_cells is_wanted passes_limit newly_kept is_changed cells_after cell_cmp stamp_cmp since sized_at int_at text_at blob_at value_at values_at unpacked int_of_text
one_version = refl

one_row : rows_named inserted (codes "t") ≡ (int 1 ∷ text (codes "a") ∷ []) ∷ []
unfolding now rows alive_keys is_alive row kept_change keep in_order has is_beaten beats row_cmp weight_cmp cid_cmp change_cmp lacks_value has_long_key has_twice by_key key_of key_values key_part delta row_delta arrival update removals length_of version_of value_cells is_wanted passes_limit newly_kept is_changed cells_after cell_cmp stamp_cmp since sized_at int_at text_at blob_at value_at values_at unpacked int_of_text
one_row = refl

-- BEGIN; INSERT INTO t VALUES(1,'a'); UPDATE t SET name = 'b'
abbrev open_ : State
open_ = done (done (done empty Begin) (insert 1 (codes "a"))) (rename (codes "b"))

-- its own writes are seen, and those of the last commit alone are told
own_writes : rows_named open_ (codes "t") ≡ (int 1 ∷ text (codes "b") ∷ []) ∷ []
unfolding now rows alive_keys is_alive row kept_change keep in_order has is_beaten beats row_cmp weight_cmp cid_cmp change_cmp lacks_value has_long_key has_twice by_key key_of key_values key_part delta row_delta arrival update removals length_of version_of value_cells is_wanted passes_limit newly_kept is_changed cells_after cell_cmp stamp_cmp since sized_at int_at text_at blob_at value_at values_at unpacked int_of_text
own_writes = refl

not_told : change_rows open_.holding ≡ []
unfolding now rows alive_keys is_alive row kept_change keep in_order has is_beaten beats row_cmp weight_cmp cid_cmp change_cmp lacks_value has_long_key has_twice by_key key_of key_values key_part delta row_delta arrival update removals length_of version_of value_cells is_wanted passes_limit newly_kept is_changed cells_after cell_cmp stamp_cmp since sized_at int_at text_at blob_at value_at values_at unpacked int_of_text
not_told = refl

-- COMMIT: one version, the row itself at 1, the column at 2
committed_versions : map {B = ℤ × (ℤ × ℤ)} (λ (s : Stamped). (s.change.col_version, (s.version, s.seq))) (since (done open_ Commit).holding.cells (pos 0)) ≡ (pos 1, (pos 1, pos 0)) ∷ (pos 2, (pos 1, pos 1)) ∷ []
unfolding now rows alive_keys is_alive row kept_change keep in_order has is_beaten beats row_cmp weight_cmp cid_cmp change_cmp lacks_value has_long_key has_twice by_key key_of key_values key_part delta row_delta arrival update removals length_of version_of value_cells is_wanted passes_limit newly_kept is_changed cells_after cell_cmp stamp_cmp since sized_at int_at text_at blob_at value_at values_at unpacked int_of_text
committed_versions = refl

-- a vetoed COMMIT ends its transaction and leaves the last commit
vetoed : refused open_ Commit refusal.Veto ≡ empty
vetoed = refl

-- want of memory leaves it open
wanting : refused open_ Commit refusal.Memory ≡ open_
wanting = refl

-- a statement that fails in a transaction is undone alone
undone : refused open_ (insert 1 (codes "c")) refusal.PrimaryKey ≡ open_
undone = refl

-- a host that vetoes commits of more than two changes
abbrev strict : Host
strict = record { ask = λ action a b. Allowed; vetoes = λ cs. nat_lt 2 (length cs) }

vetoed_for_number : cause_of l strict empty [] (Insert (target.Table def) (record { places = 0 ∷ []; tuples = (Lit (int 1) ∷ []) ∷ (Lit (int 2) ∷ []) ∷ []; is_ignored = false })) ≡ Is refusal.Veto
unfolding now rows alive_keys is_alive row kept_change keep in_order has is_beaten beats row_cmp weight_cmp cid_cmp change_cmp lacks_value has_long_key has_twice by_key key_of key_values key_part delta row_delta arrival update removals length_of version_of value_cells is_wanted passes_limit newly_kept is_changed cells_after cell_cmp stamp_cmp since sized_at int_at text_at blob_at value_at values_at unpacked int_of_text
vetoed_for_number = refl

-- inside a transaction nothing is vetoed, and COMMIT is
not_yet_vetoed : cause_of l strict (done (done empty Begin) (insert 1 (codes "a"))) [] (insert 2 (codes "b")) ≡ Free
unfolding now rows alive_keys is_alive row kept_change keep in_order has is_beaten beats row_cmp weight_cmp cid_cmp change_cmp lacks_value has_long_key has_twice by_key key_of key_values key_part delta row_delta arrival update removals length_of version_of value_cells is_wanted passes_limit newly_kept is_changed cells_after cell_cmp stamp_cmp since sized_at int_at text_at blob_at value_at values_at unpacked int_of_text
not_yet_vetoed = refl

vetoed_at_commit : cause_of l strict (done (done (done empty Begin) (insert 1 (codes "a"))) (insert 2 (codes "b"))) [] Commit ≡ Is refusal.Veto
unfolding now rows alive_keys is_alive row kept_change keep in_order has is_beaten beats row_cmp weight_cmp cid_cmp change_cmp lacks_value has_long_key has_twice by_key key_of key_values key_part delta row_delta arrival update removals length_of version_of value_cells is_wanted passes_limit newly_kept is_changed cells_after cell_cmp stamp_cmp since sized_at int_at text_at blob_at value_at values_at unpacked int_of_text
vetoed_at_commit = refl

-- a key that is there, and one that a transaction added
repeated : cause (done (done empty Begin) (insert 1 (codes "a"))) (insert 1 (codes "b")) ≡ Is refusal.PrimaryKey
unfolding now rows alive_keys is_alive row kept_change keep in_order has is_beaten beats row_cmp weight_cmp cid_cmp change_cmp lacks_value has_long_key has_twice by_key key_of key_values key_part delta row_delta arrival update removals length_of version_of value_cells is_wanted passes_limit newly_kept is_changed cells_after cell_cmp stamp_cmp since sized_at int_at text_at blob_at value_at values_at unpacked int_of_text
repeated = refl

-- a row that is no change
no_change : cause empty (Insert target.Changes (record { places = 0 ∷ []; tuples = (Lit (int 1) ∷ []) ∷ []; is_ignored = false })) ≡ Is (refusal.BadChange Shape)
unfolding now rows alive_keys is_alive row kept_change keep in_order has is_beaten beats row_cmp weight_cmp cid_cmp change_cmp lacks_value has_long_key has_twice by_key key_of key_values key_part delta row_delta arrival update removals length_of version_of value_cells is_wanted passes_limit newly_kept is_changed cells_after cell_cmp stamp_cmp since sized_at int_at text_at blob_at value_at values_at unpacked int_of_text
no_change = refl

-- an ignored INSERT into the table of changes takes none
takes_none : done empty (Insert target.Changes (record { places = 0 ∷ []; tuples = (Lit (int 1) ∷ []) ∷ []; is_ignored = true })) ≡ empty
takes_none = refl

-- a NULL in a key comes before a repeated key
nulls_first : cause empty (Insert (target.Table def) (record { places = 0 ∷ []; tuples = (Lit Null ∷ []) ∷ (Lit Null ∷ []) ∷ []; is_ignored = false })) ≡ Is refusal.NotNull
unfolding now rows alive_keys is_alive row kept_change keep in_order has is_beaten beats row_cmp weight_cmp cid_cmp change_cmp lacks_value has_long_key has_twice by_key key_of key_values key_part delta row_delta arrival update removals length_of version_of value_cells is_wanted passes_limit newly_kept is_changed cells_after cell_cmp stamp_cmp since sized_at int_at text_at blob_at value_at values_at unpacked int_of_text
nulls_first = refl

-- ---- ALTER TABLE ADD COLUMN

abbrev column : Bool → Value → ColumnDef
column not_null default = record { name = codes "n"; affinity = affinity.Integer; collation = codes "binary"; not_null = not_null; key = None; default = default }

abbrev alter : Bool → Value → Resolved Expr
alter not_null default = Alter (target.Table def) (column not_null default)

alter_inside : cause (done empty Begin) (alter false Null) ≡ Is refusal.TransactionState
alter_inside = refl

alter_changes : cause empty (Alter target.Changes (column true Null)) ≡ Is (refusal.ReadOnly changes_name)
alter_changes = refl

alter_without_default : cause empty (alter true Null) ≡ Is (refusal.NoDefault (codes "n"))
alter_without_default = refl

-- rows that are there show the default, and nothing is committed
alters : cause inserted (alter true (int 7)) ≡ Free
alters = refl

abbrev wider : State
wider = done inserted (alter true (int 7))

shows_default : rows_named wider (codes "t") ≡ (int 1 ∷ text (codes "a") ∷ int 7 ∷ []) ∷ []
unfolding now rows alive_keys is_alive row kept_change keep in_order has is_beaten beats row_cmp weight_cmp cid_cmp change_cmp lacks_value has_long_key has_twice by_key key_of key_values key_part delta row_delta arrival update removals length_of version_of value_cells is_wanted passes_limit newly_kept is_changed cells_after cell_cmp stamp_cmp since sized_at int_at text_at blob_at value_at values_at unpacked int_of_text with_added
shows_default = refl

commits_nothing : wider.holding.version ≡ inserted.holding.version
commits_nothing = refl
