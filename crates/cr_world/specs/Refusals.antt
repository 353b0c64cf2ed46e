-- How refusals are told, and their result codes. Source: this project's own; the codes are those of SQLite's "Result and
-- Error Codes".
use Rattle.std.specs.Prelude.{ℕ, Bool, true, false, List, [], codes, Option, Some, None, slice_get}
use Rattle.cr_lattice.specs.declared.profile.ProfileFault.{ProfileFault}
use Rattle.cr_lattice.specs.declared.profile.ProfileFault.TheVariants as profile
use Rattle.cr_lattice.specs.declared.table.ColumnDef.{ColumnDef}
use Rattle.cr_lattice.specs.declared.table.TableDef.{TableDef}
use Rattle.cr_scalar.specs.declared.fault.EvalFault.{EvalFault as Fault}
use Rattle.cr_scalar.specs.declared.fault.EvalFault.TheVariants as fault
use Rattle.cr_cells.specs.declared.store.CellsError.{CellsError}
use Rattle.cr_cells.specs.declared.store.CellsError.TheVariants as cells
use Rattle.cr_replica.specs.declared.definition.DefineError.{DefineError}
use Rattle.cr_replica.specs.declared.definition.DefineError.TheVariants as define
use Rattle.cr_replica.specs.declared.replica.TakeError.{TakeError}
use Rattle.cr_replica.specs.declared.replica.TakeError.TheVariants as take
use Rattle.cr_replica.specs.declared.replica.RowsError.{RowsError}
use Rattle.cr_replica.specs.declared.replica.RowsError.TheVariants as rows
use Rattle.cr_world.specs.declared.refusal.EvalFault.{EvalFault}
use Rattle.cr_world.specs.declared.refusal.EvalFault.TheVariants as eval
use Rattle.cr_world.specs.declared.refusal.OutOfProfile.{OutOfProfile as Outside}
use Rattle.cr_world.specs.declared.refusal.OutOfProfile.TheVariants as out
use Rattle.cr_world.specs.declared.refusal.Limit.TheVariants as limit
use Rattle.cr_world.specs.declared.refusal.Refusal.{Refusal}
use Rattle.cr_world.specs.declared.refusal.Refusal.TheVariants.{Syntax, OutOfProfile, NoSuchTable, NoSuchColumn, AmbiguousColumn, NoSuchFunction, WrongArity, NoSuchCollation, Misaggregate, TableExists, NoDefault, NotYet, Denied, Eval, PrimaryKey, NotNull, TooBig, VersionLimit, BadChange, Veto, TransactionState, ReadOnly, Limit, Parameters, Store, Memory, BadName, NoReplica, SameSite, Command}

-- a store's refusal
abbrev pub of_store : CellsError → Refusal
of_store cells.Memory = Memory
of_store (cells.Store f) = Store f
of_store cells.VersionLimit = VersionLimit

-- changes that are not taken
abbrev pub of_taking : TakeError → Refusal
of_taking take.Memory = Memory
of_taking (take.Store f) = Store f
of_taking (take.Bad b) = BadChange b
of_taking take.VersionLimit = VersionLimit

-- an expression without a value
abbrev pub of_fault : Fault → Refusal
of_fault fault.Overflow = Eval eval.Overflow
of_fault fault.NotANumber = Eval eval.NotANumber
of_fault fault.NotUtf8 = Eval eval.NotUtf8
of_fault (fault.Host text) = Eval (eval.Host text)
of_fault fault.TooBig = TooBig
of_fault fault.Memory = Memory

-- rows that are not shown, of the table of this name
abbrev pub of_rows : List ℕ → RowsError → Refusal
of_rows name rows.Memory = Memory
of_rows name (rows.Store f) = Store f
of_rows name rows.NoSuchTable = NoSuchTable name

abbrev pub name_of : Option ColumnDef → List ℕ
name_of None = []
name_of (Some col) = col.name

abbrev pub collation_of : Option ColumnDef → List ℕ
collation_of None = []
collation_of (Some col) = col.collation

abbrev pub column_at : List ColumnDef → ℕ → List ℕ
column_at columns i = name_of (slice_get columns i)

abbrev pub collation_at : List ColumnDef → ℕ → List ℕ
collation_at columns i = collation_of (slice_get columns i)

-- a definition out of profile
abbrev pub of_profile : TableDef → ProfileFault → Refusal
of_profile def profile.PrimaryKey = OutOfProfile out.PrimaryKey
of_profile def profile.Collation = OutOfProfile out.Collate
of_profile def profile.RowCid = OutOfProfile out.RowCid
of_profile def profile.Default = OutOfProfile out.Default
of_profile def profile.Columns = Limit limit.Columns
of_profile def profile.KeyColumns = Limit limit.KeyColumns
of_profile def profile.Name = BadName def.name

-- a definition that is refused, with the name that stands against it
abbrev pub of_definition : TableDef → DefineError → Refusal
of_definition def define.Memory = Memory
of_definition def (define.Store f) = Store f
of_definition def (define.Profile f) = of_profile def f
of_definition def define.TableExists = TableExists def.name
of_definition def (define.Duplicate i) = AmbiguousColumn (column_at def.columns i)
of_definition def (define.NoSuchCollation i) = NoSuchCollation (collation_at def.columns i)
of_definition def (define.NoDefault i) = NoDefault (column_at def.columns i)

-- words of a text take memory to tell, and so does what a host says
abbrev pub is_word : Outside → Bool
is_word (out.Word w) = true
is_word out.Real = false
is_word out.PrimaryKey = false
is_word out.Collate = false
is_word out.RowCid = false
is_word out.Default = false
is_word out.Distinct = false

abbrev pub is_said : EvalFault → Bool
is_said (eval.Host t) = true
is_said eval.Overflow = false
is_said eval.NotANumber = false
is_said eval.NotUtf8 = false

-- a refusal that is told with a name or a text, which takes memory
abbrev pub has_name : Refusal → Bool
has_name (Syntax at) = false
has_name (OutOfProfile what) = is_word what
has_name (NoSuchTable name) = true
has_name (NoSuchColumn name) = true
has_name (AmbiguousColumn name) = true
has_name (NoSuchFunction name) = true
has_name (WrongArity name) = true
has_name (NoSuchCollation name) = true
has_name Misaggregate = false
has_name (TableExists name) = true
has_name (NoDefault name) = true
has_name (NotYet name) = true
has_name (Denied action a b) = true
has_name (Eval f) = is_said f
has_name PrimaryKey = false
has_name NotNull = false
has_name TooBig = false
has_name VersionLimit = false
has_name (BadChange b) = false
has_name Veto = false
has_name TransactionState = false
has_name (ReadOnly name) = true
has_name (Limit which) = false
has_name Parameters = false
has_name (Store f) = false
has_name Memory = false
has_name (BadName name) = true
has_name NoReplica = false
has_name SameSite = false
has_name Command = false

-- memory or the store does not suffice
abbrev pub is_want : Refusal → Bool
is_want (Syntax at) = false
is_want (OutOfProfile what) = false
is_want (NoSuchTable name) = false
is_want (NoSuchColumn name) = false
is_want (AmbiguousColumn name) = false
is_want (NoSuchFunction name) = false
is_want (WrongArity name) = false
is_want (NoSuchCollation name) = false
is_want Misaggregate = false
is_want (TableExists name) = false
is_want (NoDefault name) = false
is_want (NotYet name) = false
is_want (Denied action a b) = false
is_want (Eval f) = false
is_want PrimaryKey = false
is_want NotNull = false
is_want TooBig = false
is_want VersionLimit = false
is_want (BadChange b) = false
is_want Veto = false
is_want TransactionState = false
is_want (ReadOnly name) = false
is_want (Limit which) = false
is_want Parameters = false
is_want (Store f) = true
is_want Memory = true
is_want (BadName name) = false
is_want NoReplica = false
is_want SameSite = false
is_want Command = false

-- ---- how a refusal is printed

-- SQLite's NOMEM, READONLY, IOERR, FULL, TOOBIG, MISMATCH, AUTH, RANGE, CONSTRAINT_COMMITHOOK, CONSTRAINT_NOTNULL and
-- CONSTRAINT_PRIMARYKEY, and ERROR for all others
abbrev pub code_of : Refusal → ℕ
code_of (Syntax at) = 1
code_of (OutOfProfile what) = 1
code_of (NoSuchTable name) = 1
code_of (NoSuchColumn name) = 1
code_of (AmbiguousColumn name) = 1
code_of (NoSuchFunction name) = 1
code_of (WrongArity name) = 1
code_of (NoSuchCollation name) = 1
code_of Misaggregate = 1
code_of (TableExists name) = 1
code_of (NoDefault name) = 1
code_of (NotYet name) = 1
code_of (Denied action a b) = 23
code_of (Eval f) = 1
code_of PrimaryKey = 1555
code_of NotNull = 1299
code_of TooBig = 18
code_of VersionLimit = 13
code_of (BadChange b) = 20
code_of Veto = 531
code_of TransactionState = 1
code_of (ReadOnly name) = 8
code_of (Limit which) = 1
code_of Parameters = 25
code_of (Store f) = 10
code_of Memory = 7
code_of (BadName name) = 1
code_of NoReplica = 1
code_of SameSite = 1
code_of Command = 1

abbrev pub title_of : Refusal → List ℕ
title_of (Syntax at) = codes "Syntax"
title_of (OutOfProfile what) = codes "OutOfProfile"
title_of (NoSuchTable name) = codes "NoSuchTable"
title_of (NoSuchColumn name) = codes "NoSuchColumn"
title_of (AmbiguousColumn name) = codes "AmbiguousColumn"
title_of (NoSuchFunction name) = codes "NoSuchFunction"
title_of (WrongArity name) = codes "WrongArity"
title_of (NoSuchCollation name) = codes "NoSuchCollation"
title_of Misaggregate = codes "Misaggregate"
title_of (TableExists name) = codes "TableExists"
title_of (NoDefault name) = codes "NotReplicable"
title_of (NotYet name) = codes "NotReplicable"
title_of (Denied action a b) = codes "Denied"
title_of (Eval f) = codes "Eval"
title_of PrimaryKey = codes "PrimaryKey"
title_of NotNull = codes "NotNull"
title_of TooBig = codes "TooBig"
title_of VersionLimit = codes "VersionLimit"
title_of (BadChange b) = codes "BadChange"
title_of Veto = codes "Veto"
title_of TransactionState = codes "TransactionState"
title_of (ReadOnly name) = codes "ReadOnly"
title_of (Limit which) = codes "Limit"
title_of Parameters = codes "Parameters"
title_of (Store f) = codes "Store"
title_of Memory = codes "Memory"
title_of (BadName name) = codes "BadName"
title_of NoReplica = codes "NoReplica"
title_of SameSite = codes "SameSite"
title_of Command = codes "Command"
