-- What a refusal is printed as: a line of its code, its name and its details. Source: this project's own.
use Rattle.std.specs.Prelude.{List, ℕ, [], ◌∷◌, ◌++◌, codes, decimal, Option, Some, None}
use Rattle.cr_value.specs.Literal.{text_literal}
use Rattle.cr_lattice.specs.declared.check.BadChange.{BadChange}
use Rattle.cr_lattice.specs.declared.check.BadChange.TheVariants as bad
use Rattle.cr_host.specs.declared.meaning.Action.{Action}
use Rattle.cr_guard.specs.Answers.{action_code}
use Rattle.cr_world.specs.declared.refusal.EvalFault.{EvalFault}
use Rattle.cr_world.specs.declared.refusal.EvalFault.TheVariants as eval
use Rattle.cr_world.specs.declared.refusal.OutOfProfile.{OutOfProfile as Outside}
use Rattle.cr_world.specs.declared.refusal.OutOfProfile.TheVariants as out
use Rattle.cr_world.specs.declared.refusal.Limit.{Limit as Limited}
use Rattle.cr_world.specs.declared.refusal.Limit.TheVariants as limit
use Rattle.cr_world.specs.declared.refusal.Refusal.{Refusal}
use Rattle.cr_world.specs.declared.refusal.Refusal.TheVariants.{Syntax, OutOfProfile, NoSuchTable, NoSuchColumn, AmbiguousColumn, NoSuchFunction, WrongArity, NoSuchCollation, Misaggregate, TableExists, NoDefault, NotYet, Denied, Eval, PrimaryKey, NotNull, TooBig, VersionLimit, BadChange as Bad, Veto, TransactionState, ReadOnly, Limit, Parameters, Store, Memory, BadName, NoReplica, SameSite, Command}
use Rattle.cr_world.specs.Refusals.{code_of, title_of}

abbrev pub outside_word : Outside → List ℕ
outside_word (out.Word word) = word
outside_word out.Real = codes "REAL"
outside_word out.PrimaryKey = codes "PRIMARY KEY"
outside_word out.Collate = codes "COLLATE"
outside_word out.RowCid = codes "-1"
outside_word out.Default = codes "DEFAULT"
outside_word out.Distinct = codes "DISTINCT"

abbrev pub limit_word : Limited → List ℕ
limit_word limit.Script = codes "Script"
limit_word limit.Depth = codes "Depth"
limit_word limit.Columns = codes "Columns"
limit_word limit.KeyColumns = codes "KeyColumns"
limit_word limit.Tables = codes "Tables"
limit_word limit.Arguments = codes "Arguments"
limit_word limit.Replicas = codes "Replicas"

abbrev pub reason_word : BadChange → List ℕ
reason_word bad.Shape = codes "Shape"
reason_word bad.Size = codes "Size"
reason_word bad.Table = codes "Table"
reason_word bad.Key = codes "Key"
reason_word bad.Cid = codes "Cid"
reason_word bad.Length = codes "Length"

-- the number of the action and its two arguments
abbrev pub denied : Action → List ℕ → List ℕ → List ℕ
denied action a b = (32 ∷ decimal (action_code action)) ++ (32 ∷ text_literal a) ++ (32 ∷ text_literal b)

-- a word, and what a host says
abbrev pub eval_fault : EvalFault → List ℕ
eval_fault eval.Overflow = codes " Overflow"
eval_fault eval.NotANumber = codes " NotANumber"
eval_fault eval.NotUtf8 = codes " NotUtf8"
eval_fault (eval.Host text) = codes " Host" ++ 32 ∷ text_literal text

-- what follows a refusal's name: words and numbers, names and texts as literals, each behind a space
abbrev pub details : Refusal → List ℕ
details (Syntax at) = 32 ∷ decimal at
details (OutOfProfile what) = 32 ∷ outside_word what
details (NoSuchTable name) = 32 ∷ text_literal name
details (NoSuchColumn name) = 32 ∷ text_literal name
details (AmbiguousColumn name) = 32 ∷ text_literal name
details (NoSuchFunction name) = 32 ∷ text_literal name
details (WrongArity name) = 32 ∷ text_literal name
details (NoSuchCollation name) = 32 ∷ text_literal name
details Misaggregate = []
details (TableExists name) = 32 ∷ text_literal name
details (NoDefault name) = codes " NoDefault" ++ 32 ∷ text_literal name
details (NotYet name) = codes " NotYet" ++ 32 ∷ text_literal name
details (Denied action a b) = denied action a b
details (Eval fault) = eval_fault fault
details PrimaryKey = []
details NotNull = []
details TooBig = []
details VersionLimit = []
details (Bad reason) = 32 ∷ reason_word reason
details Veto = []
details TransactionState = []
details (ReadOnly name) = 32 ∷ text_literal name
details (Limit which) = 32 ∷ limit_word which
details Parameters = []
details (Store f) = []
details Memory = []
details (BadName name) = 32 ∷ text_literal name
details NoReplica = []
details SameSite = []
details Command = []

abbrev pub refusal_head : Refusal → List ℕ
refusal_head r = codes "error " ++ decimal (code_of r) ++ 32 ∷ title_of r

abbrev pub refusal_line : Refusal → List ℕ
refusal_line r = refusal_head r ++ details r ++ 10 ∷ []

-- where there is one
abbrev pub refusal_told : Option Refusal → List ℕ
refusal_told None = []
refusal_told (Some r) = refusal_line r
