-- A SELECT whose terms leave out the rows of other keys looks at what is kept of these keys, and no more; so do those that tell keys.
-- Source: this project's own.
use Rattle.std.specs.Prelude.{◌≡◌, ℕ, true, false, List, [], Some, map}
use Rattle.std.specs.List.{AllByRecursion}
use Rattle.cr_value.specs.declared.value.Value.{Value}
use Rattle.cr_lattice.specs.declared.change.Change.{Change}
use Rattle.cr_lattice.specs.declared.table.TableDef.{TableDef}
use Rattle.cr_lattice.specs.Profile.{has_key}
use Rattle.cr_lattice.specs.Rows.{rows}
use Rattle.cr_delta.specs.Key.{key_of}
use Rattle.cr_term.specs.declared.expr.Expr.{Expr}
use Rattle.cr_term.specs.declared.query.Joined.{Joined}
use Rattle.cr_term.specs.declared.query.Query.{Query}
use Rattle.cr_scalar.specs.Host.{Host}
use Rattle.cr_bags.specs.Bags.{single}
use Rattle.cr_query.specs.Query.{answer, holds}
use Rattle.cr_meaning.specs.View as view
use Rattle.cr_meaning.specs.Meaning.{IsLimit, Regard, regarded}
use Rattle.cr_touched.specs.Parts.{is_key_of, part}
use Rattle.cr_touched.specs.Shown.{AreKeptOf}
use Rattle.cr_exec.specs.Equalities.{OrdersBytes}
use Rattle.cr_sought.specs.Lists.{sought_keys}

-- what is kept of some keys of a table
abbrev pub of_keys : TableDef → List (List ℕ) → List Change → List Change
of_keys def keys kept = part def.name (is_key_of keys) kept

-- on each row of another key the terms are known not to be all true, without a limit on values and with it
abbrev pub LeaveOutOthers : Host → List Value → TableDef → List Change → List Expr → List (List ℕ) → Type 0
LeaveOutOthers host params def kept terms keys =
    (regard : Regard) → IsLimit regard.most
    → AllByRecursion (λ r. is_key_of keys (key_of def r) ≡ false → holds (regarded regard host params) (map view.plain terms) r ≡ Some false) (rows kept def)

-- So do terms that tell keys, where texts are compared byte by byte.
abbrev pub TellingLeavesOut : Type 0
TellingLeavesOut =
    (host : Host) (params : List Value) (def : TableDef) (kept : List Change) (terms : List Expr) (keys : List (List ℕ))
    → OrdersBytes host → has_key def ≡ true → AreKeptOf def kept → sought_keys def params terms ≡ Some keys
    → LeaveOutOthers host params def kept terms keys

-- A SELECT of one table answers the same over what is kept of some keys as over all, faults included, if its terms leave out the others.
abbrev pub AnswersByKeys : Type 0
AnswersByKeys =
    (host : Host) (params : List Value) (regard : Regard) (def : TableDef) (kept : List Change) (q : Query) (j : Joined)
    (keys : List (List ℕ))
    → IsLimit regard.most → has_key def ≡ true → AreKeptOf def kept
    → q.joined ≡ single j → j.is_left ≡ false → j.on ≡ [] → LeaveOutOthers host params def kept q.filter keys
    → answer (regarded regard host params) (view.query q) (single (rows kept def))
    ≡ answer (regarded regard host params) (view.query q) (single (rows (of_keys def keys kept) def))

-- What is kept of some keys is kept like the whole.
abbrev pub KeysAreKept : Type 0
KeysAreKept = (def : TableDef) (kept : List Change) (keys : List (List ℕ)) → AreKeptOf def kept → AreKeptOf def (of_keys def keys kept)
