-- A statement looks at the rows that pass. Source: this project's own.
use Rattle.std.specs.Prelude.{◌≡◌, false, List, [], filter, map}
use Rattle.cr_value.specs.declared.value.Value.{Value}
use Rattle.cr_lattice.specs.declared.change.Change.{Change}
use Rattle.cr_lattice.specs.declared.table.TableDef.{TableDef}
use Rattle.cr_delta.specs.Key.{key_of}
use Rattle.cr_term.specs.declared.expr.Expr.{Expr}
use Rattle.cr_term.specs.declared.query.Joined.{Joined}
use Rattle.cr_term.specs.declared.query.Query.{Query}
use Rattle.cr_scalar.specs.Host.{Host}
use Rattle.cr_bags.specs.Bags.{single}
use Rattle.cr_query.specs.Query.{Row, answer}
use Rattle.cr_meaning.specs.View as view
use Rattle.cr_meaning.specs.Meaning.{IsLimit, Regard, regarded}
use Rattle.cr_sought.specs.Laws.{LeaveOutOthers}
use Rattle.cr_pushdown.specs.Passing.{passes, passing}

-- A SELECT of one table answers the same over the rows that its WHERE may keep as over all, faults included, without a limit on values
-- and with it.
abbrev pub AnswersByPassing : Type 0
AnswersByPassing =
    (host : Host) (params : List Value) (regard : Regard) → IsLimit regard.most → (rows : List Row) (q : Query) (j : Joined)
    → q.joined ≡ single j → j.is_left ≡ false → j.on ≡ []
    → answer (regarded regard host params) (view.query q) (single rows)
    ≡ answer (regarded regard host params) (view.query q) (single (filter (passes host params q.filter) rows))

-- Terms leave out the rows of other keys than those of the rows that pass.
abbrev pub PassingLeavesOut : Type 0
PassingLeavesOut =
    (host : Host) (params : List Value) (def : TableDef) (kept : List Change) (terms : List Expr)
    → LeaveOutOthers host params def kept terms (map (key_of def) (passing host params terms def kept))
