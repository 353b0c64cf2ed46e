-- What a query sees: a snapshot, or of its one table the rows that its WHERE may keep, or the answer, where that takes no
-- more than one value for each aggregate. Source: this project's own.
use Rattle.std.specs.Prelude.{◌≡◌, ℕ, true, find, List, [], ◌∷◌, Some}
use Rattle.cr_value.specs.declared.value.Value.{Value}
use Rattle.cr_lattice.specs.declared.table.Table.{Table}
use Rattle.cr_lattice.specs.Rows.{rows}
use Rattle.cr_bags.specs.Bags.{single}
use Rattle.cr_cells.specs.Tables.{is_named}
use Rattle.cr_term.specs.declared.expr.Expr.{Expr}
use Rattle.cr_term.specs.declared.query.Query.{Query}
use Rattle.cr_term.specs.declared.query.Resolved.TheVariants as r
use Rattle.cr_scalar.specs.Host.{Host as Means}
use Rattle.cr_query.specs.Query.{Row, answer}
use Rattle.cr_meaning.specs.View.{query}
use Rattle.cr_exec.specs.Answers.{IsMeant}
use Rattle.cr_exec.specs.Combinations.{IsOfOneTable}
use Rattle.cr_pushdown.specs.Passing.{passing}
use Rattle.cr_world.specs.State.{State, now}
use Rattle.cr_world.specs.Statement.{evaluated}
use Rattle.cr_language.specs.Sql.{view}
use Rattle.cr_session.specs.declared.filtering.Seen.{Seen}
use Rattle.cr_session.specs.declared.filtering.Seen.TheVariants as seen
use Rattle.cr_session.specs.Joining.{Suffice}
use Rattle.cr_session.specs.Lookup.{IsLook, ShowsQuery, ShowsTables}

-- the first table of the name is replicated, and this one
pub record IsReplicated (tables : List Table) (name : List ℕ) (t : Table) : Type 0 where
  pub there : find (is_named name) tables ≡ Some t
  pub is : t.is_replicated ≡ true

-- the rows that show there of a replicated table of the name, and that a WHERE of the terms may keep
pub record ArePassing (means : Means) (params : List Value) (st : State) (name : List ℕ) (terms : List Expr) (found : List Row) : Type 0 where
  pub table : Table
  pub replicated : IsReplicated st.holding.tables name table
  pub are : found ≡ passing means params terms table.definition (now st)

-- what a query of that table alone answers, without a limit on values and with it
pub record IsAnswer (means : Means) (params : List Value) (st : State) (name : List ℕ) (q : Query) (found : List Row) : Type 0 where
  pub table : Table
  pub replicated : IsReplicated st.holding.tables name table
  pub answers : IsOfOneTable q → IsMeant means params (λ m. answer m (query q) (single (rows (now st) table.definition))) found

-- what shows there of the table of the name, or the rows of it that pass, or the answer
abbrev pub IsScan : Means → List Value → State → List ℕ → Query → Seen → Type 0
IsScan means params st name q (seen.Kept s) = ShowsTables st (name ∷ []) s
IsScan means params st name q (seen.Rows found) = ArePassing means params st name q.filter found
IsScan means params st name q (seen.Answer found) = IsAnswer means params st name q found

-- that, or what shows there of the keys that the terms tell
abbrev pub IsQueryLook : Means → List Value → State → List ℕ → Query → Seen → Type 0
IsQueryLook means params st name q (seen.Kept s) = IsLook means params st name q.filter s
IsQueryLook means params st name q (seen.Rows found) = ArePassing means params st name q.filter found
IsQueryLook means params st name q (seen.Answer found) = IsAnswer means params st name q found

-- a query answers over what is seen what it answers over all that shows there, or that is the answer
abbrev pub Serves : Means → List Value → Query → State → Seen → Type 0
Serves means params q st (seen.Kept s) = ShowsQuery means params q st s
Serves means params q st (seen.Rows found) = IsOfOneTable q × Suffice means params q st (found ∷ [])
Serves means params q st (seen.Answer found) = IsMeant means params (λ m. evaluated m st (view (r.Select q))) found
