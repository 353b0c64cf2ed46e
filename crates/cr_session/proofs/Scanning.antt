-- What is seen of one table by a query suffices for it.
use Rattle.std.proofs.Common.{◌≡◌, inl, ℕ, Bool, false, List, [], ◌∷◌, Option, Result, Ok, Err, refl, sym, ap, subst, ◌∙◌, map}
use Rattle.std.specs.Prelude.{IsOkAnd, MatchResult, filter, if◌then◌else◌}
use Rattle.cr_value.specs.declared.value.Value.{Value}
use Rattle.cr_lattice.specs.declared.table.Table.{Table}
use Rattle.cr_lattice.specs.Rows.{rows}
use Rattle.cr_cells.specs.declared.store.CellsError.{CellsError}
use Rattle.cr_cells.specs.Calls.{IsRefusal}
use Rattle.cr_cells.specs.Holding.{Holding, IsSound}
use Rattle.cr_lattice.specs.declared.change.Change.{Change}
use Rattle.cr_term.specs.declared.expr.Expr.{Expr}
use Rattle.cr_term.specs.declared.query.Joined.{Joined}
use Rattle.cr_term.specs.declared.query.Query.{Query}
use Rattle.cr_term.specs.declared.query.Resolved.TheVariants as r
use Rattle.cr_scalar.specs.Host.{Host as Means}
use Rattle.cr_query.specs.Query.{Row, answer}
use Rattle.cr_meaning.specs.View.{query}
use Rattle.cr_meaning.specs.Meaning.{Regard, regarded}
use Rattle.cr_snapshot.specs.Seen.{name_of}
use Rattle.cr_pushdown.specs.Passing.{passes}
use Rattle.cr_pushdown.proofs.Answers.{answers_by_passing}
use Rattle.cr_world.specs.State.{State, now, other_rows, rows_named, rows_or, tables_named}
use Rattle.cr_world.specs.Statement.{evaluated}
use Rattle.cr_language.specs.Sql.{view}
use Rattle.cr_session.specs.declared.filtering.Seen.{Seen}
use Rattle.cr_session.specs.declared.filtering.Seen.TheVariants as seen
use Rattle.cr_session.specs.Joining.{Finds, Suffice}
use Rattle.cr_session.specs.Scans.{ArePassing, IsQueryLook, IsReplicated, IsScan, Serves}
use Rattle.cr_session.specs.Sessions.{state_of}
use Rattle.cr_session.proofs.ByKey.{query_looked}

-- the rows of the replicated table of a name
named_rows : (st : State) (name : List ℕ) (t : Table) → IsReplicated st.holding.tables name t → rows_named st name ≡ rows (now st) t.definition
named_rows st name t is =
    ap (λ (o : Option Table). rows_or (now st) o (other_rows st name)) is.there
    ∙ ap (λ (b : Bool). if b then rows (now st) t.definition else []) is.is

-- what a query of a table alone evaluates
evaluated_one : (means : Means) (params : List Value) (g : Regard) (st : State) (name : List ℕ) (t : Table) → IsReplicated st.holding.tables name t → (q : Query) (j : Joined) → q.joined ≡ j ∷ [] → name ≡ name_of j
    → evaluated (regarded g means params) st (view (r.Select q)) ≡ answer (regarded g means params) (query q) (rows (now st) t.definition ∷ [])
evaluated_one means params g st name t is q j one named =
    let m = regarded g means params in
    (λ i. answer m (query q) (tables_named st (map name_of (one i))))
    ∙ (λ i. answer m (query q) (rows_named st (sym named i) ∷ []))
    ∙ (λ i. answer m (query q) (named_rows st name t is i ∷ []))

-- a query of the table alone answers over the rows that pass what it answers over all
query_by_rows : (means : Means) (params : List Value) (st : State) (name : List ℕ) (terms : List Expr) (found : List Row) → ArePassing means params st name terms found
    → (q : Query) (j : Joined) → q.joined ≡ j ∷ [] → j.is_left ≡ false → j.on ≡ [] → name ≡ name_of j → terms ≡ q.filter → Suffice means params q st (found ∷ [])
query_by_rows means params st name terms found is q j one inner no_on named same = λ regard limit.
    let m = regarded regard means params in
    let all : List Row = rows (now st) is.table.definition in
    evaluated_one means params regard st name is.table is.replicated q j one named
    ∙ answers_by_passing means params regard limit all q j one inner no_on
    ∙ (λ i. answer m (query q) (filter (passes means params (sym same i)) all ∷ []))
    ∙ (λ i. answer m (query q) (sym is.are i ∷ []))

-- what is seen of the table, or of some of its keys, suffices, too, and so does the answer
pub query_served : (means : Means) (params : List Value) (h : Holding) → IsSound h → (pending : Option (List Change)) (x : Seen) (q : Query) (j : Joined) (name : List ℕ)
    → q.joined ≡ j ∷ [] → j.is_left ≡ false → j.on ≡ [] → name ≡ name_of j → IsQueryLook means params (state_of h pending) name q x → Serves means params q (state_of h pending) x
query_served means params h sound pending (seen.Kept s) q j name one inner no_on named look = query_looked means params h sound pending s q j name q.filter one inner no_on named refl look
query_served means params h sound pending (seen.Rows found) q j name one inner no_on named are = (
  record { table = j; only = one; inner = inner; no_on = no_on },
  query_by_rows means params (state_of h pending) name q.filter found are q j one inner no_on named refl,
)
query_served means params h sound pending (seen.Answer found) q j name one inner no_on named is =
    let st : State = state_of h pending in
    let both = is.answers (record { table = j; only = one; inner = inner; no_on = no_on }) in
    record { under = λ g limit. evaluated_one means params g st name is.table is.replicated q j one named ∙ both.under g limit }

-- a scan is what a query looks at
pub scan_looked : (means : Means) (params : List Value) (st : State) (name : List ℕ) (q : Query) (x : Seen) → IsScan means params st name q x → IsQueryLook means params st name q x
scan_looked means params st name q (seen.Kept s) shows = inl shows
scan_looked means params st name q (seen.Rows found) are = are
scan_looked means params st name q (seen.Answer found) is = is

-- what a reading gives, as what is seen
pub seen_as : {T : Type 0} (of : T → Seen) (P : T → Type 0) (Q : Seen → Type 0) (old new : State) (read : Result T CellsError) (result : Result Seen CellsError)
    → MatchResult read (λ x. IsOkAnd result (λ y. y ≡ of x)) (λ e. result ≡ Err e) → ((x : T) → P x → Q (of x)) → new ≡ old → MatchResult read P IsRefusal → Finds Q old new result
seen_as of P Q old new (Ok x) (Ok y) is f same found = record { same = same; finds = subst Q (sym is) (f x found) }
seen_as of P Q old new (Ok x) (Err e) is f same found = absurd is
seen_as of P Q old new (Err e) result is f same refused = subst (λ (r : Result Seen CellsError). Finds Q old new r) (sym is) (record { same = same; finds = refused })
