-- What is stamped above a version suffices for a query of the table of changes whose WHERE tells that version, and above 0 for any.
use Rattle.std.proofs.Common.{◌≡◌, ◌⊎◌, inl, inr, ℕ, ℤ, pos, ◌≤ℤ◌, arith, Bool, true, false, cond, List, [], ◌∷◌, Option, Some, map, refl, sym, ap, subst, ◌∙◌, find, Equal}
use Rattle.std.proofs.lemmas.Int.{ints}
use Rattle.std.specs.Prelude.{filter, int_lt, not, if◌then◌else◌}
use Rattle.cr_value.specs.declared.value.Value.{Value}
use Rattle.cr_lattice.specs.declared.stamped.Stamped.{Stamped}
use Rattle.cr_lattice.specs.declared.table.Table.{Table}
use Rattle.cr_lattice.specs.Check.{same_bytes}
use Rattle.cr_lattice.specs.Sets.{set_of}
use Rattle.cr_cells.specs.Holding.{since, stamp_cmp}
use Rattle.cr_cells.specs.Tables.{is_named}
use Rattle.cr_cells.proofs.CellLemmas.{stamp_total, stamp_exact}
use Rattle.cr_cells.proofs.NewLemmas.{same_itself}
use Rattle.cr_term.specs.declared.expr.Expr.{Expr}
use Rattle.cr_term.specs.declared.query.Joined.{Joined}
use Rattle.cr_term.specs.declared.query.Query.{Query}
use Rattle.cr_scalar.specs.Host.{Host as Means}
use Rattle.cr_query.specs.Query.{answer}
use Rattle.cr_meaning.specs.View.{query}
use Rattle.cr_meaning.specs.Meaning.{Regard, regarded}
use Rattle.cr_replica.specs.declared.snapshot.Snapshot.{Snapshot}
use Rattle.cr_snapshot.specs.Seen.{name_of, rows_listed, rows_seen}
use Rattle.cr_touched.proofs.Sets.{filter_set}
use Rattle.cr_world.specs.State.{State, changes_name, change_rows, module_of, module_rows, now, other_rows, row_of, rows_named, rows_or, tables_named}
use Rattle.cr_sought.specs.Bounds.{is_above, lower_bound}
use Rattle.cr_sought.proofs.Answers.{answers_above}
use Rattle.cr_session.specs.Lookup.{IsNewest, IsSeenAbove, ShowsQuery, version_place}
use Rattle.cr_session.proofs.OneTable.{other_rows_seen}

-- ---- the rows above a version

not_not : (b : Bool) → not (not b) ≡ b
not_not true = refl
not_not false = refl

filter_map : (at : ℕ) (n : ℤ) (ss : List Stamped) → at ≡ version_place → filter (is_above at n) (map row_of ss) ≡ map row_of (filter (λ s. int_lt n s.version) ss)
filter_map at n [] e = refl
filter_map at n (s ∷ ss) e =
    let its : is_above at n (row_of s) ≡ int_lt n s.version = ap (λ (k : ℕ). is_above k n (row_of s)) e ∙ not_not (int_lt n s.version) in
    elim (int_lt n s.version) as (λ b. is_above at n (row_of s) ≡ b → cond (is_above at n (row_of s)) (row_of s ∷ filter (is_above at n) (map row_of ss)) (filter (is_above at n) (map row_of ss)) ≡ map row_of (cond b (s ∷ filter (λ s. int_lt n s.version) ss) (filter (λ s. int_lt n s.version) ss))) [
      | true ↦ λ so. rw so (ap (λ l. row_of s ∷ l) (filter_map at n ss e))
      | false ↦ λ so. rw so (filter_map at n ss e)
    ] its

filter_twice : (n : ℤ) (ss : List Stamped) → pos 0 ≤ℤ n → filter (λ s. int_lt n s.version) (filter (λ s. int_lt (pos 0) s.version) ss) ≡ filter (λ s. int_lt n s.version) ss
filter_twice n [] low = refl
filter_twice n (s ∷ ss) low =
    elim (int_lt (pos 0) s.version) as (λ b. int_lt (pos 0) s.version ≡ b
    → filter (λ s. int_lt n s.version) (cond b (s ∷ filter (λ s. int_lt (pos 0) s.version) ss) (filter (λ s. int_lt (pos 0) s.version) ss)) ≡ filter (λ s. int_lt n s.version) (s ∷ ss)) [
      | true ↦ λ so. ap (λ l. cond (int_lt n s.version) (s ∷ l) l) (filter_twice n ss low)
      | false ↦ λ so. (
          let none : int_lt n s.version ≡ false = grind (arith, ints) in
          filter_twice n ss low ∙ sym (ap (λ b. cond b (s ∷ filter (λ s. int_lt n s.version) ss) (filter (λ s. int_lt n s.version) ss)) none))
    ] refl

alike : (n : ℤ) (s t : Stamped) → stamp_cmp s t ≡ Equal → int_lt n s.version ≡ int_lt n t.version
alike n s t e = ap (λ (u : Stamped). int_lt n u.version) (stamp_exact s t e)

above : (cells : List Stamped) (n : ℤ) → pos 0 ≤ℤ n → filter (λ s. int_lt n s.version) (since cells (pos 0)) ≡ since cells n
unfolding since
above cells n low =
    filter_set stamp_total (λ s. int_lt n s.version) (alike n) (filter (λ s. int_lt (pos 0) s.version) cells)
    ∙ ap (set_of stamp_cmp) (filter_twice n cells low)

-- ---- a query

module _ (means : Means) (params : List Value) (st : State) (name : List ℕ) (terms : List Expr) (version : ℤ)
    (is : IsNewest params st.holding.tables name terms version) (snap : Snapshot) (at : IsSeenAbove st version snap) where
  is_changes : same_bytes changes_name name ≡ true
  is_changes = subst (λ (x : List ℕ). same_bytes changes_name x ≡ true) (sym is.changes) (same_itself changes_name)

  rows_there : rows_named st name ≡ map row_of (since st.holding.cells (pos 0))
  rows_there =
      (λ i. rows_or (now st) (is.no_table i) (other_rows st name))
      ∙ ap (λ b. if b then change_rows st.holding else module_rows (module_of st name)) is_changes

  rows_here : rows_seen snap name ≡ map row_of (since st.holding.cells version)
  rows_here =
      (λ i. rows_or snap.kept (find (is_named name) (at.named.tables i)) (other_rows_seen snap name))
      ∙ (λ i. rows_or snap.kept (is.no_table i) (other_rows_seen snap name))
      ∙ ap (λ b. if b then map row_of snap.cells else rows_listed snap.modules name) is_changes
      ∙ ap (map row_of) at.cells

  above_rows : filter (is_above version_place version) (map row_of (since st.holding.cells (pos 0))) ≡ map row_of (since st.holding.cells version)
  above_rows = filter_map version_place version (since st.holding.cells (pos 0)) refl ∙ ap (map row_of) (above st.holding.cells version is.from_0)

  -- over all changes a query answers as over those above the version
  same_answer : (q : Query) (j : Joined) (regard : Regard) → q.joined ≡ j ∷ [] → j.is_left ≡ false → q.filter ≡ terms
      → (version ≡ pos 0) ⊎ (lower_bound params terms version_place ≡ Some version)
      → answer (regarded regard means params) (query q) (map row_of (since st.holding.cells (pos 0)) ∷ [])
      ≡ answer (regarded regard means params) (query q) (map row_of (since st.holding.cells version) ∷ [])
  same_answer q j regard one inner same (inl all) = ap (λ n. answer (regarded regard means params) (query q) (map row_of (since st.holding.cells n) ∷ [])) (sym all)
  same_answer q j regard one inner same (inr told) =
      answers_above means params regard q j (map row_of (since st.holding.cells (pos 0))) version_place version one inner (ap (λ ts. lower_bound params ts version_place) same ∙ told)
      ∙ ap (λ rows. answer (regarded regard means params) (query q) (rows ∷ [])) above_rows

  pub query_above : (q : Query) (j : Joined) → q.joined ≡ j ∷ [] → j.is_left ≡ false → name_of j ≡ name → q.filter ≡ terms → ShowsQuery means params q st snap
  query_above q j one inner named same = λ regard limit.
      let m = regarded regard means params in
      (λ i. answer m (query q) (tables_named st (map name_of (one i))))
      ∙ (λ i. answer m (query q) (rows_named st (named i) ∷ []))
      ∙ (λ i. answer m (query q) (rows_there i ∷ []))
      ∙ same_answer q j regard one inner same is.told
      ∙ (λ i. answer m (query q) (sym rows_here i ∷ []))
      ∙ (λ i. answer m (query q) (rows_seen snap (sym named i) ∷ []))
      ∙ (λ i. answer m (query q) (map (λ j. rows_seen snap (name_of j)) (sym one i)))

-- the same of tables that are the same
pub renewed : (params : List Value) (ts us : List Table) (name : List ℕ) (terms : List Expr) (version : ℤ) → ts ≡ us
    → IsNewest params ts name terms version → IsNewest params us name terms version
renewed params ts us name terms version e is = subst (λ (x : List Table). IsNewest params x name terms version) e is
