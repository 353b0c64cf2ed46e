-- From what is evaluated to what a write makes of one row, and of all.
use Rattle.std.proofs.Common.{◌≡◌, ◌∙◌, ℕ, Bool, true, false, not, cond, List, [], ◌∷◌, ◌++◌, map, Option, Some, None, option_map, Result, refl, sym, ap, append-nil}
use Rattle.std.specs.Option.{option_and_then}
use Rattle.std.specs.Borrow.{Bor}
use Rattle.cr_value.specs.declared.value.Value.{Value}
use Rattle.cr_lattice.specs.declared.table.ColumnDef.{ColumnDef}
use Rattle.cr_scalar.specs.Host.{Host}
use Rattle.cr_scalar.specs.declared.fault.EvalFault.{EvalFault}
use Rattle.cr_term.specs.declared.expr.Expr.{Expr}
use Rattle.cr_term.specs.declared.query.Insert.{Insert}
use Rattle.cr_term.specs.declared.query.Update.{Update}
use Rattle.cr_term.specs.declared.query.Delete.{Delete}
use Rattle.cr_bags.specs.Bags.{gather, each, single}
use Rattle.cr_query.specs.Query.{Row, all_true}
use Rattle.cr_query.specs.Writes as writes
use Rattle.cr_query.specs.Writes.{put_all, defaults}
use Rattle.cr_query.proofs.PlanLaws.{gather-map}
use Rattle.cr_meaning.specs.View.{plain, assignment, insert, update, delete}
use Rattle.cr_meaning.specs.Meaning.{Regard, regarded}
use Rattle.cr_exec.specs.Answers.{Stage, Faults, IsMeant, Answers, behind}
use Rattle.cr_exec.specs.Scopes.{there}
use Rattle.cr_exec.specs.Streamed.{Selects}
use Rattle.cr_exec.specs.declared.streamed.SourceFault.{SourceFault}
use Rattle.cr_exec.specs.Tails.{with_quiet_first}
use Rattle.cr_exec.proofs.Stages.{faults_on, meant_on}
use Rattle.cr_exec.proofs.ByClass.{answers_on, answers_after}
use Rattle.cr_wanted.specs.Rows.{assigned_expr, place_of, assigned_by, updated_by, kept_by}
use Rattle.cr_wanted.proofs.Readings.{selects_on}

map-both : {X Y Z : Type 0} (g : Y → Z) (f : X → Y) (xs : List X) → map g (map f xs) ≡ map (λ x. g (f x)) xs
map-both g f [] = refl
map-both g f (x ∷ xs) = ap (λ l. g (f x) ∷ l) (map-both g f xs)

module _ (host : Host) (params : List Value) where
  -- ---- INSERT

  -- the row of one tuple
  module _ (cols : List ColumnDef) (places : List ℕ) (tuple : List Expr) (ts : List (Bor Expr)) (none : Row) (same : map there ts ≡ map plain tuple) (empty : none ≡ []) where
    abbrev pub tuple_values : Stage (List Value)
    tuple_values m = each (λ e. m.value e none) (map there ts)

    abbrev pub tuple_row : Stage Row
    tuple_row m = writes.inserted m cols places (map plain tuple)

    tuple_is : (regard : Regard) (o : Option (List Value)) → tuple_values (regarded regard host params) ≡ o → tuple_row (regarded regard host params) ≡ option_map (λ vs. put_all cols places vs (defaults cols)) o
    tuple_is regard o k =
        (λ i. option_map (λ vs. put_all cols places vs (defaults cols)) (each (λ e. (regarded regard host params).value e (sym empty i)) (sym same i)))
        ∙ ap (option_map (λ vs. put_all cols places vs (defaults cols))) k

    pub tuple_fault : (e : EvalFault) → Faults host params tuple_values e → Faults host params tuple_row e
    tuple_fault e h = faults_on host params tuple_values tuple_row e (λ regard k. tuple_is regard None k) h

    pub tuple_both : (vs before row : Row) → before ≡ defaults cols → row ≡ put_all cols places vs before → IsMeant host params tuple_values vs → IsMeant host params tuple_row row
    tuple_both vs before row d r h =
        meant_on host params tuple_values tuple_row vs row
        (λ regard k. tuple_is regard (Some vs) k ∙ ap (λ (l : Row). Some (put_all cols places vs l)) (sym d) ∙ ap (λ (l : Row). Some l) (sym r)) h

  -- the rows of VALUES
  module _ (cols : List ColumnDef) (w : Insert) where
    abbrev pub brought : Stage (List Row)
    brought m = writes.inserted_rows m cols (insert w)

    brought_is : (regard : Regard) → each (λ t. writes.inserted (regarded regard host params) cols w.columns (map plain t)) (cond w.is_ignored [] w.rows) ≡ brought (regarded regard host params)
    brought_is regard =
        elim w.is_ignored as (λ b. each (λ t. writes.inserted (regarded regard host params) cols w.columns (map plain t)) (cond b [] w.rows) ≡ cond b (Some []) (each (writes.inserted (regarded regard host params) cols w.columns) (map (λ row. map plain row) w.rows))) [
          | true ↦ refl
          | false ↦ sym (gather-map (λ row. map plain row) (λ es. option_map single (writes.inserted (regarded regard host params) cols w.columns es)) w.rows)
        ]

    pub brought_by : {X : Type 0} (view : X → List Row) (places : List ℕ) (tuples : List (List Expr)) → places ≡ w.columns → tuples ≡ cond w.is_ignored [] w.rows → (r : Result X EvalFault)
        → Answers host params r view (λ m. each (λ t. writes.inserted m cols places (map plain t)) tuples) → Answers host params r view brought
    brought_by view places tuples p t r h =
        answers_on host params (λ m. each (λ t. writes.inserted m cols places (map plain t)) tuples) brought view
        (λ regard. (λ i. each (λ t. writes.inserted (regarded regard host params) cols (p i) (map plain t)) (t i)) ∙ brought_is regard) r h

    pub wanted_fault : (rows : List Row) (e : EvalFault) → Faults host params brought e → Faults host params (λ m. writes.wanted_by_insert m cols (insert w) rows) e
    wanted_fault rows e h = faults_on host params brought (λ m. writes.wanted_by_insert m cols (insert w) rows) e (λ regard k. ap (option_map (λ more. rows ++ more)) k) h

    pub wanted_both : (rows more out : List Row) → out ≡ rows ++ more → IsMeant host params brought more → IsMeant host params (λ m. writes.wanted_by_insert m cols (insert w) rows) out
    wanted_both rows more out is h =
        meant_on host params brought (λ m. writes.wanted_by_insert m cols (insert w) rows) more out
        (λ regard k. ap (option_map (λ more. rows ++ more)) k ∙ ap (λ (l : List Row). Some l) (sym is)) h

  -- ---- UPDATE

  module _ (cols : List ColumnDef) (terms : List (Bor Expr)) (places : List ℕ) (exprs : List (Bor Expr)) (row seen : Row) (is : seen ≡ row) where
    abbrev pub new_values : Stage (List Value)
    new_values m = each (λ e. m.value e seen) (map there exprs)

    abbrev pub new_row : Stage Row
    new_row m = assigned_by m cols places exprs row

    new_is : (regard : Regard) (o : Option (List Value)) → new_values (regarded regard host params) ≡ o → new_row (regarded regard host params) ≡ option_map (λ vs. put_all cols places vs row) o
    new_is regard o k =
        ap (λ (r : Row). option_map (λ vs. put_all cols places vs row) (each (λ e. (regarded regard host params).value e r) (map there exprs))) (sym is)
        ∙ ap (option_map (λ vs. put_all cols places vs row)) k

    pub new_fault : (e : EvalFault) → Faults host params new_values e → Faults host params new_row e
    new_fault e h = faults_on host params new_values new_row e (λ regard k. new_is regard None k) h

    pub new_both : (vs before new : Row) → before ≡ row → new ≡ put_all cols places vs before → IsMeant host params new_values vs → IsMeant host params new_row new
    new_both vs before new b n h =
        meant_on host params new_values new_row vs new
        (λ regard k. new_is regard (Some vs) k ∙ ap (λ (l : Row). Some (put_all cols places vs l)) (sym b) ∙ ap (λ (l : Row). Some l) (sym n)) h

    abbrev pub is_meant : Stage Bool
    is_meant m = all_true m (map there terms) seen

    abbrev pub left_row : Stage Row
    left_row m = updated_by m cols terms places exprs row

    left_is : (regard : Regard) (o : Option Bool) → is_meant (regarded regard host params) ≡ o → left_row (regarded regard host params) ≡ option_and_then (λ b. cond b (new_row (regarded regard host params)) (Some row)) o
    left_is regard o k =
        ap (λ (r : Row). option_and_then (λ b. cond b (new_row (regarded regard host params)) (Some row)) (all_true (regarded regard host params) (map there terms) r)) (sym is)
        ∙ ap (option_and_then (λ b. cond b (new_row (regarded regard host params)) (Some row))) k

    pub left_fault : (e : EvalFault) → Faults host params is_meant e → Faults host params left_row e
    left_fault e h = faults_on host params is_meant left_row e (λ regard k. left_is regard None k) h

    pub left_meant : {X : Type 0} (view : X → Row) (b : Bool) → b ≡ true → IsMeant host params is_meant b → (r : Result X EvalFault) → Answers host params r view new_row → Answers host params r view left_row
    left_meant view b t h r a =
        answers_after host params is_meant b new_row left_row view
        (λ regard k. sym (left_is regard (Some true) (k ∙ ap (λ (c : Bool). Some c) t))) h r a

    pub left_other : (b : Bool) → b ≡ false → IsMeant host params is_meant b → IsMeant host params left_row row
    left_other b t h = meant_on host params is_meant left_row b row (λ regard k. left_is regard (Some false) (k ∙ ap (λ (c : Bool). Some c) t)) h

  module _ (cols : List ColumnDef) (w : Update) (terms : List (Bor Expr)) (places : List ℕ) (exprs : List (Bor Expr)) (terms_are : map there terms ≡ with_quiet_first (map plain w.filter)) (places_are : places ≡ map place_of w.assignments) (exprs_are : map there exprs ≡ map assigned_expr w.assignments) where
    values_are : (regard : Regard) (row : Row) → each (λ e. (regarded regard host params).value e row) (map there exprs) ≡ each (λ a. (regarded regard host params).value a.expr row) (map assignment w.assignments)
    values_are regard row =
        ap (each (λ e. (regarded regard host params).value e row)) exprs_are
        ∙ gather-map assigned_expr (λ e. option_map single ((regarded regard host params).value e row)) w.assignments
        ∙ sym (gather-map assignment (λ a. option_map single ((regarded regard host params).value a.expr row)) w.assignments)

    row_is : (regard : Regard) (row : Row) → updated_by (regarded regard host params) cols terms places exprs row ≡ writes.updated (regarded regard host params) cols (update w) row
    row_is regard row =
        let p : places ≡ map (λ a. a.place) (map assignment w.assignments) = places_are ∙ sym (map-both (λ a. a.place) assignment w.assignments) in
        λ i. option_and_then (λ b. cond b (option_map (λ vs. put_all cols (p i) vs row) (values_are regard row i)) (Some row)) (all_true (regarded regard host params) (terms_are i) row)

    pub wanted_updates : {X : Type 0} (view : X → List Row) (rows : List Row) (r : Result X SourceFault)
        → Selects host params r view (λ m. each (updated_by m cols terms places exprs) rows)
        → Selects host params r view (λ m. writes.wanted_by_update m cols (update w) rows)
    wanted_updates view rows r h =
        selects_on host params (λ m. each (updated_by m cols terms places exprs) rows) (λ m. writes.wanted_by_update m cols (update w) rows) view
        (λ regard i. each (λ row. row_is regard row i) rows) r h

  -- ---- DELETE

  module _ (terms : List (Bor Expr)) (row seen : Row) (is : seen ≡ row) where
    abbrev pub is_hit : Stage Bool
    is_hit m = all_true m (map there terms) seen

    abbrev pub kept_row : Stage (List Row)
    kept_row m = kept_by m terms row

    kept_is : (regard : Regard) (o : Option Bool) → is_hit (regarded regard host params) ≡ o → kept_row (regarded regard host params) ≡ option_map (λ b. cond b (single row) []) (option_map not o)
    kept_is regard o k =
        ap (λ (r : Row). option_map (λ b. cond b (single row) []) (option_map not (all_true (regarded regard host params) (map there terms) r))) (sym is)
        ∙ ap (λ p. option_map (λ b. cond b (single row) []) (option_map not p)) k

    pub kept_fault : (e : EvalFault) → Faults host params is_hit e → Faults host params kept_row e
    kept_fault e h = faults_on host params is_hit kept_row e (λ regard k. kept_is regard None k) h

    pub gone : (b : Bool) (old : List Row) → b ≡ true → IsMeant host params is_hit b → IsMeant host params (λ m. behind old (kept_row m)) old
    gone b old t h =
        meant_on host params is_hit (λ m. behind old (kept_row m)) b old
        (λ regard k. ap (behind old) (kept_is regard (Some true) (k ∙ ap (λ (c : Bool). Some c) t)) ∙ ap (λ (l : List Row). Some l) (append-nil old)) h

    pub stays : (b : Bool) (old new : List Row) → b ≡ false → new ≡ old ++ row ∷ [] → IsMeant host params is_hit b → IsMeant host params (λ m. behind old (kept_row m)) new
    stays b old new t n h =
        meant_on host params is_hit (λ m. behind old (kept_row m)) b new
        (λ regard k. ap (behind old) (kept_is regard (Some false) (k ∙ ap (λ (c : Bool). Some c) t)) ∙ ap (λ (l : List Row). Some l) (sym n)) h

  pub wanted_deletes : {X : Type 0} (view : X → List Row) (w : Delete) (terms ts : List (Bor Expr)) (rows : List Row) → ts ≡ terms → map there terms ≡ with_quiet_first (map plain w.filter) → (r : Result X SourceFault)
      → Selects host params r view (λ m. gather (kept_by m ts) rows) → Selects host params r view (λ m. writes.wanted_by_delete m (delete w) rows)
  wanted_deletes view w terms ts rows same are r h =
      selects_on host params (λ m. gather (kept_by m ts) rows) (λ m. writes.wanted_by_delete m (delete w) rows) view
      (λ regard i. gather (λ row. option_map (λ b. cond b (single row) []) (option_map not (all_true (regarded regard host params) ((ap (map there) same ∙ are) i) row))) rows) r h
