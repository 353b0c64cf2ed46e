-- A statement that touches no module does beside modules what it does without them.
use Rattle.std.proofs.Common.{◌≡◌, ◌⊎◌, ℕ, Bool, true, false, ◌||◌, cond, List, [], ◌∷◌, find, Option, Some, None, Result, Ok, Err, refl, sym, ap, subst, ◌∙◌}
use Rattle.std.specs.Prelude.{is_some, not, ◌&&◌, unwrap_or, if◌then◌else◌}
use Rattle.std.specs.List.{list_any}
use Rattle.cr_value.specs.declared.value.Value.{Value}
use Rattle.cr_lattice.specs.declared.change.Change.{Change}
use Rattle.cr_lattice.specs.declared.table.Table.{Table}
use Rattle.cr_lattice.specs.Check.{same_bytes}
use Rattle.cr_cells.specs.Holding.{Holding}
use Rattle.cr_scalar.specs.Host.{Host as Means}
use Rattle.cr_query.specs.Query.{Row, Meaning, answer}
use Rattle.cr_query.specs.Queries.{Insert as Insertion, Update as Updating, Delete as Deletion}
use Rattle.cr_query.specs.Writes.{wanted_by_insert, wanted_by_update, wanted_by_delete}
use Rattle.cr_meaning.specs.View.{Ordered}
use Rattle.cr_meaning.specs.Meaning.{exact, regarded, sized}
use Rattle.cr_term.specs.declared.query.Resolved.{Resolved as Answered}
use Rattle.cr_language.specs.Sql.{view}
use Rattle.cr_world.specs.declared.command.Reply.{Reply}
use Rattle.cr_world.specs.declared.refusal.Refusal.{Refusal}
use Rattle.cr_world.specs.Causes.{Cause, IsWant, Tells, first_cause}
use Rattle.cr_world.specs.Resolved.{Resolved, Target, Select, Mark, Insert, Update, Delete, Create, Alter, Begin, Commit, Rollback}
use Rattle.cr_world.specs.Resolved as target
use Rattle.cr_world.specs.State.{State, ModuleState, change_rows, changes_name, in_transaction, is_module, module_rows, now, other_rows, rows_named, rows_or, table_of, tables_named}
use Rattle.cr_world.specs.Statement.{Host, ModulesLeave, adding, causes_of, changes_by, ended, evaluated, is_memory, left_by, reply_to, touches, updates_module, writes}
use Rattle.cr_session.proofs.Selecting.{found_as}
use Rattle.cr_session.specs.Performing.{Performs, Performed, PerformsWith, PerformedWith, against, beside, has_target, is_commit, is_held, placed, with_limit, without_limit}
use Rattle.cr_session.specs.Sessions.{SessionOf, clean, honest, standing, state_of}

both_false : (a b : Bool) → (a || b) ≡ false → (a ≡ false) × (b ≡ false)
both_false false b e = (refl, e)
both_false true b e = absurd (let z : ⊥ = cc in z)

not_some : {X : Type 0} (o : Option X) → is_some o ≡ false → o ≡ None
not_some None e = refl
not_some (Some x) e = absurd (let z : ⊥ = cc in z)

-- ---- rows

module _ (st : State) (ms : List ModuleState) where
  -- of a name that no module has
  rows_unnamed : (name : List ℕ) → find (is_module name) ms ≡ None → st.modules ≡ [] → rows_named (placed ms st) name ≡ rows_named st name
  unfolding now
  rows_unnamed name e none =
      let same : find (is_module name) ms ≡ find (is_module name) st.modules = e ∙ sym (ap (λ (xs : List ModuleState). find (is_module name) xs) none) in
      λ i. rows_or (now st) (table_of st name) (if same_bytes changes_name name then change_rows st.holding else module_rows (same i))

  -- of a table
  rows_of_table : (name : List ℕ) (t : Option Table) → table_of st name ≡ t → is_some t ≡ true → rows_named (placed ms st) name ≡ rows_named st name
  unfolding now
  rows_of_table name (Some t) e some =
      (λ i. rows_or (now st) (e i) (other_rows (placed ms st) name)) ∙ sym (λ i. rows_or (now st) (e i) (other_rows st name))
  rows_of_table name None e some = absurd (let z : ⊥ = cc in z)

  tables_unnamed : (names : List (List ℕ)) → list_any (λ name. is_some (find (is_module name) ms)) names ≡ false → st.modules ≡ [] → tables_named (placed ms st) names ≡ tables_named st names
  tables_unnamed [] e none = refl
  tables_unnamed (name ∷ names) e none =
      let both = both_false (is_some (find (is_module name) ms)) (list_any (λ name. is_some (find (is_module name) ms)) names) e in
      let here : rows_named (placed ms st) name ≡ rows_named st name = rows_unnamed name (not_some (find (is_module name) ms) both.0) none in
      let there : tables_named (placed ms st) names ≡ tables_named st names = tables_unnamed names both.1 none in
      λ i. here i ∷ there i

-- ---- what is evaluated, and what holds against it

module _ {E : Type 0} (m : Meaning E) (st : State) (ms : List ModuleState) where
  insert_beside : (t : Target) (w : Insertion E) → is_held st t ≡ true → evaluated m (placed ms st) (Insert t w) ≡ evaluated m st (Insert t w)
  insert_beside (target.Table def) w e = ap (wanted_by_insert m def.columns w) (rows_of_table st ms def.name (table_of st def.name) refl e)
  insert_beside target.Changes w e = refl
  insert_beside (target.Module name columns) w e = refl

  update_beside : (t : Target) (w : Updating E) → is_held st t ≡ true → evaluated m (placed ms st) (Update t w) ≡ evaluated m st (Update t w)
  update_beside (target.Table def) w e = ap (wanted_by_update m def.columns w) (rows_of_table st ms def.name (table_of st def.name) refl e)
  update_beside target.Changes w e = refl
  update_beside (target.Module name columns) w e = refl

  delete_beside : (t : Target) (w : Deletion E) → is_held st t ≡ true → evaluated m (placed ms st) (Delete t w) ≡ evaluated m st (Delete t w)
  delete_beside (target.Table def) w e = ap (wanted_by_delete m w) (rows_of_table st ms def.name (table_of st def.name) refl e)
  delete_beside target.Changes w e = refl
  delete_beside (target.Module name columns) w e = refl

  evaluated_beside : (v : Resolved E) → st.modules ≡ [] → touches ms v ≡ false → has_target st v ≡ true → evaluated m (placed ms st) v ≡ evaluated m st v
  evaluated_beside (Select names q) none e there = ap (answer m q) (tables_unnamed st ms names e none)
  evaluated_beside (Mark t b) none e there = refl
  evaluated_beside (Insert t w) none e there = insert_beside t w there
  evaluated_beside (Update t w) none e there = update_beside t w there
  evaluated_beside (Delete t w) none e there = delete_beside t w there
  evaluated_beside (Create def b) none e there = refl
  evaluated_beside (Alter t col) none e there = refl
  evaluated_beside Begin none e there = refl
  evaluated_beside Commit none e there = refl
  evaluated_beside Rollback none e there = refl

causes_beside : {E : Type 0} (host : Host) (st : State) (ms : List ModuleState) (v : Resolved E) (a b : Option (List Row)) → touches ms v ≡ false → causes_of host (placed ms st) v a b ≡ causes_of host st v a b
unfolding now
causes_beside host st ms (Select names q) a b e = refl
causes_beside host st ms (Mark t x) a b e = refl
causes_beside host st ms (Insert (target.Table def) w) a b e = refl
causes_beside host st ms (Insert target.Changes w) a b e = refl
causes_beside host st ms (Insert (target.Module name columns) w) a b e = absurd (let z : ⊥ = cc in z)
causes_beside host st ms (Update t w) a b e = refl
causes_beside host st ms (Delete t w) a b e = refl
causes_beside host st ms (Create def x) a b e = refl
causes_beside host st ms (Alter t col) a b e = refl
causes_beside host st ms Begin a b e = refl
causes_beside host st ms Commit a b e = refl
causes_beside host st ms Rollback a b e = refl

-- ---- what is left

put_either : (ms : List ModuleState) (b : Bool) (x y : State) → cond b (placed ms x) (placed ms y) ≡ placed ms (cond b x y)
put_either ms true x y = refl
put_either ms false x y = refl

put_inserted : (ms ns : List ModuleState) (b : Bool) (x y : State) → placed ms (cond b (placed ms x) (placed ms y)) ≡ placed ms (placed ns (cond b x y))
put_inserted ms ns true x y = refl
put_inserted ms ns false x y = refl

adding_beside : (h : Holding) (pending : Option (List Change)) (ms : List ModuleState) (more : List Change) → adding more (placed ms (state_of h pending)) ≡ placed ms (adding more (state_of h pending))
adding_beside h None ms more = refl
adding_beside h (Some p) ms more = refl

module _ {E : Type 0} (h : Holding) (pending : Option (List Change)) (ms : List ModuleState) where
  -- where changes may be added
  written : (v : Resolved E) (rows : List Row) → cond (writes v) (adding (changes_by (placed ms (state_of h pending)) v rows) (placed ms (state_of h pending))) (placed ms (state_of h pending)) ≡ placed ms (cond (writes v) (adding (changes_by (state_of h pending) v rows) (state_of h pending)) (state_of h pending))
  unfolding now
  written v rows =
      ap (λ (x : State). cond (writes v) x (placed ms (state_of h pending))) (adding_beside h pending ms (changes_by (state_of h pending) v rows)) ∙ put_either ms (writes v) (adding (changes_by (state_of h pending) v rows) (state_of h pending)) (state_of h pending)

  inserted : (v : Resolved E) (rows : List Row) → placed ms (cond (writes v) (adding (changes_by (placed ms (state_of h pending)) v rows) (placed ms (state_of h pending))) (placed ms (state_of h pending))) ≡ placed ms (placed [] (cond (writes v) (adding (changes_by (state_of h pending) v rows) (state_of h pending)) (state_of h pending)))
  unfolding now
  inserted v rows =
      ap (λ (x : State). placed ms (cond (writes v) x (placed ms (state_of h pending)))) (adding_beside h pending ms (changes_by (state_of h pending) v rows)) ∙ put_inserted ms [] (writes v) (adding (changes_by (state_of h pending) v rows) (state_of h pending)) (state_of h pending)

  left_beside : (v : Resolved E) (rows : List Row) → left_by (placed ms (state_of h pending)) v rows ms ≡ placed ms (left_by (state_of h pending) v rows [])
  left_beside (Select names q) rows = refl
  left_beside (Mark t b) rows = put_either ms b _ _
  left_beside (Insert t w) rows = inserted (Insert t w) rows
  left_beside (Update t w) rows = written (Update t w) rows
  left_beside (Delete t w) rows = written (Delete t w) rows
  left_beside (Create def b) rows = put_either ms b _ _
  left_beside (Alter t col) rows = refl
  left_beside Begin rows = refl
  left_beside Commit rows = refl
  left_beside Rollback rows = refl

no_update : {E : Type 0} (ms : List ModuleState) (v : Resolved E) → touches ms v ≡ false → updates_module v ≡ None
no_update ms (Select names q) e = refl
no_update ms (Mark t b) e = refl
no_update ms (Insert (target.Table def) w) e = refl
no_update ms (Insert target.Changes w) e = refl
no_update ms (Insert (target.Module name columns) w) e = absurd (let z : ⊥ = cc in z)
no_update ms (Update t w) e = refl
no_update ms (Delete t w) e = refl
no_update ms (Create def b) e = refl
no_update ms (Alter t col) e = refl
no_update ms Begin e = refl
no_update ms Commit e = refl
no_update ms Rollback e = refl

pub all_stay : (rows : List Row) (ms : List ModuleState) → ModulesLeave None rows ms ms
all_stay rows [] = tt
all_stay rows (m ∷ ms) = (refl, all_stay rows ms)

-- ---- statements

module _ (means : Means) (params : List Value) (host : Host) (h : Holding) (pending : Option (List Change)) (ms : List ModuleState) (v : Resolved Ordered)
    (e : touches ms v ≡ false) (there : has_target (state_of h pending) v ≡ true) where
  abbrev here : State
  here = state_of h pending

  limited : with_limit means params host (placed ms here) v ≡ with_limit means params host here v
  limited = evaluated_beside (sized means params) here ms v refl e there

  exactly : without_limit means params host (placed ms here) v ≡ without_limit means params host here v
  exactly = evaluated_beside (exact means params) here ms v refl e there

  same_cause : against means params host (placed ms here) v ≡ against means params host here v
  same_cause =
      (λ i. first_cause (causes_of host (placed ms here) v (exactly i) (limited i)))
      ∙ ap first_cause (causes_beside host here ms v (without_limit means params host here v) (with_limit means params host here v) e)

  pub performs_beside : (result : Result Reply Refusal) (new : State) → Performs means params host here v result new → PerformsWith means params host (placed ms here) v result (placed ms new)
  performs_beside (Ok reply) new d = (
    same_cause ∙ d.0,
    (
      d.1.0 ∙ ap (λ (o : Option (List Row)). reply_to v (unwrap_or o [])) (sym limited),
      (
        subst (λ (o : Option (List ℕ)). ModulesLeave o (unwrap_or (with_limit means params host (placed ms here) v) []) ms ms) (sym (no_update ms v e)) (all_stay (unwrap_or (with_limit means params host (placed ms here) v) []) ms),
        ap (placed ms) d.1.1 ∙ sym (left_beside h pending ms v (unwrap_or (with_limit means params host here v) [])) ∙ ap (λ (o : Option (List Row)). left_by (placed ms here) v (unwrap_or o []) ms) (sym limited),
      ),
    ),
  )
  performs_beside (Err f) new d = (
    subst (λ (c : Cause). IsWant f ⊎ Tells c f) (sym same_cause) d.0,
    (
      ap (placed ms) d.1.0 ∙ sym (put_either ms (is_commit v && (in_transaction here && not (is_memory f))) (ended here) here),
      λ untouched. found_as (λ g. regarded g means params) (λ g. regarded g means params) here (placed ms here) v (λ g. evaluated_beside (regarded g means params) here ms v refl e there) f d.1.1,
    ),
  )

-- a session beside modules
pub performed_beside : {C : Type 0} (means : Means) (params : List Value) (host : Host) (is_honest is_clean : C → Type 0) (holding : C → Holding) (ms : List ModuleState) (old : SessionOf C) (y : Answered) (result : Result Reply Refusal) (new : SessionOf C)
    → touches ms (view y) ≡ false → (is_clean new.0 → has_target (standing holding old) (view y) ≡ true)
    → Performed means params host (honest is_honest) (clean is_clean) (standing holding) old y result new
    → PerformedWith means params host (honest is_honest) (clean is_clean) (beside ms (standing holding)) old y result new
performed_beside means params host is_honest is_clean holding ms old y result new e there d = record {
  device = d.device;
  performs = λ clean. performs_beside means params host (holding old.0) old.1 ms (view y) e (there clean) result (standing holding new) (d.performs clean);
}
