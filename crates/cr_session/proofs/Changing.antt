-- INSERT, UPDATE and DELETE: what stands against them and what they leave, by the changes that they make.
use Rattle.std.proofs.Common.{◌≡◌, ◌⊎◌, inl, inr, ℕ, Bool, true, false, not, ◌&&◌, cond, List, [], Option, Some, None, Result, Ok, Err, refl, sym, ap, subst, ◌∙◌, find}
use Rattle.std.specs.Prelude.{is_some, unwrap_or}
use Rattle.std.specs.Option.{option_map_or}
use Rattle.cr_value.specs.declared.value.Value.{Value}
use Rattle.cr_lattice.specs.declared.change.Change.{Change}
use Rattle.cr_lattice.specs.declared.table.Table.{Table}
use Rattle.cr_lattice.specs.declared.table.TableDef.{TableDef}
use Rattle.cr_lattice.specs.Rows.{rows}
use Rattle.cr_delta.specs.Delta.{delta, passes_limit}
use Rattle.cr_cells.specs.Calls.{is_past_limit}
use Rattle.cr_cells.specs.Commit.{newly_kept}
use Rattle.cr_cells.specs.Holding.{Holding, kept_of}
use Rattle.cr_cells.specs.Tables.{is_named}
use Rattle.cr_scalar.specs.Host.{Host as Means}
use Rattle.cr_query.specs.Query.{Row, Meaning}
use Rattle.cr_query.specs.Queries as queries
use Rattle.cr_query.specs.Writes.{wanted_by_insert, wanted_by_update, wanted_by_delete, has_long_key, lacks_value, has_twice, by_key}
use Rattle.cr_query.proofs.Refining.{Gains}
use Rattle.cr_meaning.specs.View.{Ordered}
use Rattle.cr_scalar.specs.Meaning.{byte_limit}
use Rattle.cr_meaning.specs.Meaning.{exact, regarded, sized, strict}
use Rattle.cr_exec.specs.Answers.{IsMeant, Stage}
use Rattle.cr_exec.proofs.Stages.{misses}
use Rattle.cr_world.specs.declared.command.Reply.{Reply}
use Rattle.cr_world.specs.declared.command.Reply.TheVariants.{Done}
use Rattle.cr_world.specs.declared.refusal.Refusal.{Refusal}
use Rattle.cr_world.specs.declared.refusal.Refusal.TheVariants as refusal
use Rattle.cr_world.specs.Causes.{Cause, Free, Evaluation, IsWant, Tells, or_else, where_true, first_cause}
use Rattle.cr_world.specs.Resolved.{Resolved}
use Rattle.cr_world.specs.Resolved as world
use Rattle.cr_world.specs.State.{State, in_transaction, now, other_rows, rows_named, rows_or}
use Rattle.cr_world.specs.Statement.{Host, adding, causes_of, ended, evaluated, evaluation_cause, is_memory, left_by, not_yet, reply_to}
use Rattle.cr_changed.specs.Changed.{Leads, IsRefused, Stands, changes_to}
use Rattle.cr_session.specs.Performing.{AreAdded, IsFound, Performs, adding_cause, against, commit_cause, is_commit, refused, with_limit, without_limit}
use Rattle.cr_session.specs.Sessions.{state_of}
use Rattle.cr_session.proofs.Making.{told_first, told_then}
use Rattle.cr_session.proofs.Selecting.{counts, fault_told, meant_finds}

-- ---- causes of a write, one behind the other

abbrev of_rows : Host → State → TableDef → List Row → List Change → Cause
of_rows host st def rows more =
    or_else (where_true (lacks_value def rows) refusal.NotNull) (or_else (where_true (has_twice def rows) refusal.PrimaryKey)
    (or_else (where_true (passes_limit more) refusal.VersionLimit) (adding_cause host st more)))

abbrev changes_now : State → TableDef → List Row → List Change
changes_now st def rows = delta def st.holding.site (now st) (by_key def rows)

-- all that may stand against a write of a table
abbrev of_write : Host → State → TableDef → Option (List Row) → Option (List Row) → Cause
of_write host st def o p =
    or_else (not_yet st (world.Table def)) (or_else (evaluation_cause (Some def) o p) (of_rows host st def (unwrap_or p []) (changes_now st def (unwrap_or p []))))

-- the statement is a write of the table, that wants these rows where it shows those
pub record IsWrite (host : Host) (st : State) (def : TableDef) (x : Resolved Ordered) (f : Meaning Ordered → List Row → Option (List Row)) : Type 0 where
  no_commit : is_commit x ≡ false
  cause : (o p : Option (List Row)) → first_cause (causes_of host st x o p) ≡ of_write host st def o p
  evaluates : (m : Meaning Ordered) → evaluated m st x ≡ f m (rows_named st def.name)
  replies : (out : List Row) → reply_to x out ≡ Done
  leaves : (out : List Row) → left_by st x out [] ≡ adding (changes_now st def out) st

-- a table is no module
pub never : (b : Bool) → (b && false) ≡ false
never true = refl
never false = refl

-- changes are judged where they are committed, outside of transactions
abbrev pub judged : Host → State → List Change → Bool → Cause
judged host st more opened =
    or_else (option_map_or (λ more. where_true (is_past_limit st.holding more) refusal.VersionLimit) (cond (not opened) (Some more) None) Free)
    (or_else (option_map_or (λ more. where_true (host.vetoes (newly_kept (kept_of st.holding) more)) refusal.Veto) (cond (not opened) (Some more) None) Free) Free)

pub judged_is : (host : Host) (st : State) (more : List Change) (opened : Bool) → judged host st more opened ≡ cond opened Free (commit_cause host st more)
judged_is host st more true = refl
judged_is host st more false = refl

-- what is added stands without modules where there were none
pub added_to : (h : Holding) (more : List Change) (p : Option (List Change)) → record (adding more (state_of h p)) { modules = [] } ≡ adding more (state_of h p)
added_to h more None = refl
added_to h more (Some pending) = refl

module _ (host : Host) (h : Holding) (pending : Option (List Change)) (def : TableDef) where
  abbrev here : State
  here = state_of h pending

  -- where no more is told of a module, and changes are judged by whether a transaction is open
  abbrev causes_at : Option (List Row) → Option (List Row) → Bool → Cause → Cause
  causes_at o p on_module judging =
      or_else (where_true on_module refusal.TransactionState) (or_else (not_yet here (world.Table def)) (or_else (evaluation_cause (Some def) o p)
      (or_else (where_true (lacks_value def (unwrap_or p [])) refusal.NotNull) (or_else (where_true (has_twice def (unwrap_or p [])) refusal.PrimaryKey)
      (or_else (where_true (passes_limit (changes_now here def (unwrap_or p []))) refusal.VersionLimit) judging)))))

  judging_is : (p : Option (List Row)) → judged host here (changes_now here def (unwrap_or p [])) (is_some pending) ≡ adding_cause host here (changes_now here def (unwrap_or p []))
  judging_is p = judged_is host here (changes_now here def (unwrap_or p [])) (is_some pending)

  pub insert_write : (places : List ℕ) (tuples : List (List Ordered))
      → IsWrite host here def (world.Insert (world.Table def) (record { places = places; tuples = tuples; is_ignored = false }))
      (λ m shown. wanted_by_insert m def.columns (record { places = places; tuples = tuples; is_ignored = false }) shown)
  insert_write places tuples = record {
    no_commit = refl;
    cause = λ o p. (λ i. causes_at o p (never (is_some pending) i) (judging_is p i));
    evaluates = λ m. refl;
    replies = λ out. refl;
    leaves = λ out. added_to h (changes_now here def out) pending;
  }

  pub update_write : (w : queries.Update Ordered) → IsWrite host here def (world.Update (world.Table def) w) (λ m shown. wanted_by_update m def.columns w shown)
  update_write w = record {
    no_commit = refl;
    cause = λ o p. (λ i. causes_at o p false (judging_is p i));
    evaluates = λ m. refl;
    replies = λ out. refl;
    leaves = λ out. refl;
  }

  pub delete_write : (w : queries.Delete Ordered) → IsWrite host here def (world.Delete (world.Table def) w) (λ m shown. wanted_by_delete m w shown)
  delete_write w = record {
    no_commit = refl;
    cause = λ o p. (λ i. causes_at o p false (judging_is p i));
    evaluates = λ m. refl;
    replies = λ out. refl;
    leaves = λ out. refl;
  }

-- ---- a replicated table

abbrev pub Replicated : State → TableDef → Type 0
Replicated st def = find (is_named def.name) st.holding.tables ≡ Some (record { definition = def; is_replicated = true })

shown_is : (st : State) (def : TableDef) → Replicated st def → rows_named st def.name ≡ rows (now st) def
shown_is st def e = ap (λ (o : Option Table). rows_or (now st) o (other_rows st def.name)) e

pub not_yet_by : (st : State) (def : TableDef) (b : Bool) → find (is_named def.name) st.holding.tables ≡ Some (record { definition = def; is_replicated = b })
    → not_yet st (world.Table def) ≡ where_true (not b) (refusal.NotYet def.name)
not_yet_by st def b e = ap (λ (o : Option Table). where_true (not (option_map_or (λ t. t.is_replicated) o false)) (refusal.NotYet def.name)) e

module _ (means : Means) (params : List Value) (host : Host) (st : State) (def : TableDef) (x : Resolved Ordered) (f : Meaning Ordered → List Row → Option (List Row)) (is : IsWrite host st def x f) where
  -- a refused write leaves all as it was
  lasts : (r : Refusal) → refused st x r ≡ st
  lasts r = ap (λ (b : Bool). cond (b && (in_transaction st && not (is_memory r))) (ended st) st) is.no_commit

  module _ (there : Replicated st def) where
    abbrev stage : Stage (List Row)
    stage m = f m (rows (now st) def)

    yet : not_yet st (world.Table def) ≡ Free
    yet = not_yet_by st def true there

    evaluated_is : (m : Meaning Ordered) → evaluated m st x ≡ stage m
    evaluated_is m = is.evaluates m ∙ ap (f m) (shown_is st def there)

    -- what may stand against it once it is replicated
    abbrev rest : Cause
    rest = or_else (evaluation_cause (Some def) (stage (exact means params)) (stage (sized means params))) (of_rows host st def (unwrap_or (stage (sized means params)) []) (changes_now st def (unwrap_or (stage (sized means params)) [])))

    cause_is : against means params host st x ≡ rest
    cause_is =
        is.cause (without_limit means params host st x) (with_limit means params host st x) ∙ (λ i. of_write host st def (evaluated_is (exact means params) i) (evaluated_is (sized means params) i))
        ∙ ap (λ (c : Cause). or_else c rest) yet

    -- the rows are wanted under both meanings
    module _ (out : List Row) (both : IsMeant means params stage out) where
      abbrev of_key : Cause
      of_key = cond (has_long_key def out) (Evaluation false) Free

      abbrev more : List Change
      more = changes_to def st.holding.site (now st) out

      rows_cause : against means params host st x ≡ or_else of_key (of_rows host st def out more)
      rows_cause =
          cause_is ∙ ap (λ (p : Option (List Row)). or_else (evaluation_cause (Some def) (stage (exact means params)) p) (of_rows host st def (unwrap_or p []) (changes_now st def (unwrap_or p [])))) (both.under (strict byte_limit) (inr refl))

      long_is : (b : Bool) → has_long_key def out ≡ b → of_key ≡ cond b (Evaluation false) Free
      long_is b e = ap (λ (b : Bool). cond b (Evaluation false) Free) e

      where_is : (g : Bool) (b : Bool) (r : Refusal) → g ≡ b → where_true g r ≡ where_true b r
      where_is g b r e = ap (λ (b : Bool). where_true b r) e

      stands_told : (r : Refusal) → Stands def st.holding.site (now st) out r → Tells (against means params host st x) r
      stands_told r s = subst (λ (c : Cause). Tells c r) (sym rows_cause) (of_stands s) where
        of_stands : Stands def st.holding.site (now st) out r → Tells (or_else of_key (of_rows host st def out more)) r
        of_stands (inl (long, told)) = told_first of_key _ r (subst (λ (c : Cause). Tells c r) (sym (long_is true long)) told)
        of_stands (inr (inl (short, lacks, told))) =
            told_then of_key _ r (long_is false short) (told_first (where_true (lacks_value def out) refusal.NotNull) _ r (subst (λ (c : Cause). Tells c r) (sym (where_is (lacks_value def out) true refusal.NotNull lacks)) told))
        of_stands (inr (inr (inl (short, whole, twice, told)))) =
            told_then of_key _ r (long_is false short) (told_then (where_true (lacks_value def out) refusal.NotNull) _ r (where_is (lacks_value def out) false refusal.NotNull whole)
            (told_first (where_true (has_twice def out) refusal.PrimaryKey) _ r (subst (λ (c : Cause). Tells c r) (sym (where_is (has_twice def out) true refusal.PrimaryKey twice)) told)))
        of_stands (inr (inr (inr (short, whole, once, past, told)))) =
            told_then of_key _ r (long_is false short) (told_then (where_true (lacks_value def out) refusal.NotNull) _ r (where_is (lacks_value def out) false refusal.NotNull whole)
            (told_then (where_true (has_twice def out) refusal.PrimaryKey) _ r (where_is (has_twice def out) false refusal.PrimaryKey once)
            (told_first (where_true (passes_limit more) refusal.VersionLimit) _ r (subst (λ (c : Cause). Tells c r) (sym (where_is (passes_limit more) true refusal.VersionLimit past)) told))))

      -- where nothing stands against the rows, what holds against the changes is what is left
      commit_left : has_long_key def out ≡ false → lacks_value def out ≡ false → has_twice def out ≡ false → passes_limit more ≡ false → against means params host st x ≡ adding_cause host st more
      commit_left short whole once within =
          rows_cause ∙ (λ i. or_else (long_is false short i) (or_else (where_is (lacks_value def out) false refusal.NotNull whole i) (or_else (where_is (has_twice def out) false refusal.PrimaryKey once i)
          (or_else (where_is (passes_limit more) false refusal.VersionLimit within i) (adding_cause host st more)))))

      -- and nothing is told of an evaluation
      meant : (r : Refusal) → IsFound means params host st x r
      meant r = meant_finds means params host st x out (evaluated_is (sized means params) ∙ both.under (strict byte_limit) (inr refl)) r

      -- a write with those changes
      makes : (changes : List Change) (result : Result Reply Refusal) (new : State) → changes ≡ more → has_long_key def out ≡ false → lacks_value def out ≡ false → has_twice def out ≡ false → passes_limit more ≡ false
          → AreAdded host st changes result new → Performs means params host st x result new
      makes changes result new e short whole once within c = done result (subst (λ (cs : List Change). AreAdded host st cs result new) e c) where
        same : adding_cause host st more ≡ against means params host st x
        same = sym (commit_left short whole once within)

        leaves : adding more st ≡ left_by st x (unwrap_or (with_limit means params host st x) []) []
        leaves = sym (is.leaves out) ∙ ap (λ (p : Option (List Row)). left_by st x (unwrap_or p []) []) (sym (evaluated_is (sized means params) ∙ both.under (strict byte_limit) (inr refl)))

        done : (result : Result Reply Refusal) → AreAdded host st more result new → Performs means params host st x result new
        done (Ok reply) a = (sym same ∙ a.0, (a.1.0 ∙ sym (is.replies (unwrap_or (with_limit means params host st x) [])), a.1.1 ∙ leaves))
        done (Err r) a = (subst (λ (c : Cause). IsWant r ⊎ Tells c r) same a.0, (a.1 ∙ sym (lasts r), meant r))

    -- a write that is refused before its changes are added
    pub refuses_write : (r : Refusal) → Gains (stage (sized means params)) (stage (exact means params)) → IsRefused means params def st.holding.site (now st) stage r → Performs means params host st x (Err r) st
    refuses_write r gains (inl e) = (inl (inl e), (sym (lasts r), subst (IsFound means params host st x) (sym e) tt))
    refuses_write r gains (inr (inl (e, is_told, faults))) =
        (subst (λ (y : Refusal). IsWant y ⊎ Tells (against means params host st x) y) (sym is_told) (first (fault_told (Some def) means params stage gains e faults)), (sym (lasts r), found)) where
          found : IsFound means params host st x r
          found = subst (IsFound means params host st x) (sym is_told) (counts means params host st x e (λ g c. evaluated_is (regarded g means params) ∙ misses means params stage e faults g c))

          first : {y : Refusal} → IsWant y ⊎ Tells (evaluation_cause (Some def) (stage (exact means params)) (stage (sized means params))) y → IsWant y ⊎ Tells (against means params host st x) y
          first (inl w) = inl w
          first {y} (inr t) = inr (subst (λ (c : Cause). Tells c y) (sym cause_is) (told_first _ _ y t))
    refuses_write r gains (inr (inr (out, both, stands))) = (inr (stands_told out both r stands), (sym (lasts r), meant out both r))

    -- a write whose changes are added, or refused as they are
    pub performs_write : (changes : List Change) (result : Result Reply Refusal) (new : State) (leads : Leads means params def st.holding.site (now st) stage changes)
        → AreAdded host st changes result new → Performs means params host st x result new
    performs_write changes result new leads c = makes leads.rows leads.both changes result new leads.are leads.short leads.whole leads.once leads.within c
