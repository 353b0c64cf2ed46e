-- An INSERT into the table of changes.
use Rattle.std.proofs.Common.{◌≡◌, ◌⊎◌, inl, inr, Bool, true, false, cond, List, [], ◌∷◌, find, map, Option, Some, None, Result, Ok, Err, refl, sym, ap, subst, ◌∙◌}
use Rattle.std.specs.Prelude.{unwrap_or}
use Rattle.std.specs.List.{filter_map}
use Rattle.std.specs.Option.{option_map}
use Rattle.cr_value.specs.declared.value.Value.{Value}
use Rattle.cr_lattice.specs.declared.change.Change.{Change}
use Rattle.cr_lattice.specs.declared.check.BadChange.{BadChange}
use Rattle.cr_lattice.specs.declared.table.Table.{Table}
use Rattle.cr_lattice.specs.declared.table.TableDef.{TableDef}
use Rattle.cr_lattice.specs.Check.{same_bytes}
use Rattle.cr_cells.specs.Holding.{Holding}
use Rattle.cr_term.specs.declared.query.Held.{Held}
use Rattle.cr_term.specs.declared.query.Held.TheVariants as held
use Rattle.cr_term.specs.declared.query.Relation.{Relation}
use Rattle.cr_term.specs.declared.query.Insert.{Insert}
use Rattle.cr_term.specs.declared.query.Resolved.TheVariants as r
use Rattle.cr_scalar.specs.Host.{Host as Means}
use Rattle.cr_query.specs.Query.{Row}
use Rattle.cr_query.specs.Queries as queries
use Rattle.cr_query.specs.Writes.{inserted_rows}
use Rattle.cr_query.proofs.Refining.{Gains}
use Rattle.cr_meaning.specs.View.{Ordered, insert}
use Rattle.cr_scalar.specs.Meaning.{byte_limit}
use Rattle.cr_meaning.specs.Meaning.{exact, sized, strict}
use Rattle.cr_meaning.proofs.Limits.{refines}
use Rattle.cr_scalar.specs.declared.fault.EvalFault.{EvalFault}
use Rattle.cr_exec.specs.Answers.{Faults, IsMeant, Stage}
use Rattle.cr_exec.proofs.Stages.{misses}
use Rattle.cr_query.proofs.RefiningWrites.{rows_refine}
use Rattle.cr_replica.specs.declared.snapshot.Listing.{Listing}
use Rattle.cr_replica.specs.declared.snapshot.Snapshot.{Snapshot}
use Rattle.cr_snapshot.specs.Seen.{IsNamed, catalog_of, definition_of}
use Rattle.cr_language.specs.Sql.{module_target, target_by, view}
use Rattle.cr_world.specs.declared.command.Reply.{Reply}
use Rattle.cr_world.specs.declared.command.Reply.TheVariants.{Done}
use Rattle.cr_world.specs.declared.refusal.Refusal.{Refusal}
use Rattle.cr_world.specs.declared.refusal.Refusal.TheVariants as refusal
use Rattle.cr_world.specs.Refusals.{of_fault}
use Rattle.cr_world.specs.Causes.{Cause, Free, IsWant, Tells, or_else, of_option, where_true}
use Rattle.cr_world.specs.Resolved.{Resolved}
use Rattle.cr_world.specs.Resolved as world
use Rattle.cr_world.specs.State.{State, changes_columns, changes_definition, in_transaction}
use Rattle.cr_world.specs.Statement.{Host, adding, change_of_row, evaluation_cause, first_bad, left_by}
use Rattle.cr_fit.specs.Suited.{HasHeld, HasRelation}
use Rattle.cr_received.specs.Received.{AreReceived, IsBad, IsFaulty, IsToldOf, first_bad_in}
use Rattle.cr_received.proofs.Bad.{told_by_tables}
use Rattle.cr_session.specs.Performing.{Adds, AreAdded, IsFound, Performed, Performs, adding_cause, against, is_table, with_limit}
use Rattle.cr_session.specs.Sessions.{SessionOf, clean, honest, standing, state_of}
use Rattle.cr_session.proofs.Changing.{added_to, judged_is, never}
use Rattle.cr_session.proofs.Making.{told_first, untouched}
use Rattle.cr_session.proofs.Selecting.{counts, fault_told, meant_finds}

-- ---- where no module is listed, the table of changes is the only one

one_module : (d : TableDef) (b : Bool) → cond b (Some changes_definition) None ≡ Some d → d ≡ changes_definition
one_module d true e = let same : changes_definition ≡ d = cc in sym same
one_module d false e = absurd (let z : ⊥ = cc in z)

found_one : (d : TableDef) (ls : List Listing) → ls ≡ [] → find (λ (x : TableDef). same_bytes x.name d.name) (changes_definition ∷ map definition_of ls) ≡ Some d → d ≡ changes_definition
found_one d ls none is =
    one_module d (same_bytes changes_definition.name d.name) (subst (λ (ls : List Listing). find (λ (x : TableDef). same_bytes x.name d.name) (changes_definition ∷ map definition_of ls) ≡ Some d) none is)

defined_by : (snap : Snapshot) (place : Held) (d : TableDef) → snap.modules ≡ [] → HasHeld (catalog_of snap) d place → is_table place ≡ false → d ≡ changes_definition
defined_by snap (held.Table at b) d none has e = absurd (let z : ⊥ = cc in z)
defined_by snap (held.Module at) d none has e = found_one d snap.modules none has.1

-- what is no table is the table of changes
pub is_changes : (snap : Snapshot) (x : Relation) → snap.modules ≡ [] → HasRelation (catalog_of snap) x → is_table x.held ≡ false → x.definition ≡ changes_definition
is_changes snap x none has e = defined_by snap x.held x.definition none has e

target_of : (place : Held) (d : TableDef) → is_table place ≡ false → d ≡ changes_definition → target_by place d ≡ world.Changes
target_of (held.Table at b) d e same = absurd (let z : ⊥ = cc in z)
target_of (held.Module at) d e same = ap module_target same

-- ---- what it does

module _ (means : Means) (params : List Value) (host : Host) (h : Holding) (pending : Option (List Change)) (w : queries.Insert Ordered) where
  abbrev here : State
  here = state_of h pending

  abbrev receiving : Bool → Resolved Ordered
  receiving b = world.Insert world.Changes (record { places = w.places; tuples = w.tuples; is_ignored = b })

  -- where it is ignored nothing is done
  performs_ignored : Performs means params host here (receiving true) (Ok Done) here
  performs_ignored = (ap (λ (b : Bool). or_else (where_true b refusal.TransactionState) Free) (never (in_transaction here)), (refl, refl))

  abbrev brought : Stage (List Row)
  brought m = inserted_rows m changes_columns (record { places = w.places; tuples = w.tuples; is_ignored = false })

  abbrev bad_cause : List Row → Cause
  bad_cause rows = of_option (option_map refusal.BadChange (first_bad here rows))

  -- where no module is told of, and changes are judged by whether a transaction is open
  abbrev causes_at : Option (List Row) → Option (List Row) → Bool → Cause → Cause
  causes_at o p on_module judging =
      or_else (where_true on_module refusal.TransactionState) (or_else (evaluation_cause None o p) (or_else (bad_cause (unwrap_or p [])) judging))

  abbrev causes : Option (List Row) → Option (List Row) → Cause
  causes o p = or_else (evaluation_cause None o p) (or_else (bad_cause (unwrap_or p [])) (adding_cause host here (filter_map change_of_row (unwrap_or p []))))

  -- a fault of an expression, then a row that is no change, then what holds against a commit
  cause_is : against means params host here (receiving false) ≡ causes (brought (exact means params)) (brought (sized means params))
  cause_is = λ i. causes_at (brought (exact means params)) (brought (sized means params)) (never (in_transaction here) i) (judged_is host here (filter_map change_of_row (unwrap_or (brought (sized means params)) [])) (in_transaction here) i)

  brought_gains : Gains (brought (sized means params)) (brought (exact means params))
  brought_gains = rows_refine (sized means params) (exact means params) (refines means params (strict None) (inl refl)) changes_columns (record { places = w.places; tuples = w.tuples; is_ignored = false })

  module _ (rows : List Row) (both : IsMeant means params brought rows) where
    rows_cause : against means params host here (receiving false) ≡ or_else (bad_cause rows) (adding_cause host here (filter_map change_of_row rows))
    rows_cause = cause_is ∙ ap (λ (p : Option (List Row)). causes (brought (exact means params)) p) (both.under (strict byte_limit) (inr refl))

    bad_told : (b : BadChange) (f : Refusal) → first_bad here rows ≡ Some b → f ≡ refusal.BadChange b → Tells (against means params host here (receiving false)) f
    bad_told b f bad told =
        subst (λ (c : Cause). Tells c f) (sym rows_cause) (told_first (bad_cause rows) _ f (subst (λ (o : Option BadChange). Tells (of_option (option_map refusal.BadChange o)) f) (sym bad) told))

    good_cause : first_bad here rows ≡ None → against means params host here (receiving false) ≡ adding_cause host here (filter_map change_of_row rows)
    good_cause good = rows_cause ∙ ap (λ (o : Option BadChange). or_else (of_option (option_map refusal.BadChange o)) (adding_cause host here (filter_map change_of_row rows))) good

    leaves : left_by here (receiving false) (unwrap_or (with_limit means params host here (receiving false)) []) [] ≡ adding (filter_map change_of_row rows) here
    leaves = ap (λ (p : Option (List Row)). left_by here (receiving false) (unwrap_or p []) []) (both.under (strict byte_limit) (inr refl)) ∙ added_to h (filter_map change_of_row rows) pending

    -- nothing is told of an evaluation
    meant : (f : Refusal) → IsFound means params host here (receiving false) f
    meant f = meant_finds means params host here (receiving false) rows (both.under (strict byte_limit) (inr refl)) f

    performs_received : (changes : List Change) (result : Result Reply Refusal) (new : State) → changes ≡ filter_map change_of_row rows → first_bad here rows ≡ None
        → AreAdded host here changes result new → Performs means params host here (receiving false) result new
    performs_received changes result new e good c = done result (subst (λ (cs : List Change). AreAdded host here cs result new) e c) where
      done : (result : Result Reply Refusal) → AreAdded host here (filter_map change_of_row rows) result new → Performs means params host here (receiving false) result new
      done (Ok reply) a = (good_cause good ∙ a.0, (a.1.0, a.1.1 ∙ sym leaves))
      done (Err f) a = (subst (λ (c : Cause). IsWant f ⊎ Tells c f) (sym (good_cause good)) a.0, (a.1, meant f))

  first_told : (f : Refusal) → IsWant f ⊎ Tells (evaluation_cause None (brought (exact means params)) (brought (sized means params))) f → IsWant f ⊎ Tells (against means params host here (receiving false)) f
  first_told f (inl want) = inl want
  first_told f (inr t) = inr (subst (λ (c : Cause). Tells c f) (sym cause_is) (told_first (evaluation_cause None (brought (exact means params)) (brought (sized means params))) _ f t))

  faulty : (f : Refusal) (e : EvalFault) → f ≡ of_fault e → Faults means params brought e → Performs means params host here (receiving false) (Err f) here
  faulty f e told faults = (first_told f (subst (λ (y : Refusal). IsWant y ⊎ Tells (evaluation_cause None (brought (exact means params)) (brought (sized means params))) y) (sym told) (fault_told None means params brought brought_gains e faults)), (refl, found)) where
    found : IsFound means params host here (receiving false) f
    found = subst (IsFound means params host here (receiving false)) (sym told) (counts means params host here (receiving false) e (misses means params brought e faults))

-- ---- of a session

module _ {C : Type 0} (means : Means) (params : List Value) (host : Host) (is_honest is_clean : C → Type 0) (holding : C → Holding) (old : SessionOf C) (snap : Snapshot) (named : is_clean old.0 → IsNamed (standing holding old) snap)
    (none : snap.modules ≡ []) (i : Insert) (has : HasRelation (catalog_of snap) i.relation) (e : is_table i.relation.held ≡ false) where
  received_view : (b : Bool) → i.is_ignored ≡ b → view (r.Insert i) ≡ world.Insert world.Changes (record { places = (insert i).places; tuples = (insert i).tuples; is_ignored = b })
  received_view b ig = λ j. world.Insert (target_of i.relation.held i.relation.definition e (is_changes snap i.relation none has e) j) (record { places = (insert i).places; tuples = (insert i).tuples; is_ignored = ig j })

  abbrev at : State
  at = standing holding old

  abbrev Does : Bool → Result Reply Refusal → State → Type 0
  Does b result new = Performs means params host at (world.Insert world.Changes (record { places = (insert i).places; tuples = (insert i).tuples; is_ignored = b })) result new

  as_insert : (b : Bool) (result : Result Reply Refusal) (new : State) → i.is_ignored ≡ b → Does b result new → Performs means params host at (view (r.Insert i)) result new
  as_insert b result new ig p = subst (λ (x : Resolved Ordered). Performs means params host at x result new) (sym (received_view b ig)) p

  pub receive_ignored : i.is_ignored ≡ true → Performed means params host (honest is_honest) (clean is_clean) (standing holding) old (r.Insert i) (Ok Done) old
  receive_ignored ig = untouched means params host (honest is_honest) (clean is_clean) (standing holding) old (r.Insert i) (Ok Done) (λ clean. as_insert true (Ok Done) at ig (performs_ignored means params host (holding old.0) old.1 (insert i)))

  -- the tables are those of the store
  bad_is : is_clean old.0 → (rows : List Row) → first_bad at rows ≡ first_bad_in snap.tables rows
  bad_is clean rows = told_by_tables at rows ∙ ap (λ (ts : List Table). first_bad_in ts rows) (sym (named clean).tables)

  -- what is brought, where it is not ignored
  abbrev brought_by : (b : Bool) → Stage (List Row)
  brought_by b m = inserted_rows m changes_columns (record { places = (insert i).places; tuples = (insert i).tuples; is_ignored = b })

  refused_so : is_clean old.0 → (f : Refusal) → i.is_ignored ≡ false → (f ≡ refusal.Memory) ⊎ (IsFaulty means params snap.tables i f ⊎ IsBad means params snap.tables i f) → Does false (Err f) at
  refused_so clean f ig (inl memory) = (inl (inl memory), (refl, subst (IsFound means params host at (world.Insert world.Changes (record { places = (insert i).places; tuples = (insert i).tuples; is_ignored = false }))) (sym memory) tt))
  refused_so clean f ig (inr (inl (fault, told, faults))) =
      faulty means params host (holding old.0) old.1 (insert i) f fault told (subst (λ (b : Bool). Faults means params (brought_by b) fault) ig faults)
  refused_so clean f ig (inr (inr bad)) = by_first bad.first where
    by_first : IsToldOf (first_bad_in snap.tables bad.rows) f → Does false (Err f) at
    by_first (b, is, told) = (
      inr (bad_told means params host (holding old.0) old.1 (insert i) bad.rows (subst (λ (b : Bool). IsMeant means params (brought_by b) bad.rows) ig bad.brought) b f (bad_is clean bad.rows ∙ is) told),
      (refl, subst (IsFound means params host at (world.Insert world.Changes (record { places = (insert i).places; tuples = (insert i).tuples; is_ignored = false }))) (sym told) tt),
    )

  pub receive_refused : (f : Refusal) → i.is_ignored ≡ false → (f ≡ refusal.Memory) ⊎ (IsFaulty means params snap.tables i f ⊎ IsBad means params snap.tables i f) → Performed means params host (honest is_honest) (clean is_clean) (standing holding) old (r.Insert i) (Err f) old
  receive_refused f ig l = untouched means params host (honest is_honest) (clean is_clean) (standing holding) old (r.Insert i) (Err f) (λ clean. as_insert false (Err f) at ig (refused_so clean f ig l))

  pub receives : (new : SessionOf C) (changes : List Change) (result : Result Reply Refusal) → i.is_ignored ≡ false → AreReceived means params snap.tables i changes → Adds host (honest is_honest) (clean is_clean) (standing holding) old changes result new
      → Performed means params host (honest is_honest) (clean is_clean) (standing holding) old (r.Insert i) result new
  receives new changes result ig l c = record {
    device = c.device;
    performs = λ clean. as_insert false result (standing holding new) ig
        (performs_received means params host (holding old.0) old.1 (insert i) l.rows (subst (λ (b : Bool). IsMeant means params (brought_by b) l.rows) ig l.brought) changes result (standing holding new)
        l.changes_of_rows (bad_is (c.device.was_clean clean) l.rows ∙ l.well_formed) (c.adds clean));
  }
