-- An INSERT into a module, and what else would change one.
use Rattle.std.proofs.Common.{◌≡◌, ◌⊎◌, inl, inr, ℕ, Bool, true, false, ◌&&◌, cond, List, [], ◌∷◌, Option, Some, None, Result, Ok, Err, refl, sym, ap, subst, ◌∙◌}
use Rattle.std.specs.Prelude.{unwrap_or}
use Rattle.std.specs.Option.{option_map_or}
use Rattle.cr_value.specs.declared.value.Value.{Value}
use Rattle.cr_lattice.specs.declared.table.ColumnDef.{ColumnDef}
use Rattle.cr_lattice.specs.declared.table.TableDef.{TableDef}
use Rattle.cr_exec.specs.Answers.{Faults, IsMeant, Stage}
use Rattle.cr_query.specs.Query.{Row}
use Rattle.cr_query.specs.Queries as queries
use Rattle.cr_query.specs.Writes.{inserted_rows}
use Rattle.cr_query.proofs.Refining.{Gains}
use Rattle.cr_meaning.specs.View.{Ordered, insert}
use Rattle.cr_scalar.specs.Meaning.{byte_limit}
use Rattle.cr_meaning.specs.Meaning.{exact, sized, strict}
use Rattle.cr_meaning.proofs.Limits.{refines}
use Rattle.cr_scalar.specs.Host.{Host as Means}
use Rattle.cr_scalar.specs.declared.fault.EvalFault.{EvalFault}
use Rattle.cr_query.proofs.RefiningWrites.{rows_refine}
use Rattle.cr_term.specs.declared.query.Held.{Held}
use Rattle.cr_term.specs.declared.query.Alter.{Alter}
use Rattle.cr_term.specs.declared.query.Delete.{Delete}
use Rattle.cr_term.specs.declared.query.Insert.{Insert}
use Rattle.cr_term.specs.declared.query.MarkReplicated.{MarkReplicated}
use Rattle.cr_term.specs.declared.query.Relation.{Relation}
use Rattle.cr_term.specs.declared.query.Resolved.{Resolved as Answered}
use Rattle.cr_term.specs.declared.query.Resolved.TheVariants as r
use Rattle.cr_term.specs.declared.query.Update.{Update}
use Rattle.cr_language.specs.Sql.{target, target_by, view}
use Rattle.cr_world.specs.declared.command.Reply.{Reply}
use Rattle.cr_world.specs.declared.command.Reply.TheVariants.{Done}
use Rattle.cr_world.specs.declared.refusal.Refusal.{Refusal}
use Rattle.cr_world.specs.declared.refusal.Refusal.TheVariants as refusal
use Rattle.cr_world.specs.Refusals.{of_fault}
use Rattle.cr_world.specs.Causes.{Cause, Free, Is, IsWant, Tells, or_else, where_true}
use Rattle.cr_world.specs.Resolved.{Resolved, Target}
use Rattle.cr_world.specs.Resolved as world
use Rattle.cr_world.specs.State.{State, ModuleState, in_transaction, is_module}
use Rattle.cr_world.specs.Statement.{Host, ModuleLeaves, ModulesLeave, evaluation_cause, is_module_target, not_a_table, touches}
use Rattle.cr_modules.specs.States.{IsRefusedBy, Updates, module_in}
use Rattle.cr_session.specs.Performing.{PerformsWith, PerformedWith, against, placed}
use Rattle.cr_session.proofs.Beside.{all_stay}
use Rattle.cr_session.proofs.Making.{still, told_first}
use Rattle.cr_session.proofs.Selecting.{fault_told, or_free}
use Rattle.cr_hosted.proofs.Naming.{module_is}

-- ---- what a module says

-- the module of the name took the rows
first_took : (m : ModuleState) (name : List ℕ) (rows : List Row) (b : Bool) (n : ModuleState) (o : Option ModuleState) (c : Option ModuleState → Cause) → is_module name m ≡ b → ModuleLeaves (Some name) rows m n
    → (b ≡ true → c (Some m) ≡ Free) → c o ≡ Free → c (cond b (Some m) o) ≡ Free
first_took m name rows true n o c e leaves here later = here refl
first_took m name rows false n o c e leaves here later = later

abbrev answered : List Row → Option ModuleState → Cause
answered rows o = option_map_or (λ (md : ModuleState). elim (md.updated (rows ∷ [])) as (λ _. Cause) [ Ok more ↦ Free | Err f ↦ Is f ]) o Free

takes : (m n : ModuleState) (rows : List Row) → m.updated (rows ∷ []) ≡ Ok n.rows → answered rows (Some m) ≡ Free
takes m n rows e = ap (λ (o : Result (List Row) Refusal). elim o as (λ _. Cause) [ Ok more ↦ Free | Err f ↦ Is f ]) e

left_so : (m n : ModuleState) (name : List ℕ) (rows : List Row) (b : Bool) → is_module name m ≡ b
    → (elim b as (λ _. Type 0) [ true ↦ (n.name ≡ m.name) × (n.columns ≡ m.columns) × (m.updated (rows ∷ []) ≡ Ok n.rows) × (n.updated ≡ (λ more. m.updated (rows ∷ more))) | false ↦ n ≡ m ]) → b ≡ true → m.updated (rows ∷ []) ≡ Ok n.rows
left_so m n name rows true e l so = l.2
left_so m n name rows false e l so = absurd (let z : ⊥ = cc in z)

pub took : (name : List ℕ) (rows : List Row) (old new : List ModuleState) → ModulesLeave (Some name) rows old new → answered rows (module_in old name) ≡ Free
took name rows [] [] all = refl
took name rows [] (n ∷ ns) all = absurd all
took name rows (m ∷ ms) [] all = absurd all
took name rows (m ∷ ms) (n ∷ ns) all =
    first_took m name rows (is_module name m) n (module_in ms name) (answered rows) refl all.0
    (λ so. takes m n rows (left_so m n name rows (is_module name m) refl all.0 so)) (took name rows ms ns all.1)

refuses : (o : Option ModuleState) (m : ModuleState) (rows : List Row) (f : Refusal) → o ≡ Some m → m.updated (rows ∷ []) ≡ Err f → Tells (answered rows o) f
refuses o m rows f e is =
    subst (λ (x : Option ModuleState). Tells (answered rows x) f) (sym e)
    (subst (λ (x : Result (List Row) Refusal). Tells (elim x as (λ _. Cause) [ Ok more ↦ Free | Err f ↦ Is f ]) f) (sym is) refl)

-- of a module that is touched nothing more is said
not_said : {P : Type 0} → true ≡ false → P
not_said e = absurd (let z : ⊥ = cc in z)

-- ---- an INSERT

module _ (means : Means) (params : List Value) (host : Host) (st : State) (name : List ℕ) (columns : List ColumnDef) (w : queries.Insert Ordered) where
  abbrev bringing : Bool → Resolved Ordered
  bringing b = world.Insert (world.Module name columns) (record { places = w.places; tuples = w.tuples; is_ignored = b })

  abbrev brought : Bool → Stage (List Row)
  brought b m = inserted_rows m columns (record { places = w.places; tuples = w.tuples; is_ignored = b })

  abbrev Does : Bool → Result Reply Refusal → State → Type 0
  Does b result new = PerformsWith means params host st (bringing b) result new

  abbrev opened : Cause
  opened = where_true (in_transaction st && true) refusal.TransactionState

  -- inside a transaction it is refused
  pub forbidden : (b : Bool) → in_transaction st ≡ true → Does b (Err refusal.TransactionState) st
  forbidden b e = (inr (told_first opened _ refusal.TransactionState (subst (λ (x : Bool). Tells (where_true (x && true) refusal.TransactionState) refusal.TransactionState) (sym e) refl)), (refl, λ untouched. not_said untouched))

  module _ (outside : in_transaction st ≡ false) where
    closed : opened ≡ Free
    closed = ap (λ (x : Bool). where_true (x && true) refusal.TransactionState) outside

    -- ignored it does nothing
    pub ignored : Does true (Ok Done) st
    ignored = (ap (λ (c : Cause). or_else c Free) closed, (refl, (all_stay [] st.modules, refl)))

    abbrev causes_at : Cause → Option (List Row) → Option (List Row) → Cause
    causes_at c o p = or_else c (or_else (evaluation_cause None o p) (or_else (answered (unwrap_or p []) (module_in st.modules name)) Free))

    cause_is : against means params host st (bringing false) ≡ or_else (evaluation_cause None (brought false (exact means params)) (brought false (sized means params))) (or_else (answered (unwrap_or (brought false (sized means params)) []) (module_in st.modules name)) Free)
    cause_is = ap (λ (c : Cause). causes_at c (brought false (exact means params)) (brought false (sized means params))) closed

    gains : Gains (brought false (sized means params)) (brought false (exact means params))
    gains = rows_refine (sized means params) (exact means params) (refines means params (strict None) (inl refl)) columns (record { places = w.places; tuples = w.tuples; is_ignored = false })

    told_so : (f : Refusal) → IsWant f ⊎ Tells (evaluation_cause None (brought false (exact means params)) (brought false (sized means params))) f → IsWant f ⊎ Tells (against means params host st (bringing false)) f
    told_so f (inl want) = inl want
    told_so f (inr t) = inr (subst (λ (c : Cause). Tells c f) (sym cause_is) (told_first (evaluation_cause None (brought false (exact means params)) (brought false (sized means params))) _ f t))

    pub faulty : (f : Refusal) (e : EvalFault) → f ≡ of_fault e → Faults means params (brought false) e → Does false (Err f) st
    faulty f e told faults =
        (told_so f (subst (λ (y : Refusal). IsWant y ⊎ Tells (evaluation_cause None (brought false (exact means params)) (brought false (sized means params))) y) (sym told) (fault_told None means params (brought false) gains e faults)), (refl, λ untouched. not_said untouched))

    module _ (rows : List Row) (both : IsMeant means params (brought false) rows) where
      rows_cause : against means params host st (bringing false) ≡ answered rows (module_in st.modules name)
      rows_cause =
          cause_is
          ∙ ap (λ (p : Option (List Row)). or_else (evaluation_cause None (brought false (exact means params)) p) (or_else (answered (unwrap_or p []) (module_in st.modules name)) Free)) (both.under (strict byte_limit) (inr refl))
          ∙ or_free (answered rows (module_in st.modules name))

      by_module : (o : Option ModuleState) (f : Refusal) → module_in st.modules name ≡ o → IsRefusedBy o rows f → Tells (answered rows (module_in st.modules name)) f
      by_module None f e none = absurd none
      by_module (Some m) f e is = refuses (module_in st.modules name) m rows f e is

      -- the module takes the rows in one update, or says why not
      pub updates : (result : Result (Unit {0}) Refusal) (ms : List ModuleState) (reply : Result Reply Refusal) → Updates name rows st.modules result ms
          → reply ≡ (elim result as (λ _. Result Reply Refusal) [ Ok u ↦ Ok Done | Err f ↦ Err f ]) → Does false reply (placed ms st)
      updates (Ok u) ms reply up e =
          subst (λ (x : Result Reply Refusal). Does false x (placed ms st)) (sym e) (
            rows_cause ∙ took name rows st.modules ms up,
            (refl, (subst (λ (p : Option (List Row)). ModulesLeave (Some name) (unwrap_or p []) st.modules ms) (sym (both.under (strict byte_limit) (inr refl))) up, refl)),
          )
      updates (Err f) ms reply up e =
          subst (λ (x : Result Reply Refusal). Does false x (placed ms st)) (sym e)
          (told f up.0, (ap (λ (x : List ModuleState). placed x st) up.1, λ untouched. not_said untouched)) where
            told : (f : Refusal) → (f ≡ refusal.Memory) ⊎ IsRefusedBy (module_in st.modules name) rows f → IsWant f ⊎ Tells (against means params host st (bringing false)) f
            told f (inl memory) = inl (inl memory)
            told f (inr is) = inr (subst (λ (c : Cause). Tells c f) (sym rows_cause) (by_module (module_in st.modules name) f refl is))

-- ---- of a statement

module _ (means : Means) (params : List Value) (host : Host) (st : State) (i : Insert) (e : is_module_target (target i.relation) ≡ true) where
  abbrev name : List ℕ
  name = i.relation.definition.name

  abbrev columns : List ColumnDef
  columns = i.relation.definition.columns

  is_bringing : (b : Bool) → i.is_ignored ≡ b → view (r.Insert i) ≡ bringing means params host st name columns (insert i) b
  is_bringing b ig = λ j. world.Insert (module_is i.relation.held i.relation.definition e j) (record { places = (insert i).places; tuples = (insert i).tuples; is_ignored = ig j })

  pub as_insert : (b : Bool) (result : Result Reply Refusal) (new : State) → i.is_ignored ≡ b → PerformsWith means params host st (bringing means params host st name columns (insert i) b) result new → PerformsWith means params host st (view (r.Insert i)) result new
  as_insert b result new ig p = subst (λ (x : Resolved Ordered). PerformsWith means params host st x result new) (sym (is_bringing b ig)) p

  abbrev bringing_of : Bool → List ColumnDef → Stage (List Row)
  bringing_of b cols m = inserted_rows m cols (record { places = (insert i).places; tuples = (insert i).tuples; is_ignored = b })

  pub nothing_done : i.is_ignored ≡ true → in_transaction st ≡ false → PerformsWith means params host st (view (r.Insert i)) (Ok Done) st
  nothing_done ig outside = as_insert true (Ok Done) st ig (ignored means params host st name columns (insert i) outside)

  pub fault_is_told : (f : Refusal) (fault : EvalFault) → i.is_ignored ≡ false → in_transaction st ≡ false → f ≡ of_fault fault → Faults means params (bringing_of i.is_ignored columns) fault → PerformsWith means params host st (view (r.Insert i)) (Err f) st
  fault_is_told f fault ig outside told faults =
      as_insert false (Err f) st ig (faulty means params host st name columns (insert i) outside f fault told (subst (λ (b : Bool). Faults means params (bringing_of b columns) fault) ig faults))

  pub update_is_told : (rows : List Row) (result : Result (Unit {0}) Refusal) (ms : List ModuleState) (reply : Result Reply Refusal) → i.is_ignored ≡ false → in_transaction st ≡ false → IsMeant means params (bringing_of i.is_ignored columns) rows
      → Updates name rows st.modules result ms → reply ≡ (elim result as (λ _. Result Reply Refusal) [ Ok u ↦ Ok Done | Err f ↦ Err f ]) → PerformsWith means params host st (view (r.Insert i)) reply (placed ms st)
  update_is_told rows result ms reply ig outside both up is =
      as_insert false reply (placed ms st) ig (updates means params host st name columns (insert i) outside rows (subst (λ (b : Bool). IsMeant means params (bringing_of b columns) rows) ig both) result ms reply up is)

-- ---- what else would change it

told_by : (place : Held) (d : TableDef) → is_module_target (target_by place d) ≡ true → not_a_table (target_by place d) ≡ Is (refusal.ReadOnly d.name)
told_by place d e = ap not_a_table (module_is place d e)

module _ (means : Means) (params : List Value) (host : Host) (st : State) (x : Relation) (e : is_module_target (target x) ≡ true) (f : Refusal) (told : (f ≡ refusal.Memory) ⊎ (f ≡ refusal.ReadOnly x.definition.name)) where
  tells : (c : Cause) → IsWant f ⊎ Tells (or_else (not_a_table (target x)) c) f
  tells c = by told where
    by : (f ≡ refusal.Memory) ⊎ (f ≡ refusal.ReadOnly x.definition.name) → IsWant f ⊎ Tells (or_else (not_a_table (target x)) c) f
    by (inl memory) = inl (inl memory)
    by (inr is) = inr (told_first (not_a_table (target x)) c f (subst (λ (k : Cause). Tells k f) (sym (told_by x.held x.definition e)) is))

  -- the same where a transaction forbids it first
  pub tells_later : (open_ : Bool) (c : Cause) → open_ ≡ false → IsWant f ⊎ Tells (or_else (where_true open_ refusal.TransactionState) (or_else (not_a_table (target x)) c)) f
  tells_later true c closed = absurd (let z : ⊥ = cc in z)
  tells_later false c closed = tells c

-- it is read only for an UPDATE and a DELETE, and outside of transactions for what makes a table replicated or adds a column
pub refuses_update : (means : Means) (params : List Value) (host : Host) (st : State) (u : Update) (f : Refusal) → is_module_target (target u.relation) ≡ true → (f ≡ refusal.Memory) ⊎ (f ≡ refusal.ReadOnly u.relation.definition.name)
    → PerformsWith means params host st (view (r.Update u)) (Err f) st
refuses_update means params host st u f e told = (tells means params host st u.relation e f told _, (refl, λ untouched. not_said (sym e ∙ untouched)))

pub refuses_delete : (means : Means) (params : List Value) (host : Host) (st : State) (d : Delete) (f : Refusal) → is_module_target (target d.relation) ≡ true → (f ≡ refusal.Memory) ⊎ (f ≡ refusal.ReadOnly d.relation.definition.name)
    → PerformsWith means params host st (view (r.Delete d)) (Err f) st
refuses_delete means params host st d f e told = (tells means params host st d.relation e f told _, (refl, λ untouched. not_said (sym e ∙ untouched)))

-- what is told of one that is no table, by whether a transaction is open
abbrev pub NoTable : State → Relation → Refusal → Type 0
NoTable st x f = ((in_transaction st ≡ true) × (f ≡ refusal.TransactionState)) ⊎ ((in_transaction st ≡ false) × ((f ≡ refusal.Memory) ⊎ (f ≡ refusal.ReadOnly x.definition.name)))

opened_first : (b : Bool) (c : Cause) (f : Refusal) → b ≡ true → f ≡ refusal.TransactionState → Tells (or_else (where_true b refusal.TransactionState) c) f
opened_first true c f e told = told
opened_first false c f e told = absurd (let z : ⊥ = cc in z)

refused_by : (means : Means) (params : List Value) (host : Host) (st : State) (x : Relation) (f : Refusal) (c : Cause) → is_module_target (target x) ≡ true → NoTable st x f
    → IsWant f ⊎ Tells (or_else (where_true (in_transaction st) refusal.TransactionState) (or_else (not_a_table (target x)) c)) f
refused_by means params host st x f c e (inl open_) = inr (opened_first (in_transaction st) _ f open_.0 open_.1)
refused_by means params host st x f c e (inr closed) = tells_later means params host st x e f closed.1 (in_transaction st) c closed.0

pub refuses_mark : (means : Means) (params : List Value) (host : Host) (st : State) (m : MarkReplicated) (f : Refusal) → is_module_target (target m.relation) ≡ true → NoTable st m.relation f
    → PerformsWith means params host st (view (r.MarkReplicated m)) (Err f) st
refuses_mark means params host st m f e told = (refused_by means params host st m.relation f _ e told, (refl, λ untouched. not_said (sym e ∙ untouched)))

pub refuses_alter : (means : Means) (params : List Value) (host : Host) (st : State) (a : Alter) (f : Refusal) → is_module_target (target a.relation) ≡ true → NoTable st a.relation f
    → PerformsWith means params host st (view (r.Alter a)) (Err f) st
refuses_alter means params host st a f e told = (refused_by means params host st a.relation f _ e told, (refl, λ untouched. not_said (sym e ∙ untouched)))

-- what a statement is, where it touches a module
pub touched : (ms : List ModuleState) (s t : Answered) (b : Bool) → s ≡ t → b ≡ touches ms (view s) → b ≡ true → touches ms (view t) ≡ true
touched ms s t b same is e = ap (λ (x : Answered). touches ms (view x)) (sym same) ∙ sym is ∙ e

-- ---- of a session beside modules

-- a refused statement that changes nothing
pub refuses_still : {H : Type 0} {means : Means} {params : List Value} {host : Host} {is_honest is_clean : H → Type 0} {stands : H → State} (old : H) (y : Answered) (result : Result Reply Refusal)
    → ((m : Means) (ps : List Value) (k : Host) (st : State) → m ≡ means → ps ≡ params → st ≡ stands old → PerformsWith m ps k st (view y) result st) → PerformedWith means params host is_honest is_clean stands old y result old
refuses_still {H} {means} {params} {host} {is_honest} {is_clean} {stands} old y result p = record {
  device = record { was_honest = λ honest. honest; was_clean = λ clean. clean; stays_clean = λ honest clean. still result (is_clean old) clean };
  performs = λ clean. p means params host (stands old) refl refl refl;
}

pub insert_ignored : {H : Type 0} {means : Means} {params : List Value} {host : Host} {is_honest is_clean : H → Type 0} {stands : H → State} (old : H) (i : Insert) → is_module_target (target i.relation) ≡ true → i.is_ignored ≡ true → in_transaction (stands old) ≡ false
    → PerformedWith means params host is_honest is_clean stands old (r.Insert i) (Ok Done) old
insert_ignored {H} {means} {params} {host} {is_honest} {is_clean} {stands} old i e ig outside =
    refuses_still {H = H} {means = means} {params = params} {host = host} {is_honest = is_honest} {is_clean = is_clean} {stands = stands} old (r.Insert i) (Ok Done) (λ m ps k st mm pp ss. nothing_done m ps k st i e ig (subst (λ (s : State). in_transaction s ≡ false) (sym ss) outside))

pub insert_faults : {H : Type 0} {means : Means} {params : List Value} {host : Host} {is_honest is_clean : H → Type 0} {stands : H → State} (old : H) (i : Insert) (f : Refusal) (fault : EvalFault) → is_module_target (target i.relation) ≡ true → i.is_ignored ≡ false → in_transaction (stands old) ≡ false
    → f ≡ of_fault fault → Faults means params (λ m. inserted_rows m i.relation.definition.columns (insert i)) fault → PerformedWith means params host is_honest is_clean stands old (r.Insert i) (Err f) old
insert_faults {H} {means} {params} {host} {is_honest} {is_clean} {stands} old i f fault e ig outside told faults = record {
  device = record { was_honest = λ honest. honest; was_clean = λ clean. clean; stays_clean = λ honest clean want. clean };
  performs = λ clean. fault_is_told means params host (stands old) i e f fault ig outside told faults;
}

pub insert_updates : {H : Type 0} {means : Means} {params : List Value} {host : Host} {is_honest is_clean : H → Type 0} {stands : H → State} (old new : H) (i : Insert) (rows : List Row) (result : Result (Unit {0}) Refusal) (ms : List ModuleState) (reply : Result Reply Refusal)
    → is_module_target (target i.relation) ≡ true → i.is_ignored ≡ false → in_transaction (stands old) ≡ false → IsMeant means params (λ m. inserted_rows m i.relation.definition.columns (insert i)) rows
    → Updates i.relation.definition.name rows (stands old).modules result ms → reply ≡ (elim result as (λ _. Result Reply Refusal) [ Ok u ↦ Ok Done | Err f ↦ Err f ])
    → (is_honest new → is_honest old) → (is_clean new → is_clean old) → (is_honest new → is_clean old → is_clean new) → stands new ≡ placed ms (stands old) → PerformedWith means params host is_honest is_clean stands old (r.Insert i) reply new
insert_updates {H} {means} {params} {host} {is_honest} {is_clean} {stands} old new i rows result ms reply e ig outside both up is honest_was was stays same = record {
  device = record { was_honest = honest_was; was_clean = was; stays_clean = λ honest clean. still reply (is_clean new) (stays honest clean) };
  performs = λ clean. subst (PerformsWith means params host (stands old) (view (r.Insert i)) reply) (sym same) (update_is_told means params host (stands old) i e rows result ms reply ig outside both up is);
}
