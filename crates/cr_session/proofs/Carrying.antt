-- A statement is carried out as what it is once its names are resolved.
use Rattle.std.proofs.Common.{◌≡◌, ◌⊎◌, inl, inr, ℕ, Bool, true, false, ◌&&◌, cond, List, [], Option, Some, None, option_map, Result, Ok, Err, length, refl, sym, ap, subst, ◌∙◌}
use Rattle.std.specs.Prelude.{MatchResult, not, unwrap_or}
use Rattle.std.specs.Option.{option_and_then, option_map_or}
use Rattle.cr_value.specs.declared.value.Value.{Value}
use Rattle.cr_lattice.specs.declared.catalog.Catalog.{Catalog}
use Rattle.cr_tree.specs.declared.statement.Mode.{Mode}
use Rattle.cr_tree.specs.declared.statement.Select.{Select}
use Rattle.cr_tree.specs.declared.statement.Statement.{Statement}
use Rattle.cr_tree.specs.declared.statement.Statement.TheVariants as s
use Rattle.cr_term.specs.declared.query.Resolved.{Resolved as Answered}
use Rattle.cr_term.specs.declared.query.Resolved.TheVariants as r
use Rattle.cr_host.specs.declared.function.Definition.{Definition}
use Rattle.cr_scalar.specs.Host.{Host as Means, host as means_of}
use Rattle.cr_scalar.specs.Meaning.{byte_limit}
use Rattle.cr_meaning.specs.View.{Ordered}
use Rattle.cr_query.specs.Query.{Meaning}
use Rattle.cr_meaning.specs.Meaning.{Regard, regarded, strict}
use Rattle.cr_resolve.specs.Parameters.{fits}
use Rattle.cr_resolve.specs.Known.{Known}
use Rattle.cr_resolve.specs.Resolve.{marked, read, resolved, select_or_mark}
use Rattle.cr_questions.specs.Questions.{Answers as Questioned, left_of}
use Rattle.cr_fit.proofs.Suiting.{judged_left}
use Rattle.cr_cells.specs.declared.store.CellsError.{CellsError}
use Rattle.cr_cells.specs.Calls as calls
use Rattle.cr_cells.specs.Holding.{Holding}
use Rattle.cr_lattice.specs.declared.change.Change.{Change}
use Rattle.cr_replica.specs.declared.snapshot.Snapshot.{Snapshot}
use Rattle.cr_snapshot.specs.Seen.{IsNamed}
use Rattle.cr_snapshot.proofs.Standing.{catalog_is}
use Rattle.cr_world.specs.declared.command.Reply.{Reply}
use Rattle.cr_world.specs.declared.refusal.Refusal.{Refusal}
use Rattle.cr_world.specs.declared.refusal.Refusal.TheVariants as refusal
use Rattle.cr_world.specs.Causes.{Cause, IsWant, Tells, or_else, of_result, where_true, first_cause}
use Rattle.cr_world.specs.Language.{Language}
use Rattle.cr_world.specs.Resolved.{Resolved}
use Rattle.cr_world.specs.Resolved as world
use Rattle.cr_world.specs.State.{State, ModuleState, catalog, in_transaction}
use Rattle.cr_world.specs.Statement as statement
use Rattle.cr_world.specs.Statement.{Host, Answers, IsFound, IsFoundOf, stepped, touches, cause_of, later_cause, rows_of, reply_to, left_by, result_ok, evaluated, causes_of, is_memory, ended, ends, updates_module, ModulesLeave}
use Rattle.cr_language.specs.Engines.{OrderOf, AreTotal, engine}
use Rattle.cr_language.specs.Sql.{known as known_in, view, viewed, of_unresolved}
use Rattle.cr_answer.specs.Allowing.{Allows, IsRefused, known_by}
use Rattle.cr_resolve.specs.declared.refusal.Refusal.{Refusal as Unresolved}
use Rattle.cr_world.specs.Refusals.{is_want, of_store}
use Rattle.cr_script.specs.Hearing.{asks_commit, is_transaction}
use Rattle.cr_session.specs.Performing.{Performs, Performed, PerformsWith, PerformedWith, Permits, against, is_commit, is_performed, left_open, refused, with_limit}
use Rattle.cr_session.specs.Sessions.{Names, SessionOf, clean, honest, standing, state_of}
use Rattle.cr_session.proofs.Making.{store_finds}
use Rattle.cr_session.proofs.Selecting.{found_as}
use Rattle.cr_session.proofs.Takings.{want_of_store, wanting}
use Rattle.cr_script.specs.Scripts.{Carries}
use Rattle.cr_script.specs.Speaking.{spoken}

same_anyhow : {X : Type 0} (b c : Bool) (x : X) → cond b x (cond c x x) ≡ x
same_anyhow true c x = refl
same_anyhow false true x = refl
same_anyhow false false x = refl

-- ---- forms

left_form : (answers : Questioned) (y : Answered) → is_performed (left_of answers y) ≡ is_performed y
left_form answers (r.Select q) = refl
left_form answers (r.MarkReplicated m) = refl
left_form answers (r.Insert i) = refl
left_form answers (r.Update u) = refl
left_form answers (r.Delete d) = refl
left_form answers (r.Create c) = refl
left_form answers (r.Alter a) = refl
left_form answers r.Begin = refl
left_form answers r.Commit = refl
left_form answers r.Rollback = refl

select_form : (known : Known) (q : Select) (o : Option (List ℕ)) → is_performed (select_or_mark known q o).made ≡ true
select_form known q None = refl
select_form known q (Some name) = refl

read_form : (known : Known) (x : Statement) → is_transaction x ≡ false → is_performed (read known x).made ≡ true
read_form known (s.Select q) other = select_form known q (marked q)
read_form known (s.Insert i) other = refl
read_form known (s.Update u) other = refl
read_form known (s.Delete d) other = refl
read_form known (s.Create c) other = refl
read_form known (s.Alter a) other = refl
read_form known (s.Begin mode) other = absurd (let z : ⊥ = cc in z)
read_form known s.Commit other = absurd (let z : ⊥ = cc in z)
read_form known s.Rollback other = absurd (let z : ⊥ = cc in z)

-- a statement that neither opens nor ends a transaction stays one
pub form_is : (known : Known) (answers : Questioned) (x : Statement) (y : Answered) → is_transaction x ≡ false → resolved known answers x ≡ Ok y → is_performed y ≡ true
form_is known answers x y other e = ap is_performed (judged_left known answers x y e).0 ∙ left_form answers (read known x).made ∙ read_form known x other

-- and is no COMMIT
not_commit : (y : Answered) → is_performed y ≡ true → is_commit (view y) ≡ false
not_commit (r.Select q) e = refl
not_commit (r.MarkReplicated m) e = refl
not_commit (r.Insert i) e = refl
not_commit (r.Update u) e = refl
not_commit (r.Delete d) e = refl
not_commit (r.Create c) e = refl
not_commit (r.Alter a) e = refl
not_commit r.Begin e = refl
not_commit r.Commit e = absurd (let z : ⊥ = cc in z)
not_commit r.Rollback e = refl

none_of : (a b : Bool) → (a && (b && false)) ≡ false
none_of true true = refl
none_of true false = refl
none_of false b = refl

-- a refused statement leaves the modules as they are
refused_modules : (st : State) (v : Resolved Ordered) (g : Refusal) → (refused st v g).modules ≡ st.modules
refused_modules st v g = ended_or (is_commit v && (in_transaction st && not (is_memory g))) where
  ended_or : (b : Bool) → (cond b (ended st) st).modules ≡ st.modules
  ended_or true = refl
  ended_or false = refl

ended_so : (st end : State) (wants commits opened : Bool) → cond wants st (cond (commits && (opened && true)) end st) ≡ cond (commits && (opened && not wants)) end st
ended_so st end true true true = refl
ended_so st end true true false = refl
ended_so st end true false opened = refl
ended_so st end false true true = refl
ended_so st end false true false = refl
ended_so st end false false opened = refl

-- ---- what opens or ends a transaction

pub rollback_is : (x : Statement) → is_transaction x ≡ true → ((mode : Option Mode) → x ≡ s.Begin mode → ⊥) → (x ≡ s.Commit → ⊥) → x ≡ s.Rollback
rollback_is (s.Begin mode) e no_begin no_commit = absurd (no_begin mode refl)
rollback_is s.Commit e no_begin no_commit = absurd (no_commit refl)
rollback_is s.Rollback e no_begin no_commit = refl
rollback_is (s.Select q) e no_begin no_commit = absurd (let z : ⊥ = cc in z)
rollback_is (s.Insert i) e no_begin no_commit = absurd (let z : ⊥ = cc in z)
rollback_is (s.Update u) e no_begin no_commit = absurd (let z : ⊥ = cc in z)
rollback_is (s.Delete d) e no_begin no_commit = absurd (let z : ⊥ = cc in z)
rollback_is (s.Create c) e no_begin no_commit = absurd (let z : ⊥ = cc in z)
rollback_is (s.Alter a) e no_begin no_commit = absurd (let z : ⊥ = cc in z)

-- it leaves none open
pub rolled_back : (result : Result Reply Refusal) (x : Statement) (old new : Option (List Change)) → x ≡ s.Rollback
    → MatchResult result (λ _. new ≡ None) (λ _. new ≡ old) → MatchResult result (λ _. new ≡ left_open x) (λ _. (new ≡ old) ⊎ ((asks_commit x ≡ true) × (new ≡ None)))
rolled_back (Ok y) x old new is left = left ∙ ap left_open (sym is)
rolled_back (Err r) x old new is left = inl left

-- ---- a statement of any language

module _ {S E : Type 0} (l : Language S E) (host : Host) (at : State) (params : List Value) (x : S) where
  -- the reply may be given, and what is left is this
  abbrev pub Replies : Result Reply Refusal → State → Type 0
  Replies result new = Answers l host at params x result new.modules × (stepped l host at params x result new.modules ≡ new)

  -- the cause, by what the statement is resolved to and whether its parameters fit
  abbrev pub early_with : Result (Resolved E) Refusal → Bool → Cause
  early_with o b = or_else (of_result o) (where_true (not b) refusal.Parameters)

  abbrev pub cause_with : Result (Resolved E) Refusal → Bool → Cause
  cause_with o b = or_else (early_with o b) (later_cause l host at params (result_ok o))

  pub cause_is : (o : Result (Resolved E) Refusal) (b : Bool) → l.resolved (catalog at) host.ask x ≡ o → l.fits x (length params) ≡ b → cause_of l host at params x ≡ cause_with o b
  cause_is o b e f = λ i. cause_with (e i) (f i)

  -- ---- it ends no transaction

  abbrev pub ends_with : Result (Resolved E) Refusal → Bool → Bool
  ends_with o b = statement.is_commit l host at params (result_ok o) && (in_transaction at && statement.is_free l host at params (early_with o b))

  abbrev pub Lasts : Type 0
  Lasts = ends l host at params x ≡ false

  lasts_unresolved : (f : Refusal) → l.resolved (catalog at) host.ask x ≡ Err f → Lasts
  lasts_unresolved f e = λ i. ends_with (e i) (l.fits x (length params))

  lasts_unfit : (y : Resolved E) → l.resolved (catalog at) host.ask x ≡ Ok y → l.fits x (length params) ≡ false → Lasts
  lasts_unfit y e f = (λ i. ends_with (e i) (f i)) ∙ none_of (statement.is_commit l host at params (Some y)) (in_transaction at)

  pub lasts_other : statement.is_commit l host at params (result_ok (l.resolved (catalog at) host.ask x)) ≡ false → Lasts
  lasts_other e = ap (λ (b : Bool). b && (in_transaction at && statement.is_free l host at params (early_with (l.resolved (catalog at) host.ask x) (l.fits x (length params))))) e

  -- ---- it is refused

  pub refused_for : (f : Refusal) → Lasts → IsWant f ⊎ Tells (cause_of l host at params x) f → IsFoundOf l host at params x f → Replies (Err f) at
  refused_for f lasts told found = ((told, (refl, found)), ap (λ (b : Bool). cond (is_memory f) at (cond b (ended at) at)) lasts ∙ same_anyhow (is_memory f) false at)

  -- for want of memory, whatever it is
  pub wants : Replies (Err refusal.Memory) at
  wants = ((inl (inl refl), (refl, λ r allowed untouched. tt)), refl)

  pub not_resolved : (f : Refusal) → l.resolved (catalog at) host.ask x ≡ Err f → Replies (Err f) at
  not_resolved f e = refused_for f (lasts_unresolved f e) (inr (subst (λ (c : Cause). Tells c f) (sym (cause_is (Err f) (l.fits x (length params)) e refl)) refl))
      (λ r allowed untouched. absurd (let q : None ≡ Some r = ap result_ok (sym e) ∙ allowed in let z : ⊥ = cc in z))

  pub not_fitting : (y : Resolved E) → l.resolved (catalog at) host.ask x ≡ Ok y → l.fits x (length params) ≡ false → Replies (Err refusal.Parameters) at
  not_fitting y e f = refused_for refusal.Parameters (lasts_unfit y e f) (inr (subst (λ (c : Cause). Tells c refusal.Parameters) (sym (cause_is (Ok y) false e f)) refl)) (λ r allowed untouched. tt)

-- ---- a statement of this project's SQL

commit_same : (l : Language Statement Ordered) (host : Host) (st : State) (params : List Value) (v : Resolved Ordered) → statement.is_commit l host st params (Some v) ≡ is_commit v
commit_same l host st params (world.Select names q) = refl
commit_same l host st params (world.Mark t b) = refl
commit_same l host st params (world.Insert t w) = refl
commit_same l host st params (world.Update t w) = refl
commit_same l host st params (world.Delete t w) = refl
commit_same l host st params (world.Create def b) = refl
commit_same l host st params (world.Alter t col) = refl
commit_same l host st params world.Begin = refl
commit_same l host st params world.Commit = refl
commit_same l host st params world.Rollback = refl

-- without modules, nothing becomes of them
pub performs_alone : (means : Means) (params : List Value) (host : Host) (st : State) (v : Resolved Ordered) (result : Result Reply Refusal) (h : Holding) (pending : Option (List Change))
    → st.modules ≡ [] → Performs means params host st v result (state_of h pending) → PerformsWith means params host st v result (state_of h pending)
performs_alone means params host st v (Ok reply) h pending none p =
    let rows = unwrap_or (with_limit means params host st v) [] in
    (p.0, (p.1.0, (subst (λ (ms : List ModuleState). ModulesLeave (updates_module v) rows ms []) (sym none) tt, p.1.1)))
performs_alone means params host st v (Err f) h pending none p = (p.0, (p.1.0, λ untouched. p.1.1))

pub performed_alone : {C : Type 0} (means : Means) (params : List Value) (host : Host) (is_honest is_clean : C → Type 0) (holding : C → Holding) (old : SessionOf C) (y : Answered) (result : Result Reply Refusal) (new : SessionOf C)
    → Performed means params host (honest is_honest) (clean is_clean) (standing holding) old y result new → PerformedWith means params host (honest is_honest) (clean is_clean) (standing holding) old y result new
performed_alone means params host is_honest is_clean holding old y result new d = record {
  device = d.device;
  performs = λ clean. performs_alone means params host (standing holding old) (view y) result (holding new.0) new.1 refl (d.performs clean);
}

module _ (l : Language Statement Ordered) (means : Means) (params : List Value) (host : Host) (st : State) (x : Statement) (y : Answered)
    (e : l.resolved (catalog st) host.ask x ≡ Ok (view y)) (f : l.fits x (length params) ≡ true)
    (under : (g : Regard) → l.regarded g params ≡ regarded g means params) where
  against_is : cause_of l host st params x ≡ against means params host st (view y)
  against_is = cause_is l host st params x (Ok (view y)) true e f ∙ (λ i. first_cause (causes_of host st (view y) (evaluated (under (strict None) i) st (view y)) (evaluated (under (strict byte_limit) i) st (view y))))

  -- where it leaves a session that refuses it
  ends_so : (g : Refusal) → statement.left_refused l host st params x g ≡ refused st (view y) g
  ends_so g =
      (λ i. cond (is_memory g) st (cond (ends_with l host st params x (e i) (f i)) (ended st) st))
      ∙ ap (λ (b : Bool). cond (is_memory g) st (cond (b && (in_transaction st && true)) (ended st) st)) (commit_same l host st params (view y))
      ∙ ended_so st (ended st) (is_memory g) (is_commit (view y)) (in_transaction st)

  -- what it replies and leaves is what it does once its names are resolved
  pub replies_performed : (result : Result Reply Refusal) (new : State) → PerformsWith means params host st (view y) result new → Replies l host st params x result new
  replies_performed (Ok reply) new p = (
    (
      against_is ∙ p.0,
      ap (λ (o : Result (Resolved Ordered) Refusal). option_map (λ r. reply_to r (rows_of l host st params r)) (result_ok o)) e
          ∙ (λ i. Some (reply_to (view y) (unwrap_or (evaluated (under (strict byte_limit) i) st (view y)) []))) ∙ ap Some (sym p.1.0),
      subst (λ (o : Result (Resolved Ordered) Refusal). ModulesLeave (option_and_then updates_module (result_ok o)) (option_map_or (rows_of l host st params) (result_ok o) []) st.modules new.modules) (sym e)
          (subst (λ (m : Meaning Ordered). ModulesLeave (updates_module (view y)) (unwrap_or (evaluated m st (view y)) []) st.modules new.modules) (sym (under (strict byte_limit))) p.1.1.0),
    ),
    ap (λ (o : Result (Resolved Ordered) Refusal). option_map_or (λ r. left_by st r (rows_of l host st params r) new.modules) (result_ok o) st) e
        ∙ (λ i. left_by st (view y) (unwrap_or (evaluated (under (strict byte_limit) i) st (view y)) []) new.modules) ∙ sym p.1.1.1,
  )
  replies_performed (Err g) new p = (
    (subst (λ (c : Cause). IsWant g ⊎ Tells c g) (sym against_is) p.0, (ap (λ (s : State). s.modules) p.1.0 ∙ refused_modules st (view y) g, found)),
    ends_so g ∙ sym p.1.0,
  ) where
    found : IsFoundOf l host st params x g
    found r allowed untouched =
        let same : Some (view y) ≡ Some r = ap result_ok (sym e) ∙ allowed in
        let is : view y ≡ r = cc in
        subst (λ (v : Resolved Ordered). IsFound (λ g. l.regarded g params) st v g) is
        (found_as (λ g. regarded g means params) (λ g. l.regarded g params) st st (view y) (λ g. ap (λ (m : Meaning Ordered). evaluated m st (view y)) (under g)) g
        (p.1.1 (ap (touches st.modules) is ∙ untouched)))

module _ {C : Type 0} (function_of : List ℕ → ℕ → Option Definition) (scalar : ℕ → List Value → Result Value (List ℕ)) (step : ℕ → Value → List Value → Result Value (List ℕ)) (finish : ℕ → Value → Result Value (List ℕ))
    (order_of : OrderOf) (total : AreTotal order_of) (has named : List ℕ → Bool) (names : has ≡ named) (under : Host) (is_honest is_clean : C → Type 0) (stands : C → State) (params : List Value) where
  abbrev language : Language Statement Ordered
  language = spoken function_of scalar step finish order_of total has

  abbrev means : Means
  means = means_of function_of scalar step finish order_of

  abbrev known_at : Catalog → (List ℕ → Bool) → Known
  known_at c f = known_in (engine function_of scalar step finish order_of total f) c

  abbrev resolved_by : Statement → Catalog → (List ℕ → Bool) → Result (Resolved Ordered) Refusal
  resolved_by x c f = viewed (resolved (known_at c f) under.ask x)

  abbrev Does : C → Statement → Result Reply Refusal → C → Type 0
  Does old x result new = Carries language under is_honest is_clean stands old params x result new

  -- over the snapshot the statement is what it is in the session
  abbrev pub Agrees : State → Snapshot → Statement → Type 0
  Agrees st snap x = language.resolved (catalog st) under.ask x ≡ viewed (resolved (known_by function_of named order_of snap) under.ask x)

  resolved_so : (c : Catalog) (x : Statement) → language.resolved c under.ask x ≡ resolved_by x c has
  unfolding spoken
  resolved_so c x = refl

  -- as the snapshot's catalog is the session's
  resolves : (st : State) (snap : Snapshot) (x : Statement) → IsNamed st snap → Agrees st snap x
  resolves st snap x is = resolved_so (catalog st) x ∙ (λ i. resolved_by x (catalog_is st snap is i) (names i))

  -- or it names nothing
  nothing_named : (known other : Known) (x : Statement) → is_transaction x ≡ true → resolved known under.ask x ≡ resolved other under.ask x
  nothing_named known other (s.Begin mode) e = refl
  nothing_named known other s.Commit e = refl
  nothing_named known other s.Rollback e = refl
  nothing_named known other (s.Select q) e = absurd (let z : ⊥ = cc in z)
  nothing_named known other (s.Insert i) e = absurd (let z : ⊥ = cc in z)
  nothing_named known other (s.Update u) e = absurd (let z : ⊥ = cc in z)
  nothing_named known other (s.Delete d) e = absurd (let z : ⊥ = cc in z)
  nothing_named known other (s.Create c) e = absurd (let z : ⊥ = cc in z)
  nothing_named known other (s.Alter a) e = absurd (let z : ⊥ = cc in z)

  transacts : (st : State) (snap : Snapshot) (x : Statement) → is_transaction x ≡ true → Agrees st snap x
  transacts st snap x of = resolved_so (catalog st) x ∙ ap viewed (nothing_named (known_at (catalog st) has) (known_by function_of named order_of snap) x of)

  counts : (x : Statement) → language.fits x (length params) ≡ fits x (length params)
  unfolding spoken
  counts x = refl

  regards : (g : Regard) → language.regarded g params ≡ regarded g means params
  unfolding spoken
  regards g = refl

  -- ---- it may not be carried out

  refused_told : (st : State) (snap : Snapshot) (x : Statement) (f : Refusal) → Agrees st snap x
      → (f ≡ refusal.Memory) ⊎ IsRefused (known_by function_of named order_of snap) under.ask x (length params) f → Replies language under st params x (Err f) st
  refused_told st snap x f agrees (inl memory) = subst (λ (g : Refusal). Replies language under st params x (Err g) st) (sym memory) (wants language under st params x)
  refused_told st snap x f agrees (inr (inl u)) =
      subst (λ (g : Refusal). Replies language under st params x (Err g) st) (sym u.1.1) (not_resolved language under st params x (of_unresolved u.0) (agrees ∙ ap viewed u.1.0))
  refused_told st snap x f agrees (inr (inr y)) =
      subst (λ (g : Refusal). Replies language under st params x (Err g) st) (sym y.1.1.1) (not_fitting language under st params x (view y.0) (agrees ∙ ap viewed y.1.0) (counts x ∙ y.1.1.0))

  -- a statement that may not be carried out is refused, and nothing is changed
  refused_so : (old new : C) (x : Statement) (snap : Snapshot) (f : Refusal)
      → (is_honest new → is_honest old) → (is_clean new → is_clean old) → (is_honest new → is_clean old → is_clean new) → (is_clean new → Agrees (stands old) snap x) → (is_clean new → stands new ≡ stands old)
      → Allows (known_by function_of named order_of snap) under.ask x (length params) (Err f) → Does old x (Err f) new
  refused_so old new x snap f honest_was was stays agrees same h = record {
    device = record { was_honest = honest_was; was_clean = was; stays_clean = λ honest clean told. stays honest clean };
    answers = λ clean. (replied clean).0;
    leaves = λ clean. (replied clean).1;
  } where
    replied : is_clean new → Replies language under (stands old) params x (Err f) (stands new)
    replied clean = subst (Replies language under (stands old) params x (Err f)) (sym (same clean)) (refused_told (stands old) snap x f (agrees clean) h)

  pub refuses_allowed : (old new : C) (x : Statement) (snap : Snapshot) (f : Refusal)
      → (is_honest new → is_honest old) → (is_clean new → is_clean old) → (is_honest new → is_clean old → is_clean new) → (is_clean new → Names (stands old) (stands new) (Ok snap))
      → Allows (known_by function_of named order_of snap) under.ask x (length params) (Err f) → Does old x (Err f) new
  refuses_allowed old new x snap f honest_was was stays reads h =
      refused_so old new x snap f honest_was was stays (λ clean. resolves (stands old) snap x (reads clean).names) (λ clean. (reads clean).same) h

  pub refuses_permitted : (old : C) (x : Statement) (snap : Snapshot) (f : Refusal) → is_transaction x ≡ true
      → Allows (known_by function_of named order_of snap) under.ask x (length params) (Err f) → Does old x (Err f) old
  refuses_permitted old x snap f of h =
      refused_so old old x snap f (λ honest. honest) (λ clean. clean) (λ honest clean. clean) (λ clean. transacts (stands old) snap x of) (λ clean. refl) h

  -- ---- its names can't be read

  last_by : (here : State) (x : Statement) → is_transaction x ≡ false → (o : Result Answered Unresolved) → resolved (known_at (catalog here) has) under.ask x ≡ o
      → statement.is_commit language under here params (result_ok (viewed o)) ≡ false
  last_by here x other (Ok y) e = commit_same language under here params (view y) ∙ not_commit y (form_is (known_at (catalog here) has) under.ask x y other e)
  last_by here x other (Err u) e = refl

  lasts : (st : State) (x : Statement) → is_transaction x ≡ false → Lasts language under st params x
  lasts st x other =
      lasts_other language under st params x
      (ap (λ (o : Result (Resolved Ordered) Refusal). statement.is_commit language under st params (result_ok o)) (resolved_so (catalog st) x)
      ∙ last_by st x other (resolved (known_at (catalog st) has) under.ask x) refl)

  pub unread_refuses : (old new : C) (x : Statement) (e : CellsError) (f : Refusal) → f ≡ of_store e → is_transaction x ≡ false
      → (is_honest new → is_honest old) → (is_clean new → is_clean old) → (is_honest new → is_clean old → calls.is_want e ≡ false → is_clean new) → (is_clean new → Names (stands old) (stands new) (Err e)) → Does old x (Err f) new
  unread_refuses old new x e f told other honest_was was stays reads = record {
    device = record { was_honest = honest_was; was_clean = was; stays_clean = λ honest clean want. stays honest clean (sym (want_of_store e) ∙ ap is_want (sym told) ∙ want) };
    answers = λ clean. (replied clean).0;
    leaves = λ clean. (replied clean).1;
  } where
    replied : is_clean new → Replies language under (stands old) params x (Err f) (stands new)
    replied clean = subst (Replies language under (stands old) params x (Err f)) (sym (reads clean).same) (refused_for language under (stands old) params x f (lasts (stands old) x other) (inl (subst IsWant (sym told) (wanting e (reads clean).names)))
        (λ r allowed untouched. subst (IsFound (λ g. language.regarded g params) (stands old) r) (sym told) (store_finds (λ g. language.regarded g params) (stands old) r e)))

  -- ---- it is carried out as what it is once its names are resolved

  module _ (old middle new : C) (x : Statement) (snap : Snapshot) (y : Answered) (result : Result Reply Refusal)
      (reads : is_clean middle → Names (stands old) (stands middle) (Ok snap))
      (allows : Allows (known_by function_of named order_of snap) under.ask x (length params) (Ok y)) (done : PerformedWith means params under is_honest is_clean stands middle y result new) where
    replied : is_clean new → Replies language under (stands old) params x result (stands new)
    replied clean =
        let first = reads (done.device.was_clean clean) in
        replies_performed language means params under (stands old) x y (resolves (stands old) snap x first.names ∙ ap viewed allows.0) (counts x ∙ allows.1) regards
        result (stands new) (subst (λ (st : State). PerformsWith means params under st (view y) result (stands new)) first.same (done.performs clean))

    pub carries_performed : (is_honest middle → is_honest old) → (is_clean middle → is_clean old) → (is_honest middle → is_clean old → is_clean middle) → Does old x result new
    carries_performed honest_was was stays = record {
      device = record { was_honest = λ honest. honest_was (done.device.was_honest honest); was_clean = λ clean. was (done.device.was_clean clean); stays_clean = λ honest clean. done.device.stays_clean honest (stays (done.device.was_honest honest) clean) };
      answers = λ clean. (replied clean).0;
      leaves = λ clean. (replied clean).1;
    }

  -- a statement that opens or ends a transaction
  module _ (old new : C) (x : Statement) (snap : Snapshot) (z : Answered) (result : Result Reply Refusal) (of : is_transaction x ≡ true)
      (is : (answers : Questioned) (known : Known) → left_of answers (read known x).made ≡ z) (done : PerformedWith means params under is_honest is_clean stands old z result new) where
    transacted : Permits (known_by function_of named order_of snap) under.ask x (length params) (Ok tt) → is_clean new → Replies language under (stands old) params x result (stands new)
    transacted permits clean =
        let y : Answered = permits.0 in
        let same : y ≡ z = (judged_left (known_by function_of named order_of snap) under.ask x y permits.1.0).0 ∙ is under.ask (known_by function_of named order_of snap) in
        replies_performed language means params under (stands old) x z (transacts (stands old) snap x of ∙ ap viewed (permits.1.0 ∙ ap Ok same)) (counts x ∙ permits.1.1) regards
        result (stands new) (done.performs clean)

    pub carries_transacted : Permits (known_by function_of named order_of snap) under.ask x (length params) (Ok tt) → Does old x result new
    carries_transacted permits = record {
      device = done.device;
      answers = λ clean. (transacted permits clean).0;
      leaves = λ clean. (transacted permits clean).1;
    }
