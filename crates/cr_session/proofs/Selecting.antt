-- What is evaluated over a snapshot, and the rows of a SELECT.
use Rattle.std.proofs.Common.{◌≡◌, ◌⊎◌, inl, inr, ℕ, true, List, [], ◌∷◌, Option, Some, None, Result, Ok, Err, refl, sym, ap, subst, ◌∙◌, map}
use Rattle.std.specs.Prelude.{IfErr, unwrap_or}
use Rattle.cr_value.specs.declared.value.Value.{Value}
use Rattle.cr_lattice.specs.declared.table.TableDef.{TableDef}
use Rattle.cr_term.specs.declared.query.Joined.{Joined}
use Rattle.cr_term.specs.declared.query.Query.{Query}
use Rattle.cr_term.specs.declared.query.Resolved.TheVariants as r
use Rattle.cr_scalar.specs.Host.{Host as Means}
use Rattle.cr_scalar.specs.Meaning.{byte_limit}
use Rattle.cr_scalar.specs.declared.fault.EvalFault.{EvalFault}
use Rattle.cr_scalar.specs.declared.fault.EvalFault.TheVariants as fault
use Rattle.cr_query.specs.Query.{Meaning, Row}
use Rattle.cr_query.proofs.Refining.{Gains, answer_refines}
use Rattle.cr_meaning.specs.View.{Ordered, query}
use Rattle.cr_meaning.specs.Meaning.{Counts, IsLimit, Regard, exact, meaning, regarded, sized, strict}
use Rattle.cr_meaning.proofs.Limits.{refines}
use Rattle.cr_exec.specs.Answers.{Faults, Stage}
use Rattle.cr_exec.proofs.Stages.{limit_of_count, misses}
use Rattle.cr_replica.specs.declared.snapshot.Snapshot.{Snapshot}
use Rattle.cr_snapshot.specs.Seen.{IsSeen, name_of, rows_seen}
use Rattle.cr_snapshot.proofs.Standing.{rows_are}
use Rattle.cr_world.specs.declared.command.Reply.{Reply}
use Rattle.cr_world.specs.declared.command.Reply.TheVariants.{Rows}
use Rattle.cr_world.specs.declared.refusal.EvalFault.TheVariants as told
use Rattle.cr_world.specs.declared.refusal.Refusal.{Refusal}
use Rattle.cr_world.specs.declared.refusal.Refusal.TheVariants as refusal
use Rattle.cr_world.specs.Refusals.{of_fault}
use Rattle.cr_world.specs.Causes.{Cause, Free, Evaluation, Is, IsWant, IsFault, Tells, or_else}
use Rattle.cr_world.specs.State.{State, tables_named}
use Rattle.cr_world.specs.Statement.{Host, evaluated, evaluation_cause}
use Rattle.cr_world.specs.Statement as statement
use Rattle.cr_world.specs.Resolved.{Resolved as Viewed}
use Rattle.cr_language.specs.Sql.{view}
use Rattle.cr_answer.specs.Selecting.{Gives, answer_over}
use Rattle.cr_session.specs.Joining.{Suffice}
use Rattle.cr_session.specs.Lookup.{ShowsQuery}
use Rattle.cr_session.specs.Performing.{IsFound, Performs, Says, against, with_limit, without_limit}

pub or_free : (c : Cause) → or_else c Free ≡ c
or_free Free = refl
or_free (Is f) = refl
or_free (Evaluation b) = refl

-- ---- faults

-- a fault without a limit is one with it
none_limited : (o p : Option (List Row)) → Gains p o → o ≡ None → p ≡ None
none_limited o None h e = refl
none_limited o (Some rows) h e = absurd (let q : None ≡ Some rows = sym e ∙ h rows refl in let z : ⊥ = cc in z)

faulty : (def : Option TableDef) (o p : Option (List Row)) (f : Refusal) → o ≡ None → p ≡ None → IsFault true f → Tells (evaluation_cause def o p) f
faulty def None None f d e t = t
faulty def None (Some rows) f d e t = absurd (let z : ⊥ = cc in z)
faulty def (Some rows) p f d e t = absurd (let z : ⊥ = cc in z)

too_big : (def : Option TableDef) (o p : Option (List Row)) → p ≡ None → Tells (evaluation_cause def o p) refusal.TooBig
too_big def None None e = inr refl
too_big def (Some rows) None e = refl
too_big def o (Some rows) e = absurd (let z : ⊥ = cc in z)

module _ (def : Option TableDef) (means : Means) (params : List Value) (f : Stage (List Row)) (more : Gains (f (sized means params)) (f (exact means params))) where
  -- why it faults
  abbrev fault_cause : Cause
  fault_cause = evaluation_cause def (f (exact means params)) (f (sized means params))

  evaluating : (e : Refusal) → IsFault true e → f (exact means params) ≡ None → IsWant e ⊎ Tells fault_cause e
  evaluating e is none = inr (faulty def (f (exact means params)) (f (sized means params)) e none (none_limited (f (exact means params)) (f (sized means params)) more none) is)

  pub fault_told : (e : EvalFault) → Faults means params f e → IsWant (of_fault e) ⊎ Tells fault_cause (of_fault e)
  fault_told fault.Overflow h = evaluating (of_fault fault.Overflow) (inl (told.Overflow, refl)) (h.under (strict None) (inl refl, (refl, refl)))
  fault_told fault.NotANumber h = evaluating (of_fault fault.NotANumber) (inl (told.NotANumber, refl)) (h.under (strict None) (inl refl, (refl, refl)))
  fault_told fault.NotUtf8 h = evaluating (of_fault fault.NotUtf8) (inl (told.NotUtf8, refl)) (h.under (strict None) (inl refl, (refl, refl)))
  fault_told (fault.Host text) h = evaluating (of_fault (fault.Host text)) (inl (told.Host text, refl)) (h.under (strict None) (inl refl, (refl, refl)))
  fault_told fault.TooBig h = inr (too_big def (f (exact means params)) (f (sized means params)) (h.under (strict byte_limit) (refl, (refl, refl))))
  fault_told fault.Memory h = inl (inl refl)

-- ---- a SELECT

abbrev pub shown : Result (List Row) Refusal → Result Reply Refusal
shown (Ok rows) = Ok (Rows rows)
shown (Err f) = Err f

pub tables_are : (st : State) (snap : Snapshot) → IsSeen st snap → (js : List Joined) → tables_named st (map name_of js) ≡ map (λ j. rows_seen snap (name_of j)) js
tables_are st snap is [] = refl
tables_are st snap is (j ∷ js) = λ i. rows_are st snap (name_of j) is i ∷ tables_are st snap is js i

-- where the rows are meant nothing is told of an evaluation
pub meant_finds : (means : Means) (params : List Value) (host : Host) (st : State) (x : Viewed Ordered) (rows : List Row) → with_limit means params host st x ≡ Some rows → (f : Refusal) → IsFound means params host st x f
meant_finds means params host st x rows is f = by f where
  never : {P : Type 0} → with_limit means params host st x ≡ None → P
  never none = absurd (let q : None ≡ Some rows = sym none ∙ is in let z : ⊥ = cc in z)

  by : (f : Refusal) → IsFound means params host st x f
  by (refusal.Eval told.Overflow) = λ none g c. never none
  by (refusal.Eval told.NotANumber) = λ none g c. never none
  by (refusal.Eval told.NotUtf8) = λ none g c. never none
  by (refusal.Eval (told.Host text)) = λ none g c. never none
  by refusal.TooBig = λ none g c. never none
  by _ = tt

-- what is found stays so where the same is evaluated
pub found_as : (by under : Regard → Meaning Ordered) (st new : State) (x : Viewed Ordered) → ((g : Regard) → evaluated (under g) new x ≡ evaluated (by g) st x) → (f : Refusal) → statement.IsFound by st x f → statement.IsFound under new x f
found_as by under st new x same f h = kept f h where
  kept : (f : Refusal) → statement.IsFound by st x f → statement.IsFound under new x f
  kept (refusal.Eval told.Overflow) h = λ none g c. same g ∙ h (sym (same (strict byte_limit)) ∙ none) g c
  kept (refusal.Eval told.NotANumber) h = λ none g c. same g ∙ h (sym (same (strict byte_limit)) ∙ none) g c
  kept (refusal.Eval told.NotUtf8) h = λ none g c. same g ∙ h (sym (same (strict byte_limit)) ∙ none) g c
  kept (refusal.Eval (told.Host text)) h = λ none g c. same g ∙ h (sym (same (strict byte_limit)) ∙ none) g c
  kept refusal.TooBig h = λ none g c. same g ∙ h (sym (same (strict byte_limit)) ∙ none) g c
  kept _ h = tt

-- a fault that counts is found
pub counts : (means : Means) (params : List Value) (host : Host) (st : State) (x : Viewed Ordered) (e : EvalFault) → ((g : Regard) → Counts g e → evaluated (regarded g means params) st x ≡ None) → IsFound means params host st x (of_fault e)
counts means params host st x fault.Overflow k = λ none g c. k g c
counts means params host st x fault.NotANumber k = λ none g c. k g c
counts means params host st x fault.NotUtf8 k = λ none g c. k g c
counts means params host st x (fault.Host text) k = λ none g c. k g c
counts means params host st x fault.TooBig k = λ none g c. k g c
counts means params host st x fault.Memory k = tt

module _ (means : Means) (params : List Value) (host : Host) (st : State) (tables : List (List Row)) (x : Query) where
  -- where each fault is one the rows suffice
  module _ (shows : (most : Option ℕ) → IsLimit most → evaluated (meaning most means params) st (view (r.Select x)) ≡ answer_over tables x (meaning most means params)) where
    exact_seen : without_limit means params host st (view (r.Select x)) ≡ answer_over tables x (exact means params)
    exact_seen = shows None (inl refl)

    sized_seen : with_limit means params host st (view (r.Select x)) ≡ answer_over tables x (sized means params)
    sized_seen = shows byte_limit (inr refl)

    seen_gains : Gains (answer_over tables x (sized means params)) (answer_over tables x (exact means params))
    seen_gains = answer_refines (sized means params) (exact means params) (refines means params (strict None) (inl refl)) (query x) tables

    select_cause : against means params host st (view (r.Select x)) ≡ evaluation_cause None (answer_over tables x (exact means params)) (answer_over tables x (sized means params))
    select_cause = or_free (evaluation_cause None (without_limit means params host st (view (r.Select x))) (with_limit means params host st (view (r.Select x)))) ∙ (λ i. evaluation_cause None (exact_seen i) (sized_seen i))

    says_given : (result : Result (List Row) Refusal) → Gives means params (answer_over tables x) result → Says means params host st (view (r.Select x)) (shown result) st
    says_given (Ok rows) v = (
      select_cause ∙ ap (λ (o : Option (List Row)). evaluation_cause None (answer_over tables x (exact means params)) o) (v.under (strict byte_limit) (inr refl)),
      (ap (λ (o : Option (List Row)). Rows (unwrap_or o [])) (sym (sized_seen ∙ v.under (strict byte_limit) (inr refl))), refl),
    )
    says_given (Err t) v = (
      subst (λ (y : Refusal). IsWant y ⊎ Tells (against means params host st (view (r.Select x))) y) (sym v.1.0)
          (subst (λ (c : Cause). IsWant (of_fault v.0) ⊎ Tells c (of_fault v.0)) (sym select_cause) (fault_told None means params (answer_over tables x) seen_gains v.0 v.1.1)),
      refl,
    )

    -- what a SELECT replies is what was answered
    pub says_select : (given : Result (List Row) Refusal) (result : Result Reply Refusal) → Gives means params (answer_over tables x) given → result ≡ shown given → Says means params host st (view (r.Select x)) result st
    says_select given result v e = subst (λ (o : Result Reply Refusal). Says means params host st (view (r.Select x)) o st) (sym e) (says_given given v)

  module _ (shows : Suffice means params x st tables) where
    -- the fault that is told remains
    pub select_finds : (t : Refusal) → Gives means params (answer_over tables x) (Err t) → IsFound means params host st (view (r.Select x)) t
    select_finds t v =
        subst (IsFound means params host st (view (r.Select x))) (sym v.1.0)
        (counts means params host st (view (r.Select x)) v.0 (λ g c. shows g (limit_of_count g v.0 c) ∙ misses means params (answer_over tables x) v.0 v.1.1 g c))

    performs_given : (result : Result (List Row) Refusal) → Gives means params (answer_over tables x) result → Performs means params host st (view (r.Select x)) (shown result) st
    performs_given (Ok rows) v = says_given (λ most limit. shows (strict most) limit) (Ok rows) v
    performs_given (Err t) v = (let d = says_given (λ most limit. shows (strict most) limit) (Err t) v in (d.0, (d.1, select_finds t v)))

    pub performs_select : (given : Result (List Row) Refusal) (result : Result Reply Refusal) → Gives means params (answer_over tables x) given → result ≡ shown given → Performs means params host st (view (r.Select x)) result st
    performs_select given result v e = subst (λ (o : Result Reply Refusal). Performs means params host st (view (r.Select x)) o st) (sym e) (performs_given given v)

-- what is said, and a fault that counts
pub said_found : (means : Means) (params : List Value) (host : Host) (st : State) (x : Viewed Ordered) (result : Result Reply Refusal) (new : State) → Says means params host st x result new → IfErr result (IsFound means params host st x) → Performs means params host st x result new
said_found means params host st x (Ok reply) new d f = d
said_found means params host st x (Err t) new d f = (d.0, (d.1, f))

-- what suffices of a snapshot suffices of its tables
pub performs_over : (means : Means) (params : List Value) (x : Query) (st : State) (snap : Snapshot) (tables : List (List Row))
    → tables ≡ map (λ j. rows_seen snap (name_of j)) x.joined → ShowsQuery means params x st snap → Suffice means params x st tables
performs_over means params x st snap tables e shows = subst (λ (ts : List (List Row)). Suffice means params x st ts) (sym e) shows
