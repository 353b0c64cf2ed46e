-- Two sessions whose queries answer the same reply to each select alike.
use Rattle.std.proofs.Common.{◌≡◌, ◌⊎◌, inl, inr, ℕ, zero, suc, Bool, true, false, List, [], ◌∷◌, Option, Some, None, Result, Ok, Err, refl, sym, ap, subst, ◌∙◌, slice_get, length}
use Rattle.std.specs.Prelude.{unwrap_or, not, find}
use Rattle.std.specs.List.{AllByRecursion}
use Rattle.std.specs.Option.{option_map, option_or}
use Rattle.cr_value.specs.declared.value.Value.{Value}
use Rattle.cr_lattice.specs.declared.change.Change.{Change}
use Rattle.cr_lattice.specs.declared.table.Table.{Table}
use Rattle.cr_lattice.specs.Check.{same_bytes}
use Rattle.cr_query.specs.Queries.{Query}
use Rattle.cr_query.specs.Query.{Row, answer}
use Rattle.cr_scalar.specs.Meaning.{byte_limit}
use Rattle.cr_meaning.specs.Meaning.{strict}
use Rattle.cr_world.specs.declared.refusal.Refusal.{Refusal}
use Rattle.cr_world.specs.declared.refusal.Refusal.TheVariants as refusal
use Rattle.cr_world.specs.declared.command.Reply.{Reply}
use Rattle.cr_world.specs.declared.command.Reply.TheVariants.{Rows}
use Rattle.cr_world.specs.Resolved.{Resolved, Select}
use Rattle.cr_world.specs.Language.{Language, IsLanguage, IsOf, definition_in}
use Rattle.cr_world.specs.State.{State, ModuleState, now, catalog, table_of, table_rows, rows_or, other_rows, rows_named, tables_named}
use Rattle.cr_world.specs.Causes.{Cause, Free, Is, Evaluation, or_else, of_result, where_true, Tells, IsFault, IsWant}
use Rattle.cr_world.specs.Statement.{Host, Answers, evaluation_cause, later_cause, reply_to, rows_of, resolved_of, result_ok}
use Rattle.cr_world.specs.Headline.{RefuseAlike, SayTheSame, HaveTable}

pub at_place : {X : Type 0} (P : X → Type 0) (xs : List X) (i : ℕ) (x : X) → AllByRecursion P xs → slice_get xs i ≡ Some x → P x
at_place P [] i x all e = absurd (let q : ⊥ = cc in q)
at_place P (y ∷ ys) zero x all e = let q : y ≡ x = cc in subst P q all.0
at_place P (y ∷ ys) (suc i) x all e = at_place P ys i x all.1 e

pub all_map : {X : Type 0} (P Q : X → Type 0) → ((x : X) → P x → Q x) → (xs : List X) → AllByRecursion P xs → AllByRecursion Q xs
all_map P Q f [] all = tt
all_map P Q f (x ∷ xs) all = (f x all.0, all_map P Q f xs all.1)

-- ---- the definition that a name stands for, and its rows

definition_is : (st : State) (name : List ℕ) (t : Table) → table_of st name ≡ Some t → definition_in (catalog st) name ≡ Some t.definition
definition_is st name t e = ap (λ (o : Option Table). option_or (option_map (λ (u : Table). u.definition) o) (find (λ d. same_bytes d.name name) (catalog st).modules)) e

pub definitions_same : (st new : State) (name : List ℕ) → HaveTable st new name → definition_in (catalog st) name ≡ definition_in (catalog new) name
definitions_same st new name h = definition_is st name h.table h.first ∙ sym (definition_is new name h.table h.second)

rows_are : (st : State) (name : List ℕ) (t : Table) → table_of st name ≡ Some t → rows_named st name ≡ table_rows (now st) t
rows_are st name t e = ap (λ (o : Option Table). rows_or (now st) o (other_rows st name)) e

rows_same : (st new : State) (name : List ℕ) → now st ≡ now new → HaveTable st new name → rows_named st name ≡ rows_named new name
rows_same st new name same h =
    rows_are st name h.table h.first ∙ ap (λ (ks : List Change). table_rows ks h.table) same ∙ sym (rows_are new name h.table h.second)

pub tables_same : (st new : State) → now st ≡ now new → (names : List (List ℕ)) → AllByRecursion (HaveTable st new) names → tables_named st names ≡ tables_named new names
tables_same st new same [] all = refl
tables_same st new same (n ∷ ns) all = λ i. rows_same st new n same all.0 i ∷ tables_same st new same ns all.1 i

pub of_names : (st new : State) (names all : List (List ℕ)) → AllByRecursion (IsOf all) names → AllByRecursion (HaveTable st new) all → AllByRecursion (HaveTable st new) names
of_names st new names all ofs have = all_map (IsOf all) (HaveTable st new) (λ name h. at_place (HaveTable st new) all h.0 name have h.1) names ofs

-- ---- one cause, and what may be answered for it

abbrev AnswersBy : Cause → Option Reply → Result Reply Refusal → Type 0
AnswersBy c o (Ok reply) = (c ≡ Free) × (o ≡ Some reply)
AnswersBy c o (Err r) = IsWant r ⊎ Tells c r

-- what may be told of one cause
told_fault : (b : Bool) (r x : Refusal) → IsFault b r → IsFault b x → RefuseAlike r x
told_fault true r x h k = inr (h, k)
told_fault false r x h k = inl (h ∙ sym k)

told_by : (c : Cause) (r x : Refusal) → Tells c r → Tells c x → RefuseAlike r x
told_by Free r x h k = absurd h
told_by (Is z) r x h k = inl (h ∙ sym k)
told_by (Evaluation b) r x h k = told_fault b r x h k

both_refused : (c : Cause) (r x : Refusal) → IsWant r ⊎ Tells c r → IsWant x ⊎ Tells c x → SayTheSame (Err r) (Err x)
both_refused c r x (inl h) k = inl h
both_refused c r x (inr h) (inl k) = inr (inl k)
both_refused c r x (inr h) (inr k) = inr (inr (told_by c r x h k))

-- what is refused without a cause is refused for want
only_want : (c : Cause) (x : Refusal) → c ≡ Free → IsWant x ⊎ Tells c x → IsWant x
only_want c x e (inl h) = h
only_want c x e (inr h) = absurd (subst (λ (z : Cause). Tells z x) e h)

-- one cause and one reply
same_cause : (c : Cause) (o : Option Reply) (r t : Result Reply Refusal) → AnswersBy c o r → AnswersBy c o t → SayTheSame r t
same_cause c o (Ok x) (Ok y) p q = let e : Some x ≡ Some y = sym p.1 ∙ q.1 in cc
same_cause c o (Ok x) (Err s) p q = only_want c s p.0 q
same_cause c o (Err r) (Ok y) p q = only_want c r q.0 p
same_cause c o (Err r) (Err s) p q = both_refused c r s p q

-- ---- evaluations that are the same, without a limit on values and with it

abbrev Evaluates : Option (List Row) → Option (List Row) → Result Reply Refusal → Type 0
Evaluates exact sized r = AnswersBy (evaluation_cause None exact sized) (Some (Rows (unwrap_or sized []))) r

evaluations_same : (ex sz ex' sz' : Option (List Row)) (r t : Result Reply Refusal) → ex ≡ ex' → sz ≡ sz' → Evaluates ex sz r → Evaluates ex' sz' t → SayTheSame r t
evaluations_same ex sz ex' sz' r t e f p q =
    same_cause (evaluation_cause None ex sz) (Some (Rows (unwrap_or sz []))) r t p
    (subst (λ (o : Option (List Row)). Evaluates ex o t) (sym f) (subst (λ (o : Option (List Row)). Evaluates o sz' t) (sym e) q))

-- ---- selects

module _ {S E : Type 0} (l : Language S E) (law : IsLanguage l) (host : Host) (params : List Value) (s : S) where
  abbrev misfit : Bool
  misfit = not (l.fits s (length params))

  -- cause and reply by what the statement resolves to
  abbrev cause_by : State → Result (Resolved E) Refusal → Cause
  cause_by st o = or_else (or_else (of_result o) (where_true misfit refusal.Parameters)) (later_cause l host st params (result_ok o))

  abbrev reply_by : State → Result (Resolved E) Refusal → Option Reply
  reply_by st o = option_map (λ r. reply_to r (rows_of l host st params r)) (result_ok o)

  abbrev By : State → Result (Resolved E) Refusal → Result Reply Refusal → Type 0
  By st o r = AnswersBy (cause_by st o) (reply_by st o) r

  by_resolved : (st : State) (r : Result Reply Refusal) (ms : List ModuleState) → Answers l host st params s r ms → By st (resolved_of l host st params s) r
  by_resolved st (Ok x) ms a = (a.0, a.1)
  by_resolved st (Err x) ms a = a.0

  abbrev AnswerAlike : State → State → List (List ℕ) → Query E → Type 0
  AnswerAlike st new names q = (most : Option ℕ) → answer (l.regarded (strict most) params) q (tables_named st names) ≡ answer (l.regarded (strict most) params) q (tables_named new names)

  -- without a limit on values, and with it
  abbrev exact : List (List ℕ) → Query E → State → Option (List Row)
  exact names q x = answer (l.regarded (strict None) params) q (tables_named x names)

  abbrev sized : List (List ℕ) → Query E → State → Option (List Row)
  sized names q x = answer (l.regarded (strict byte_limit) params) q (tables_named x names)

  -- a select whose parameters don't fit, and one whose do
  select_same : (st new : State) (b : Bool) (names : List (List ℕ)) (q : Query E) (r t : Result Reply Refusal)
      → AnswerAlike st new names q
      → AnswersBy (or_else (or_else Free (where_true b refusal.Parameters)) (later_cause l host st params (Some (Select names q)))) (reply_by st (Ok (Select names q))) r
      → AnswersBy (or_else (or_else Free (where_true b refusal.Parameters)) (later_cause l host new params (Some (Select names q)))) (reply_by new (Ok (Select names q))) t
      → SayTheSame r t
  select_same st new true names q (Ok x) t e p k = absurd (let f : Is refusal.Parameters ≡ Free = p.0 in let g : ⊥ = cc in g)
  select_same st new true names q (Err x) (Ok y) e p k = absurd (let f : Is refusal.Parameters ≡ Free = k.0 in let g : ⊥ = cc in g)
  select_same st new true names q (Err x) (Err y) e p k = both_refused (Is refusal.Parameters) x y p k
  select_same st new false names q r t e p k = evaluations_same (exact names q st) (sized names q st) (exact names q new) (sized names q new) r t (e None) (e byte_limit) (plain st r p) (plain new t k) where
    or_free : (c : Cause) → or_else c Free ≡ c
    or_free Free = refl
    or_free (Is z) = refl
    or_free (Evaluation z) = refl

    plain : (x : State) (y : Result Reply Refusal)
        → AnswersBy (later_cause l host x params (Some (Select names q))) (reply_by x (Ok (Select names q))) y
        → Evaluates (exact names q x) (sized names q x) y
    plain x y p = subst (λ (c : Cause). AnswersBy c (Some (Rows (unwrap_or (sized names q x) []))) y) (or_free (evaluation_cause None (exact names q x) (sized names q x))) p

  module _ (st new : State) (sel : l.is_select s ≡ true) (free : l.is_free s ≡ true)
      (same : resolved_of l host st params s ≡ resolved_of l host new params s)
      (answers : (names : List (List ℕ)) (q : Query E) → resolved_of l host st params s ≡ Ok (Select names q) → AnswerAlike st new names q) where
    by_same : (o : Result (Resolved E) Refusal) (r t : Result Reply Refusal) → resolved_of l host st params s ≡ o → By st o r → By new o t → SayTheSame r t
    by_same (Err z) r t e p q = same_cause (Is z) None r t p q
    by_same (Ok x) r t e p q =
        let found = law.selects s (catalog st) host.ask x sel e in
        let names = found.0 in
        let query = found.1.0 in
        let is = found.1.1 in
        select_same st new misfit names query r t (answers names query (e ∙ ap Ok is))
        (subst (λ (z : Resolved E). By st (Ok z) r) is p) (subst (λ (z : Resolved E). By new (Ok z) t) is q)

    pub say_the_same : (r t : Result Reply Refusal) (ms ns : List ModuleState) → Answers l host st params s r ms → Answers l host new params s t ns → SayTheSame r t
    say_the_same r t ms ns a b =
        by_same (resolved_of l host st params s) r t refl (by_resolved st r ms a)
        (subst (λ (o : Result (Resolved E) Refusal). By new o t) (sym same) (by_resolved new t ns b))

  -- what both show now is the same
  pub sessions_agree : (st new : State) (r t : Result Reply Refusal) (ms ns : List ModuleState)
      → l.is_select s ≡ true → l.is_free s ≡ true → now st ≡ now new → AllByRecursion (HaveTable st new) (l.names s)
      → Answers l host st params s r ms → Answers l host new params s t ns → SayTheSame r t
  sessions_agree st new r t ms ns sel free shown have a b =
      say_the_same st new sel free
      (law.local s (catalog st) (catalog new) host.ask sel free (all_map (HaveTable st new) (λ n. definition_in (catalog st) n ≡ definition_in (catalog new) n) (definitions_same st new) (l.names s) have))
      (λ names q e most. ap (answer (l.regarded (strict most) params) q) (tables_same st new shown names (of_names st new names (l.names s) (law.reads s (catalog st) host.ask names q sel e) have)))
      r t ms ns a b
