-- Scripts, turn by turn.
use Rattle.std.proofs.Common.{◌≡◌, ◌⊎◌, inl, inr, ℕ, zero, suc, ◌+◌, ◌-◌, ◌<◌, ◌≤◌, arith, Bool, true, false, List, [], ◌∷◌, ◌++◌, Option, Some, None, Result, Ok, Err, refl, sym, ap, subst, ◌∙◌, map, length, drop, append_assoc, append-nil}
use Rattle.std.specs.Prelude.{not, if◌then◌else◌, IfSome}
use Rattle.std.specs.List.{prefix_len, take_while}
use Rattle.std.proofs.lemmas.List.{length-drop}
use Rattle.std.proofs.lemmas.List.Sums.{prefix_len-le-length}
use Rattle.std.proofs.lemmas.List.Folds.{length-prefix_len}
use Rattle.cr_lex.specs.declared.token.Token.{Token}
use Rattle.cr_tree.specs.declared.statement.Statement.{Statement}
use Rattle.cr_parse.specs.declared.error.ParseError.{ParseError}
use Rattle.cr_parse.specs.declared.error.ParseError.TheVariants as p
use Rattle.cr_statement.specs.Sql.{Refusal as Unread, is_semicolon, statement_tokens, told, judged}
use Rattle.cr_statement.specs.Scripts as scripts
use Rattle.cr_world.specs.declared.command.Reply.{Reply}
use Rattle.cr_world.specs.declared.refusal.Refusal.{Refusal}
use Rattle.cr_world.specs.declared.refusal.Refusal.TheVariants.{Memory}
use Rattle.cr_world.specs.Refusals.{is_want}
use Rattle.cr_world.specs.Language.{Language, Piece}
use Rattle.cr_world.specs.Language as language
use Rattle.cr_world.specs.State.{State}
use Rattle.cr_world.specs.Statement.{Host}
use Rattle.cr_world.specs.Scripts.{Runs, RunsEach}
use Rattle.cr_language.specs.Sql.{piece, of_unread}
use Rattle.cr_script.specs.Scripts.{Carries, CarriesAll, Stops, Goes, Turns, next, pieces_left}

-- ---- how many tokens a statement takes

-- what stands behind those at the front that pass doesn't
fails_by : {X : Type 0} (f : X → Bool) (x : X) (xs : List X) (b : Bool) → f x ≡ b → ((t : X) (ts : List X) → drop (prefix_len f xs) xs ≡ t ∷ ts → f t ≡ false)
    → (t : X) (ts : List X) → drop (prefix_len f (x ∷ xs)) (x ∷ xs) ≡ t ∷ ts → f t ≡ false
fails_by f x xs true e further t ts d =
    let one : prefix_len f (x ∷ xs) ≡ 1 + prefix_len f xs = ap (λ (b : Bool). if b then 1 + prefix_len f xs else 0) e in
    let longer : prefix_len f (x ∷ xs) ≡ suc (prefix_len f xs) = omega (arith, one) in
    further t ts (sym (ap (λ (n : ℕ). drop n (x ∷ xs)) longer) ∙ d)
fails_by f x xs false e further t ts d =
    let same : x ∷ xs ≡ t ∷ ts = sym (ap (λ (b : Bool). drop (if b then 1 + prefix_len f xs else 0) (x ∷ xs)) e) ∙ d in
    let head : x ≡ t = cc in
    ap f (sym head) ∙ e

fails : {X : Type 0} (f : X → Bool) (xs : List X) (t : X) (ts : List X) → drop (prefix_len f xs) xs ≡ t ∷ ts → f t ≡ false
fails f [] t ts d = absurd (let q : ⊥ = cc in q)
fails f (x ∷ xs) t ts d = fails_by f x xs (f x) refl (fails f xs) t ts d

-- the first of some that pass is taken
some_taken : {X : Type 0} (f : X → Bool) (x : X) (xs : List X) → f x ≡ true → 0 < length (take_while f (x ∷ xs))
some_taken f x xs e =
    let some : prefix_len f (x ∷ xs) ≡ 1 + prefix_len f xs = ap (λ (b : Bool). if b then 1 + prefix_len f xs else 0) e in
    omega (arith, length-prefix_len f (x ∷ xs), some)

within : {X : Type 0} (f : X → Bool) (xs : List X) → length (take_while f xs) ≤ length xs
within f xs = omega (arith, length-prefix_len f xs, prefix_len-le-length f xs)

-- how many tokens stand up to the end of a statement that is told
abbrev Takes : List ℕ → List Token → ℕ → Type 0
Takes source tokens n = (0 < n) × (n ≤ length tokens)

passes : (b : Bool) → b ≡ false → not b ≡ true
passes false e = refl
passes true e = absurd (let q : ⊥ = cc in q)

second : ℕ → Result (Option (Statement × ℕ)) Unread → ℕ
second d (Ok (Some x)) = x.1
second d (Ok None) = d
second d (Err why) = d

told_takes : (source : List ℕ) (k : ℕ) (t : Token) (ts : List Token) (r : Result Statement ParseError) (x : Statement) (n : ℕ) → is_semicolon source t ≡ false
    → scripts.behind k (told source (t ∷ ts) r) ≡ Ok (Some (x, n)) → (0 < n) × (n ≤ k + length (t ∷ ts))
unfolding second
told_takes source k t ts (Ok tree) x n first e =
    let same : k + length (statement_tokens source (t ∷ ts)) ≡ n = ap (second n) e in
    let some : 0 < length (statement_tokens source (t ∷ ts)) = some_taken (λ t. not (is_semicolon source t)) t ts (passes (is_semicolon source t) first) in
    let few : length (statement_tokens source (t ∷ ts)) ≤ length (t ∷ ts) = within (λ t. not (is_semicolon source t)) (t ∷ ts) in
    (omega (arith, same, some), omega (arith, same, few))
told_takes source k t ts (Err (p.Syntax at)) x n first e = absurd (let q : ⊥ = cc in q)
told_takes source k t ts (Err (p.Limit which)) x n first e = absurd (let q : ⊥ = cc in q)
told_takes source k t ts (Err p.Memory) x n first e = absurd (let q : ⊥ = cc in q)

next_takes : (source : List ℕ) (tokens rest : List Token) (x : Statement) (n : ℕ) → drop (scripts.semicolons source tokens) tokens ≡ rest
    → scripts.next_at source (scripts.semicolons source tokens) rest ≡ Ok (Some (x, n)) → Takes source tokens n
next_takes source tokens [] x n d e = absurd (let q : ⊥ = cc in q)
next_takes source tokens (t ∷ ts) x n d e =
    let first : is_semicolon source t ≡ false = fails (is_semicolon source) tokens t ts d in
    let both = told_takes source (scripts.semicolons source tokens) t ts (judged source (t ∷ ts)) x n first e in
    let left : length (t ∷ ts) ≡ length tokens - scripts.semicolons source tokens = sym (ap length d) ∙ length-drop (scripts.semicolons source tokens) tokens in
    (both.0, omega (arith, both.1, left, prefix_len-le-length (is_semicolon source) tokens))

-- a statement takes a token at least, and no more than there are
pub takes : (source : List ℕ) (tokens : List Token) (x : Statement) (n : ℕ) → next source tokens ≡ Ok (Some (x, n)) → Takes source tokens n
unfolding next
takes source tokens x n e = next_takes source tokens (drop (scripts.semicolons source tokens) tokens) x n refl e

abbrev TakesSome : ℕ → Reply × ℕ → Type 0
TakesSome n t = (0 < t.1) × (t.1 ≤ n)

pub takes_of : (o : Option (Reply × ℕ)) (t : Reply × ℕ) (n : ℕ) → o ≡ Some t → IfSome o (TakesSome n) → TakesSome n t
takes_of o t n e = subst (λ (x : Option (Reply × ℕ)). IfSome x (TakesSome n)) e

pub fewer : (rest rest' : List Token) (t : Reply × ℕ) → rest' ≡ drop t.1 rest → TakesSome (length rest) t → length rest' < length rest
fewer rest rest' t e some = omega (arith, ap (λ (ts : List Token). length ts) e, length-drop t.1 rest, some.0, some.1)

-- ---- what is left of a script

-- no statement is left where no token is
no_tokens : (source : List ℕ) → next source [] ≡ Ok None
unfolding next
no_tokens source = refl

pub none_left : (n : ℕ) (source : List ℕ) (tokens : List Token) → next source tokens ≡ Ok None → pieces_left n source tokens ≡ []
unfolding next pieces_left scripts.pieces_in
none_left zero source tokens e = refl
none_left (suc n) source tokens e = ap (λ (o : Result (Option (Statement × ℕ)) Unread). map piece (scripts.piece_and (scripts.pieces_in n source) tokens o)) e

pub one_left : (n : ℕ) (source : List ℕ) (tokens : List Token) (x : Statement) (k : ℕ) → next source tokens ≡ Ok (Some (x, k)) → pieces_left (suc n) source tokens ≡ language.Statement x ∷ pieces_left n source (drop k tokens)
unfolding next pieces_left scripts.pieces_in
one_left n source tokens x k e = ap (λ (o : Result (Option (Statement × ℕ)) Unread). map piece (scripts.piece_and (scripts.pieces_in n source) tokens o)) e

unread_left : (n : ℕ) (source : List ℕ) (tokens : List Token) (why : Unread) → next source tokens ≡ Err why → pieces_left (suc n) source tokens ≡ language.Unread (of_unread why) ∷ []
unfolding next pieces_left scripts.pieces_in
unread_left n source tokens why e = ap (λ (o : Result (Option (Statement × ℕ)) Unread). map piece (scripts.piece_and (scripts.pieces_in n source) tokens o)) e

-- ---- turns

module _ {E C : Type 0} (l : Language Statement E) (host : Host) (is_honest is_clean : C → Type 0) (stands : C → State) where
  -- The statements so far led from one store to another, with these replies: what is left of the script goes on from there.
  pub record Led (source : List ℕ) (all : List (Piece Statement)) (old now : C) (rest : List Token) (replies : List Reply) : Type 0 where
    pub was_honest : is_honest now → is_honest old
    pub was_clean : is_clean now → is_clean old
    pub stays_clean : is_honest now → is_clean old → is_clean now
    pub turns : ℕ
    pub enough : length rest ≤ turns
    pub leads : is_clean now → (xs : List Reply) (why : Option Refusal) (new : State) → RunsEach l host (stands now) (pieces_left turns source rest) xs why new
        → RunsEach l host (stands old) all (replies ++ xs) why new

  -- what a turn answers
  pub turned : (old new : C) (found : Result (Option (Statement × ℕ)) Unread) (o p : Option (Reply × ℕ)) → o ≡ p → Turns l host is_honest is_clean stands old found (Ok o) new → Turns l host is_honest is_clean stands old found (Ok p) new
  turned old new found o p e = subst (λ (x : Option (Reply × ℕ)). Turns l host is_honest is_clean stands old found (Ok x) new) e

  pub starts : (source : List ℕ) (tokens : List Token) (c : C) (replies : List Reply) → replies ≡ [] → Led source (pieces_left (length tokens) source tokens) c c tokens replies
  starts source tokens c replies e = record {
    was_honest = λ honest. honest;
    was_clean = λ clean. clean;
    stays_clean = λ honest clean. clean;
    turns = length tokens;
    enough = omega arith;
    leads = λ clean xs why new run. subst (λ (r : List Reply). RunsEach l host (stands c) (pieces_left (length tokens) source tokens) (r ++ xs) why new) (sym e) run;
  }

  -- a statement leads on
  one_run : (source : List ℕ) (all : List (Piece Statement)) (old now : C) (rest rest' : List Token) (replies : List Reply) (t : Reply × ℕ) (now' : C) (turns : ℕ) → length rest ≤ turns
      → (is_clean now → (xs : List Reply) (why : Option Refusal) (new : State) → RunsEach l host (stands now) (pieces_left turns source rest) xs why new → RunsEach l host (stands old) all (replies ++ xs) why new)
      → (is_honest now' → is_honest old) → (is_clean now' → is_clean old) → (is_honest now' → is_clean old → is_clean now')
      → (g : Goes l host is_honest is_clean stands now (next source rest) t now') → rest' ≡ drop t.1 rest → Led source all old now' rest' (replies ++ t.0 ∷ [])
  one_run source all old now rest rest' replies t now' zero few leads honest_was was stays g same =
      let some = takes source rest g.statement t.1 g.is in
      absurd (omega (arith, few, some.0, some.1))
  one_run source all old now rest rest' replies t now' (suc n) few leads honest_was was stays g same =
      let some = takes source rest g.statement t.1 g.is in
      let fewer : length (drop t.1 rest) ≤ n = omega (arith, few, some.0, some.1, length-drop t.1 rest) in
      subst (λ (r : List Token). Led source all old now' r (replies ++ t.0 ∷ [])) (sym same) (record {
        was_honest = honest_was;
        was_clean = was;
        stays_clean = stays;
        turns = n;
        enough = fewer;
        leads = λ clean xs why new run.
            subst (λ (r : List Reply). RunsEach l host (stands old) all r why new) (sym (append_assoc replies (t.0 ∷ []) xs))
            (leads (g.carries.device.was_clean clean) (t.0 ∷ xs) why new
            (subst (λ (ps : List (Piece Statement)). RunsEach l host (stands now) ps (t.0 ∷ xs) why new) (sym (one_left n source rest g.statement t.1 g.is))
            ((stands now').modules, (g.carries.answers clean, subst (λ (st : State). RunsEach l host st (pieces_left n source (drop t.1 rest)) xs why new) (sym (g.carries.leaves clean)) run))));
      })

  pub more : (source : List ℕ) (all : List (Piece Statement)) (old now : C) (rest rest' : List Token) (replies replies' : List Reply) (t : Reply × ℕ) (now' : C)
      → Led source all old now rest replies → Goes l host is_honest is_clean stands now (next source rest) t now' → rest' ≡ drop t.1 rest → replies' ≡ replies ++ t.0 ∷ [] → Led source all old now' rest' replies'
  more source all old now rest rest' replies replies' t now' d g same told =
      subst (Led source all old now' rest') (sym told)
      (one_run source all old now rest rest' replies t now' d.turns d.enough d.leads (λ honest. d.was_honest (g.carries.device.was_honest honest)) (λ clean. d.was_clean (g.carries.device.was_clean clean)) (λ honest clean. g.carries.device.stays_clean honest (d.stays_clean (g.carries.device.was_honest honest) clean)) g same)

  -- ---- how a script ends

  pub ends : (source : List ℕ) (all : List (Piece Statement)) (old now : C) (rest : List Token) (replies : List Reply)
      → Led source all old now rest replies → next source rest ≡ Ok None → CarriesAll l host is_honest is_clean stands old all replies None now
  ends source all old now rest replies d e = record {
    was_honest = d.was_honest;
    was_clean = d.was_clean;
    stays_clean = λ honest clean told. d.stays_clean honest clean;
    runs = λ clean. inl (
        subst (λ (r : List Reply). RunsEach l host (stands old) all r None (stands now)) (append-nil replies)
        (d.leads clean [] None (stands now)
        (subst (λ (ps : List (Piece Statement)). RunsEach l host (stands now) ps [] None (stands now)) (sym (none_left d.turns source rest e)) refl)));
  }

  -- want of memory may be told of a script at once, and of each of its statements
  wants_first : (st : State) (p : Piece Statement) (ps : List (Piece Statement)) → RunsEach l host st (p ∷ ps) [] (Some Memory) st
  wants_first st (language.Unread why) ps = (inr refl, refl)
  wants_first st (language.Statement s) ps = ((inl (inl refl), (refl, λ r allowed untouched. tt)), refl)

  pub wanting : (st : State) (ps : List (Piece Statement)) → Runs l host st ps [] (Some Memory) st
  wanting st [] = inr (refl, refl, refl, refl)
  wanting st (p ∷ ps) = inl (wants_first st p ps)

  -- what is left ends with this refusal
  refused : (source : List ℕ) (all : List (Piece Statement)) (old now : C) (rest : List Token) (replies : List Reply) (r : Refusal) (new : C)
      → (d : Led source all old now rest replies) → (is_honest new → is_honest now) → (is_clean new → is_clean now) → (is_honest new → is_clean now → is_want r ≡ false → is_clean new)
      → (is_clean new → RunsEach l host (stands now) (pieces_left d.turns source rest) [] (Some r) (stands new)) → CarriesAll l host is_honest is_clean stands old all replies (Some r) new
  refused source all old now rest replies r new d honest_was was stays run = record {
    was_honest = λ honest. d.was_honest (honest_was honest);
    was_clean = λ clean. d.was_clean (was clean);
    stays_clean = λ honest clean told. stays honest (d.stays_clean (honest_was honest) clean) told;
    runs = λ clean. inl (
        subst (λ (x : List Reply). RunsEach l host (stands old) all x (Some r) (stands new)) (append-nil replies)
        (d.leads (was clean) [] (Some r) (stands new) (run clean)));
  }

  -- what is left begins with a piece, where there is a next statement or why it isn't read
  unread_runs : (source : List ℕ) (rest : List Token) (st : State) (n : ℕ) (why : Unread) (r : Refusal) → length rest ≤ n → next source rest ≡ Err why → (r ≡ of_unread why) ⊎ (r ≡ Memory)
      → RunsEach l host st (pieces_left n source rest) [] (Some r) st
  unread_runs source [] st zero why r few e told = absurd (let q : Ok None ≡ Err why = sym (no_tokens source) ∙ e in let z : ⊥ = cc in z)
  unread_runs source (t ∷ ts) st zero why r few e told = absurd (omega (arith, few))
  unread_runs source rest st (suc n) why r few e told =
      subst (λ (ps : List (Piece Statement)). RunsEach l host st ps [] (Some r) st) (sym (unread_left n source rest why e)) (told, refl)

  -- want of memory may be told of it
  wants_runs : (source : List ℕ) (rest : List Token) (st : State) (n : ℕ) (found : Result (Option (Statement × ℕ)) Unread) → length rest ≤ n → next source rest ≡ found → (found ≡ Ok None → ⊥)
      → RunsEach l host st (pieces_left n source rest) [] (Some Memory) st
  wants_runs source rest st n (Ok None) few e some = absurd (some refl)
  wants_runs source [] st zero (Ok (Some x)) few e some = absurd (let q : Ok None ≡ Ok (Some x) = sym (no_tokens source) ∙ e in let z : ⊥ = cc in z)
  wants_runs source (t ∷ ts) st zero (Ok (Some x)) few e some = absurd (omega (arith, few))
  wants_runs source rest st (suc n) (Ok (Some x)) few e some =
      subst (λ (ps : List (Piece Statement)). RunsEach l host st ps [] (Some Memory) st) (sym (one_left n source rest x.0 x.1 e)) (wants_first st (language.Statement x.0) (pieces_left n source (drop x.1 rest)))
  wants_runs source rest st n (Err why) few e some = unread_runs source rest st n why Memory few e (inr refl)

  refuses_runs : (source : List ℕ) (rest : List Token) (now new : C) (n : ℕ) (x : Statement) (k : ℕ) (r : Refusal) → length rest ≤ n → next source rest ≡ Ok (Some (x, k))
      → Carries l host is_honest is_clean stands now [] x (Err r) new → is_clean new → RunsEach l host (stands now) (pieces_left n source rest) [] (Some r) (stands new)
  refuses_runs source rest now new zero x k r few e carries clean = let some = takes source rest x k e in absurd (omega (arith, few, some.0, some.1))
  refuses_runs source rest now new (suc n) x k r few e carries clean =
      subst (λ (ps : List (Piece Statement)). RunsEach l host (stands now) ps [] (Some r) (stands new)) (sym (one_left n source rest x k e)) (((carries.answers clean).0, (refl, (carries.answers clean).1.1)), sym (carries.leaves clean))

  pub stops : (source : List ℕ) (all : List (Piece Statement)) (old now : C) (rest : List Token) (replies : List Reply) (r : Refusal) (new : C)
      → Led source all old now rest replies → Stops l host is_honest is_clean stands now (next source rest) r new → CarriesAll l host is_honest is_clean stands old all replies (Some r) new
  stops source all old now rest replies r new d (inl (why, e, told, same)) =
      subst (CarriesAll l host is_honest is_clean stands old all replies (Some r)) (sym same)
      (refused source all old now rest replies r now d (λ honest. honest) (λ clean. clean) (λ honest clean told. clean) (λ clean. unread_runs source rest (stands now) d.turns why r d.enough e told))
  stops source all old now rest replies r new d (inr (inl (x, k, e, carries))) =
      refused source all old now rest replies r new d carries.device.was_honest carries.device.was_clean carries.device.stays_clean (refuses_runs source rest now new d.turns x k r d.enough e carries)
  stops source all old now rest replies r new d (inr (inr want)) =
      subst (CarriesAll l host is_honest is_clean stands old all replies (Some r)) (sym want.1)
      (subst (λ (x : Refusal). CarriesAll l host is_honest is_clean stands old all replies (Some x) now) (sym want.0)
      (refused source all old now rest replies Memory now d (λ honest. honest) (λ clean. clean) (λ honest clean told. clean) (λ clean. wants_runs source rest (stands now) d.turns (next source rest) d.enough refl want.2)))
