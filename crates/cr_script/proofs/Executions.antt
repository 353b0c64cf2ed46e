-- A text that is to be one statement.
use Rattle.std.proofs.Common.{◌≡◌, ◌⊎◌, inl, inr, ℕ, ◌+◌, ◌<◌, ◌≤◌, arith, Bool, true, false, List, [], ◌∷◌, Option, Some, None, Result, Ok, Err, refl, sym, ap, subst, ◌∙◌, drop, length}
use Rattle.std.specs.Prelude.{if◌then◌else◌}
use Rattle.std.specs.List.{prefix_len}
use Rattle.std.proofs.lemmas.Bool.{le-ltb, lt-ltb}
use Rattle.cr_value.specs.declared.value.Value.{Value}
use Rattle.cr_host.specs.declared.function.Definition.{Definition}
use Rattle.cr_lex.specs.declared.token.Token.{Token}
use Rattle.cr_lex.specs.Tokens.{IsTokens}
use Rattle.cr_lex.proofs.Unique.{one_list}
use Rattle.cr_tree.specs.declared.statement.Statement.{Statement}
use Rattle.cr_meaning.specs.View.{Ordered}
use Rattle.cr_statement.specs.declared.error.SqlError.{SqlError}
use Rattle.cr_statement.specs.declared.error.SqlError.TheVariants as sql
use Rattle.cr_statement.specs.Sql.{Refusal as Unread, is_semicolon, judged, says, told}
use Rattle.cr_statement.specs.Scripts as scripts
use Rattle.cr_world.specs.declared.command.Reply.{Reply}
use Rattle.cr_world.specs.declared.command.Reply.TheVariants.{Done}
use Rattle.cr_world.specs.declared.refusal.Refusal.{Refusal}
use Rattle.cr_world.specs.declared.refusal.Refusal.TheVariants.{Limit, Memory, Syntax}
use Rattle.cr_world.specs.declared.refusal.Limit.TheVariants as limit
use Rattle.cr_world.specs.Language.{Language, Piece}
use Rattle.cr_world.specs.Language as language
use Rattle.cr_world.specs.State.{State}
use Rattle.cr_world.specs.Scripts.{Executes}
use Rattle.cr_world.specs.Statement.{Host}
use Rattle.cr_language.specs.Engines.{OrderOf, AreTotal}
use Rattle.cr_language.specs.Sql.{empty_single, nothing_behind, of_unread, read_single, single_of, too_long}
use Rattle.cr_language.specs.Texts.{tokens_of}
use Rattle.cr_language.proofs.Texts.{have_tokens}
use Rattle.cr_guard.specs.declared.event.Event.{Event}
use Rattle.cr_script.specs.Hearing.{Hears, heard_of_piece}
use Rattle.cr_script.specs.Speaking.{spoken}
use Rattle.cr_script.specs.Scripts.{Carries, Executed, is_empty, next, second_place, single_left}
use Rattle.cr_script.proofs.Scripting.{ReadsNext, Told}

-- ---- what the text is

pub empty_is : (source : List ℕ) (tokens : List Token) → is_empty source tokens ≡ true → second_place tokens ≡ None → single_left source tokens ≡ None
unfolding single_left
empty_is source [] e none = refl
empty_is source (t ∷ []) e none = ap (λ (b : Bool). if b then None else Some (read_single (t ∷ []) (told source (t ∷ []) (judged source (t ∷ []))))) e
empty_is source (t ∷ u ∷ us) e none = absurd (let z : ⊥ = cc in z)

more_is : (source : List ℕ) (tokens : List Token) (at : ℕ) → is_empty source tokens ≡ true → second_place tokens ≡ Some at → single_left source tokens ≡ Some (language.Unread (Syntax at))
unfolding single_left
more_is source [] at e some = absurd (let z : ⊥ = cc in z)
more_is source (t ∷ []) at e some = absurd (let z : ⊥ = cc in z)
more_is source (t ∷ u ∷ us) at e some =
    ap (λ (b : Bool). if b then Some (language.Unread (Syntax u.from)) else Some (read_single (t ∷ u ∷ us) (told source (t ∷ u ∷ us) (judged source (t ∷ u ∷ us))))) e
    ∙ (let same : u.from ≡ at = cc in ap (λ (n : ℕ). Some (language.Unread (Syntax n))) same)

-- what is told of the statement at the front
abbrev told_of : List ℕ → List Token → Result (Statement × ℕ) Unread
told_of source tokens = told source tokens (judged source tokens)

-- nothing is left out at the front
first_is : (source : List ℕ) (t : Token) (ts : List Token) → is_semicolon source t ≡ false → next source (t ∷ ts) ≡ scripts.behind 0 (told_of source (t ∷ ts))
unfolding next
first_is source t ts e =
    let none : scripts.semicolons source (t ∷ ts) ≡ 0 = ap (λ (b : Bool). if b then 1 + prefix_len (is_semicolon source) ts else 0) e in
    ap (λ (n : ℕ). scripts.next_at source n (drop n (t ∷ ts))) none

single_is : (source : List ℕ) (t : Token) (ts : List Token) → is_semicolon source t ≡ false → single_left source (t ∷ ts) ≡ Some (read_single (t ∷ ts) (told_of source (t ∷ ts)))
unfolding single_left
single_is source t ts e = ap (λ (b : Bool). if b then empty_single ts else Some (read_single (t ∷ ts) (told_of source (t ∷ ts)))) e

-- by what the next statement is
pair_of : Statement × ℕ → Result (Option (Statement × ℕ)) Unread → Statement × ℕ
pair_of other (Ok (Some x)) = x
pair_of other (Ok None) = other
pair_of other (Err why) = other

told_as : (r : Result (Statement × ℕ) Unread) (x : Statement) (n : ℕ) → scripts.behind 0 r ≡ Ok (Some (x, n)) → r ≡ Ok (x, n)
unfolding pair_of
told_as (Ok y) x n e = let none : 0 + y.1 ≡ y.1 = omega arith in ap Ok ((λ i. (y.0, sym none i)) ∙ ap (pair_of (x, n)) e)
told_as (Err why) x n e = absurd (let z : ⊥ = cc in z)

not_told : (r : Result (Statement × ℕ) Unread) (why : Unread) → scripts.behind 0 r ≡ Err why → r ≡ Err why
not_told (Ok y) why e = absurd (let z : ⊥ = cc in z)
not_told (Err w) why e = let same : w ≡ why = cc in ap Err same

never_none : (r : Result (Statement × ℕ) Unread) → scripts.behind 0 r ≡ Ok None → ⊥
never_none (Ok y) e = let z : ⊥ = cc in z
never_none (Err w) e = let z : ⊥ = cc in z

read_is : (source : List ℕ) (tokens : List Token) (x : Statement) (n : ℕ) → is_empty source tokens ≡ false → next source tokens ≡ Ok (Some (x, n))
    → single_left source tokens ≡ Some (nothing_behind (language.Statement x) (drop n tokens))
read_is source [] x n e f = absurd (let z : ⊥ = cc in z)
read_is source (t ∷ ts) x n e f =
    single_is source t ts e ∙ ap (λ (r : Result (Statement × ℕ) Unread). Some (read_single (t ∷ ts) r)) (told_as (told_of source (t ∷ ts)) x n (sym (first_is source t ts e) ∙ f))

unread_is : (source : List ℕ) (tokens : List Token) (why : Unread) → is_empty source tokens ≡ false → next source tokens ≡ Err why → single_left source tokens ≡ Some (language.Unread (of_unread why))
unread_is source [] why e f = absurd (let z : ⊥ = cc in z)
unread_is source (t ∷ ts) why e f =
    single_is source t ts e ∙ ap (λ (r : Result (Statement × ℕ) Unread). Some (read_single (t ∷ ts) r)) (not_told (told_of source (t ∷ ts)) why (sym (first_is source t ts e) ∙ f))

pub some_next : (source : List ℕ) (tokens : List Token) → is_empty source tokens ≡ false → next source tokens ≡ Ok None → ⊥
some_next source [] e f = absurd (let z : ⊥ = cc in z)
some_next source (t ∷ ts) e f = never_none (told_of source (t ∷ ts)) (sym (first_is source t ts e) ∙ f)

last_is : (p : Piece Statement) (ts : List Token) → second_place ts ≡ None → nothing_behind p ts ≡ p
last_is p [] e = refl
last_is p (t ∷ []) e = refl
last_is p (t ∷ u ∷ us) e = absurd (let z : ⊥ = cc in z)

behind_is : (p : Piece Statement) (ts : List Token) (at : ℕ) → second_place ts ≡ Some at → nothing_behind p ts ≡ language.Unread (Syntax at)
behind_is p [] at e = absurd (let z : ⊥ = cc in z)
behind_is p (t ∷ []) at e = absurd (let z : ⊥ = cc in z)
behind_is p (t ∷ u ∷ us) at e = let same : u.from ≡ at = cc in ap (λ (n : ℕ). language.Unread (Syntax n)) same

pub piece_read : (source : List ℕ) (tokens : List Token) (x : Statement) (n : ℕ) → is_empty source tokens ≡ false → next source tokens ≡ Ok (Some (x, n)) → second_place (drop n tokens) ≡ None
    → single_left source tokens ≡ Some (language.Statement x)
piece_read source tokens x n e f none = read_is source tokens x n e f ∙ ap Some (last_is (language.Statement x) (drop n tokens) none)

-- ---- what is made of it

module _ {E C : Type 0} (l : Language Statement E) (host : Host) (is_honest is_clean : C → Type 0) (stands : C → State) (source : List ℕ) (tokens : List Token) (params : List Value) (old : C) where
  abbrev Made : Result Reply Refusal → C → Type 0
  Made result new = Executed l host is_honest is_clean stands old params (single_left source tokens) result new

  -- nothing is changed
  stays : (piece : Option (Piece Statement)) (result : Result Reply Refusal) → single_left source tokens ≡ piece → Executes l host (stands old) params piece result (stands old)
      → (Executed l host is_honest is_clean stands old params piece result old → Made result old) × Executes l host (stands old) params (single_left source tokens) result (stands old)
  stays piece result e x =
      (subst (λ (p : Option (Piece Statement)). Executed l host is_honest is_clean stands old params p result old) (sym e), subst (λ (p : Option (Piece Statement)). Executes l host (stands old) params p result (stands old)) (sym e) x)

  done_by : (piece : Option (Piece Statement)) → single_left source tokens ≡ piece → Executes l host (stands old) params piece (Ok Done) (stands old) → Made (Ok Done) old
  done_by piece e x = record { device = record { was_honest = λ honest. honest; was_clean = λ clean. clean; stays_clean = λ honest clean. clean }; executes = λ clean. (stays piece (Ok Done) e x).1 }

  refused_by : (piece : Option (Piece Statement)) (r : Refusal) → single_left source tokens ≡ piece → Executes l host (stands old) params piece (Err r) (stands old) → Made (Err r) old
  refused_by piece r e x = record { device = record { was_honest = λ honest. honest; was_clean = λ clean. clean; stays_clean = λ honest clean told. clean }; executes = λ clean. (stays piece (Err r) e x).1 }

  pub does_nothing : is_empty source tokens ≡ true → second_place tokens ≡ None → Made (Ok Done) old
  does_nothing e none = done_by None (empty_is source tokens e none) (refl, refl)

  pub refuses_more : (at : ℕ) → is_empty source tokens ≡ true → second_place tokens ≡ Some at → Made (Err (Syntax at)) old
  refuses_more at e some = refused_by (Some (language.Unread (Syntax at))) (Syntax at) (more_is source tokens at e some) (inl refl, refl)

  pub refuses_behind : (x : Statement) (n at : ℕ) → is_empty source tokens ≡ false → next source tokens ≡ Ok (Some (x, n)) → second_place (drop n tokens) ≡ Some at → Made (Err (Syntax at)) old
  refuses_behind x n at e f some =
      refused_by (Some (language.Unread (Syntax at))) (Syntax at)
      (read_is source tokens x n e f ∙ ap Some (behind_is (language.Statement x) (drop n tokens) at some)) (inl refl, refl)

  module _ (x : Statement) (n : ℕ) (new : C) (e : is_empty source tokens ≡ false) (f : next source tokens ≡ Ok (Some (x, n))) (none : second_place (drop n tokens) ≡ None) where
    given : (result : Result Reply Refusal) → Carries l host is_honest is_clean stands old params x result new → is_clean new → Executes l host (stands old) params (Some (language.Statement x)) result (stands new)
    given (Ok reply) c clean = ((stands new).modules, (c.answers clean, sym (c.leaves clean)))
    given (Err r) c clean = (((c.answers clean).0, (refl, (c.answers clean).1.1)), sym (c.leaves clean))

    pub carries_single : (result : Result Reply Refusal) → Carries l host is_honest is_clean stands old params x result new → Made result new
    carries_single result c = record {
      device = c.device;
      executes = λ clean. subst (λ (p : Option (Piece Statement)). Executes l host (stands old) params p result (stands new)) (sym (piece_read source tokens x n e f none)) (given result c clean);
    }

  -- ---- it isn't read

  any_wants : (p : Option (Piece Statement)) → Executes l host (stands old) params p (Err Memory) (stands old)
  any_wants None = (refl, refl)
  any_wants (Some (language.Unread why)) = (inr refl, refl)
  any_wants (Some (language.Statement x)) = ((inl (inl refl), (refl, λ r allowed untouched. tt)), refl)

  pub wants_single : (p : Option (Piece Statement)) → Executed l host is_honest is_clean stands old params p (Err Memory) old
  wants_single p = record { device = record { was_honest = λ honest. honest; was_clean = λ clean. clean; stays_clean = λ honest clean told. clean }; executes = λ clean. any_wants p }

  wants : (r : Refusal) → (r ≡ Memory) ⊎ (r ≡ Memory) → Made (Err r) old
  wants r (inl e) = subst (λ (x : Refusal). Made (Err x) old) (sym e) (wants_single (single_left source tokens))
  wants r (inr e) = subst (λ (x : Refusal). Made (Err x) old) (sym e) (wants_single (single_left source tokens))

  unread : (answer : Result (Option (Statement × ℕ)) SqlError) (error : SqlError) (r : Refusal) → (error ≡ sql.Memory → ⊥) → is_empty source tokens ≡ false
      → ReadsNext source tokens answer → answer ≡ Err error → Told error r → Made (Err r) old
  unfolding next
  unread answer error r other e reads is told =
      refused_by (Some (language.Unread (of_unread (says error)))) r
      (unread_is source tokens (says error) e (sym (reads (λ f. let q : Err error ≡ Err sql.Memory = sym is ∙ f in other cc)) ∙ ap scripts.says_next is)) (told, refl)

  pub refuses_unread : (answer : Result (Option (Statement × ℕ)) SqlError) (error : SqlError) (r : Refusal) → is_empty source tokens ≡ false
      → ReadsNext source tokens answer → answer ≡ Err error → Told error r → Made (Err r) old
  refuses_unread answer sql.Memory r e reads is told = wants r told
  refuses_unread answer (sql.Syntax at) r e reads is told = unread answer (sql.Syntax at) r (λ q. let z : ⊥ = cc in z) e reads is told
  refuses_unread answer (sql.OutOfProfile word) r e reads is told = unread answer (sql.OutOfProfile word) r (λ q. let z : ⊥ = cc in z) e reads is told
  refuses_unread answer (sql.Limit which) r e reads is told = unread answer (sql.Limit which) r (λ q. let z : ⊥ = cc in z) e reads is told

-- ---- the whole text

module _ {C : Type 0} (function_of : List ℕ → ℕ → Option Definition) (scalar : ℕ → List Value → Result Value (List ℕ)) (step : ℕ → Value → List Value → Result Value (List ℕ)) (finish : ℕ → Value → Result Value (List ℕ))
    (order_of : OrderOf) (total : AreTotal order_of) (has : List ℕ → Bool) (host : Host) (is_honest is_clean : C → Type 0) (stands : C → State) (source : List ℕ) (params : List Value) (old new : C) where
  abbrev meant : Language Statement Ordered
  meant = spoken function_of scalar step finish order_of total has

  abbrev Whole : Option (Piece Statement) → Result Reply Refusal → C → Type 0
  Whole p result left = Executed meant host is_honest is_clean stands old params p result left

  whole : (tokens : List Token) → (1000000 < length source → ⊥) → IsTokens source 0 tokens → meant.single source ≡ single_left source tokens
  unfolding spoken single_left
  whole tokens short are =
      let within : length source ≤ 1000000 = omega (arith, short) in
      let same : tokens_of source ≡ tokens = one_list source 0 (tokens_of source) tokens (have_tokens source) are in
      ap (λ (b : Bool). if b then Some too_long else single_of source (tokens_of source)) (le-ltb 1000000 (length source) within) ∙ ap (single_of source) same

  pub hears_whole : {T : Type 0} (hears : List Event → Type 0) (tokens : List Token) (left : State) (result : Result T Refusal) → (1000000 < length source → ⊥) → IsTokens source 0 tokens
      → Hears hears (heard_of_piece (single_left source tokens) (stands old) left) result → Hears hears (heard_of_piece (meant.single source) (stands old) left) result
  hears_whole hears tokens left result short are h = subst (λ (p : Option (Piece Statement)). Hears hears (heard_of_piece p (stands old) left) result) (sym (whole tokens short are)) h

  pub executes_whole : (tokens : List Token) (result : Result Reply Refusal) → (1000000 < length source → ⊥) → IsTokens source 0 tokens → Whole (single_left source tokens) result new → Whole (meant.single source) result new
  executes_whole tokens result short are h = subst (λ (p : Option (Piece Statement)). Whole p result new) (sym (whole tokens short are)) h

  too_long_is : 1000000 < length source → meant.single source ≡ Some too_long
  unfolding spoken
  too_long_is long = ap (λ (b : Bool). if b then Some too_long else single_of source (tokens_of source)) (lt-ltb 1000000 (length source) long)

  pub refuses_long_text : 1000000 < length source → Whole (meant.single source) (Err (Limit limit.Script)) old
  refuses_long_text long =
      subst (λ (p : Option (Piece Statement)). Whole p (Err (Limit limit.Script)) old) (sym (too_long_is long))
      (record { device = record { was_honest = λ honest. honest; was_clean = λ clean. clean; stays_clean = λ honest clean told. clean }; executes = λ clean. (inl refl, refl) })

  pub wants_text : Whole (meant.single source) (Err Memory) old
  wants_text = wants_single meant host is_honest is_clean stands source [] params old (meant.single source)
