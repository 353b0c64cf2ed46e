-- Scripts: what turns come to.
use Rattle.std.proofs.Common.{◌≡◌, ◌⊎◌, inl, inr, ℕ, ◌<◌, ◌≤◌, nat_lt, arith, Bool, true, false, List, [], ◌∷◌, Option, Some, None, Result, Ok, Err, refl, sym, ap, subst, ◌∙◌, map, length}
use Rattle.std.specs.Prelude.{if◌then◌else◌}
use Rattle.cr_value.specs.declared.value.Value.{Value}
use Rattle.cr_host.specs.declared.function.Definition.{Definition}
use Rattle.cr_lex.specs.declared.token.Token.{Token}
use Rattle.cr_lex.specs.Tokens.{IsTokens}
use Rattle.cr_lex.proofs.Unique.{one_list}
use Rattle.std.proofs.lemmas.Bool.{le-ltb, lt-ltb}
use Rattle.cr_tree.specs.declared.statement.Statement.{Statement}
use Rattle.cr_meaning.specs.View.{Ordered}
use Rattle.cr_statement.specs.declared.error.SqlError.{SqlError}
use Rattle.cr_statement.specs.declared.error.SqlError.TheVariants as sql
use Rattle.cr_statement.specs.Sql.{Refusal as Unread, says}
use Rattle.cr_statement.specs.Scripts as scripts
use Rattle.cr_fit.specs.Folded.{DefinesFolded}
use Rattle.cr_fit.proofs.Folding.{are_names_folded}
use Rattle.cr_world.specs.declared.command.Reply.{Reply}
use Rattle.cr_world.specs.declared.refusal.Refusal.{Refusal}
use Rattle.cr_world.specs.declared.refusal.Refusal.TheVariants.{Memory, Limit}
use Rattle.cr_world.specs.declared.refusal.Limit.TheVariants as limit
use Rattle.cr_world.specs.Scripts.{Runs}
use Rattle.cr_world.specs.Language.{Language, Piece}
use Rattle.cr_world.specs.State.{State}
use Rattle.cr_world.specs.Statement.{Host}
use Rattle.cr_language.specs.Engines.{OrderOf, AreTotal}
use Rattle.cr_language.specs.Sql.{of_unread, piece, too_long}
use Rattle.cr_language.specs.Texts.{tokens_of}
use Rattle.cr_language.proofs.Texts.{have_tokens}
use Rattle.cr_guard.specs.declared.event.Event.{Event}
use Rattle.cr_script.specs.Hearing.{HearsAll}
use Rattle.cr_script.specs.Speaking.{spoken}
use Rattle.cr_script.specs.Scripts.{CarriesAll, Stops, next, pieces_left}
use Rattle.cr_script.proofs.Turning.{wanting}

-- ---- the next statement

-- what reading answers
abbrev pub ReadsNext : List ℕ → List Token → Result (Option (Statement × ℕ)) SqlError → Type 0
ReadsNext source tokens answer = (answer ≡ Err sql.Memory → ⊥) → scripts.says_next answer ≡ scripts.next source tokens

-- another is left than none
pub not_none : (answer : Result (Option (Statement × ℕ)) Unread) (x : Statement × ℕ) → answer ≡ Ok (Some x) → answer ≡ Ok None → ⊥
not_none answer x e none = let q : Ok (Some x) ≡ Ok None = sym e ∙ none in let z : ⊥ = cc in z

-- where nothing is left, that is told
abbrev pub EndsNext : List ℕ → List Token → Result (Option (Statement × ℕ)) SqlError → Type 0
EndsNext source tokens answer = scripts.next source tokens ≡ Ok None → answer ≡ Ok None

pub found : (source : List ℕ) (tokens : List Token) (answer : Result (Option (Statement × ℕ)) SqlError) (x : Option (Statement × ℕ)) → ReadsNext source tokens answer → answer ≡ Ok x → next source tokens ≡ Ok x
unfolding next
found source tokens answer x reads e =
    sym (reads (λ f. let q : Ok x ≡ Err sql.Memory = sym e ∙ f in let z : ⊥ = cc in z)) ∙ ap scripts.says_next e

-- a statement that is read has folded names
pub folded : (source : List ℕ) (tokens : List Token) (x : Statement) (n : ℕ) → next source tokens ≡ Ok (Some (x, n)) → DefinesFolded x
unfolding next
folded source tokens x n e = are_names_folded source tokens x n e

abbrev pub Told : SqlError → Refusal → Type 0
Told error r = (r ≡ of_unread (says error)) ⊎ (r ≡ Memory)

module _ {E C : Type 0} (l : Language Statement E) (host : Host) (is_honest is_clean : C → Type 0) (stands : C → State) where
  wants : (old : C) (x : Result (Option (Statement × ℕ)) _) (r : Refusal) → (x ≡ Ok None → ⊥) → (r ≡ Memory) ⊎ (r ≡ Memory) → Stops l host is_honest is_clean stands old x r old
  wants old x r some (inl e) = inr (inr (e, refl, some))
  wants old x r some (inr e) = inr (inr (e, refl, some))

  unread : (source : List ℕ) (tokens : List Token) (old : C) (answer : Result (Option (Statement × ℕ)) SqlError) (error : SqlError) (r : Refusal) → (error ≡ sql.Memory → ⊥)
      → ReadsNext source tokens answer → answer ≡ Err error → Told error r → Stops l host is_honest is_clean stands old (next source tokens) r old
  unfolding next
  unread source tokens old answer error r other reads e told =
      inl (says error, sym (reads (λ f. let q : Err error ≡ Err sql.Memory = sym e ∙ f in other cc)) ∙ ap scripts.says_next e, told, refl)

  pub stops_unread : (source : List ℕ) (tokens : List Token) (old : C) (answer : Result (Option (Statement × ℕ)) SqlError) (error : SqlError) (r : Refusal)
      → ReadsNext source tokens answer → EndsNext source tokens answer → answer ≡ Err error → Told error r → Stops l host is_honest is_clean stands old (next source tokens) r old
  unfolding next
  stops_unread source tokens old answer sql.Memory r reads ends e told =
      wants old (next source tokens) r (λ none. let q : Err sql.Memory ≡ Ok None = sym e ∙ ends none in let z : ⊥ = cc in z) told
  stops_unread source tokens old answer (sql.Syntax at) r reads ends e told = unread source tokens old answer (sql.Syntax at) r (λ q. let z : ⊥ = cc in z) reads e told
  stops_unread source tokens old answer (sql.OutOfProfile word) r reads ends e told = unread source tokens old answer (sql.OutOfProfile word) r (λ q. let z : ⊥ = cc in z) reads e told
  stops_unread source tokens old answer (sql.Limit which) r reads ends e told = unread source tokens old answer (sql.Limit which) r (λ q. let z : ⊥ = cc in z) reads e told

-- ---- whole scripts

short_is : (b : Bool) (xs ys : List (Piece Statement)) → b ≡ false → (if b then xs else ys) ≡ ys
short_is false xs ys e = refl
short_is true xs ys e = absurd (let q : ⊥ = cc in q)

long_is : (b : Bool) (xs ys : List (Piece Statement)) → b ≡ true → (if b then xs else ys) ≡ xs
long_is true xs ys e = refl
long_is false xs ys e = absurd (let q : ⊥ = cc in q)

module _ {C : Type 0} (function_of : List ℕ → ℕ → Option Definition) (scalar : ℕ → List Value → Result Value (List ℕ)) (step : ℕ → Value → List Value → Result Value (List ℕ)) (finish : ℕ → Value → Result Value (List ℕ))
    (order_of : OrderOf) (total : AreTotal order_of) (has : List ℕ → Bool) (host : Host) (is_honest is_clean : C → Type 0) (stands : C → State) (source : List ℕ) (old new : C) where
  abbrev language : Language Statement Ordered
  language = spoken function_of scalar step finish order_of total has

  -- what is left at the start is the whole script
  whole : (tokens : List Token) → (1000000 < length source → ⊥) → IsTokens source 0 tokens → language.pieces source ≡ pieces_left (length tokens) source tokens
  unfolding spoken pieces_left
  whole tokens short are =
      let within : length source ≤ 1000000 = omega (arith, short) in
      let same : tokens_of source ≡ tokens = one_list source 0 (tokens_of source) tokens (have_tokens source) are in
      short_is (nat_lt 1000000 (length source)) _ _ (le-ltb 1000000 (length source) within) ∙ ap (λ (ts : List Token). map piece (scripts.pieces source ts)) same

  pub heard_whole : {G : Type 0} (hears : G → G → List Event → Type 0) (g h : G) (tokens : List Token) (replies : List Reply) (why : Option Refusal) → (1000000 < length source → ⊥) → IsTokens source 0 tokens
      → HearsAll language host hears g (stands old) (pieces_left (length tokens) source tokens) replies why h → HearsAll language host hears g (stands old) (language.pieces source) replies why h
  heard_whole hears g h tokens replies why short are heard = subst (λ (ps : List (Piece Statement)). HearsAll language host hears g (stands old) ps replies why h) (sym (whole tokens short are)) heard

  pub carries_whole : (tokens : List Token) (replies : List Reply) (why : Option Refusal) → (1000000 < length source → ⊥) → IsTokens source 0 tokens
      → CarriesAll language host is_honest is_clean stands old (pieces_left (length tokens) source tokens) replies why new → CarriesAll language host is_honest is_clean stands old (language.pieces source) replies why new
  carries_whole tokens replies why short are h = subst (λ (ps : List (Piece Statement)). CarriesAll language host is_honest is_clean stands old ps replies why new) (sym (whole tokens short are)) h

  too_long_is : 1000000 < length source → language.pieces source ≡ too_long ∷ []
  unfolding spoken
  too_long_is long = long_is (nat_lt 1000000 (length source)) _ _ (lt-ltb 1000000 (length source) long)

  pub refuses_long : 1000000 < length source → CarriesAll language host is_honest is_clean stands old (language.pieces source) [] (Some (Limit limit.Script)) old
  refuses_long long = record {
    was_honest = λ honest. honest;
    was_clean = λ clean. clean;
    stays_clean = λ honest clean told. clean;
    runs = λ clean. subst (λ (ps : List (Piece Statement)). Runs language host (stands old) ps [] (Some (Limit limit.Script)) (stands old)) (sym (too_long_is long)) (inl (inl refl, refl));
  }

  pub wants_at_once : CarriesAll language host is_honest is_clean stands old (language.pieces source) [] (Some Memory) old
  wants_at_once = record {
    was_honest = λ honest. honest;
    was_clean = λ clean. clean;
    stays_clean = λ honest clean told. clean;
    runs = λ clean. wanting language host is_honest is_clean stands (stands old) (language.pieces source);
  }
