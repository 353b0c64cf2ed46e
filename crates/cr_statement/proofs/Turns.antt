-- The loops over items, turn by turn.
use Rattle.std.proofs.Common.{◌≡◌, ℕ, zero, suc, true, false, List, [], ◌∷◌, length, Option, Result, Ok, Err, refl, sym, ap, subst, ◌∙◌}
use Rattle.cr_tree.specs.declared.limits.LimitKind.TheVariants as limits
use Rattle.cr_tree.specs.declared.limits.TheConstants.{LIMITS}
use Rattle.cr_tree.specs.declared.statement.Join.{Join}
use Rattle.cr_tree.specs.declared.symbol.Mark.TheVariants as m
use Rattle.cr_tree.specs.declared.symbol.Symbol.{Symbol}
use Rattle.cr_tree.specs.Marks.{is_mark}
use Rattle.cr_tree.specs.Reading.{Outcome, Reads, Fails, Limit, Parser, and_then, pure, many, many_from, up_to, sees, behind, listed, rest_of}
use Rattle.cr_tree.proofs.Repeats.{begins_next, up_turn, up_stop, up_out}
use Rattle.cr_parse.specs.declared.fault.Fault.{Fault}
use Rattle.cr_parse.specs.declared.fault.Fault.TheVariants as f
use Rattle.cr_parse.specs.Given.{Gives, Tells}
use Rattle.cr_parse.proofs.Turns.{marks_turn, marks_stop, many_ends, behind_seen}
use Rattle.cr_statement.specs.Queries.{begins_join, sees_join, join}
use Rattle.cr_statement.specs.Reading.{commas, by_option, found_from}

abbrev pub more : {A : Type 0} → Parser A → ℕ → List A → Parser (List A)
more p = many_from (is_mark m.Comma) (behind m.Comma p) listed

pub commas_start : {A : Type 0} (p : Parser A) (n : ℕ) (x : A) (all : List A) (ts rest : List Symbol) → p ts ≡ Reads x rest → n ≡ length rest → all ≡ x ∷ [] → more p n all rest ≡ commas p ts
unfolding commas many
commas_start p n x all ts rest r i j = ap (λ n. more p n all rest) i ∙ (ap (λ z. more p (length rest) z rest) j ∙ sym (ap (λ o. and_then o (λ a ts. more p (length ts) (a ∷ []) ts)) r))

pub commas_turn : {A : Type 0} (p : Parser A) (n n' : ℕ) (all : List A) (ts : List Symbol) → n ≡ suc n' → sees m.Comma ts ≡ true → more p n all ts ≡ and_then (p (rest_of ts)) (λ x. more p n' (listed all x))
commas_turn p n n' all ts i s = marks_turn m.Comma (behind m.Comma p) listed n n' all ts i s ∙ ap (λ o. and_then o (λ x. more p n' (listed all x))) (behind_seen m.Comma p ts s)

pub commas_stop : {A : Type 0} (p : Parser A) (n : ℕ) (all : List A) (ts : List Symbol) → sees m.Comma ts ≡ false → more p n all ts ≡ Reads all ts
commas_stop p n all ts h = marks_stop m.Comma (behind m.Comma p) listed n all ts h

pub commas_end : {A : Type 0} (p : Parser A) (n : ℕ) (all : List A) (ts : List Symbol) → n ≡ 0 → more p n all ts ≡ Reads all ts
commas_end p n all ts h = many_ends (is_mark m.Comma) (behind m.Comma p) listed n all ts h

-- ---- as many as are found

pub found_turn : {A : Type 0} (p : Parser (Option A)) (n n' : ℕ) (all : List A) (ts : List Symbol) → n ≡ suc n' → found_from p n all ts ≡ and_then (p ts) (by_option (pure all) (λ x. found_from p n' (listed all x)))
unfolding found_from
found_turn {A} p n n' all ts i = ap (λ n. found_from p n all ts) i ∙ at
  where
    at : found_from p (suc n') all ts ≡ and_then (p ts) (by_option (pure all) (λ x. found_from p n' (listed all x)))
    at = refl

pub found_end : {A : Type 0} (p : Parser (Option A)) (n : ℕ) (all : List A) (ts : List Symbol) → n ≡ 0 → found_from p n all ts ≡ Reads all ts
unfolding found_from
found_end {A} p n all ts i = ap (λ n. found_from p n all ts) i ∙ at
  where
    at : found_from p zero all ts ≡ Reads all ts
    at = refl

-- ---- what a function that reads gives

-- what takes no memory gives the same
pub told_gives : {A : Type 0} (o : Outcome A) (res : Result A Fault) (ts : List Symbol) → Tells (λ x. x) o res ts → Gives (λ x. x) o res ts
told_gives o (Ok x) ts t = t
told_gives o (Err f.Memory) ts t = tt
told_gives o (Err f.Syntax) ts t = t
told_gives o (Err (f.Limit x)) ts t = t

pub gives_read : {A : Type 0} (o : Outcome A) (x : A) (res : Result A Fault) (ts : List Symbol) → res ≡ Ok x → Gives (λ x. x) o res ts → o ≡ Reads x ts
gives_read o x res ts e g = subst (λ r. Gives (λ x. x) o r ts) e g

-- a refusal is handed on
pub gives_refused : {A B : Type 0} (o : Outcome A) (k : A → Parser B) (x : Fault) (res : Result A Fault) (res' : Result B Fault) (ts : List Symbol) → res ≡ Err x → res' ≡ Err x → Gives (λ x. x) o res ts → Gives {X = B} (λ x. x) (and_then o k) res' ts
gives_refused {A} {B} o k x res res' ts e e' g = subst (λ r. Gives {X = B} (λ x. x) (and_then o k) r ts) (sym e') (at x (subst (λ r. Gives (λ x. x) o r ts) e g))
  where
    at : (x : Fault) → Gives {X = A} (λ x. x) o (Err x) ts → Gives {X = B} (λ x. x) (and_then o k) (Err x) ts
    at f.Memory g = tt
    at f.Syntax g = ap (λ z. and_then z k) g
    at (f.Limit y) g = ap (λ z. and_then z k) g

-- ---- joins

joins_next : (ts : List Symbol) → sees_join ts ≡ begins_next begins_join ts
joins_next [] = refl
joins_next (t ∷ ts) = refl

-- as many as there may still be
abbrev pub more_joins : ℕ → List Join → Parser (List Join)
more_joins n = up_to limits.Tables begins_join (join LIMITS) listed n

pub joins_turn : (n n' : ℕ) (all : List Join) (ts : List Symbol) → n ≡ suc n' → sees_join ts ≡ true → more_joins n all ts ≡ and_then (join LIMITS ts) (λ x. more_joins n' (listed all x))
joins_turn n n' all ts i h = up_turn limits.Tables begins_join (join LIMITS) listed n n' all ts i (sym (joins_next ts) ∙ h)

pub joins_stop : (n : ℕ) (all : List Join) (ts : List Symbol) → sees_join ts ≡ false → more_joins n all ts ≡ Reads all ts
joins_stop n all ts h = up_stop limits.Tables begins_join (join LIMITS) listed n all ts (sym (joins_next ts) ∙ h)

pub joins_out : (n : ℕ) (all : List Join) (ts : List Symbol) → n ≡ 0 → sees_join ts ≡ true → more_joins n all ts ≡ Fails (Limit limits.Tables) ts
joins_out n all ts i h = up_out limits.Tables begins_join (join LIMITS) listed n all ts i (sym (joins_next ts) ∙ h)
