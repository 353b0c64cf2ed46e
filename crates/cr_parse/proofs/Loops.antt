-- The loops over items and arms, turn by turn.
use Rattle.std.proofs.Common.{◌≡◌, ℕ, suc, true, false, List, [], ◌∷◌, length, sym, ap, ◌∙◌}
use Rattle.cr_tree.specs.declared.limits.LimitKind.TheVariants as limits
use Rattle.cr_tree.specs.declared.limits.Limits.{Limits}
use Rattle.cr_tree.specs.declared.symbol.Mark.TheVariants as m
use Rattle.cr_tree.specs.declared.symbol.Symbol.{Symbol}
use Rattle.cr_tree.specs.declared.expr.Expr.{Expr}
use Rattle.cr_tree.specs.declared.expr.When.{When}
use Rattle.cr_tree.specs.Marks.{is_mark}
use Rattle.cr_tree.specs.Reading.{Reads, Fails, Limit, Parser, Listed, Armed, and_then, many, many_from, up_to, sees, behind, rest_of, add_item, add_arm, rules_of, items, arguments, arm, arms}
use Rattle.cr_parse.proofs.Turns.{marks_turn, marks_stop, many_ends, behind_seen, marks_up_turn, marks_up_stop, marks_up_out}

abbrev pub the_arm : Limits → Parser (When × ℕ)
the_arm lim = arm lim (rules_of lim)

abbrev pub more_items : Limits → ℕ → Listed → Parser Listed
more_items lim = many_from (is_mark m.Comma) (behind m.Comma (rules_of lim).argument) add_item

abbrev pub more_arms : Limits → ℕ → Armed → Parser Armed
more_arms lim = many_from (is_mark m.When) (the_arm lim) add_arm

abbrev pub all_items : Limits → Parser Listed
all_items lim = items lim (rules_of lim)

abbrev pub all_arms : Limits → Parser Armed
all_arms lim = arms lim (rules_of lim)

pub items_start : (lim : Limits) (n h : ℕ) (x : Expr) (all : List Expr) (ts rest : List Symbol) → (rules_of lim).argument ts ≡ Reads (x, h) rest → n ≡ length rest → all ≡ x ∷ [] → more_items lim n (all, h) rest ≡ all_items lim ts
unfolding items many
items_start lim n h x all ts rest r i j = ap (λ n. more_items lim n (all, h) rest) i ∙ (ap (λ z. more_items lim (length rest) (z, h) rest) j
    ∙ sym (ap (λ o. and_then o (λ x ts. more_items lim (length ts) (x.0 ∷ [], x.1) ts)) r))

pub arms_start : (lim : Limits) (n h : ℕ) (x : When) (all : List When) (ts rest : List Symbol) → the_arm lim ts ≡ Reads (x, h) rest → n ≡ length rest → all ≡ x ∷ [] → more_arms lim n (all, h) rest ≡ all_arms lim ts
unfolding arms many
arms_start lim n h x all ts rest r i j = ap (λ n. more_arms lim n (all, h) rest) i ∙ (ap (λ z. more_arms lim (length rest) (z, h) rest) j
    ∙ sym (ap (λ o. and_then o (λ x ts. more_arms lim (length ts) (x.0 ∷ [], x.1) ts)) r))

pub items_turn : (lim : Limits) (n n' h : ℕ) (all : List Expr) (ts : List Symbol) → n ≡ suc n' → sees m.Comma ts ≡ true
    → more_items lim n (all, h) ts ≡ and_then ((rules_of lim).argument (rest_of ts)) (λ x. more_items lim n' (add_item (all, h) x))
items_turn lim n n' h all ts i s = marks_turn m.Comma (behind m.Comma (rules_of lim).argument) add_item n n' (all, h) ts i s
    ∙ ap (λ o. and_then o (λ x. more_items lim n' (add_item (all, h) x))) (behind_seen m.Comma (rules_of lim).argument ts s)

pub arms_turn : (lim : Limits) (n n' h : ℕ) (all : List When) (ts : List Symbol) → n ≡ suc n' → sees m.When ts ≡ true
    → more_arms lim n (all, h) ts ≡ and_then (the_arm lim ts) (λ x. more_arms lim n' (add_arm (all, h) x))
arms_turn lim n n' h all ts i s = marks_turn m.When (the_arm lim) add_arm n n' (all, h) ts i s

pub items_stop : (lim : Limits) (n : ℕ) (a : Listed) (ts : List Symbol) → sees m.Comma ts ≡ false → more_items lim n a ts ≡ Reads a ts
items_stop lim n a ts h = marks_stop m.Comma (behind m.Comma (rules_of lim).argument) add_item n a ts h

pub items_end : (lim : Limits) (n : ℕ) (a : Listed) (ts : List Symbol) → n ≡ 0 → more_items lim n a ts ≡ Reads a ts
items_end lim n a ts h = many_ends (is_mark m.Comma) (behind m.Comma (rules_of lim).argument) add_item n a ts h

pub arms_stop : (lim : Limits) (n : ℕ) (a : Armed) (ts : List Symbol) → sees m.When ts ≡ false → more_arms lim n a ts ≡ Reads a ts
arms_stop lim n a ts h = marks_stop m.When (the_arm lim) add_arm n a ts h

pub arms_end : (lim : Limits) (n : ℕ) (a : Armed) (ts : List Symbol) → n ≡ 0 → more_arms lim n a ts ≡ Reads a ts
arms_end lim n a ts h = many_ends (is_mark m.When) (the_arm lim) add_arm n a ts h

-- ---- arguments

abbrev pub more_arguments : Limits → ℕ → Listed → Parser Listed
more_arguments lim = up_to limits.Arguments (is_mark m.Comma) (behind m.Comma (rules_of lim).argument) add_item

pub arguments_start : (lim : Limits) (n h : ℕ) (x : Expr) (all : List Expr) (ts rest : List Symbol) → (rules_of lim).argument ts ≡ Reads (x, h) rest → n ≡ lim.commas → all ≡ x ∷ [] → more_arguments lim n (all, h) rest ≡ arguments lim (rules_of lim) ts
unfolding arguments
arguments_start lim n h x all ts rest r i j = ap (λ n. more_arguments lim n (all, h) rest) i ∙ ap (λ z. more_arguments lim lim.commas (z, h) rest) j ∙ sym (ap (λ o. and_then o (λ x. more_arguments lim lim.commas (x.0 ∷ [], x.1))) r)

pub arguments_turn : (lim : Limits) (n n' h : ℕ) (all : List Expr) (ts : List Symbol) → n ≡ suc n' → sees m.Comma ts ≡ true
    → more_arguments lim n (all, h) ts ≡ and_then ((rules_of lim).argument (rest_of ts)) (λ x. more_arguments lim n' (add_item (all, h) x))
arguments_turn lim n n' h all ts i s = marks_up_turn limits.Arguments m.Comma (behind m.Comma (rules_of lim).argument) add_item n n' (all, h) ts i s
    ∙ ap (λ o. and_then o (λ x. more_arguments lim n' (add_item (all, h) x))) (behind_seen m.Comma (rules_of lim).argument ts s)

pub arguments_stop : (lim : Limits) (n : ℕ) (a : Listed) (ts : List Symbol) → sees m.Comma ts ≡ false → more_arguments lim n a ts ≡ Reads a ts
arguments_stop lim n a ts h = marks_up_stop limits.Arguments m.Comma (behind m.Comma (rules_of lim).argument) add_item n a ts h

pub arguments_out : (lim : Limits) (n : ℕ) (a : Listed) (ts : List Symbol) → n ≡ 0 → sees m.Comma ts ≡ true → more_arguments lim n a ts ≡ Fails (Limit limits.Arguments) ts
arguments_out lim n a ts i h = marks_up_out limits.Arguments m.Comma (behind m.Comma (rules_of lim).argument) add_item n a ts i h
