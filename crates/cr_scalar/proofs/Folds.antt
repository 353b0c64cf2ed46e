-- What is left of a fold, and what a sort gives.
use Rattle.std.proofs.Common.{◌≡◌, ℤ, pos, ◌+ℤ◌, not, Bool, List, ◌∷◌, map, filter, Option, Some, None, Ok, Err, refl, sym, ap, ◌∙◌}
use Rattle.std.specs.List.{best_of}
use Rattle.std.proofs.Math.IntN.{+ℤ_idl, +ℤ_assoc}
use denote.Ref.{Bor}
use Rattle.cr_value.specs.declared.value.Value.{Value}
use Rattle.cr_value.specs.declared.value.Value.TheVariants.{Null, Int, Text, Blob}
use Rattle.cr_scalar.specs.declared.fault.EvalFault.{EvalFault}
use Rattle.cr_scalar.specs.Meaning.{Outcome, and_then}
use Rattle.cr_scalar.specs.Numbers.{is_null, number_of}
use Rattle.cr_scalar.specs.Functions.{extreme, first}
use Rattle.cr_scalar.specs.Aggregates.{values, or_zero, number_in, total}

-- the best of what is left, and of what was best before, if there was one
abbrev pub best_from : (Value → Value → Bool) → Option (Bor Value) → List Value → Value
best_from before None vs = extreme before vs
best_from before (Some b) vs = best_of before b.now vs

after_both : {A B C : Type 0} (o : Outcome A) (f : A → Outcome B) (g : B → Outcome C) → and_then (and_then o f) g ≡ and_then o (λ a. and_then (f a) g)
after_both (Ok a) f g = refl
after_both (Err e) f g = refl

nothing_more : (o : Outcome ℤ) → and_then o (λ z. Ok (pos 0 +ℤ z)) ≡ o
nothing_more (Ok z) = ap Ok (+ℤ_idl z)
nothing_more (Err e) = refl

abbrev sum_with : ℤ → Outcome ℤ → Outcome ℤ
sum_with n o = and_then o (λ z. Ok (n +ℤ z))

-- NULL adds nothing, so each value counts as the number that it has
counted : (v : Value) (vs : List Value) → total (filter (λ w. not (is_null w)) (v ∷ vs)) ≡ and_then (and_then (number_of v) (λ n. Ok (or_zero n))) (λ n. sum_with n (total (filter (λ w. not (is_null w)) vs)))
counted Null vs = sym (nothing_more (total (filter (λ w. not (is_null w)) vs)))
counted (Int k) vs = refl
counted (Text t) vs = sym (after_both (number_of (Text t)) (λ n. Ok (or_zero n)) (λ n. sum_with n (total (filter (λ w. not (is_null w)) vs))))
counted (Blob b) vs = refl

regrouped : (a n : ℤ) (o : Outcome ℤ) → sum_with a (sum_with n o) ≡ sum_with (a +ℤ n) o
regrouped a n (Ok z) = ap Ok (sym (+ℤ_assoc a n z))
regrouped a n (Err e) = refl

abbrev summed : Outcome ℤ → Outcome ℤ → Outcome ℤ
summed m o = and_then m (λ n. sum_with n o)

pub total_step : (a n : ℤ) (row : List Value) (rows : List (List Value)) → number_in row ≡ Ok n → and_then (total (values (row ∷ rows))) (λ z. Ok (a +ℤ z)) ≡ and_then (total (values rows)) (λ z. Ok ((a +ℤ n) +ℤ z))
total_step a n row rows e =
    ap (sum_with a) (counted (first row) (map first rows) ∙ ap (λ m. summed m (total (values rows))) e) ∙ regrouped a n (total (values rows))

pub total_fault : (a : ℤ) (f : EvalFault) (row : List Value) (rows : List (List Value)) → number_in row ≡ Err f → and_then (total (values (row ∷ rows))) (λ z. Ok (a +ℤ z)) ≡ Err f
total_fault a f row rows e = ap (sum_with a) (counted (first row) (map first rows) ∙ ap (λ m. summed m (total (values rows))) e)
