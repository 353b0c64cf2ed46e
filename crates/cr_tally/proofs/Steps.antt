-- What an aggregate gives of rows, from what it gave of those in front.
use Rattle.std.proofs.Common.{◌≡◌, ◌∙◌, ℕ, ◌+◌, ℤ, pos, ◌+ℤ◌, Bool, true, false, not, cond, List, [], ◌∷◌, ◌++◌, length, map, Option, Ok, Err, refl, sym, ap, arith}
use Rattle.std.specs.Prelude.{IfOk, Result, filter, if◌then◌else◌}
use Rattle.std.specs.Option.{ForSome}
use Rattle.std.specs.declared.alloc.AllocError.{AllocError}
use Rattle.std.specs.List.{AllByRecursion, best_of}
use Rattle.std.proofs.lemmas.Int.{ints}
use Rattle.std.proofs.lemmas.List.{length-append, map-append}
use Rattle.cr_value.specs.declared.value.Value.{Value}
use Rattle.cr_value.specs.declared.value.Value.TheVariants.{Int}
use Rattle.cr_term.specs.declared.operator.Aggregate.{Aggregate}
use Rattle.cr_term.specs.declared.operator.Aggregate.TheVariants.{CountAll, Count, Max, Min, Sum, Host}
use Rattle.cr_scalar.specs.Host.{Host as Means}
use Rattle.cr_scalar.specs.Meaning.{Outcome, and_then}
use Rattle.cr_scalar.specs.declared.fault.EvalFault.TheVariants.{Overflow}
use Rattle.cr_scalar.specs.Numbers.{in_range, is_null, number_of}
use Rattle.cr_scalar.specs.Functions.{extreme, first}
use Rattle.cr_scalar.specs.Aggregates.{or_zero, ranks_before, sum_of, total, values}
use Rattle.cr_touched.proofs.Parts.{filter-append}
use Rattle.cr_tally.specs.Tallies.{gives, is_built_in, is_count}

abbrev pub fine : {A : Type 0} → A → Outcome A
fine x = Ok x

pub ok_is : {A : Type 0} {x y : A} → fine x ≡ fine y → x ≡ y
ok_is e = cc

-- ---- the values of rows

pub values-append : (xs ys : List (List Value)) → values (xs ++ ys) ≡ values xs ++ values ys
values-append xs ys = ap (filter (λ v. not (is_null v))) (map-append first xs ys) ∙ filter-append (λ v. not (is_null v)) (map first xs) (map first ys)

-- a value in front of those of further rows, unless it is NULL
abbrev led_by : Value → List Value → List Value
led_by v vs = cond (not (is_null v)) (v ∷ vs) vs

turned : (b : Bool) → not b ≡ true → b ≡ false
turned true e = absurd cc
turned false e = refl

abbrev NoneNull : List Value → Type 0
NoneNull vs = AllByRecursion (λ v. is_null v ≡ false) vs

none_null : (vs : List Value) → NoneNull (filter (λ v. not (is_null v)) vs)
none_null [] = tt
none_null (v ∷ vs) =
    elim (not (is_null v)) as (λ b. not (is_null v) ≡ b → NoneNull (cond b (v ∷ filter (λ w. not (is_null w)) vs) (filter (λ w. not (is_null w)) vs))) [
      | true ↦ λ e. (turned (is_null v) e, none_null vs)
      | false ↦ λ e. none_null vs
    ] refl

-- ---- sums

head_then : (o : Outcome (Option ℤ)) (t u w : Outcome ℤ) (a : ℤ) → and_then o (λ n. and_then t (λ z. Ok (or_zero n +ℤ z))) ≡ Ok a
    → ((b : ℤ) → t ≡ Ok b → u ≡ and_then w (λ z. Ok (b +ℤ z))) → and_then o (λ n. and_then u (λ z. Ok (or_zero n +ℤ z))) ≡ and_then w (λ z. Ok (a +ℤ z))
head_then (Err f) t u w a e more = absurd cc
head_then (Ok n) (Err f) u w a e more = absurd cc
head_then (Ok n) (Ok b) u w a e more = ap (λ (o : Outcome ℤ). and_then o (λ z. Ok (or_zero n +ℤ z))) (more b refl) ∙ by w where
  by : (w : Outcome ℤ) → and_then (and_then w (λ z. Ok (b +ℤ z))) (λ z. Ok (or_zero n +ℤ z)) ≡ and_then w (λ z. Ok (a +ℤ z))
  by (Err f) = refl
  by (Ok z) = let is : or_zero n +ℤ b ≡ a = ok_is e in ap (λ k. Ok k) (let same : or_zero n +ℤ (b +ℤ z) ≡ a +ℤ z = omega (arith, ints, is) in same)

nothing_first : (w : Outcome ℤ) (a : ℤ) → pos 0 ≡ a → w ≡ and_then w (λ z. Ok (a +ℤ z))
nothing_first (Err f) a e = refl
nothing_first (Ok z) a e = ap (λ k. Ok k) (let same : z ≡ a +ℤ z = omega (arith, ints, e) in same)

total_after : (vs ws : List Value) (a : ℤ) → total vs ≡ Ok a → total (vs ++ ws) ≡ and_then (total ws) (λ z. Ok (a +ℤ z))
total_after [] ws a e = nothing_first (total ws) a (ok_is e)
total_after (v ∷ vs) ws a e = head_then (number_of v) (total vs) (total (vs ++ ws)) (total ws) a e (λ b is. total_after vs ws b is)

ranged_is : (b : Bool) (z : ℤ) (v : Value) → (if b then fine (Int z) else Err Overflow) ≡ fine v → v ≡ Int z
ranged_is true z v e = sym (ok_is e)
ranged_is false z v e = absurd cc

sum_is : (t : Outcome ℤ) (s : Value) → and_then t in_range ≡ Ok s → (a : ℤ) × (t ≡ Ok a) × (s ≡ Int a)
sum_is (Err f) s e = absurd cc
sum_is (Ok a) s e = (a, refl, ranged_is _ a s e)

sum_next : (vs ws : List Value) (s x : Value) → sum_of vs ≡ Ok s → sum_of (led_by s ws) ≡ Ok x → sum_of (vs ++ ws) ≡ Ok x
sum_next [] ws s x e f = ap (λ v. sum_of (led_by v ws)) (ok_is e) ∙ f
sum_next (v ∷ vs) ws s x e f =
    let is = sum_is (total (v ∷ vs)) s e in
    ap (λ t. and_then t in_range) (total_after (v ∷ vs) ws is.0 is.1) ∙ ap (λ w. sum_of (led_by w ws)) (sym is.2) ∙ f

-- ---- the least and the greatest

module _ (before : Value → Value → Bool) where
  best_after : (v : Value) (us ws : List Value) → best_of before v (us ++ ws) ≡ best_of before (best_of before v us) ws
  best_after v [] ws = refl
  best_after v (u ∷ us) ws = best_after (cond (before u v) u v) us ws

  best_there : (v : Value) (us : List Value) → is_null v ≡ false → NoneNull us → is_null (best_of before v us) ≡ false
  best_there v [] there all = there
  best_there v (u ∷ us) there all = best_there (cond (before u v) u v) us (elim (before u v) as (λ b. is_null (cond b u v) ≡ false) [ true ↦ all.0 | false ↦ there ]) all.1

  extreme_next : (vs ws : List Value) (s : Value) → NoneNull vs → extreme before vs ≡ s → extreme before (led_by s ws) ≡ extreme before (vs ++ ws)
  extreme_next [] ws s all e = ap (λ v. extreme before (led_by v ws)) (sym e)
  extreme_next (v ∷ vs) ws s all e =
      let there : is_null s ≡ false = ap is_null (sym e) ∙ best_there v vs all.0 all.1 in
      ap (λ b. extreme before (cond (not b) (s ∷ ws) ws)) there
      ∙ ap (λ w. best_of before w ws) (sym e)
      ∙ sym (best_after v vs ws)

-- ---- counts

count_sum : (n m : ℕ) (c w v : Value) → Int (pos n) ≡ c → Int (pos m) ≡ w → sum_of (values ((c ∷ []) ∷ (w ∷ []) ∷ [])) ≡ Ok v → Int (pos (n + m)) ≡ v
count_sum n m c w v c_is w_is e =
    let there : sum_of (Int (pos n) ∷ Int (pos m) ∷ []) ≡ Ok v = (λ i. sum_of (values ((c_is i ∷ []) ∷ (w_is i ∷ []) ∷ []))) ∙ e in
    let is : v ≡ Int (pos n +ℤ (pos m +ℤ pos 0)) = ranged_is _ (pos n +ℤ (pos m +ℤ pos 0)) v there in
    ap (λ z. Int z) (let same : pos (n + m) ≡ pos n +ℤ (pos m +ℤ pos 0) = omega (arith, ints) in same) ∙ sym is

module _ (means : Means) (seen rows : List (List Value)) where
  pub count_next : (kind : Aggregate) (c w v : Value) → is_count kind ≡ true → gives means kind seen ≡ Ok c → gives means kind rows ≡ Ok w
      → gives means Sum ((c ∷ []) ∷ (w ∷ []) ∷ []) ≡ Ok v → gives means kind (seen ++ rows) ≡ Ok v
  count_next CountAll c w v is e f g = ap (λ k. Ok k) (ap (λ n. Int (pos n)) (length-append seen rows) ∙ count_sum (length seen) (length rows) c w v (ok_is e) (ok_is f) g)
  count_next Count c w v is e f g =
      ap (λ k. Ok k)
      (ap (λ (vs : List Value). Int (pos (length vs))) (values-append seen rows)
      ∙ ap (λ n. Int (pos n)) (length-append (values seen) (values rows))
      ∙ count_sum (length (values seen)) (length (values rows)) c w v (ok_is e) (ok_is f) g)
  count_next (Max name) c w v is e f g = absurd cc
  count_next (Min name) c w v is e f g = absurd cc
  count_next Sum c w v is e f g = absurd cc
  count_next (Host name) c w v is e f g = absurd cc

  best_next : (is_greatest : Bool) (name : List ℕ) (s v : Value) → extreme (ranks_before (means.order name) is_greatest) (values seen) ≡ s
      → extreme (ranks_before (means.order name) is_greatest) (values ((s ∷ []) ∷ rows)) ≡ v → extreme (ranks_before (means.order name) is_greatest) (values (seen ++ rows)) ≡ v
  best_next is_greatest name s v e f =
      ap (extreme (ranks_before (means.order name) is_greatest)) (values-append seen rows)
      ∙ sym (extreme_next (ranks_before (means.order name) is_greatest) (values seen) (values rows) s (none_null (map first seen)) e)
      ∙ f

  pub value_next : (kind : Aggregate) (s v : Value) → is_built_in kind ≡ true → is_count kind ≡ false → gives means kind seen ≡ Ok s
      → gives means kind ((s ∷ []) ∷ rows) ≡ Ok v → gives means kind (seen ++ rows) ≡ Ok v
  value_next CountAll s v own is e f = absurd cc
  value_next Count s v own is e f = absurd cc
  value_next (Max name) s v own is e f = ap (λ k. Ok k) (best_next true name s v (ok_is e) (ok_is f))
  value_next (Min name) s v own is e f = ap (λ k. Ok k) (best_next false name s v (ok_is e) (ok_is f))
  value_next Sum s v own is e f = ap sum_of (values-append seen rows) ∙ sum_next (values seen) (values rows) s v e f
  value_next (Host name) s v own is e f = absurd cc

-- ---- the same of what a call gives

pub count_then : (means : Means) (kind : Aggregate) (rows : List (List Value)) (c w : Value) (two : List (List Value)) (result : Result (Option Value) AllocError) → is_count kind ≡ true → gives means kind rows ≡ Ok w
    → two ≡ (c ∷ []) ∷ (w ∷ []) ∷ [] → IfOk result (λ o. ForSome o (λ v. gives means Sum two ≡ Ok v))
    → IfOk result (λ o. ForSome o (λ v. (seen : List (List Value)) → gives means kind seen ≡ Ok c → gives means kind (seen ++ rows) ≡ Ok v))
count_then means kind rows c w two (Ok o) is f are told = λ v e seen there. count_next means seen rows kind c w v is there f (ap (gives means Sum) (sym are) ∙ told v e)
count_then means kind rows c w two (Err x) is f are told = tt

pub value_then : (means : Means) (kind : Aggregate) (rows : List (List Value)) (s : Value) (all : List (List Value)) (result : Result (Option Value) AllocError) → is_built_in kind ≡ true → is_count kind ≡ false
    → all ≡ (s ∷ []) ∷ rows → IfOk result (λ o. ForSome o (λ v. gives means kind all ≡ Ok v))
    → IfOk result (λ o. ForSome o (λ v. (seen : List (List Value)) → gives means kind seen ≡ Ok s → gives means kind (seen ++ rows) ≡ Ok v))
value_then means kind rows s all (Ok o) own is are told = λ v e seen there. value_next means seen rows kind s v own is there (ap (gives means kind) (sym are) ∙ told v e)
value_then means kind rows s all (Err x) own is are told = tt
