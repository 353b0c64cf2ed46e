-- What is left to evaluate of a list, step by step.
use Rattle.std.proofs.Common.{◌≡◌, ◌∙◌, ℕ, suc, ◌+◌, ◌<◌, Bool, true, false, List, [], ◌∷◌, ◌++◌, length, map, drop, get_or, Option, Some, Ok, Err, if◌then◌else◌, refl, sym, ap, subst, drop-cons, add-one, append_assoc}
use Rattle.cr_term.specs.declared.operator.Logic.TheVariants.{Or}
use Rattle.cr_value.specs.declared.value.Value.{Value}
use Rattle.cr_scalar.specs.declared.fault.EvalFault.{EvalFault}
use Rattle.cr_scalar.specs.Meaning.{Outcome, Meant, FaultsAs, and_then}
use Rattle.cr_scalar.specs.Numbers.{decides, joins, is_null}
use Rattle.cr_scalar.specs.Functions.{all_of, first_value}
use Rattle.cr_expr.specs.Setting.{Setting, over}
use Rattle.cr_expr.specs.Eval.{Meaning, Arm, Judged, each, in_of, is_taken, taken, if_any}
use Rattle.cr_expr.proofs.Nodes.{fault_through}

pub rest_at : {A : Type 0} (xs : List A) (i : ℕ) (x : A) → i < length xs → x ≡ get_or xs i x → drop i xs ≡ x ∷ drop (i + 1) xs
rest_at xs i x h e = rw (add-one, drop-cons xs i x h) (ap (λ (y : _). y ∷ drop (suc i) xs) (let s : get_or xs i x ≡ x = cc in s))

-- what is left, mapped
pub rest_of : {A B : Type 0} (f : A → B) (xs : List A) (i : ℕ) (x : A) → i < length xs → x ≡ get_or xs i x → map f (drop i xs) ≡ f x ∷ map f (drop (i + 1) xs)
rest_of f xs i x h e = ap (λ (ys : List _). map f ys) (rest_at xs i x h e)

-- a fault at the first step is that of the whole
pub fails_at : {A B : Type 0} (m : Outcome A) (f : A → Outcome B) (whole : Outcome B) (e : EvalFault) → FaultsAs m e → and_then m f ≡ whole → FaultsAs whole e
fails_at m f whole e h q = subst (λ (o : Outcome _). FaultsAs o e) q (fault_through m f e h)

-- ---- all values

push : {A : Type 0} (held : List A) (v : A) (o : Outcome (List A)) → and_then o (λ vs. Ok ((held ++ v ∷ []) ++ vs)) ≡ and_then (and_then o (λ vs. Ok (v ∷ vs))) (λ vs. Ok (held ++ vs))
push held v (Ok vs) = ap Ok (append_assoc held (v ∷ []) vs)
push held v (Err e) = refl

abbrev pub collected : {A : Type 0} → List A → List (Outcome A) → Outcome (List A)
collected held ms = and_then (all_of ms) (λ vs. Ok (held ++ vs))

pub all_next : {A : Type 0} (m : Outcome A) (ms rest : List (Outcome A)) (v : A) (held : List A) (whole : Outcome (List A)) → rest ≡ m ∷ ms → m ≡ Ok v → collected held rest ≡ whole → collected (held ++ v ∷ []) ms ≡ whole
all_next m ms rest v held whole r e h = push held v (all_of ms) ∙ (let k : collected held (Ok v ∷ ms) ≡ whole = ap (λ (n : Outcome _). collected held (n ∷ ms)) (sym e) ∙ ap (collected held) (sym r) ∙ h in k)

pub all_fails : {A : Type 0} (m : Outcome A) (ms rest : List (Outcome A)) (held : List A) (whole : Outcome (List A)) (e : EvalFault) → rest ≡ m ∷ ms → FaultsAs m e → collected held rest ≡ whole → FaultsAs whole e
all_fails m ms rest held whole e r h q = fails_at (all_of (m ∷ ms)) (λ vs. Ok (held ++ vs)) whole e (fault_through m (λ v. and_then (all_of ms) (λ vs. Ok (v ∷ vs))) e h) (ap (collected held) (sym r) ∙ q)

-- the argument rows of one more row of the group
pub row_next : (s : Setting) (args : List Meaning) (group : List (List Value)) (i : ℕ) (row vs : List Value) (held : List (List Value)) (whole : Outcome (List (List Value)))
    → i < length group → row ≡ get_or group i row → all_of (each args (over s row)) ≡ Ok vs
    → collected held (map (λ r. all_of (each args (over s r))) (drop i group)) ≡ whole → collected (held ++ vs ∷ []) (map (λ r. all_of (each args (over s r))) (drop (i + 1) group)) ≡ whole
row_next s args group i row vs held whole h e k q =
    let f : List Value → Outcome (List Value) = λ r. all_of (each args (over s r)) in
    all_next (f row) (map f (drop (i + 1) group)) (map f (drop i group)) vs held whole (rest_of f group i row h e) k q

-- a fault of a row's arguments
pub row_fails : (s : Setting) (args : List Meaning) (group : List (List Value)) (i : ℕ) (row : List Value) (held : List (List Value)) (whole : Outcome (List (List Value))) (e : EvalFault)
    → i < length group → row ≡ get_or group i row → FaultsAs (all_of (each args (over s row))) e
    → collected held (map (λ r. all_of (each args (over s r))) (drop i group)) ≡ whole → FaultsAs whole e
row_fails s args group i row held whole e h k f q =
    let g : List Value → Outcome (List Value) = λ r. all_of (each args (over s r)) in
    all_fails (g row) (map g (drop (i + 1) group)) (map g (drop i group)) held whole e (rest_of g group i row h k) f q

-- ---- the first value that is not NULL

pub first_next : (m : Meant) (ms rest : List Meant) (v : Value) (whole : Meant) → rest ≡ m ∷ ms → m ≡ Ok v → is_null v ≡ true → first_value rest ≡ whole → first_value ms ≡ whole
first_next m ms rest v whole r e n h = let k = rw (r, e) at h in rw n at k

pub first_found : (m : Meant) (ms rest : List Meant) (v : Value) (whole : Meant) → rest ≡ m ∷ ms → m ≡ Ok v → is_null v ≡ false → first_value rest ≡ whole → whole ≡ Ok v
first_found m ms rest v whole r e n h = let k = rw (r, e) at h in sym (rw n at k)

pub first_fails : (m : Meant) (ms rest : List Meant) (whole : Meant) (e : EvalFault) → rest ≡ m ∷ ms → FaultsAs m e → first_value rest ≡ whole → FaultsAs whole e
first_fails m ms rest whole e r h q = let k = rw r at q in fails_at m _ whole e h k

-- ---- IN

pub in_stops : (test : Value → Option Bool) (so_far : Option Bool) (m : Meant) (ms rest : List Meant) (whole : Judged) → rest ≡ m ∷ ms → decides Or so_far ≡ true → in_of test so_far rest ≡ whole → whole ≡ Ok so_far
in_stops test so_far m ms rest whole r d h = let k = rw r at h in sym (rw d at k)

in_goes : (test : Value → Option Bool) (so_far : Option Bool) (m : Meant) (ms rest : List Meant) (whole : Judged) → rest ≡ m ∷ ms → decides Or so_far ≡ false → in_of test so_far rest ≡ whole → and_then m (λ w. in_of test (joins Or so_far (test w)) ms) ≡ whole
in_goes test so_far m ms rest whole r d h = let k = rw r at h in rw d at k

pub in_next : (test : Value → Option Bool) (so_far : Option Bool) (m : Meant) (ms rest : List Meant) (w : Value) (whole : Judged) → rest ≡ m ∷ ms → decides Or so_far ≡ false → m ≡ Ok w → in_of test so_far rest ≡ whole → in_of test (joins Or so_far (test w)) ms ≡ whole
in_next test so_far m ms rest w whole r d e h = rw e at (in_goes test so_far m ms rest whole r d h)

pub in_fails : (test : Value → Option Bool) (so_far : Option Bool) (m : Meant) (ms rest : List Meant) (whole : Judged) (e : EvalFault) → rest ≡ m ∷ ms → decides Or so_far ≡ false → FaultsAs m e → in_of test so_far rest ≡ whole → FaultsAs whole e
in_fails test so_far m ms rest whole e r d h q = fails_at m _ whole e h (in_goes test so_far m ms rest whole r d q)

-- ---- CASE

arms_go : (s : Setting) (x : Option Value) (a : Arm) (arms rest : List Arm) (whole : Outcome (Option Value)) → rest ≡ a ∷ arms → taken s x rest ≡ whole
    → and_then (a.when s) (λ w. and_then (is_taken s.host.order x a.meeting w) (λ t. if t then if_any s (Some a.gives) else taken s x arms)) ≡ whole
arms_go s x a arms rest whole r h = rw r at h

arms_judged : (s : Setting) (x : Option Value) (a : Arm) (arms rest : List Arm) (whole : Outcome (Option Value)) (w : Value) → rest ≡ a ∷ arms → a.when s ≡ Ok w → taken s x rest ≡ whole
    → and_then (is_taken s.host.order x a.meeting w) (λ t. if t then if_any s (Some a.gives) else taken s x arms) ≡ whole
arms_judged s x a arms rest whole w r e h = rw e at (arms_go s x a arms rest whole r h)

-- an arm that is not taken
pub arms_next : (s : Setting) (x : Option Value) (a : Arm) (arms rest : List Arm) (whole : Outcome (Option Value)) (w : Value) → rest ≡ a ∷ arms → a.when s ≡ Ok w → is_taken s.host.order x a.meeting w ≡ Ok false → taken s x rest ≡ whole → taken s x arms ≡ whole
arms_next s x a arms rest whole w r e k h = rw k at (arms_judged s x a arms rest whole w r e h)

-- an arm that is taken
pub arms_found : (s : Setting) (x : Option Value) (a : Arm) (arms rest : List Arm) (whole : Outcome (Option Value)) (w : Value) → rest ≡ a ∷ arms → a.when s ≡ Ok w → is_taken s.host.order x a.meeting w ≡ Ok true → taken s x rest ≡ whole → if_any s (Some a.gives) ≡ whole
arms_found s x a arms rest whole w r e k h = rw k at (arms_judged s x a arms rest whole w r e h)

-- a fault of a condition
pub arms_fail : (s : Setting) (x : Option Value) (a : Arm) (arms rest : List Arm) (whole : Outcome (Option Value)) (e : EvalFault) → rest ≡ a ∷ arms → FaultsAs (a.when s) e → taken s x rest ≡ whole → FaultsAs whole e
arms_fail s x a arms rest whole e r h q = fails_at (a.when s) _ whole e h (arms_go s x a arms rest whole r q)

-- a fault as a condition is judged
pub arms_unjudged : (s : Setting) (x : Option Value) (a : Arm) (arms rest : List Arm) (whole : Outcome (Option Value)) (w : Value) (e : EvalFault) → rest ≡ a ∷ arms → a.when s ≡ Ok w → FaultsAs (is_taken s.host.order x a.meeting w) e → taken s x rest ≡ whole → FaultsAs whole e
arms_unjudged s x a arms rest whole w e r k h q = fails_at (is_taken s.host.order x a.meeting w) _ whole e h (arms_judged s x a arms rest whole w r k q)
