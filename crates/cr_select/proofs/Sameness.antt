-- Lists of expressions that are the same, one by one.
use Rattle.std.proofs.Common.{◌≡◌, ◌∙◌, ℕ, ◌+◌, ◌<◌, Bool, true, false, ◌&&◌, List, ◌∷◌, length, map, drop, get_or, Option, Some, sym, ap}
use Rattle.std.specs.Option.{option_map}
use Rattle.cr_term.specs.declared.expr.When.{When}
use Rattle.cr_term.specs.declared.expr.Expr.{Expr}
use Rattle.cr_term.specs.At.{at_is}
use Rattle.cr_term.specs.Same.{same, same_all, same_arms, same_if_any, test}
use Rattle.cr_questions.proofs.Folds.{rest_at}
use Rattle.cr_select.specs.Tests.{arm_test_of}

step : (xs ys zs : List Expr) (i : ℕ) (x y : Expr) → i < length xs → x ≡ get_or xs i x → ys ≡ y ∷ zs
    → same_all (map test (drop i xs)) ys ≡ (same x y && same_all (map test (drop (i + 1) xs)) zs)
step xs ys zs i x y h e k =
    ap (λ (ts : List Expr). same_all (map test ts) ys) (rest_at xs i x h e) ∙ ap (λ (ts : List Expr). same_all (map test (x ∷ drop (i + 1) xs)) ts) k
    ∙ ap (λ (b : Bool). b && same_all (map test (drop (i + 1) xs)) zs) (sym (at_is y (test x)))

pub all_next : (xs ys zs : List Expr) (i : ℕ) (x y : Expr) (whole : Bool) → i < length xs → x ≡ get_or xs i x → ys ≡ y ∷ zs → same x y ≡ true
    → same_all (map test (drop i xs)) ys ≡ whole → same_all (map test (drop (i + 1) xs)) zs ≡ whole
all_next xs ys zs i x y whole h e k t q = sym (step xs ys zs i x y h e k ∙ ap (λ (b : Bool). b && same_all (map test (drop (i + 1) xs)) zs) t) ∙ q

pub all_differ : (xs ys zs : List Expr) (i : ℕ) (x y : Expr) (whole : Bool) → i < length xs → x ≡ get_or xs i x → ys ≡ y ∷ zs → same x y ≡ false
    → same_all (map test (drop i xs)) ys ≡ whole → false ≡ whole
all_differ xs ys zs i x y whole h e k t q = sym (step xs ys zs i x y h e k ∙ ap (λ (b : Bool). b && same_all (map test (drop (i + 1) xs)) zs) t) ∙ q

-- ---- arms of a CASE

arm_tested : (xs ys zs : List When) (i : ℕ) (x y : When) (r : Bool) → i < length xs → x ≡ get_or xs i x → ys ≡ y ∷ zs → (same x.when y.when && same x.then y.then) ≡ r
    → same_arms (map arm_test_of (drop i xs)) ys ≡ (r && same_arms (map arm_test_of (drop (i + 1) xs)) zs)
arm_tested xs ys zs i x y r h e k t =
    let more : Bool = same_arms (map arm_test_of (drop (i + 1) xs)) zs in
    ap (λ (ts : List When). same_arms (map arm_test_of ts) ys) (rest_at xs i x h e) ∙ ap (λ (ts : List When). same_arms (map arm_test_of (x ∷ drop (i + 1) xs)) ts) k
    ∙ ap (λ (b : Bool). (b && test x.then y.then) && more) (sym (at_is y.when (test x.when)))
    ∙ ap (λ (b : Bool). (same x.when y.when && b) && more) (sym (at_is y.then (test x.then)))
    ∙ ap (λ (b : Bool). b && more) t

pub arms_next : (xs ys zs : List When) (i : ℕ) (x y : When) (whole : Bool) → i < length xs → x ≡ get_or xs i x → ys ≡ y ∷ zs → (same x.when y.when && same x.then y.then) ≡ true
    → same_arms (map arm_test_of (drop i xs)) ys ≡ whole → same_arms (map arm_test_of (drop (i + 1) xs)) zs ≡ whole
arms_next xs ys zs i x y whole h e k t q = sym (arm_tested xs ys zs i x y true h e k t) ∙ q

pub arms_differ : (xs ys zs : List When) (i : ℕ) (x y : When) (whole : Bool) → i < length xs → x ≡ get_or xs i x → ys ≡ y ∷ zs → (same x.when y.when && same x.then y.then) ≡ false
    → same_arms (map arm_test_of (drop i xs)) ys ≡ whole → false ≡ whole
arms_differ xs ys zs i x y whole h e k t q = sym (arm_tested xs ys zs i x y false h e k t) ∙ q

-- ---- expressions that need not be there

pub both : (l r : Option Expr) (x y x' y' : Expr) (b : Bool) → l ≡ Some x → r ≡ Some y → x' ≡ x → y' ≡ y → b ≡ same x' y' → b ≡ same_if_any (option_map test l) r
both l r x y x' y' b is there e k h =
    h ∙ at_is y' (test x') ∙ ap (λ (z : Expr). test z y') e ∙ ap (λ (z : Expr). test x z) k
    ∙ sym (ap (λ (o : Option Expr). same_if_any (option_map test o) r) is ∙ ap (λ (o : Option Expr). same_if_any (Some (test x)) o) there)
