-- Without the limit of size a value stays what it is.
use Rattle.std.proofs.Common.{◌≡◌, ◌≢◌, ℕ, Bool, true, false, List, [], ◌∷◌, map, length, Option, Some, None, Ok, Err, if◌then◌else◌, nat_le, refl, ap, sym, subst}
use Rattle.std.specs.Option.{option_map}
use Rattle.cr_value.specs.declared.value.Value.{Value}
use Rattle.cr_term.specs.declared.expr.When.{When, roll-When, map-When}
use Rattle.cr_term.specs.declared.operator.Logic.{Logic as Junction}
use Rattle.cr_term.specs.declared.operator.Logic.TheVariants as logic
use Rattle.cr_term.specs.declared.operator.Comparison.TheVariants as c
use Rattle.cr_term.specs.declared.operator.BuiltIn.{BuiltIn as Own}
use Rattle.cr_term.specs.declared.expr.Expr.{Expr, roll-Expr, map-Expr}
use Rattle.cr_term.specs.declared.expr.Expr.TheOpen.{Expr-F, When-F, Literal, Param, Column, Shown, Unary, Arithmetic, Join, Like, Logic, Compare, Collate, Cast, In, Between, Case, BuiltIn, Host, Aggregate, SiteId, DbVersion}
use Rattle.cr_term.specs.declared.expr.Expr.TheFolds.{fold-roll-Expr, fold-roll-When, ind-Expr}
use Rattle.cr_scalar.specs.declared.fault.EvalFault.TheVariants.{Overflow, NotANumber, NotUtf8, Host as Said, TooBig, Memory}
use Rattle.cr_value.specs.Size.{value_len}
use Rattle.cr_scalar.specs.Meaning.{Outcome, Meant, and_then, bounded, of_host}
use Rattle.cr_scalar.specs.Numbers.{truth, truth_value, is_null, decides, joins, unary_of, arithmetic_of}
use Rattle.cr_scalar.specs.Compare.{Orders, compared}
use Rattle.cr_scalar.specs.Texts.{join_of, like_of, cast_of}
use Rattle.cr_scalar.specs.Functions.{all_of, first_value, call_of, takes_first, built_in}
use Rattle.cr_scalar.specs.Aggregates.{aggregate_of}
use Rattle.cr_expr.specs.Setting.{Setting, over}
use Rattle.cr_expr.specs.Eval.{Meaning, Arm, node, arm, layer, meaning, arm_of, eval_of, each, if_any, or_null, is_taken, taken, value_or, turned, logic_of, equals, in_of}
use Rattle.cr_expr.specs.Laws.{unlimited, LimitTakesAway}

-- the second outcome is the first, unless that is TooBig
abbrev Under : {A : Type 0} → Outcome A → Outcome A → Type 0
Under (Ok a) n = n ≡ Ok a
Under (Err Overflow) n = n ≡ Err Overflow
Under (Err NotANumber) n = n ≡ Err NotANumber
Under (Err NotUtf8) n = n ≡ Err NotUtf8
Under (Err (Said text)) n = n ≡ Err (Said text)
Under (Err TooBig) n = Unit {0}
Under (Err Memory) n = n ≡ Err Memory

same : {A : Type 0} (m : Outcome A) → Under m m
same (Ok a) = refl
same (Err Overflow) = refl
same (Err NotANumber) = refl
same (Err NotUtf8) = refl
same (Err (Said text)) = refl
same (Err TooBig) = tt
same (Err Memory) = refl

next : {A B : Type 0} (m n : Outcome A) (f g : A → Outcome B) → Under m n → ((a : A) → Under (f a) (g a)) → Under (and_then m f) (and_then n g)
next (Ok a) n f g h k = subst (λ o. Under (f a) (and_then o g)) (sym h) (k a)
next (Err Overflow) n f g h k = ap (λ o. and_then o g) h
next (Err NotANumber) n f g h k = ap (λ o. and_then o g) h
next (Err NotUtf8) n f g h k = ap (λ o. and_then o g) h
next (Err (Said text)) n f g h k = ap (λ o. and_then o g) h
next (Err TooBig) n f g h k = tt
next (Err Memory) n f g h k = ap (λ o. and_then o g) h

-- a step that is the same on both sides
after : {A B : Type 0} (m n : Outcome A) (f : A → Outcome B) → Under m n → Under (and_then m f) (and_then n f)
after m n f h = next m n f f h (λ a. same (f a))

-- ---- lists of parts

abbrev Alike : {A : Type 0} → List (Outcome A) → List (Outcome A) → Type 0
Alike [] [] = Unit {0}
Alike (m ∷ ms) (n ∷ ns) = Under m n × Alike ms ns
Alike [] (n ∷ ns) = ⊥
Alike (m ∷ ms) [] = ⊥

all_under : {A : Type 0} (ms ns : List (Outcome A)) → Alike ms ns → Under (all_of ms) (all_of ns)
all_under [] [] h = refl
all_under (m ∷ ms) (n ∷ ns) h = next m n _ _ h.0 (λ v. after (all_of ms) (all_of ns) (λ vs. Ok (v ∷ vs)) (all_under ms ns h.1))
all_under [] (n ∷ ns) h = absurd h
all_under (m ∷ ms) [] h = absurd h

first_chosen : (ms ns : List Meant) (v : Value) (b : Bool) → Under (first_value ms) (first_value ns) → Under (if b then first_value ms else Ok v) (if b then first_value ns else Ok v)
first_chosen ms ns v true h = h
first_chosen ms ns v false h = refl

first_under : (ms ns : List Meant) → Alike ms ns → Under (first_value ms) (first_value ns)
first_under [] [] h = refl
first_under (m ∷ ms) (n ∷ ns) h = next m n _ _ h.0 (λ v. first_chosen ms ns v (is_null v) (first_under ms ns h.1))
first_under [] (n ∷ ns) h = absurd h
first_under (m ∷ ms) [] h = absurd h

in_chosen : {A : Type 0} (b : Bool) (t : A) (m n : Meant) (f g : Value → Outcome A) → Under m n → ((w : Value) → Under (f w) (g w)) → Under (if b then Ok t else and_then m f) (if b then Ok t else and_then n g)
in_chosen true t m n f g h k = refl
in_chosen false t m n f g h k = next m n f g h k

in_under : (test : Value → Option Bool) (so_far : Option Bool) (ms ns : List Meant) → Alike ms ns → Under (in_of test so_far ms) (in_of test so_far ns)
in_under test so_far [] [] h = refl
in_under test so_far (m ∷ ms) (n ∷ ns) h = in_chosen (decides logic.Or so_far) so_far m n _ _ h.0 (λ w. in_under test (joins logic.Or so_far (test w)) ms ns h.1)
in_under test so_far [] (n ∷ ns) h = absurd h
in_under test so_far (m ∷ ms) [] h = absurd h

call_under : (order : Orders) (f : Own) (ms ns : List Meant) → Alike ms ns → Under (call_of order f ms) (call_of order f ns)
call_under order f ms ns h = chosen (takes_first f)
  where
    chosen : (b : Bool) → Under (if b then first_value ms else and_then (all_of ms) (built_in order f)) (if b then first_value ns else and_then (all_of ns) (built_in order f))
    chosen true = first_under ms ns h
    chosen false = after (all_of ms) (all_of ns) (built_in order f) (all_under ms ns h)

logic_under : (op : Junction) (l m : Outcome (Option Bool)) (r n : Outcome (Option Bool)) → Under l m → Under r n → Under (logic_of op l r) (logic_of op m n)
logic_under op l m r n h k = next l m _ _ h (λ t. chosen t (decides op t))
  where
    chosen : (t : Option Bool) (b : Bool) → Under (if b then Ok t else and_then r (λ u. Ok (joins op t u))) (if b then Ok t else and_then n (λ u. Ok (joins op t u)))
    chosen t true = refl
    chosen t false = after r n (λ u. Ok (joins op t u)) k

-- ---- expressions

abbrev Stays : Expr → Type 0
Stays e = (s : Setting) → Under (eval_of s e) (eval_of (unlimited s) e)

abbrev ArmStays : When → Type 0
ArmStays w = (s : Setting) → Under ((arm_of w).when s) ((arm_of w).when (unlimited s)) × Under ((arm_of w).gives s) ((arm_of w).gives (unlimited s))

abbrev Part : Type 0
Part = (e : Expr) × Stays e

abbrev ArmPart : Type 0
ArmPart = (w : When) × ArmStays w

each_alike : (ps : List Part) (s : Setting) → Alike (each (map meaning (map (λ p. p.0) ps)) s) (each (map meaning (map (λ p. p.0) ps)) (unlimited s))
each_alike [] s = tt
each_alike (p ∷ ps) s = (p.1 s, each_alike ps s)

rows_alike : (ps : List Part) (s : Setting) (rows : List (List Value)) → Alike (map (λ row. all_of (each (map meaning (map (λ p. p.0) ps)) (over s row))) rows) (map (λ row. all_of (each (map meaning (map (λ p. p.0) ps)) (over (unlimited s) row))) rows)
rows_alike ps s [] = tt
rows_alike ps s (row ∷ rows) = (all_under _ _ (each_alike ps (over s row)), rows_alike ps s rows)

arm_chosen : (t : Bool) (m n : Meant) (more less : Outcome (Option Value)) → Under m n → Under more less
    → Under (if t then and_then m (λ v. Ok (Some v)) else more) (if t then and_then n (λ v. Ok (Some v)) else less)
arm_chosen true m n more less h k = after m n (λ v. Ok (Some v)) h
arm_chosen false m n more less h k = k

taken_under : (ps : List ArmPart) (s : Setting) (x : Option Value) → Under (taken s x (map arm_of (map (λ p. p.0) ps))) (taken (unlimited s) x (map arm_of (map (λ p. p.0) ps)))
taken_under [] s x = refl
taken_under (p ∷ ps) s x = next _ _ _ _ (p.1 s).0 (λ w. next _ _ _ _ (same (is_taken s.host.order x (arm_of p.0).meeting w)) (λ t. arm_chosen t _ _ _ _ (p.1 s).1 (taken_under ps s x)))

any_under : (x : Option Part) (s : Setting) → Under (if_any s (option_map meaning (option_map (λ p. p.0) x))) (if_any (unlimited s) (option_map meaning (option_map (λ p. p.0) x)))
any_under None s = refl
any_under (Some p) s = after _ _ (λ v. Ok (Some v)) (p.1 s)

null_under : (x : Option Part) (s : Setting) → Under (or_null s (option_map meaning (option_map (λ p. p.0) x))) (or_null (unlimited s) (option_map meaning (option_map (λ p. p.0) x)))
null_under None s = refl
null_under (Some p) s = p.1 s

value_under : (m n : Meant) (v : Option Value) → Under m n → Under (value_or m v) (value_or n v)
value_under m n None h = h
value_under m n (Some v) h = refl

abbrev case_of : Option Part → List ArmPart → Option Part → Meaning
case_of x arms other s = and_then (if_any s (option_map meaning (option_map (λ p. p.0) x))) (λ v. and_then (taken s v (map arm_of (map (λ p. p.0) arms))) (value_or (or_null s (option_map meaning (option_map (λ p. p.0) other)))))

case_under : (x : Option Part) (arms : List ArmPart) (other : Option Part) (s : Setting) → Under (case_of x arms other s) (case_of x arms other (unlimited s))
case_under x arms other s = next _ _ _ _ (any_under x s) (λ v. next _ _ _ _ (taken_under arms s v) (λ t. value_under _ _ t (null_under other s)))

abbrev LayerStays : Expr-F Expr When → Type 0
LayerStays x = (s : Setting) → Under (layer (map-Expr Expr When Meaning Arm meaning arm_of x) s) (layer (map-Expr Expr When Meaning Arm meaning arm_of x) (unlimited s))

layer_stays : (y : Expr-F Part ArmPart) → LayerStays (map-Expr Part ArmPart Expr When (λ e. e.0) (λ w. w.0) y)
layer_stays (Literal v) s = refl
layer_stays (Param n) s = refl
layer_stays (Column c) s = refl
layer_stays (Shown n x) s = refl
layer_stays (Unary op x) s = after _ _ (unary_of op) (x.1 s)
layer_stays (Arithmetic op x y) s = next _ _ _ _ (x.1 s) (λ v. after _ _ (arithmetic_of op v) (y.1 s))
layer_stays (Join x y) s = next _ _ _ _ (x.1 s) (λ v. after _ _ (join_of v) (y.1 s))
layer_stays (Like n x y) s = next _ _ _ _ (x.1 s) (λ v. after _ _ (like_of n v) (y.1 s))
layer_stays (Logic op x y) s = after _ _ (λ t. Ok (truth_value t)) (logic_under op _ _ _ _ (after _ _ truth (x.1 s)) (after _ _ truth (y.1 s)))
layer_stays (Compare op m x y) s = next _ _ _ _ (x.1 s) (λ v. after _ _ (λ w. Ok (truth_value (compared s.host.order op m v w))) (y.1 s))
layer_stays (Collate x name) s = x.1 s
layer_stays (Cast to x) s = after _ _ (cast_of to) (x.1 s)
layer_stays (In n m x items) s = next _ _ _ _ (x.1 s) (λ v. after _ _ (λ t. Ok (truth_value (turned n t))) (in_under (equals s.host.order v m) (Some false) _ _ (each_alike items s)))
layer_stays (Between n m l x low high) s = next _ _ _ _ (x.1 s) (λ v. after _ _ (λ t. Ok (truth_value (turned n t))) (logic_under logic.And _ _ _ _ (after _ _ (λ w. Ok (compared s.host.order c.AtLeast m v w)) (low.1 s)) (after _ _ (λ w. Ok (compared s.host.order c.AtMost l v w)) (high.1 s))))
layer_stays (Case None arms None) s = case_under None arms None s
layer_stays (Case None arms (Some y)) s = case_under None arms (Some y) s
layer_stays (Case (Some x) arms None) s = case_under (Some x) arms None s
layer_stays (Case (Some x) arms (Some y)) s = case_under (Some x) arms (Some y) s
layer_stays (BuiltIn f args) s = call_under s.host.order f _ _ (each_alike args s)
layer_stays (Host name args) s = after _ _ (λ vs. of_host (s.host.scalar name vs)) (all_under _ _ (each_alike args s))
layer_stays (Aggregate kind args) s = after _ _ (aggregate_of s.host.order (λ name. s.host.aggregate name (length (map meaning (map (λ p. p.0) args)))) kind) (all_under _ _ (rows_alike args s s.group))
layer_stays (SiteId b) s = refl
layer_stays (DbVersion n) s = refl

bound_under : (m : Option ℕ) (v : Value) → Under (bounded m v) (bounded None v)
bound_under None v = refl
bound_under (Some most) v = chosen (nat_le (value_len v) most)
  where
    chosen : (b : Bool) → Under (if b then Ok v else Err TooBig) (Ok v)
    chosen true = refl
    chosen false = tt

node_stays : (x : Expr-F Expr When) → LayerStays x → Stays (roll-Expr x)
node_stays x h s =
    let both : (t : Setting) → node (map-Expr Expr When Meaning Arm meaning arm_of x) t ≡ eval_of t (roll-Expr x) = λ t. sym (ap (λ (m : Meaning). m t) (fold-roll-Expr Meaning Arm node arm x)) in
    subst (λ m. Under m (eval_of (unlimited s) (roll-Expr x))) (both s)
    (subst (λ n. Under (node (map-Expr Expr When Meaning Arm meaning arm_of x) s) n) (both (unlimited s)) (next _ _ _ _ (h s) (λ v. bound_under s.most v)))

-- an arm of its parts
abbrev PartsStay : When-F Expr When → Type 0
PartsStay w = (s : Setting) → Under (meaning w.when s) (meaning w.when (unlimited s)) × Under (meaning w.then s) (meaning w.then (unlimited s))

arm_stays : (w : When-F Expr When) → PartsStay w → ArmStays (roll-When w)
arm_stays w h = subst (λ (a : Arm). (s : Setting) → Under (a.when s) (a.when (unlimited s)) × Under (a.gives s) (a.gives (unlimited s))) (sym (fold-roll-When Meaning Arm node arm w)) h

parts_stay : (v : When-F Part ArmPart) → PartsStay (map-When Part ArmPart Expr When (λ e. e.0) (λ w. w.0) v)
parts_stay v s = (v.when.1 s, v.then.1 s)

stays : (e : Expr) → Stays e
stays = ind-Expr Stays ArmStays (λ x y is. node_stays x (subst LayerStays is (layer_stays y))) (λ w v is. arm_stays w (subst PartsStay is (parts_stay v)))

agree : {A : Type 0} (m n : Outcome A) → Under m n → m ≢ Err TooBig → n ≡ m
agree (Ok a) n h k = h
agree (Err Overflow) n h k = h
agree (Err NotANumber) n h k = h
agree (Err NotUtf8) n h k = h
agree (Err (Said text)) n h k = h
agree (Err TooBig) n h k = absurd (k refl)
agree (Err Memory) n h k = h

pub limit_law : LimitTakesAway
limit_law e s h = agree (eval_of s e) (eval_of (unlimited s) e) (stays e s) h
