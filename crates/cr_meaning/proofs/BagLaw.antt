-- What an expression means over a group depends on which combinations the group has and how often.
use Rattle.std.proofs.Common.{◌≡◌, ◌∙◌, ℕ, Bool, true, false, List, [], ◌∷◌, map, length, Option, Some, None, Ok, Err, if◌then◌else◌, refl, ap, sym, subst}
use Rattle.std.specs.Option.{option_map, option_and_then}
use Rattle.std.specs.Cmp.{IsTotalOrder}
use Rattle.cr_value.specs.declared.value.Value.{Value}
use Rattle.cr_term.specs.declared.expr.When.{When, roll-When, map-When}
use Rattle.cr_term.specs.declared.operator.Logic.{Logic as Junction}
use Rattle.cr_term.specs.declared.operator.Logic.TheVariants as logic
use Rattle.cr_term.specs.declared.operator.Comparison.TheVariants as c
use Rattle.cr_term.specs.declared.operator.BuiltIn.{BuiltIn as Own}
use Rattle.cr_term.specs.declared.operator.Aggregate.{Aggregate as Kind}
use Rattle.cr_term.specs.declared.expr.Expr.{Expr, roll-Expr, map-Expr}
use Rattle.cr_term.specs.declared.expr.Expr.TheOpen.{Expr-F, When-F, Literal, Param, Column, Shown, Unary, Arithmetic, Join, Like, Logic, Compare, Collate, Cast, In, Between, Case, BuiltIn, Host, Aggregate, SiteId, DbVersion}
use Rattle.cr_term.specs.declared.expr.Expr.TheFolds.{fold-roll-Expr, fold-roll-When, ind-Expr}
use Rattle.cr_scalar.specs.Meaning.{Outcome, Meant, and_then, bounded, of_host}
use Rattle.cr_scalar.specs.Numbers.{truth, truth_value, is_null, decides, joins, unary_of, arithmetic_of}
use Rattle.cr_scalar.specs.Compare.{Orders, compared}
use Rattle.cr_scalar.specs.Texts.{join_of, like_of, cast_of}
use Rattle.cr_scalar.specs.Functions.{all_of, first_value, call_of, takes_first, built_in}
use Rattle.cr_scalar.specs.Aggregates.{aggregate_of}
use Rattle.cr_scalar.specs.Host.{Host as Functions}
use Rattle.cr_bags.specs.Bags as bags
use Rattle.cr_bags.specs.Bags.{SameBag, Alike, gather, single}
use Rattle.cr_bags.proofs.BagLaws.{gather_alike, bag_of, no_fault, no_list}
use Rattle.cr_expr.specs.Setting.{Setting, over}
use Rattle.cr_expr.specs.Eval.{Meaning, Arm, node, arm, layer, meaning, arm_of, eval_of, each, if_any, or_null, is_taken, taken, value_or, turned, logic_of, equals, in_of}
use Rattle.cr_query.specs.Query.{Lawful}
use Rattle.cr_meaning.specs.Meaning.{value_of, at_group}
use Rattle.cr_meaning.specs.Meaning as queries
use Rattle.cr_meaning.proofs.Ordered.{values_total}
use Rattle.cr_meaning.proofs.Aggregated.{Agree, same_aggregate}

-- ---- outcomes that agree but for which fault it is

same : {A : Type 0} (m : Outcome A) → Agree m m
same m = refl

next : {A B : Type 0} (m n : Outcome A) (f g : A → Outcome B) → Agree m n → ((a : A) → Agree (f a) (g a)) → Agree (and_then m f) (and_then n g)
next (Ok a) (Ok b) f g h k = k a ∙ ap (λ x. value_of (g x)) (let q : a ≡ b = cc in q)
next (Ok a) (Err e) f g h k = absurd cc
next (Err e) (Ok b) f g h k = absurd cc
next (Err e) (Err d) f g h k = refl

after : {A B : Type 0} (m n : Outcome A) (f : A → Outcome B) → Agree m n → Agree (and_then m f) (and_then n f)
after m n f h = next m n f f h (λ a. refl)

-- ---- lists of parts

abbrev Each : {A : Type 0} → List (Outcome A) → List (Outcome A) → Type 0
Each [] [] = Unit {0}
Each (m ∷ ms) (n ∷ ns) = Agree m n × Each ms ns
Each [] (n ∷ ns) = ⊥
Each (m ∷ ms) [] = ⊥

all_agree : {A : Type 0} (ms ns : List (Outcome A)) → Each ms ns → Agree (all_of ms) (all_of ns)
all_agree [] [] h = refl
all_agree (m ∷ ms) (n ∷ ns) h = next m n _ _ h.0 (λ v. after (all_of ms) (all_of ns) (λ vs. Ok (v ∷ vs)) (all_agree ms ns h.1))
all_agree [] (n ∷ ns) h = absurd h
all_agree (m ∷ ms) [] h = absurd h

first_chosen : (ms ns : List Meant) (v : Value) (b : Bool) → Agree (first_value ms) (first_value ns) → Agree (if b then first_value ms else Ok v) (if b then first_value ns else Ok v)
first_chosen ms ns v true h = h
first_chosen ms ns v false h = refl

first_agree : (ms ns : List Meant) → Each ms ns → Agree (first_value ms) (first_value ns)
first_agree [] [] h = refl
first_agree (m ∷ ms) (n ∷ ns) h = next m n _ _ h.0 (λ v. first_chosen ms ns v (is_null v) (first_agree ms ns h.1))
first_agree [] (n ∷ ns) h = absurd h
first_agree (m ∷ ms) [] h = absurd h

in_chosen : {A : Type 0} (b : Bool) (t : A) (m n : Meant) (f g : Value → Outcome A) → Agree m n → ((w : Value) → Agree (f w) (g w)) → Agree (if b then Ok t else and_then m f) (if b then Ok t else and_then n g)
in_chosen true t m n f g h k = refl
in_chosen false t m n f g h k = next m n f g h k

in_agree : (test : Value → Option Bool) (so_far : Option Bool) (ms ns : List Meant) → Each ms ns → Agree (in_of test so_far ms) (in_of test so_far ns)
in_agree test so_far [] [] h = refl
in_agree test so_far (m ∷ ms) (n ∷ ns) h = in_chosen (decides logic.Or so_far) so_far m n _ _ h.0 (λ w. in_agree test (joins logic.Or so_far (test w)) ms ns h.1)
in_agree test so_far [] (n ∷ ns) h = absurd h
in_agree test so_far (m ∷ ms) [] h = absurd h

call_agree : (order : Orders) (f : Own) (ms ns : List Meant) → Each ms ns → Agree (call_of order f ms) (call_of order f ns)
call_agree order f ms ns h = chosen (takes_first f)
  where
    chosen : (b : Bool) → Agree (if b then first_value ms else and_then (all_of ms) (built_in order f)) (if b then first_value ns else and_then (all_of ns) (built_in order f))
    chosen true = first_agree ms ns h
    chosen false = after (all_of ms) (all_of ns) (built_in order f) (all_agree ms ns h)

logic_agree : (op : Junction) (l m : Outcome (Option Bool)) (r n : Outcome (Option Bool)) → Agree l m → Agree r n → Agree (logic_of op l r) (logic_of op m n)
logic_agree op l m r n h k = next l m _ _ h (λ t. chosen t (decides op t))
  where
    chosen : (t : Option Bool) (b : Bool) → Agree (if b then Ok t else and_then r (λ u. Ok (joins op t u))) (if b then Ok t else and_then n (λ u. Ok (joins op t u)))
    chosen t true = refl
    chosen t false = after r n (λ u. Ok (joins op t u)) k

-- ---- the argument rows of a group

one_more : {A : Type 0} (m : Outcome A) (ms : Outcome (List A)) (o : Option (List A)) → value_of ms ≡ o → value_of (and_then m (λ v. and_then ms (λ vs. Ok (v ∷ vs)))) ≡ bags.joins (option_map single (value_of m)) o
one_more (Err e) ms o h = refl
one_more (Ok v) (Ok vs) o h = ap (bags.joins (Some (v ∷ []))) h
one_more (Ok v) (Err e) o h = ap (bags.joins (Some (v ∷ []))) h

all_each : {X A : Type 0} (f : X → Outcome A) (xs : List X) → value_of (all_of (map f xs)) ≡ bags.each (λ x. value_of (f x)) xs
all_each f [] = refl
all_each f (x ∷ xs) = one_more (f x) (all_of (map f xs)) (bags.each (λ x. value_of (f x)) xs) (all_each f xs)

then_value : {A B : Type 0} (m : Outcome A) (f : A → Outcome B) → value_of (and_then m f) ≡ option_and_then (λ a. value_of (f a)) (value_of m)
then_value (Ok a) f = refl
then_value (Err e) f = refl

then_same : {X Z : Type 0} (f : List X → Option Z) → ((xs ys : List X) → SameBag xs ys → f xs ≡ f ys) → (o p : Option (List X)) → Alike o p → option_and_then f o ≡ option_and_then f p
then_same f same (Some xs) (Some ys) a = same xs ys (bag_of a)
then_same f same (Some xs) None a = absurd (no_fault a)
then_same f same None (Some ys) a = absurd (no_list a)
then_same f same None None a = refl

alike_single : {A : Type 0} (o p : Option A) → o ≡ p → Alike (option_map single o) (option_map single p)
alike_single o p e = record { weighs = λ w. ap (λ q. option_map (bags.weight w) (option_map single q)) e }

regrouped_rows : {X A B : Type 0} (f g : X → Outcome A) (h : List A → Outcome B) → ((x : X) → Agree (f x) (g x)) → ((xs ys : List A) → SameBag xs ys → Agree (h xs) (h ys)) → {cs ds : List X} → SameBag cs ds → Agree (and_then (all_of (map f cs)) h) (and_then (all_of (map g ds)) h)
regrouped_rows f g h agree law {cs} {ds} s =
    then_value (all_of (map f cs)) h ∙ ap (option_and_then (λ xs. value_of (h xs))) (all_each f cs)
    ∙ then_same (λ xs. value_of (h xs)) law (bags.each (λ x. value_of (f x)) cs) (bags.each (λ x. value_of (g x)) ds) (gather_alike _ _ (λ x. alike_single (value_of (f x)) (value_of (g x)) (agree x)) s)
    ∙ sym (ap (option_and_then (λ xs. value_of (h xs))) (all_each g ds)) ∙ sym (then_value (all_of (map g ds)) h)

-- ---- expressions

abbrev regrouped : Setting → List (List Value) → Setting
regrouped s ds = record s { group = ds }

module _ (host : Functions) (total : (name : List ℕ) → IsTotalOrder (host.order name)) where
  -- a setting of this host, over a group, and the same combinations in another order
  record Groups (s : Setting) (ds : List (List Value)) : Type 0 where
    host_is : s.host ≡ host
    bag : SameBag s.group ds

  abbrev Stays : Expr → Type 0
  Stays e = (s : Setting) (ds : List (List Value)) (b : Groups s ds) → Agree (eval_of s e) (eval_of (regrouped s ds) e)

  abbrev ArmStays : When → Type 0
  ArmStays w = (s : Setting) (ds : List (List Value)) (b : Groups s ds) → Agree ((arm_of w).when s) ((arm_of w).when (regrouped s ds)) × Agree ((arm_of w).gives s) ((arm_of w).gives (regrouped s ds))

  abbrev Part : Type 0
  Part = (e : Expr) × Stays e

  abbrev ArmPart : Type 0
  ArmPart = (w : When) × ArmStays w

  each_agree : (ps : List Part) (s : Setting) (ds : List (List Value)) (b : Groups s ds) → Each (each (map meaning (map (λ p. p.0) ps)) s) (each (map meaning (map (λ p. p.0) ps)) (regrouped s ds))
  each_agree [] s ds b = tt
  each_agree (p ∷ ps) s ds b = (p.1 s ds b, each_agree ps s ds b)

  abbrev rows_of : List Part → Setting → List Value → Outcome (List Value)
  rows_of args s row = all_of (each (map meaning (map (λ p. p.0) args)) (over s row))

  -- the one place where the group is looked at
  aggregate_agree : (kind : Kind) (args : List Part) (s : Setting) (ds : List (List Value)) (b : Groups s ds) → Agree (layer (Aggregate kind (map meaning (map (λ p. p.0) args))) s) (layer (Aggregate kind (map meaning (map (λ p. p.0) args))) (regrouped s ds))
  aggregate_agree kind args s ds b =
      regrouped_rows (rows_of args s) (rows_of args (regrouped s ds)) (aggregate_of s.host.order (λ name. s.host.aggregate name (length (map meaning (map (λ p. p.0) args)))) kind)
      (λ row. all_agree _ _ (each_agree args (over s row) ds (record { host_is = b.host_is; bag = b.bag })))
      (λ xs ys bag. subst (λ (h : Functions). Agree (aggregate_of h.order (λ name. h.aggregate name (length (map meaning (map (λ p. p.0) args)))) kind xs) (aggregate_of h.order (λ name. h.aggregate name (length (map meaning (map (λ p. p.0) args)))) kind ys)) (sym b.host_is)
      (same_aggregate host.order total (λ name. host.aggregate name (length (map meaning (map (λ p. p.0) args)))) kind bag))
      b.bag

  arm_chosen : (t : Bool) (m n : Meant) (more less : Outcome (Option Value)) → Agree m n → Agree more less
      → Agree (if t then and_then m (λ v. Ok (Some v)) else more) (if t then and_then n (λ v. Ok (Some v)) else less)
  arm_chosen true m n more less h k = after m n (λ v. Ok (Some v)) h
  arm_chosen false m n more less h k = k

  taken_agree : (ps : List ArmPart) (s : Setting) (ds : List (List Value)) (b : Groups s ds) (x : Option Value) → Agree (taken s x (map arm_of (map (λ p. p.0) ps))) (taken (regrouped s ds) x (map arm_of (map (λ p. p.0) ps)))
  taken_agree [] s ds b x = refl
  taken_agree (p ∷ ps) s ds b x = next _ _ _ _ (p.1 s ds b).0 (λ w. next _ _ _ _ (same (is_taken s.host.order x (arm_of p.0).meeting w)) (λ t. arm_chosen t _ _ _ _ (p.1 s ds b).1 (taken_agree ps s ds b x)))

  any_agree : (x : Option Part) (s : Setting) (ds : List (List Value)) (b : Groups s ds) → Agree (if_any s (option_map meaning (option_map (λ p. p.0) x))) (if_any (regrouped s ds) (option_map meaning (option_map (λ p. p.0) x)))
  any_agree None s ds b = refl
  any_agree (Some p) s ds b = after _ _ (λ v. Ok (Some v)) (p.1 s ds b)

  null_agree : (x : Option Part) (s : Setting) (ds : List (List Value)) (b : Groups s ds) → Agree (or_null s (option_map meaning (option_map (λ p. p.0) x))) (or_null (regrouped s ds) (option_map meaning (option_map (λ p. p.0) x)))
  null_agree None s ds b = refl
  null_agree (Some p) s ds b = p.1 s ds b

  value_agree : (m n : Meant) (v : Option Value) → Agree m n → Agree (value_or m v) (value_or n v)
  value_agree m n None h = h
  value_agree m n (Some v) h = refl

  abbrev case_of : Option Part → List ArmPart → Option Part → Meaning
  case_of x arms other s = and_then (if_any s (option_map meaning (option_map (λ p. p.0) x))) (λ v. and_then (taken s v (map arm_of (map (λ p. p.0) arms))) (value_or (or_null s (option_map meaning (option_map (λ p. p.0) other)))))

  case_agree : (x : Option Part) (arms : List ArmPart) (other : Option Part) (s : Setting) (ds : List (List Value)) (b : Groups s ds) → Agree (case_of x arms other s) (case_of x arms other (regrouped s ds))
  case_agree x arms other s ds b = next _ _ _ _ (any_agree x s ds b) (λ v. next _ _ _ _ (taken_agree arms s ds b v) (λ t. value_agree _ _ t (null_agree other s ds b)))

  abbrev LayerStays : Expr-F Expr When → Type 0
  LayerStays x = (s : Setting) (ds : List (List Value)) (b : Groups s ds) → Agree (layer (map-Expr Expr When Meaning Arm meaning arm_of x) s) (layer (map-Expr Expr When Meaning Arm meaning arm_of x) (regrouped s ds))

  layer_stays : (y : Expr-F Part ArmPart) → LayerStays (map-Expr Part ArmPart Expr When (λ e. e.0) (λ w. w.0) y)
  layer_stays (Literal v) s ds g = refl
  layer_stays (Param n) s ds g = refl
  layer_stays (Column c) s ds g = refl
  layer_stays (Shown n x) s ds g = refl
  layer_stays (Unary op x) s ds b = after _ _ (unary_of op) (x.1 s ds b)
  layer_stays (Arithmetic op x y) s ds b = next _ _ _ _ (x.1 s ds b) (λ v. after _ _ (arithmetic_of op v) (y.1 s ds b))
  layer_stays (Join x y) s ds b = next _ _ _ _ (x.1 s ds b) (λ v. after _ _ (join_of v) (y.1 s ds b))
  layer_stays (Like n x y) s ds b = next _ _ _ _ (x.1 s ds b) (λ v. after _ _ (like_of n v) (y.1 s ds b))
  layer_stays (Logic op x y) s ds b = after _ _ (λ t. Ok (truth_value t)) (logic_agree op _ _ _ _ (after _ _ truth (x.1 s ds b)) (after _ _ truth (y.1 s ds b)))
  layer_stays (Compare op m x y) s ds b = next _ _ _ _ (x.1 s ds b) (λ v. after _ _ (λ w. Ok (truth_value (compared s.host.order op m v w))) (y.1 s ds b))
  layer_stays (Collate x name) s ds b = x.1 s ds b
  layer_stays (Cast to x) s ds b = after _ _ (cast_of to) (x.1 s ds b)
  layer_stays (In n m x items) s ds b = next _ _ _ _ (x.1 s ds b) (λ v. after _ _ (λ t. Ok (truth_value (turned n t))) (in_agree (equals s.host.order v m) (Some false) _ _ (each_agree items s ds b)))
  layer_stays (Between n m l x low high) s ds b = next _ _ _ _ (x.1 s ds b) (λ v. after _ _ (λ t. Ok (truth_value (turned n t))) (logic_agree logic.And _ _ _ _ (after _ _ (λ w. Ok (compared s.host.order c.AtLeast m v w)) (low.1 s ds b)) (after _ _ (λ w. Ok (compared s.host.order c.AtMost l v w)) (high.1 s ds b))))
  layer_stays (Case None arms None) s ds b = case_agree None arms None s ds b
  layer_stays (Case None arms (Some y)) s ds b = case_agree None arms (Some y) s ds b
  layer_stays (Case (Some x) arms None) s ds b = case_agree (Some x) arms None s ds b
  layer_stays (Case (Some x) arms (Some y)) s ds b = case_agree (Some x) arms (Some y) s ds b
  layer_stays (BuiltIn f args) s ds b = call_agree s.host.order f _ _ (each_agree args s ds b)
  layer_stays (Host name args) s ds b = after _ _ (λ vs. of_host (s.host.scalar name vs)) (all_agree _ _ (each_agree args s ds b))
  layer_stays (Aggregate kind args) s ds b = aggregate_agree kind args s ds b
  layer_stays (SiteId b) s ds g = refl
  layer_stays (DbVersion n) s ds g = refl

  node_stays : (x : Expr-F Expr When) → LayerStays x → Stays (roll-Expr x)
  node_stays x h s ds b =
      let both : (t : Setting) → node (map-Expr Expr When Meaning Arm meaning arm_of x) t ≡ eval_of t (roll-Expr x) = λ t. sym (ap (λ (m : Meaning). m t) (fold-roll-Expr Meaning Arm node arm x)) in
      subst (λ m. Agree m (eval_of (regrouped s ds) (roll-Expr x))) (both s)
      (subst (λ n. Agree (node (map-Expr Expr When Meaning Arm meaning arm_of x) s) n) (both (regrouped s ds)) (after _ _ (bounded s.most) (h s ds b)))

  -- an arm of its parts
  abbrev PartsStay : When-F Expr When → Type 0
  PartsStay w = (s : Setting) (ds : List (List Value)) (b : Groups s ds) → Agree (meaning w.when s) (meaning w.when (regrouped s ds)) × Agree (meaning w.then s) (meaning w.then (regrouped s ds))

  arm_stays : (w : When-F Expr When) → PartsStay w → ArmStays (roll-When w)
  arm_stays w h = subst (λ (a : Arm). (s : Setting) (ds : List (List Value)) (b : Groups s ds) → Agree (a.when s) (a.when (regrouped s ds)) × Agree (a.gives s) (a.gives (regrouped s ds))) (sym (fold-roll-When Meaning Arm node arm w)) h

  parts_stay : (v : When-F Part ArmPart) → PartsStay (map-When Part ArmPart Expr When (λ e. e.0) (λ w. w.0) v)
  parts_stay v s ds b = (v.when.1 s ds b, v.then.1 s ds b)

  stays : (e : Expr) → Stays e
  stays = ind-Expr Stays ArmStays (λ x y is. node_stays x (subst LayerStays is (layer_stays y))) (λ w v is. arm_stays w (subst PartsStay is (parts_stay v)))

  pub lawful : (most : Option ℕ) (params : List Value) → Lawful (queries.meaning most host params)
  lawful most params = record {
    order_total = λ e. values_total (host.order e.collation) (total e.collation);
    over_bag = λ e k cs ds s. stays e.expr (at_group most host params (record { shown = k; members = cs })) ds (record { host_is = refl; bag = s });
  }
