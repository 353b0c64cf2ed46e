-- An expression with its aggregates shown has the value of the expression, node by node.
use Rattle.std.proofs.Common.{◌≡◌, ◌∙◌, ℕ, ℤ, Bool, true, false, List, [], ◌∷◌, ◌++◌, append-nil, append_assoc, length, map, get_or, Option, Some, None, Result, Ok, Err, refl, ap, sym, subst, if◌then◌else◌}
use Rattle.std.specs.Prelude.{IfOk, nat_le}
use Rattle.std.specs.declared.alloc.AllocError.{AllocError}
use Rattle.std.specs.List.{AllZip}
use Rattle.std.specs.Option.{option_map}
use Rattle.cr_value.specs.declared.value.Value.{Value}
use Rattle.cr_value.specs.declared.value.Value.TheVariants as value
use Rattle.cr_value.specs.declared.cast.CastTo.{CastTo}
use Rattle.cr_term.specs.declared.operator.Unary.{Unary as Sign}
use Rattle.cr_term.specs.declared.operator.Arithmetic.{Arithmetic as Operator}
use Rattle.cr_term.specs.declared.operator.Logic.{Logic as Junction}
use Rattle.cr_term.specs.declared.operator.Comparison.{Comparison}
use Rattle.cr_term.specs.declared.operator.Meeting.{Meeting}
use Rattle.cr_term.specs.declared.operator.BuiltIn.{BuiltIn as Own}
use Rattle.cr_term.specs.declared.expr.Column.{Column as Field}
use Rattle.cr_term.specs.declared.expr.When.{When}
use Rattle.cr_term.specs.declared.expr.Expr.{Expr, roll-Expr, map-Expr}
use Rattle.cr_term.specs.declared.expr.Expr as e
use Rattle.cr_term.specs.declared.expr.Expr.TheVariants.{rolls-Literal, rolls-Param, rolls-Column, rolls-Shown, rolls-Unary, rolls-Arithmetic, rolls-Join, rolls-Like, rolls-Logic, rolls-Compare, rolls-Collate, rolls-Cast, rolls-SiteId, rolls-DbVersion}
use Rattle.cr_term.specs.declared.expr.Expr.TheOpen.{Expr-F, Literal, Param, Column, Shown, Unary, Arithmetic, Join, Like, Logic, Compare, Collate, Cast, SiteId, DbVersion}
use Rattle.cr_term.specs.declared.expr.Expr.TheFolds.{fold-roll-Expr, fold_out-When}
use Rattle.cr_value.specs.Size.{value_len}
use Rattle.cr_scalar.specs.Meaning.{Outcome, Meant, and_then, bounded, of_host}
use Rattle.cr_scalar.specs.declared.fault.EvalFault.TheVariants.{TooBig}
use Rattle.cr_scalar.specs.Numbers.{truth, truth_value, unary_of, arithmetic_of}
use Rattle.cr_scalar.specs.Compare.{Orders, compared}
use Rattle.cr_scalar.specs.Texts.{join_of, like_of, cast_of}
use Rattle.cr_scalar.specs.Functions.{all_of, call_of}
use Rattle.cr_expr.specs.Setting.{Setting}
use Rattle.cr_expr.specs.Eval.{Meaning, Arm, node, arm, layer, meaning, arm_of, eval_of, of_node, each, if_any, or_null, is_taken, taken, value_or, told, turned, logic_of, between_of, equals, in_of}
use Rattle.cr_expr.proofs.Nodes.{one_node, in_node, case_node, built_in_node, host_node, between_node}
use Rattle.cr_tally.proofs.Lists.{zip-append}
use Rattle.cr_tally.specs.declared.show.Call.{Call}
use Rattle.cr_tally.specs.Showing.{AreKnown, Known, SameArm, Shows, ShowsAll, ShowsArms, ShowsIfAny, showing}

-- ---- what is known

before : (s : Setting) (cs ds : List Call) (vs : List Value) → AreKnown s (cs ++ ds) vs → AreKnown s cs vs
before s [] ds vs all = tt
before s (c ∷ cs) ds [] all = all
before s (c ∷ cs) ds (v ∷ vs) all = (all.0, before s cs ds vs all.1)

last_known : (s : Setting) (cs : List Call) (c : Call) (vs : List Value) → AreKnown s (cs ++ c ∷ []) vs → eval_of s (e.Aggregate c.kind.now c.args.now) ≡ Ok (get_or vs (length cs) value.Null)
last_known s [] c [] all = absurd all
last_known s [] c (v ∷ vs) all = all.0
last_known s (d ∷ cs) c [] all = absurd all
last_known s (d ∷ cs) c (v ∷ vs) all = last_known s cs c vs all.1

-- what nothing is put behind
same_here : (old : List Call) (Same : Setting → Setting → Type 0) → ((s : Setting) (vs : List Value) → s.shown ≡ [] → Same s (showing s vs)) → Known old old Same
same_here old Same f = record { more = []; grown = sym (append-nil old); same = λ s vs none known. f s vs none }

pub both_known : (old mid new : List Call) (A B : Setting → Setting → Type 0) → Known old mid A → Known mid new B → Known old new (λ s t. A s t × B s t)
both_known old mid new A B h k = record {
  more = h.more ++ k.more;
  grown = k.grown ∙ ap (λ cs. cs ++ k.more) h.grown ∙ append_assoc old h.more k.more;
  same = λ s vs none known. (h.same s vs none (before s mid k.more vs (subst (λ cs. AreKnown s cs vs) k.grown known)), k.same s vs none known);
}

pub follows : (old new : List Call) (A B : Setting → Setting → Type 0) → ((s : Setting) (vs : List Value) → A s (showing s vs) → B s (showing s vs)) → Known old new A → Known old new B
follows old new A B f h = record { more = h.more; grown = h.grown; same = λ s vs none known. f s vs (h.same s vs none known) }

abbrev Same : Expr → Expr → Setting → Setting → Type 0
Same x y s t = eval_of s x ≡ eval_of t y

-- ---- nodes

both : {A B C : Type 0} (f : A → B → C) (a a' : A) (b b' : B) → a ≡ a' → b ≡ b' → f a b ≡ f a' b'
both f a a' b b' p q = ap (λ x. f x b) p ∙ ap (f a') q

pub three : {A B C D : Type 0} (f : A → B → C → D) (a a' : A) (b b' : B) (c c' : C) → a ≡ a' → b ≡ b' → c ≡ c' → f a b c ≡ f a' b' c'
three f a a' b b' c c' p q r = both (λ x y. f x y c) a a' b b' p q ∙ ap (f a' b') r

rolled : (s : Setting) (y : Expr-F Expr When) → eval_of s (roll-Expr y) ≡ and_then (layer (map-Expr Expr When Meaning Arm meaning arm_of y) s) (bounded s.most)
rolled s y = ap (λ (m : Meaning). m s) (fold-roll-Expr Meaning Arm node arm y)

-- nodes whose layers are the same
same_nodes : (s : Setting) (vs : List Value) (a b : Expr-F Expr When) (x y : Expr) → roll-Expr a ≡ x → roll-Expr b ≡ y
    → layer (map-Expr Expr When Meaning Arm meaning arm_of a) s ≡ layer (map-Expr Expr When Meaning Arm meaning arm_of b) (showing s vs) → eval_of s x ≡ eval_of (showing s vs) y
same_nodes s vs a b x y p q h =
    ap (eval_of s) (sym p) ∙ rolled s a ∙ ap (λ m. and_then m (bounded s.most)) h ∙ sym (rolled (showing s vs) b) ∙ ap (eval_of (showing s vs)) q

-- the same of what is not over the limit
same_bounded : (s : Setting) (vs : List Value) (x y : Expr) → of_node s x ≡ of_node (showing s vs) y → eval_of s x ≡ eval_of (showing s vs) y
same_bounded s vs x y h = one_node s x ∙ ap (λ m. and_then m (bounded s.most)) h ∙ sym (one_node (showing s vs) y)

kept_if : (b : Bool) (v w : Value) → (if b then Ok v else Err TooBig) ≡ (let m : Meant = Ok w in m) → v ≡ w
kept_if true v w is = cc
kept_if false v w is = absurd cc

is_itself : (most : Option ℕ) (v w : Value) → bounded most v ≡ Ok w → v ≡ w
is_itself None v w is = cc
is_itself (Some most) v w is = kept_if (nat_le (value_len v) most) v w is

stays : (most : Option ℕ) (o : Meant) (w : Value) → and_then o (bounded most) ≡ Ok w → bounded most w ≡ Ok w
stays most (Ok v) w is = subst (λ (x : Value). bounded most x ≡ Ok w) (is_itself most v w is) is
stays most (Err f) w is = absurd cc

module _ (old : List Call) where
  pub literal : (x : Expr) (v w : Value) → x ≡ e.Literal v → w ≡ v → Shows old old x (e.Literal w)
  literal x v w is same = same_here old (Same x (e.Literal w)) (λ s vs none. ap (eval_of s) is ∙ same_nodes s vs (Literal v) (Literal w) (e.Literal v) (e.Literal w) (rolls-Literal v) (rolls-Literal w) (ap (λ u. Ok u) (sym same)))

  pub param : (x : Expr) (n : ℕ) → x ≡ e.Param n → Shows old old x (e.Param n)
  param x n is = same_here old (Same x (e.Param n)) (λ s vs none. ap (eval_of s) is ∙ same_nodes s vs (Param n) (Param n) (e.Param n) (e.Param n) (rolls-Param n) (rolls-Param n) refl)

  pub column : (x : Expr) (c d : Field) → x ≡ e.Column c → d ≡ c → Shows old old x (e.Column d)
  column x c d is same = same_here old (Same x (e.Column d)) (λ s vs none. ap (eval_of s) is ∙ same_nodes s vs (Column c) (Column d) (e.Column c) (e.Column d) (rolls-Column c) (rolls-Column d) (ap (λ (f : Field). Ok (get_or s.row f.at value.Null)) (sym same)))

  pub site : (x : Expr) (b c : List ℕ) → x ≡ e.SiteId b → c ≡ b → Shows old old x (e.SiteId c)
  site x b c is same = same_here old (Same x (e.SiteId c)) (λ s vs none. ap (eval_of s) is ∙ same_nodes s vs (SiteId b) (SiteId c) (e.SiteId b) (e.SiteId c) (rolls-SiteId b) (rolls-SiteId c) (ap (λ u. Ok (value.Blob u)) (sym same)))

  pub version : (x : Expr) (n m : ℤ) → x ≡ e.DbVersion n → m ≡ n → Shows old old x (e.DbVersion m)
  version x n m is same = same_here old (Same x (e.DbVersion m)) (λ s vs none. ap (eval_of s) is ∙ same_nodes s vs (DbVersion n) (DbVersion m) (e.DbVersion n) (e.DbVersion m) (rolls-DbVersion n) (rolls-DbVersion m) (ap (λ (z : ℤ). Ok (value.Int z)) (sym same)))

  pub shown : (x : Expr) (n : ℕ) (y : Expr) → x ≡ e.Shown n y → Shows old old x (e.Literal value.Null)
  shown x n y is = same_here old (Same x (e.Literal value.Null)) (λ s vs none. ap (eval_of s) is ∙ same_nodes s vs (Shown n y) (Literal value.Null) (e.Shown n y) (e.Literal value.Null) (rolls-Shown n y) (rolls-Literal value.Null) (ap (λ us. Ok (get_or us n value.Null)) none))

  pub aggregate : (x : Expr) (c : Call) (new : List Call) (n : ℕ) (y : Expr) → x ≡ e.Aggregate c.kind.now c.args.now → new ≡ old ++ c ∷ [] → n ≡ length old → Shows old new x (e.Shown n y)
  aggregate x c new n y is put at = record {
    more = c ∷ [];
    grown = put;
    same = λ s vs none known.
        let there : eval_of s (e.Aggregate c.kind.now c.args.now) ≡ Ok (get_or vs (length old) value.Null) = last_known s old c vs (subst (λ cs. AreKnown s cs vs) put known) in
        let small : bounded s.most (get_or vs (length old) value.Null) ≡ Ok (get_or vs (length old) value.Null) = stays s.most (of_node s (e.Aggregate c.kind.now c.args.now)) (get_or vs (length old) value.Null) (sym (one_node s (e.Aggregate c.kind.now c.args.now)) ∙ there) in
        ap (eval_of s) is ∙ there ∙ sym small ∙ ap (λ (k : ℕ). bounded s.most (get_or vs k value.Null)) (sym at)
        ∙ sym (rolled (showing s vs) (Shown n y)) ∙ ap (eval_of (showing s vs)) (rolls-Shown n y);
  }

  module _ (new : List Call) where
    pub unary : (x : Expr) (op : Sign) (a a' y : Expr) → x ≡ e.Unary op a → a' ≡ a → Shows old new a' y → Shows old new x (e.Unary op y)
    unary x op a a' y is p h = follows old new (Same a' y) (Same x (e.Unary op y)) (λ s vs same. ap (eval_of s) (is ∙ ap (e.Unary op) (sym p)) ∙ same_nodes s vs (Unary op a') (Unary op y) (e.Unary op a') (e.Unary op y) (rolls-Unary op a') (rolls-Unary op y) (ap (λ (m : Meant). and_then m (unary_of op)) same)) h

    pub cast : (x : Expr) (to : CastTo) (a a' y : Expr) → x ≡ e.Cast to a → a' ≡ a → Shows old new a' y → Shows old new x (e.Cast to y)
    cast x to a a' y is p h = follows old new (Same a' y) (Same x (e.Cast to y)) (λ s vs same. ap (eval_of s) (is ∙ ap (e.Cast to) (sym p)) ∙ same_nodes s vs (Cast to a') (Cast to y) (e.Cast to a') (e.Cast to y) (rolls-Cast to a') (rolls-Cast to y) (ap (λ (m : Meant). and_then m (cast_of to)) same)) h

    pub collate : (x : Expr) (name name' : List ℕ) (a a' y : Expr) → x ≡ e.Collate a name → a' ≡ a → Shows old new a' y → Shows old new x (e.Collate y name')
    collate x name name' a a' y is p h = follows old new (Same a' y) (Same x (e.Collate y name')) (λ s vs same. ap (eval_of s) (is ∙ ap (λ b. e.Collate b name) (sym p)) ∙ same_nodes s vs (Collate a' name) (Collate y name') (e.Collate a' name) (e.Collate y name') (rolls-Collate a' name) (rolls-Collate y name') same) h

  module _ (mid new : List Call) (a b a' b' y z : Expr) (p : a' ≡ a) (q : b' ≡ b) (h : Shows old mid a' y) (k : Shows mid new b' z) where
    abbrev Two : Setting → Setting → Type 0
    Two s t = Same a' y s t × Same b' z s t

    two : Known old new Two
    two = both_known old mid new (Same a' y) (Same b' z) h k

    pub arithmetic : (x : Expr) (op : Operator) → x ≡ e.Arithmetic op a b → Shows old new x (e.Arithmetic op y z)
    arithmetic x op is = follows old new Two (Same x (e.Arithmetic op y z)) (λ s vs same. ap (eval_of s) (is ∙ both (e.Arithmetic op) a a' b b' (sym p) (sym q))
        ∙ same_nodes s vs (Arithmetic op a' b') (Arithmetic op y z) (e.Arithmetic op a' b') (e.Arithmetic op y z) (rolls-Arithmetic op a' b') (rolls-Arithmetic op y z) (both (λ (m n : Meant). and_then m (λ v. and_then n (arithmetic_of op v))) _ _ _ _ same.0 same.1)) two

    pub join : (x : Expr) → x ≡ e.Join a b → Shows old new x (e.Join y z)
    join x is = follows old new Two (Same x (e.Join y z)) (λ s vs same. ap (eval_of s) (is ∙ both e.Join a a' b b' (sym p) (sym q))
        ∙ same_nodes s vs (Join a' b') (Join y z) (e.Join a' b') (e.Join y z) (rolls-Join a' b') (rolls-Join y z) (both (λ (m n : Meant). and_then m (λ v. and_then n (join_of v))) _ _ _ _ same.0 same.1)) two

    pub like : (x : Expr) (n : Bool) → x ≡ e.Like n a b → Shows old new x (e.Like n y z)
    like x n is = follows old new Two (Same x (e.Like n y z)) (λ s vs same. ap (eval_of s) (is ∙ both (e.Like n) a a' b b' (sym p) (sym q))
        ∙ same_nodes s vs (Like n a' b') (Like n y z) (e.Like n a' b') (e.Like n y z) (rolls-Like n a' b') (rolls-Like n y z) (both (λ (m o : Meant). and_then m (λ v. and_then o (like_of n v))) _ _ _ _ same.0 same.1)) two

    pub logic : (x : Expr) (op : Junction) → x ≡ e.Logic op a b → Shows old new x (e.Logic op y z)
    logic x op is = follows old new Two (Same x (e.Logic op y z)) (λ s vs same. ap (eval_of s) (is ∙ both (e.Logic op) a a' b b' (sym p) (sym q))
        ∙ same_nodes s vs (Logic op a' b') (Logic op y z) (e.Logic op a' b') (e.Logic op y z) (rolls-Logic op a' b') (rolls-Logic op y z) (both (λ (m n : Meant). told (logic_of op (and_then m truth) (and_then n truth))) _ _ _ _ same.0 same.1)) two

    pub compare : (x : Expr) (op : Comparison) (m m' : Meeting) → x ≡ e.Compare op m a b → m' ≡ m → Shows old new x (e.Compare op m' y z)
    compare x op m m' is met = follows old new Two (Same x (e.Compare op m' y z)) (λ s vs same. ap (eval_of s) (is ∙ three (e.Compare op) m m' a a' b b' (sym met) (sym p) (sym q))
        ∙ same_nodes s vs (Compare op m' a' b') (Compare op m' y z) (e.Compare op m' a' b') (e.Compare op m' y z) (rolls-Compare op m' a' b') (rolls-Compare op m' y z) (both (λ (o n : Meant). and_then o (λ v. and_then n (λ w. Ok (truth_value (compared s.host.order op m' v w))))) _ _ _ _ same.0 same.1)) two

  -- ---- nodes of several parts

  module _ (new : List Call) (es es' ys : List Expr) (p : es' ≡ es) (h : ShowsAll old new es' ys) where
    abbrev SameAll : Setting → Setting → Type 0
    SameAll s t = each (map meaning es') s ≡ each (map meaning ys) t

    pub built_in : (x : Expr) (f g : Own) → x ≡ e.BuiltIn f es → g ≡ f → Shows old new x (e.BuiltIn g ys)
    built_in x f g is own = follows old new SameAll (Same x (e.BuiltIn g ys)) (λ s vs same. ap (eval_of s) (is ∙ both e.BuiltIn f g es es' (sym own) (sym p))
        ∙ same_bounded s vs (e.BuiltIn g es') (e.BuiltIn g ys) (built_in_node s g es' ∙ ap (call_of s.host.order g) same ∙ sym (built_in_node (showing s vs) g ys))) h

    pub host : (x : Expr) (name name' : List ℕ) → x ≡ e.Host name es → name' ≡ name → Shows old new x (e.Host name' ys)
    host x name name' is own = follows old new SameAll (Same x (e.Host name' ys)) (λ s vs same. ap (eval_of s) (is ∙ both e.Host name name' es es' (sym own) (sym p))
        ∙ same_bounded s vs (e.Host name' es') (e.Host name' ys) (host_node s name' es' ∙ ap (λ (ms : List Meant). and_then (all_of ms) (λ us. of_host (s.host.scalar name' us))) same ∙ sym (host_node (showing s vs) name' ys))) h

  pub membership : (mid new : List Call) (x a a' y : Expr) (n : Bool) (m m' : Meeting) (items items' ys : List Expr) → x ≡ e.In n m a items → m' ≡ m → a' ≡ a → items' ≡ items → Shows old mid a' y → ShowsAll mid new items' ys → Shows old new x (e.In n m' y ys)
  membership mid new x a a' y n m m' items items' ys is met p q h k =
      follows old new (λ s t. Same a' y s t × (each (map meaning items') s ≡ each (map meaning ys) t)) (Same x (e.In n m' y ys)) (λ s vs same. ap (eval_of s) (is ∙ three (e.In n) m m' a a' items items' (sym met) (sym p) (sym q))
      ∙ same_bounded s vs (e.In n m' a' items') (e.In n m' y ys) (in_node s n m' a' items'
      ∙ both (λ (o : Meant) (ms : List Meant). and_then o (λ v. and_then (in_of (equals s.host.order v m') (Some false) ms) (λ t. Ok (truth_value (turned n t))))) _ _ _ _ same.0 same.1
      ∙ sym (in_node (showing s vs) n m' y ys)))
      (both_known old mid new (Same a' y) (λ s t. each (map meaning items') s ≡ each (map meaning ys) t) h k)

  pub between : (mid later new : List Call) (x a a' y low low' z high high' w : Expr) (n : Bool) (m m' l l' : Meeting) → x ≡ e.Between n m l a low high → m' ≡ m → l' ≡ l → a' ≡ a → low' ≡ low → high' ≡ high
      → Shows old mid a' y → Shows mid later low' z → Shows later new high' w → Shows old new x (e.Between n m' l' y z w)
  between mid later new x a a' y low low' z high high' w n m m' l l' is met met2 p q r h k j =
      follows old new (λ s t. (Same a' y s t × Same low' z s t) × Same high' w s t) (Same x (e.Between n m' l' y z w)) (λ s vs same.
      ap (eval_of s) (is ∙ both (λ u o. e.Between n u o a low high) m m' l l' (sym met) (sym met2) ∙ three (e.Between n m' l') a a' low low' high high' (sym p) (sym q) (sym r))
      ∙ same_bounded s vs (e.Between n m' l' a' low' high') (e.Between n m' l' y z w) (between_node s n m' l' a' low' high'
      ∙ three (λ (o u i : Meant). and_then o (λ v. and_then (between_of s.host.order m' l' v u i) (λ t. Ok (truth_value (turned n t))))) _ _ _ _ _ _ same.0.0 same.0.1 same.1
      ∙ sym (between_node (showing s vs) n m' l' y z w)))
      (both_known old later new (λ s t. Same a' y s t × Same low' z s t) (Same high' w) (both_known old mid later (Same a' y) (Same low' z) h k) j)

  abbrev SameAny : Option Expr → Option Expr → Setting → Setting → Type 0
  SameAny x y s t = (if_any s (option_map meaning x) ≡ if_any t (option_map meaning y)) × (or_null s (option_map meaning x) ≡ or_null t (option_map meaning y))

  abbrev SameArms : List When → List When → Setting → Setting → Type 0
  SameArms xs ys s t = AllZip (SameArm s t) xs ys

  same_taken : (s : Setting) (us : List Value) (v : Option Value) (xs ys : List When) → AllZip (SameArm s (showing s us)) xs ys → taken s v (map arm_of xs) ≡ taken (showing s us) v (map arm_of ys)
  same_taken s us v [] [] all = refl
  same_taken s us v [] (y ∷ ys) all = absurd all
  same_taken s us v (x ∷ xs) [] all = absurd all
  same_taken s us v (x ∷ xs) (y ∷ ys) all =
      ap (λ (a : Arm). taken s v (a ∷ map arm_of xs)) (arm_is x)
      ∙ one_arm s.host.order v x.meeting y.meeting (eval_of s x.when) (eval_of (showing s us) y.when) (eval_of s x.then) (eval_of (showing s us) y.then) _ _ all.0.0 all.0.1 all.0.2 (same_taken s us v xs ys all.1)
      ∙ sym (ap (λ (a : Arm). taken (showing s us) v (a ∷ map arm_of ys)) (arm_is y))
    where
      arm_is : (w : When) → arm_of w ≡ (let a : Arm = record { meeting = w.meeting; when = meaning w.when; gives = meaning w.then } in a)
      arm_is w = fold_out-When Meaning Arm node arm w

      one_arm : (order : Orders) (x : Option Value) (k k' : Meeting) (m m' n n' : Meant) (more less : Outcome (Option Value)) → k ≡ k' → m ≡ m' → n ≡ n' → more ≡ less
          → and_then m (λ w. and_then (is_taken order x k w) (λ t. if t then and_then n (λ v. Ok (Some v)) else more))
          ≡ and_then m' (λ w. and_then (is_taken order x k' w) (λ t. if t then and_then n' (λ v. Ok (Some v)) else less))
      one_arm order x k k' m m' n n' more less o p q r = rw (o, p, q, r) refl

  both_steps : (m m' : Outcome (Option Value)) (f f' : Option Value → Outcome (Option Value)) (n n' : Meant) → m ≡ m' → ((v : Option Value) → f v ≡ f' v) → n ≡ n'
      → and_then m (λ v. and_then (f v) (value_or n)) ≡ and_then m' (λ v. and_then (f' v) (value_or n'))
  both_steps (Ok v) m' f f' n n' p q k = ap (λ o. and_then (f v) (value_or o)) k ∙ ap (λ o. and_then o (value_or n')) (q v) ∙ ap (λ o. and_then o (λ u. and_then (f' u) (value_or n'))) p
  both_steps (Err g) m' f f' n n' p q k = ap (λ o. and_then o (λ v. and_then (f' v) (value_or n'))) p

  pub choice : (mid later new : List Call) (x : Expr) (a y other w : Option Expr) (arms arms' zs : List When) → x ≡ e.Case a arms other → arms' ≡ arms → ShowsIfAny old mid a y → ShowsArms mid later arms' zs → ShowsIfAny later new other w
      → Shows old new x (e.Case y zs w)
  choice mid later new x a y other w arms arms' zs is p h k j =
      follows old new (λ s t. (SameAny a y s t × SameArms arms' zs s t) × SameAny other w s t) (Same x (e.Case y zs w)) (λ s vs same.
      ap (eval_of s) (is ∙ ap (λ us. e.Case a us other) (sym p))
      ∙ same_bounded s vs (e.Case a arms' other) (e.Case y zs w) (case_node s a arms' other ∙ both_steps _ _ _ _ _ _ same.0.0.0 (λ v. same_taken s vs v arms' zs same.0.1) same.1.1 ∙ sym (case_node (showing s vs) y zs w)))
      (both_known old later new (λ s t. SameAny a y s t × SameArms arms' zs s t) (SameAny other w) (both_known old mid later (SameAny a y) (SameArms arms' zs) h k) j)

  -- ---- lists

  pub none_yet : ShowsAll old old [] []
  none_yet = same_here old (λ s t. each [] s ≡ each [] t) (λ s vs none. refl)

  pub one_more : (mid new : List Call) (xs ys : List Expr) (x y : Expr) → ShowsAll old mid xs ys → Shows mid new x y → ShowsAll old new (xs ++ x ∷ []) (ys ++ y ∷ [])
  one_more mid new xs ys x y h k =
      follows old new (λ s t. (each (map meaning xs) s ≡ each (map meaning ys) t) × Same x y s t) (λ s t. each (map meaning (xs ++ x ∷ [])) s ≡ each (map meaning (ys ++ y ∷ [])) t)
      (λ s vs same. parts xs x s ∙ both (λ (ms : List Meant) (m : Meant). ms ++ m ∷ []) _ _ _ _ same.0 same.1 ∙ sym (parts ys y (showing s vs)))
      (both_known old mid new (λ s t. each (map meaning xs) s ≡ each (map meaning ys) t) (Same x y) h k)
    where
      parts : (zs : List Expr) (z : Expr) (t : Setting) → each (map meaning (zs ++ z ∷ [])) t ≡ each (map meaning zs) t ++ eval_of t z ∷ []
      parts [] z t = refl
      parts (u ∷ zs) z t = ap (λ (ms : List Meant). eval_of t u ∷ ms) (parts zs z t)

  pub no_arms_yet : ShowsArms old old [] []
  no_arms_yet = same_here old (λ s t. AllZip (SameArm s t) [] []) (λ s vs none. tt)

  pub one_arm_more : (mid later new : List Call) (xs ys : List When) (w : When) (y z : Expr) (m : Meeting) → m ≡ w.meeting → ShowsArms old mid xs ys → Shows mid later w.when y → Shows later new w.then z
      → ShowsArms old new (xs ++ w ∷ []) (ys ++ record { meeting = m; when = y; then = z } ∷ [])
  one_arm_more mid later new xs ys w y z m met h k j =
      follows old new (λ s t. (AllZip (SameArm s t) xs ys × Same w.when y s t) × Same w.then z s t) (λ s t. AllZip (SameArm s t) (xs ++ w ∷ []) (ys ++ record { meeting = m; when = y; then = z } ∷ []))
      (λ s vs same. zip-append (SameArm s (showing s vs)) xs ys w (record { meeting = m; when = y; then = z }) same.0.0 (sym met, same.0.1, same.1))
      (both_known old later new (λ s t. AllZip (SameArm s t) xs ys × Same w.when y s t) (Same w.then z) (both_known old mid later (λ s t. AllZip (SameArm s t) xs ys) (Same w.when y) h k) j)

  -- ---- parts that need not be there

  pub some_part : (new : List Call) (x : Option Expr) (a a' y : Expr) → x ≡ Some a → a' ≡ a → Shows old new a' y → ShowsIfAny old new x (Some y)
  some_part new x a a' y is p h =
      subst (λ (z : Option Expr). ShowsIfAny old new z (Some y)) (sym (is ∙ ap (λ (b : Expr). Some b) (sym p)))
      (follows old new (Same a' y) (SameAny (Some a') (Some y)) (λ s vs same. (ap (λ (m : Meant). and_then m (λ v. Ok (Some v))) same, same)) h)

  pub no_part : (x : Option Expr) → x ≡ None → ShowsIfAny old old x None
  no_part x is = subst (λ (z : Option Expr). ShowsIfAny old old z None) (sym is) (same_here old (SameAny None None) (λ s vs none. (refl, refl)))

  pub boxed : (new : List Call) (x y : Expr) (r : Result Expr AllocError) → IfOk r (λ b. b ≡ y) → Shows old new x y → IfOk r (Shows old new x)
  boxed new x y (Ok b) is h = subst (λ (z : Expr). Shows old new x z) (sym is) h
  boxed new x y (Err f) is h = tt
