-- From the value of an expression to what it means to a query.
use Rattle.std.proofs.Common.{MatchOption, inl, inr, ℕ, ◌&&◌, ◌≡◌, ◌∙◌, Bool, true, false, cond, List, Option, Some, None, Result, Ok, Err, refl, sym, ap, subst}
use Rattle.std.specs.Option.{option_and_then}
use Rattle.cr_value.specs.declared.value.Value.{Value}
use Rattle.cr_term.specs.declared.expr.Expr.{Expr}
use Rattle.cr_term.specs.declared.expr.Expr as e
use Rattle.cr_term.specs.declared.expr.Expr.{out-Expr, map-Expr, out-roll-Expr}
use Rattle.cr_term.specs.declared.expr.Expr.TheVariants.{rolls-Collate, rolls-Compare, rolls-Unary}
use Rattle.cr_term.specs.declared.expr.Expr.TheOpen.{Expr-F, When-F, Collate, Compare, Unary}
use Rattle.cr_term.specs.declared.expr.Expr.TheFolds.{fold-roll-Expr}
use Rattle.cr_term.specs.declared.operator.Comparison.{Comparison}
use Rattle.cr_term.specs.declared.operator.Meeting.{Meeting}
use Rattle.cr_term.specs.declared.operator.Unary.{Unary as Sign}
use Rattle.cr_term.specs.declared.operator.Unary.TheVariants as sign
use Rattle.cr_term.specs.Terms.{plain as is_plain, plain_layer, plain_arm, quiet, quiet_layer}
use Rattle.cr_scalar.specs.Compare.{compared}
use Rattle.cr_scalar.specs.declared.fault.EvalFault.{EvalFault}
use Rattle.cr_scalar.specs.declared.fault.EvalFault.TheVariants.{Overflow, NotANumber, NotUtf8, Host as Said, TooBig, Memory}
use Rattle.cr_scalar.specs.Meaning.{and_then, bounded, Outcome, Meant, Evaluates, FaultsAs, byte_limit}
use Rattle.cr_scalar.specs.Numbers.{truth, is_true, is_null, truth_value, unary_of}
use Rattle.cr_scalar.specs.Host.{Host}
use Rattle.cr_expr.specs.declared.given.Given.{Given}
use Rattle.cr_expr.specs.Setting.{Setting, setting}
use Rattle.cr_expr.specs.Eval.{Meaning as Meaning-of, Arm, layer, meaning as meaning-of, arm_of, eval_of}
use Rattle.cr_expr.proofs.LimitLaw.{limit_law}
use Rattle.cr_expr.proofs.Nodes.{one_node}
use Rattle.cr_query.specs.Query.{Row, Group}
use Rattle.cr_meaning.specs.View.{Ordered, plain}
use Rattle.cr_meaning.specs.Meaning.{Regard, IsLimit, Counts, taken, so_taken, at_row, at_group}
use Rattle.cr_exec.specs.Answers.{Faults, IsMeant, Answers}
use Rattle.cr_exec.specs.Values.{null_wanted, null_test, HasValue}
use Rattle.cr_exec.specs.Scopes.{in_scope, is_so_in}
use Rattle.std.specs.Borrow.{Bor}
use Rattle.cr_exec.specs.declared.value.Scope.{Scope}
use Rattle.cr_exec.specs.declared.value.Scope.TheVariants as scope
use Rattle.cr_exec.proofs.Stages.{faults_on, faults_by, limit_of_count, alone}

abbrev unbounded : Host → Given → Setting
unbounded host given = setting None host given

abbrev over_layer : Setting → Expr-F Expr (When-F Expr (Unit {0})) → Meant
over_layer s y = layer (map-Expr Expr (When-F Expr (Unit {0})) Meaning-of Arm meaning-of arm_of y) s

collate_out : (y : Expr) (name : List ℕ) → out-Expr (e.Collate y name) ≡ Collate y name
collate_out y name = ap out-Expr (sym (rolls-Collate y name)) ∙ out-roll-Expr (Collate y name)

compare_out : (op : Comparison) (m : Meeting) (l r : Expr) → out-Expr (e.Compare op m l r) ≡ Compare op m l r
compare_out op m l r = ap out-Expr (sym (rolls-Compare op m l r)) ∙ out-roll-Expr (Compare op m l r)

unary_out : (op : Sign) (y : Expr) → out-Expr (e.Unary op y) ≡ Unary op y
unary_out op y = ap out-Expr (sym (rolls-Unary op y)) ∙ out-roll-Expr (Unary op y)

plain_collate : (y : Expr) (name : List ℕ) → is_plain (e.Collate y name) ≡ is_plain y
plain_collate y name = ap is_plain (sym (rolls-Collate y name)) ∙ fold-roll-Expr Bool (Unit {0}) plain_layer plain_arm (Collate y name)

-- COLLATE around an operand changes no value
pub under_collate : (given : Given) (x y y' : Expr) (name : List ℕ) (o : Option Value) → x ≡ e.Collate y name → y' ≡ y → MatchOption o (is_plain y' ≡ false) (λ v. (host : Host) → HasValue is_plain (setting None host given) y' v)
    → MatchOption o (is_plain x ≡ false) (λ v. (host : Host) → HasValue is_plain (setting None host given) x v)
under_collate given x y y' name None is at h = ap is_plain is ∙ plain_collate y name ∙ ap is_plain (sym at) ∙ h
under_collate given x y y' name (Some v) is at h = λ host. record {
  of_kind = ap is_plain is ∙ plain_collate y name ∙ ap is_plain (sym at) ∙ (h host).of_kind;
  value = ap (eval_of (unbounded host given)) is ∙ one_node (unbounded host given) (e.Collate y name) ∙ ap (λ m. and_then m (bounded None)) (ap (over_layer (unbounded host given)) (collate_out y name) ∙ ap (eval_of (unbounded host given)) (sym at) ∙ (h host).value);
}

-- a comparison of two that have values
pub quiet_compare : (host : Host) (given : Given) (x l l' r r' : Expr) (op : Comparison) (m : Meeting) (v w u : Value) (t : Option Bool) → x ≡ e.Compare op m l r → l' ≡ l → r' ≡ r
    → HasValue is_plain (setting None host given) l' v → HasValue is_plain (setting None host given) r' w → t ≡ compared host.order op m v w → u ≡ truth_value t → HasValue quiet (setting None host given) x u
quiet_compare host given x l l' r r' op m v w u t is a b h k c d =
    let s = unbounded host given in
    let one : eval_of s l ≡ Ok v = ap (eval_of s) (sym a) ∙ h.value in
    let two : eval_of s r ≡ Ok w = ap (eval_of s) (sym b) ∙ k.value in
    record {
      of_kind = ap quiet is ∙ ap quiet_layer (compare_out op m l r) ∙ (λ i. (ap is_plain (sym a) ∙ h.of_kind) i && (ap is_plain (sym b) ∙ k.of_kind) i);
      value = ap (eval_of s) is ∙ one_node s (e.Compare op m l r) ∙ ap (λ o. and_then o (bounded None)) (ap (over_layer s) (compare_out op m l r))
          ∙ (λ i. and_then (and_then (one i) (λ v. and_then (two i) (λ w. Ok (truth_value (compared host.order op m v w))))) (bounded None))
          ∙ ap Ok (sym (d ∙ ap truth_value c));
    }

-- another operator is no null test
pub no_null_test : (x y : Expr) (op : Sign) → x ≡ e.Unary op y → null_wanted op ≡ None → quiet x ≡ false
no_null_test x y op is h = ap quiet is ∙ ap quiet_layer (unary_out op y) ∙ by op h where
  by : (op : Sign) → null_wanted op ≡ None → quiet_layer (Unary op y) ≡ false
  by sign.Not h = refl
  by sign.Plus h = refl
  by sign.Minus h = refl
  by sign.IsNull h = absurd cc
  by sign.NotNull h = absurd cc

tested : (op : Sign) (b : Bool) (v : Value) → null_wanted op ≡ Some b → unary_of op v ≡ Ok (null_test (is_null v) b)
tested sign.Not b v h = absurd cc
tested sign.Plus b v h = absurd cc
tested sign.Minus b v h = absurd cc
tested sign.IsNull b v h = ap (λ t. Ok (null_test (is_null v) t)) (let q : true ≡ b = cc in q)
tested sign.NotNull b v h = ap (λ t. Ok (null_test (is_null v) t)) (let q : false ≡ b = cc in q)

quiet_test : (op : Sign) (b : Bool) (y : Expr) → null_wanted op ≡ Some b → quiet_layer (Unary op y) ≡ is_plain y
quiet_test sign.Not b y h = absurd cc
quiet_test sign.Plus b y h = absurd cc
quiet_test sign.Minus b y h = absurd cc
quiet_test sign.IsNull b y h = refl
quiet_test sign.NotNull b y h = refl

-- a null test of an operand that has no value of its own
pub unquiet_null : (x y y' : Expr) (op : Sign) (b : Bool) → x ≡ e.Unary op y → null_wanted op ≡ Some b → y' ≡ y → is_plain y' ≡ false → quiet x ≡ false
unquiet_null x y y' op b is o a h = ap quiet is ∙ ap quiet_layer (unary_out op y) ∙ quiet_test op b y o ∙ ap is_plain (sym a) ∙ h

-- a null test of one that has a value
pub quiet_null : (host : Host) (given : Given) (x y y' : Expr) (op : Sign) (v w u : Value) (b n : Bool) → x ≡ e.Unary op y → null_wanted op ≡ Some b → y' ≡ y
    → HasValue is_plain (setting None host given) y' v → w ≡ v → n ≡ is_null w → u ≡ null_test n b → HasValue quiet (setting None host given) x u
quiet_null host given x y y' op v w u b n is o a h q k d =
    let s = unbounded host given in
    let one : eval_of s y ≡ Ok v = ap (eval_of s) (sym a) ∙ h.value in
    record {
      of_kind = ap quiet is ∙ ap quiet_layer (unary_out op y) ∙ quiet_test op b y o ∙ ap is_plain (sym a) ∙ h.of_kind;
      value = ap (eval_of s) is ∙ one_node s (e.Unary op y) ∙ ap (λ m. and_then m (bounded None)) (ap (over_layer s) (unary_out op y))
          ∙ ap (λ m. and_then (and_then m (unary_of op)) (bounded None)) one
          ∙ ap (λ m. and_then m (bounded None)) (tested op b v o)
          ∙ ap (λ t. Ok (null_test t b)) (ap is_null (sym q) ∙ sym k) ∙ ap Ok (sym d);
    }

-- what an expression means under the limit, but for a value over it, it means under the other
under_limit : (e : Expr) (s : Setting) (most : Option ℕ) (o : Meant) → s.most ≡ byte_limit → IsLimit most → (o ≡ Err TooBig → ⊥) → eval_of s e ≡ o → eval_of (record s { most = most }) e ≡ o
under_limit e s most o is (inl none) ne h = ap (λ (n : Option ℕ). eval_of (record s { most = n }) e) none ∙ limit_law e s (λ big. ne (sym h ∙ big)) ∙ h
under_limit e s most o is (inr big) ne h = ap (λ (n : Option ℕ). eval_of (record s { most = n }) e) (big ∙ sym is) ∙ h

value_under : (e : Expr) (s : Setting) (g : Regard) (v : Value) → s.most ≡ byte_limit → IsLimit g.most → eval_of s e ≡ Ok v → taken g.value (eval_of (record s { most = g.most }) e) ≡ Some v
value_under e s g v is limit h = ap (taken g.value) (under_limit e s g.most (Ok v) is limit (λ q. absurd cc) h)

-- a fault is one wherever it counts
fault_under : (e : Expr) (s : Setting) (g : Regard) (f : EvalFault) → s.most ≡ byte_limit → FaultsAs (eval_of s e) f → Counts g f → taken g.value (eval_of (record s { most = g.most }) e) ≡ None
fault_under e s g Overflow is h c = ap (taken g.value) (under_limit e s g.most (Err Overflow) is c.0 (λ q. absurd cc) h) ∙ c.1.0
fault_under e s g NotANumber is h c = ap (taken g.value) (under_limit e s g.most (Err NotANumber) is c.0 (λ q. absurd cc) h) ∙ c.1.0
fault_under e s g NotUtf8 is h c = ap (taken g.value) (under_limit e s g.most (Err NotUtf8) is c.0 (λ q. absurd cc) h) ∙ c.1.0
fault_under e s g (Said text) is h c = ap (taken g.value) (under_limit e s g.most (Err (Said text)) is c.0 (λ q. absurd cc) h) ∙ c.1.0
fault_under e s g TooBig is h c = ap (λ (n : Option ℕ). taken g.value (eval_of (record s { most = n }) e)) (c.0 ∙ sym is) ∙ ap (taken g.value) h ∙ c.1.0
fault_under e s g Memory is h c = absurd c

-- a quiet expression's value
pub quiet_answers : (host : Host) (params : List Value) (row : Row) (e : Expr) (v : Value) → HasValue quiet (at_row None host params row) e v → IsMeant host params (λ m. m.value (plain e) row) v
quiet_answers host params row e v h = record {
  under = λ g l. ap (λ b. taken g.value (eval_of (at_row (cond b None g.most) host params row) e)) h.of_kind ∙ ap (taken g.value) h.value;
}

-- and that of another one
pub loud_answers : (host : Host) (params : List Value) (row : Row) (e : Expr) (r : Result Value EvalFault) → quiet e ≡ false → Evaluates (eval_of (at_row byte_limit host params row) e) r → Answers host params r (λ v. v) (λ m. m.value (plain e) row)
loud_answers host params row e r loud h = by r h
  where
    at : (g : Regard) → taken g.value (eval_of (at_row (cond (quiet e) None g.most) host params row) e) ≡ taken g.value (eval_of (at_row g.most host params row) e)
    at g = ap (λ b. taken g.value (eval_of (at_row (cond b None g.most) host params row) e)) loud

    by : (r : Result Value EvalFault) → Evaluates (eval_of (at_row byte_limit host params row) e) r → Answers host params r (λ v. v) (λ m. m.value (plain e) row)
    by (Ok v) h = record { under = λ g l. at g ∙ value_under e (at_row byte_limit host params row) g v refl l h }
    by (Err f) h = faults_by host params (λ m. m.value (plain e) row) f (λ g c. at g ∙ fault_under e (at_row byte_limit host params row) g f refl h c)

pub row_quiet : (host : Host) (params : List Value) (row : Row) (e : Expr) (o : Option Value) (v w : Value) → MatchOption o (quiet e ≡ false) (λ v. HasValue quiet (at_row None host params row) e v) → o ≡ Some v → w ≡ v → IsMeant host params (λ m. m.value (plain e) row) w
row_quiet host params row e None v w h is made = absurd cc
row_quiet host params row e (Some u) v w h is made = quiet_answers host params row e w (subst (HasValue quiet (at_row None host params row) e) (let q : u ≡ w = cc in q) h)

pub row_loud : (host : Host) (params : List Value) (row : Row) (e : Expr) (o : Option Value) (r : Result Value EvalFault) → MatchOption o (quiet e ≡ false) (λ v. HasValue quiet (at_row None host params row) e v) → o ≡ None → Evaluates (eval_of (at_row byte_limit host params row) e) r → Answers host params r (λ v. v) (λ m. m.value (plain e) row)
row_loud host params row e None r h is l = loud_answers host params row e r h l
row_loud host params row e (Some u) r h is l = absurd cc

pub group_answers : (host : Host) (params : List Value) (g : Group) (e : Expr) (r : Result Value EvalFault) → Evaluates (eval_of (at_group byte_limit host params g) e) r → Answers host params r (λ v. v) (λ m. m.over (plain e) g)
group_answers host params g e (Ok v) h = record { under = λ regard l. value_under e (at_group byte_limit host params g) regard v refl l h }
group_answers host params g e (Err f) h = faults_by host params (λ m. m.over (plain e) g) f (λ regard c. fault_under e (at_group byte_limit host params g) regard f refl h c)

is_so_known : (g : Regard) (o : Outcome (Option Bool)) (t : Option Bool) → o ≡ Ok t → so_taken g.truth o ≡ Some (is_true t)
is_so_known g o None h = ap (so_taken g.truth) h
is_so_known g o (Some true) h = ap (so_taken g.truth) h
is_so_known g o (Some false) h = ap (so_taken g.truth) h

-- whether a value is true
pub so_known : (host : Host) (params : List Value) (s : Scope) (e : Ordered) (v : Value) (t : Option Bool) → IsMeant host params (λ m. in_scope m s e) v → Ok t ≡ truth v → IsMeant host params (λ m. is_so_in m s e) (is_true t)
so_known host params s e v t b h = record {
  under = λ g l. ap (option_and_then (λ w. so_taken g.truth (truth w))) (b.under g l) ∙ is_so_known g (truth v) t (sym h);
}

pub so_unknown : (host : Host) (params : List Value) (s : Scope) (e : Ordered) (v : Value) (f : EvalFault) → IsMeant host params (λ m. in_scope m s e) v → Err f ≡ truth v → Faults host params (λ m. is_so_in m s e) f
so_unknown host params s e v f b h =
    faults_by host params (λ m. is_so_in m s e) f
    (λ g c. ap (option_and_then (λ w. so_taken g.truth (truth w))) (b.under g (limit_of_count g f c)) ∙ ap (so_taken g.truth) (sym h) ∙ (alone g f c).1)

pub so_faults : (host : Host) (params : List Value) (s : Scope) (e : Ordered) (f : EvalFault) → Faults host params (λ m. in_scope m s e) f → Faults host params (λ m. is_so_in m s e) f
so_faults host params s e f h = faults_on host params (λ m. in_scope m s e) (λ m. is_so_in m s e) f (λ g k. ap (option_and_then (λ w. so_taken g.truth (truth w))) k) h

pub in_row : (host : Host) (params : List Value) (s : Scope) (row : Bor (List Value)) (e : Expr) (r : Result Value EvalFault) → s ≡ scope.Row row → Answers host params r (λ v. v) (λ m. m.value (plain e) row.now) → Answers host params r (λ v. v) (λ m. in_scope m s (plain e))
in_row host params s row e r is h = subst (λ t. Answers host params r (λ v. v) (λ m. in_scope m t (plain e))) (sym is) h

pub in_group : (host : Host) (params : List Value) (s : Scope) (shown : Bor (List Value)) (members : Bor (List (List Value))) (e : Expr) (r : Result Value EvalFault) → s ≡ scope.Group shown members → Evaluates (eval_of (at_group byte_limit host params (record { shown = shown.now; members = members.now })) e) r → Answers host params r (λ v. v) (λ m. in_scope m s (plain e))
in_group host params s shown members e r is h = subst (λ t. Answers host params r (λ v. v) (λ m. in_scope m t (plain e))) (sym is) (group_answers host params (record { shown = shown.now; members = members.now }) e r h)
