-- Where a comparison of a column with a constant is true, the column meets the constraint that is offered.
use Rattle.std.proofs.Common.{◌≡◌, ℕ, Bool, true, false, not, ◌&&◌, ◌||◌, if◌then◌else◌, List, Option, Some, None, refl, sym, ap, subst, ◌∙◌, Ordering, Less, Equal, Greater}
use Rattle.std.specs.Ordering.{ordering_reverse}
use Rattle.std.specs.Option.{option_map_or}
use Rattle.cr_value.specs.declared.value.Value.{Value}
use Rattle.cr_value.specs.declared.value.Value.TheVariants.{Null, Int, Text, Blob}
use Rattle.cr_value.specs.declared.affinity.Affinity.{Affinity}
use Rattle.cr_value.specs.declared.affinity.Affinity.TheVariants as affinity
use Rattle.cr_value.specs.Affinity.{applied, as_number, as_text, int_of_text}
use Rattle.cr_value.specs.Order.{bytes_cmp, value_cmp}
use Rattle.cr_value.specs.OrderLaws.{value_exact, value_total}
use Rattle.cr_value.proofs.Fields.{provided, some_is}
use Rattle.cr_lattice.specs.Check.{same_bytes, is_null as is_nothing}
use Rattle.cr_lattice.proofs.Tested.{not_true, or_false}
use Rattle.cr_delta.proofs.Members.{same_is}
use Rattle.cr_term.specs.declared.expr.When.{When}
use Rattle.cr_term.specs.declared.operator.Comparison.{Comparison as Relation}
use Rattle.cr_term.specs.declared.operator.Comparison.TheVariants as r
use Rattle.cr_term.specs.declared.operator.Adjusted.{Adjusted}
use Rattle.cr_term.specs.declared.operator.Adjusted.TheVariants.{Neither, Left, Right}
use Rattle.cr_term.specs.declared.operator.Meeting.{Meeting}
use Rattle.cr_term.specs.declared.expr.Expr.{Expr, roll-Expr, map-Expr}
use Rattle.cr_term.specs.declared.expr.Expr.TheOpen.{Expr-F, Literal, Collate}
use Rattle.cr_term.specs.declared.expr.Expr.TheFolds.{fold-Expr, fold-When, fold-roll-Expr, ind-Expr}
use Rattle.cr_term.specs.Operands.{binary}
use Rattle.cr_scalar.specs.Compare.{value_cmp_by, meets, passes, takes_null, compared}
use Rattle.cr_scalar.specs.Host.{Host}
use Rattle.cr_scalar.specs.Numbers.{is_null}
use Rattle.cr_exec.specs.Equalities.{OrdersBytes}
use Rattle.cr_module.specs.declared.plan.Comparison.{Comparison}
use Rattle.cr_module.specs.declared.plan.Comparison.TheVariants.{Eq, Gt, Le, Lt, Ge}
use Rattle.cr_module.specs.Lawful.{compares, stands}
use Rattle.cr_sought.specs.Sought.{no_arm, constant_layer, constant, on_left, on_right}
use Rattle.cr_sought.proofs.Pins.{met_left, met_right}
use Rattle.cr_plan.specs.Offers.{never_null_layer, never_null, op_of, turned}

-- ---- NULL

same_null : (v : Value) → is_nothing v ≡ is_null v
same_null Null = refl
same_null (Int n) = refl
same_null (Text t) = refl
same_null (Blob b) = refl

number_null : (v : Value) → is_null (as_number v) ≡ is_null v
number_null Null = refl
number_null (Int n) = refl
number_null (Text t) = by (int_of_text t) where
  by : (o : Option _) → is_null (option_map_or Int o (Text t)) ≡ false
  by None = refl
  by (Some n) = refl
number_null (Blob b) = refl

text_null : (v : Value) → is_null (as_text v) ≡ is_null v
text_null Null = refl
text_null (Int n) = refl
text_null (Text t) = refl
text_null (Blob b) = refl

-- an affinity makes no NULL, and leaves none out
stays_null : (a : Affinity) (v : Value) → is_null (applied a v) ≡ is_null v
stays_null affinity.Integer v = number_null v
stays_null affinity.Text v = text_null v
stays_null affinity.Blob v = refl
stays_null affinity.Numeric v = number_null v

right_null : (a : Adjusted) (u w : Value) → on_right a u ≡ Some w → is_null w ≡ is_null u
right_null Neither u w e = ap is_null (sym (some_is u w e))
right_null (Left a) u w e = absurd cc
right_null (Right a) u w e = ap is_null (sym (some_is (applied a u) w e)) ∙ stays_null a u

left_null : (a : Adjusted) (u w : Value) → on_left a u ≡ Some w → is_null w ≡ is_null u
left_null Neither u w e = ap is_null (sym (some_is u w e))
left_null (Left a) u w e = ap is_null (sym (some_is (applied a u) w e)) ∙ stays_null a u
left_null (Right a) u w e = absurd cc

-- ---- a literal that is not NULL

abbrev Known : Expr → Type 0
Known e = (params : List Value) (u : Value) → never_null e ≡ true → constant params e ≡ Some u → is_null u ≡ false

abbrev Any : When → Type 0
Any w = Unit {0}

abbrev parts : {A : Type 0} → (Expr-F A (Unit {0}) → A) → Expr-F Expr When → Expr-F A (Unit {0})
parts {A} f x = map-Expr Expr When A (Unit {0}) (fold-Expr A (Unit {0}) f no_arm) (fold-When A (Unit {0}) f no_arm) x

abbrev NodeKnown : Expr-F Expr When → Type 0
NodeKnown x = (params : List Value) (u : Value) → never_null_layer (parts never_null_layer x) ≡ true
    → constant_layer params (parts (constant_layer params) x) ≡ Some u → is_null u ≡ false

rolls : (x : Expr-F Expr When) → NodeKnown x → Known (roll-Expr x)
rolls x known params u h k =
    known params u (sym (fold-roll-Expr Bool (Unit {0}) never_null_layer no_arm x) ∙ h)
    (sym (fold-roll-Expr (Option Value) (Unit {0}) (constant_layer params) no_arm x) ∙ k)

step : (y : Expr-F ((e : Expr) × Known e) ((w : When) × Any w))
    → NodeKnown (map-Expr ((e : Expr) × Known e) ((w : When) × Any w) Expr When (λ e. e.0) (λ w. w.0) y)
step (Literal v) params u h k = ap is_null (sym (some_is v u k)) ∙ not_true (is_null v) h
step (Collate x name) params u h k = x.1 params u h k
step _ params u h k = absurd cc

pub known : (e : Expr) → Known e
known = ind-Expr Known Any (λ x y is. rolls x (subst NodeKnown is (step y))) (λ w v is. tt)

-- ---- orders

same_order : (order : List ℕ → List ℕ → Ordering) → ((s t : List ℕ) → order s t ≡ bytes_cmp s t) → (a b : Value)
    → value_cmp_by order a b ≡ value_cmp a b
same_order order same (Text s) (Text t) = same s t
same_order order same _ _ = refl

less_is : (o : Ordering) → passes r.Less o ≡ stands Lt o
less_is Less = refl
less_is Equal = refl
less_is Greater = refl

at_most_is : (o : Ordering) → passes r.AtMost o ≡ stands Le o
at_most_is Less = refl
at_most_is Equal = refl
at_most_is Greater = refl

greater_is : (o : Ordering) → passes r.Greater o ≡ stands Gt o
greater_is Less = refl
greater_is Equal = refl
greater_is Greater = refl

at_least_is : (o : Ordering) → passes r.AtLeast o ≡ stands Ge o
at_least_is Less = refl
at_least_is Equal = refl
at_least_is Greater = refl

equal_is : (o : Ordering) → passes r.Equal o ≡ stands Eq o
equal_is Less = refl
equal_is Equal = refl
equal_is Greater = refl

is_equal : (o : Ordering) → passes r.Is o ≡ true → o ≡ Equal
is_equal Less e = absurd cc
is_equal Equal e = refl
is_equal Greater e = absurd cc

-- with the sides turned round
turned_stands : (k : Comparison) (o : Ordering) → stands (turned k) (ordering_reverse o) ≡ stands k o
turned_stands Eq Less = refl
turned_stands Eq Equal = refl
turned_stands Eq Greater = refl
turned_stands Gt Less = refl
turned_stands Gt Equal = refl
turned_stands Gt Greater = refl
turned_stands Le Less = refl
turned_stands Le Equal = refl
turned_stands Le Greater = refl
turned_stands Lt Less = refl
turned_stands Lt Equal = refl
turned_stands Lt Greater = refl
turned_stands Ge Less = refl
turned_stands Ge Equal = refl
turned_stands Ge Greater = refl

turned_round : (k : Comparison) (a b : Value) → stands (turned k) (value_cmp a b) ≡ stands k (value_cmp b a)
turned_round k a b = ap (stands (turned k)) (value_total.antisymm a b) ∙ turned_stands k (value_cmp b a)

-- ---- what is true

unless_null : (n b : Bool) → (if n then None else Some b) ≡ Some true → (n ≡ false) × (b ≡ true)
unless_null true b e = absurd cc
unless_null false b e = (refl, some_is b true e)

as_told : (j k : Comparison) (n b : Bool) (o : Ordering) → j ≡ k → b ≡ stands j o → (n ≡ false) × (b ≡ true)
    → (n ≡ false) × (stands k o ≡ true)
as_told j k n b o same is h = (h.0, ap (λ op. stands op o) (sym same) ∙ sym is ∙ h.1)

-- neither operand is NULL, and they stand so, where an equality of a value that is not NULL tells that none is
stands_so : (op : Relation) (y : Expr) (k : Comparison) (n : Bool) (o : Ordering) → op_of op y ≡ Some k
    → (never_null y ≡ true → o ≡ Equal → n ≡ false)
    → (if not (takes_null op) && n then None else Some (passes op o)) ≡ Some true → (n ≡ false) × (stands k o ≡ true)
stands_so r.Less y k n o e tied h = as_told Lt k n _ o (some_is Lt k e) (less_is o) (unless_null n _ h)
stands_so r.AtMost y k n o e tied h = as_told Le k n _ o (some_is Le k e) (at_most_is o) (unless_null n _ h)
stands_so r.Greater y k n o e tied h = as_told Gt k n _ o (some_is Gt k e) (greater_is o) (unless_null n _ h)
stands_so r.AtLeast y k n o e tied h = as_told Ge k n _ o (some_is Ge k e) (at_least_is o) (unless_null n _ h)
stands_so r.Equal y k n o e tied h = as_told Eq k n _ o (some_is Eq k e) (equal_is o) (unless_null n _ h)
stands_so r.Unequal y k n o e tied h = absurd cc
stands_so r.Is y k n o e tied h =
    let d = provided (never_null y) (Some Eq) k e in
    let same = is_equal o (some_is (passes r.Is o) true h) in
    (tied d.0 same, (λ i. stands (sym (some_is Eq k d.1) i) (same i)))
stands_so r.IsNot y k n o e tied h = absurd cc

module _ (host : Host) (bytes : OrdersBytes host) (m : Meeting) (is : same_bytes m.collation binary ≡ true) where
  ordered : (a b : Value) → value_cmp_by (host.order m.collation) a b ≡ value_cmp a b
  ordered = same_order (host.order m.collation) (λ s t. ap (λ name. host.order name s t) (same_is m.collation binary is) ∙ bytes s t)

  compares_so : (k : Comparison) (v w : Value) → is_null v ≡ false → is_null w ≡ false → stands k (value_cmp v w) ≡ true
      → compares k v w ≡ true
  compares_so k v w some_v some_w so = λ i. not ((same_null v ∙ some_v) i || (same_null w ∙ some_w) i) && so i

  -- what equals a value that is not NULL isn't, either
  none_null : (u v w : Value) → is_null w ≡ is_null u → is_null u ≡ false → v ≡ w → (is_null v ≡ false) × (is_null u ≡ false)
  none_null u v w same some e = (ap is_null e ∙ same ∙ some, some)

  -- a column on the left, a constant on the right, and what the constant becomes
  pub meets_left : (op : Relation) (y : Expr) (k : Comparison) (v u w : Value) → op_of op y ≡ Some k
      → (never_null y ≡ true → is_null u ≡ false)
      → on_right m.adjusted u ≡ Some w → compared host.order op m v u ≡ Some true → compares k v w ≡ true
  meets_left op y k v u w e some takes h =
      let met = met_right m.adjusted u w v takes in
      let stood : meets host.order m v u ≡ value_cmp v w = (λ i. value_cmp_by (host.order m.collation) (met.0 i) (met.1 i)) ∙ ordered v w in
      let null = right_null m.adjusted u w takes in
      let so = stands_so op y k (is_null v || is_null u) (meets host.order m v u) e
      (λ never tied. (let n = none_null u v w null (some never) (value_exact v w (sym stood ∙ tied)) in λ i. n.0 i || n.1 i)) h in
      let none = or_false (is_null v) (is_null u) so.0 in
      compares_so k v w none.0 (null ∙ none.1) (ap (stands k) (sym stood) ∙ so.1)

  -- a column on the right, and a constant on the left
  pub meets_right : (op : Relation) (x : Expr) (k : Comparison) (v u w : Value) → op_of op x ≡ Some k
      → (never_null x ≡ true → is_null u ≡ false)
      → on_left m.adjusted u ≡ Some w → compared host.order op m u v ≡ Some true → compares (turned k) v w ≡ true
  meets_right op x k v u w e some takes h =
      let met = met_left m.adjusted u w v takes in
      let stood : meets host.order m u v ≡ value_cmp w v = (λ i. value_cmp_by (host.order m.collation) (met.1 i) (met.0 i)) ∙ ordered w v in
      let null = left_null m.adjusted u w takes in
      let so = stands_so op x k (is_null u || is_null v) (meets host.order m u v) e
      (λ never tied. (let n = none_null u v w null (some never) (sym (value_exact w v (sym stood ∙ tied))) in λ i. n.1 i || n.0 i)) h in
      let none = or_false (is_null u) (is_null v) so.0 in
      compares_so (turned k) v w none.1 (null ∙ none.0) (turned_round k v w ∙ ap (stands k) (sym stood) ∙ so.1)
