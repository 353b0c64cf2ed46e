-- A term that pins a column is quiet, and not true on a row that has another value there.
use Rattle.std.proofs.Common.{◌≡◌, inl, inr, ℕ, ℤ, ◌≤ℤ◌, int_cmp, arith, Bool, true, false, ◌&&◌, ◌||◌, if◌then◌else◌, cond, List, [], ◌∷◌, ◌++◌, map, get_or, Option, Some, None, Ok, refl, sym, ap, subst, ◌∙◌, Ordering, Less, Equal, Greater}
use Rattle.std.proofs.lemmas.Int.{ints}
use Rattle.std.specs.Prelude.{◌-◌, ◌==◌, int_lt, nat_lt, slice_get}
use Rattle.std.specs.List.{list_any}
use Rattle.std.specs.Option.{option_map_or, option_and_then, option_or}
use Rattle.std.specs.FinSet.{int_cmp-IsAntisymmetric}
use Rattle.std.proofs.lemmas.Bool.{eqb-true}
use Rattle.std.proofs.lemmas.List.Folds.{list_any-append}
use Rattle.cr_value.specs.declared.value.Value.{Value}
use Rattle.cr_value.specs.declared.value.Value.TheVariants.{Null, Int, Text, Blob}
use Rattle.cr_value.specs.Affinity.{applied}
use Rattle.cr_value.specs.Order.{value_cmp}
use Rattle.cr_value.specs.OrderLaws.{bytes_exact, value_total}
use Rattle.cr_value.proofs.Fields.{chosen, provided, some_is}
use Rattle.cr_lattice.specs.Check.{same_bytes}
use Rattle.cr_lattice.proofs.Tested.{or_left, or_right}
use Rattle.cr_delta.proofs.Members.{same_is}
use Rattle.cr_term.specs.declared.expr.Column.{Column as Field}
use Rattle.cr_term.specs.declared.expr.When.{When}
use Rattle.cr_term.specs.declared.operator.Comparison.{Comparison}
use Rattle.cr_term.specs.declared.operator.Comparison.TheVariants as c
use Rattle.cr_term.specs.declared.operator.Adjusted.{Adjusted}
use Rattle.cr_term.specs.declared.operator.Adjusted.TheVariants.{Neither, Left, Right}
use Rattle.cr_term.specs.declared.operator.Meeting.{Meeting}
use Rattle.cr_term.specs.declared.expr.Expr.{Expr, out-Expr, roll-Expr, map-Expr}
use Rattle.cr_term.specs.declared.expr.Expr.TheOpen.{Expr-F, When-F, Literal, Param, Column, Compare, Collate}
use Rattle.cr_term.specs.declared.expr.Expr.TheFolds.{fold-Expr, fold-When, fold-roll-Expr, ind-Expr}
use Rattle.cr_term.specs.Operands.{binary}
use Rattle.cr_term.specs.Same.{Layer}
use Rattle.cr_term.specs.Terms.{plain, plain_layer, plain_arm, quiet_layer, quiet}
use Rattle.cr_scalar.specs.Compare.{value_cmp_by, adjusted_left, adjusted_right, meets, passes, compared}
use Rattle.cr_scalar.specs.Host.{Host}
use Rattle.cr_scalar.specs.Meaning.{Meant, and_then, bounded}
use Rattle.cr_scalar.specs.Numbers.{truth, truth_value, is_null}
use Rattle.cr_expr.specs.Setting.{Setting}
use Rattle.cr_expr.specs.Eval.{Meaning, Arm, node, arm, layer, meaning, arm_of, eval_of}
use Rattle.cr_expr.specs.Laws.{unlimited}
use Rattle.cr_expr.proofs.Nodes.{one_node}
use Rattle.cr_query.specs.Query.{Row, Meaning as Meant_by, is_true, holds}
use Rattle.cr_query.specs.Plans.{is_false}
use Rattle.cr_query.proofs.PlanLaws.{rejected}
use Rattle.cr_meaning.specs.View.{Ordered}
use Rattle.cr_meaning.specs.View as view
use Rattle.cr_meaning.specs.Meaning as queries
use Rattle.cr_meaning.proofs.Limits.{known_so, safe}
use Rattle.cr_exec.specs.Equalities.{OrdersBytes}
use Rattle.cr_sought.specs.Sought.{Beside, no_arm, alone, column_layer, column_under, constant_layer, constant, held, is_column, known, on_left, on_right, pin_in, pin, pinned}
use Rattle.cr_sought.specs.Bounds.{bound_in, bound, integer, lower_bound}
use Rattle.cr_sought.proofs.Keys.{Differs}

-- ---- what operands are

-- the operand is plain, and has this value
abbrev pub Has : Setting → Expr → Value → Type 0
Has s e v = (plain e ≡ true) × (eval_of (unlimited s) e ≡ Ok v)

abbrev pub Says : Expr → Type 0
Says e = (s : Setting)
    → ((c : Field) → column_under e ≡ Some c → Has s e (get_or s.row c.at Null))
    × ((v : Value) → constant s.params e ≡ Some v → Has s e v)

abbrev Any : When → Type 0
Any w = Unit {0}

-- the same of a node
abbrev NodeHas : Setting → Expr-F Expr When → Value → Type 0
NodeHas s x v =
    (plain_layer (map-Expr Expr When Bool (Unit {0}) plain (fold-When Bool (Unit {0}) plain_layer plain_arm) x) ≡ true)
    × (node (map-Expr Expr When Meaning Arm meaning arm_of x) (unlimited s) ≡ Ok v)

-- a fold of a node's parts, by a layer that takes nothing of arms
abbrev parts : {A : Type 0} → (Expr-F A (Unit {0}) → A) → Expr-F Expr When → Expr-F A (Unit {0})
parts {A} f x = map-Expr Expr When A (Unit {0}) (fold-Expr A (Unit {0}) f no_arm) (fold-When A (Unit {0}) f no_arm) x

abbrev NodeSays : Expr-F Expr When → Type 0
NodeSays x = (s : Setting)
    → ((c : Field) → column_layer (parts column_layer x) ≡ Some c → NodeHas s x (get_or s.row c.at Null))
    × ((v : Value) → constant_layer s.params (parts (constant_layer s.params) x) ≡ Some v → NodeHas s x v)

rolls : (x : Expr-F Expr When) → NodeSays x → Says (roll-Expr x)
rolls x says s = (
  λ c h. has (get_or s.row c.at Null) ((says s).0 c (sym (fold-roll-Expr (Option Field) (Unit {0}) column_layer no_arm x) ∙ h)),
  λ v h. has v ((says s).1 v (sym (fold-roll-Expr (Option Value) (Unit {0}) (constant_layer s.params) no_arm x) ∙ h)),
) where
  has : (v : Value) → NodeHas s x v → Has s (roll-Expr x) v
  has v h = (
    fold-roll-Expr Bool (Unit {0}) plain_layer plain_arm x ∙ h.0,
    ap (λ (m : Meaning). m (unlimited s)) (fold-roll-Expr Meaning Arm node arm x) ∙ h.1,
  )

step : (y : Expr-F ((e : Expr) × Says e) ((w : When) × Any w))
    → NodeSays (map-Expr ((e : Expr) × Says e) ((w : When) × Any w) Expr When (λ e. e.0) (λ w. w.0) y)
step (Literal v) s = (λ c h. absurd cc, λ w h. (refl, ap Ok (some_is v w h)))
step (Param n) s = (λ c h. absurd cc, λ w h. (refl, ap Ok (some_is (get_or s.params (n - 1) Null) w h)))
step (Column k) s = (λ c h. (refl, ap (λ (f : Field). Ok (get_or s.row f.at Null)) (some_is k c h)), λ w h. absurd cc)
step (Collate x name) s = (λ c h. within ((x.1 s).0 c h), λ w h. within ((x.1 s).1 w h)) where
  within : {v : Value} → Has s x.0 v → (plain x.0 ≡ true) × (and_then (meaning x.0 (unlimited s)) (bounded None) ≡ Ok v)
  within h = (h.0, ap (λ m. and_then m (bounded None)) h.1)
step _ s = (λ c h. absurd cc, λ w h. absurd cc)

pub says : (e : Expr) → Says e
says = ind-Expr Says Any (λ x y is. rolls x (subst NodeSays is (step y))) (λ w v is. tt)

pub column_has : (s : Setting) (e : Expr) (at : ℕ) → is_column at e ≡ true → Has s e (get_or s.row at Null)
column_has s e at h = by (column_under e) refl h where
  by : (o : Option Field) → column_under e ≡ o → option_map_or (λ c. c.at == at) o false ≡ true → Has s e (get_or s.row at Null)
  by None is h = absurd cc
  by (Some c) is h = subst (λ n. Has s e (get_or s.row n Null)) (eqb-true c.at at h) ((says e s).0 c is)

-- ---- beside a row of another table

-- each column of the row has its value in the combination
abbrev pub StandsIn : Row → Beside → Type 0
StandsIn c b = (at : ℕ) (v : Value) → held b at ≡ Some v → get_or c at Null ≡ v

pub alone_stands : (c : Row) → StandsIn c alone
alone_stands c at v h = by (nat_lt at 0) h where
  no_values : List Value
  no_values = []

  by : (b : Bool) → cond b None (slice_get no_values (at - 0)) ≡ Some v → get_or c at Null ≡ v
  by true k = absurd cc
  by false k = absurd cc

known_has : (s : Setting) (b : Beside) → StandsIn s.row b → (e : Expr) (v : Value) → known b s.params e ≡ Some v → Has s e v
known_has s b stands e v h = by (constant s.params e) refl h where
  beside : (o : Option Field) → column_under e ≡ o → option_and_then (λ c. held b c.at) o ≡ Some v → Has s e v
  beside None is k = absurd cc
  beside (Some c) is k = subst (Has s e) (stands c.at v k) ((says e s).0 c is)

  by : (o : Option Value) → constant s.params e ≡ o → option_or o (option_and_then (λ c. held b c.at) (column_under e)) ≡ Some v → Has s e v
  by None is k = beside (column_under e) refl k
  by (Some u) is k = (says e s).1 v (is ∙ k)

-- ---- what ties

tied_is : (order : List ℕ → List ℕ → Ordering) → ((s t : List ℕ) → order s t ≡ Equal → s ≡ t) → (a b : Value)
    → value_cmp_by order a b ≡ Equal → a ≡ b
tied_is order exact Null Null e = refl
tied_is order exact (Int m) (Int n) e = ap Int (int_cmp-IsAntisymmetric m n e)
tied_is order exact (Text s) (Text t) e = ap Text (exact s t e)
tied_is order exact (Blob s) (Blob t) e = ap Blob (bytes_exact s t e)
tied_is order exact _ _ e = absurd cc

module _ (host : Host) (bytes : OrdersBytes host) (m : Meeting) (is : same_bytes m.collation binary ≡ true) where
  exact : (s t : List ℕ) → host.order m.collation s t ≡ Equal → s ≡ t
  exact s t e = bytes_exact s t (sym (bytes s t) ∙ ap (λ name. host.order name s t) (sym (same_is m.collation binary is)) ∙ e)

  passes_is : (o : Ordering) → Some (passes c.Equal o) ≡ Some true → o ≡ Equal
  passes_is Less e = absurd cc
  passes_is Equal e = refl
  passes_is Greater e = absurd cc

  -- where two operands are equal, what the comparison makes of them is the same
  pub met : (v w : Value) → compared host.order c.Equal m v w ≡ Some true → adjusted_left m.adjusted v ≡ adjusted_right m.adjusted w
  met v w e = by (is_null v || is_null w) e where
    by : (b : Bool) → (if b then None else Some (passes c.Equal (meets host.order m v w))) ≡ Some true
        → adjusted_left m.adjusted v ≡ adjusted_right m.adjusted w
    by true h = absurd cc
    by false h =
        tied_is (host.order m.collation) exact (adjusted_left m.adjusted v) (adjusted_right m.adjusted w)
        (passes_is (meets host.order m v w) h)

-- NULL is equal to nothing
pub null_left : (order : List ℕ → List ℕ → List ℕ → Ordering) (m : Meeting) (v u : Value) → v ≡ Null → compared order c.Equal m v u ≡ Some true → ⊥
null_left order m v u e h =
    let k : compared order c.Equal m Null u ≡ Some true = ap (λ x. compared order c.Equal m x u) (sym e) ∙ h in absurd cc

null_right : (order : List ℕ → List ℕ → List ℕ → Ordering) (m : Meeting) (u v : Value) → v ≡ Null → compared order c.Equal m u v ≡ Some true → ⊥
null_right order m u v e h = by (is_null u) (ap (λ x. compared order c.Equal m u x) (sym e) ∙ h) where
  by : (b : Bool) → (if b || true then None else Some (passes c.Equal (meets order m u Null))) ≡ Some true → ⊥
  by true k = absurd cc
  by false k = absurd cc

pub of_right : (a : Adjusted) (v u w : Value) → on_right a u ≡ Some w → adjusted_left a v ≡ adjusted_right a u → v ≡ w
of_right Neither v u w e h = h ∙ some_is u w e
of_right (Left a) v u w e h = absurd cc
of_right (Right a) v u w e h = h ∙ some_is (applied a u) w e

of_left : (a : Adjusted) (v u w : Value) → on_left a u ≡ Some w → adjusted_left a u ≡ adjusted_right a v → v ≡ w
of_left Neither v u w e h = sym h ∙ some_is u w e
of_left (Left a) v u w e h = sym h ∙ some_is (applied a u) w e
of_left (Right a) v u w e h = absurd cc

-- ---- bounds

integer_is : (w : Value) (n : ℤ) → integer w ≡ Some n → w ≡ Int n
integer_is (Int m) n e = ap Int (some_is m n e)
integer_is _ n e = absurd cc

pub met_right : (a : Adjusted) (u w v : Value) → on_right a u ≡ Some w → (adjusted_left a v ≡ v) × (adjusted_right a u ≡ w)
met_right Neither u w v e = (refl, some_is u w e)
met_right (Left a) u w v e = absurd cc
met_right (Right a) u w v e = (refl, some_is (applied a u) w e)

pub met_left : (a : Adjusted) (u w v : Value) → on_left a u ≡ Some w → (adjusted_right a v ≡ v) × (adjusted_left a u ≡ w)
met_left Neither u w v e = (refl, some_is u w e)
met_left (Left a) u w v e = (refl, some_is (applied a u) w e)
met_left (Right a) u w v e = absurd cc

not_greater : (v n : ℤ) → v ≤ℤ n → Some (passes c.Greater (int_cmp v n)) ≡ Some true → ⊥
not_greater v n low e =
    elim (int_cmp v n) as (λ o. int_cmp v n ≡ o → Some (passes c.Greater o) ≡ Some true → ⊥) [
      | Less ↦ λ is h. absurd cc
      | Equal ↦ λ is h. absurd cc
      | Greater ↦ λ is h. (let past : int_lt n v ≡ true = grind (arith, ints) in absurd (grind (arith, ints)))
    ] refl e

not_less : (v n : ℤ) → v ≤ℤ n → Some (passes c.Less (int_cmp n v)) ≡ Some true → ⊥
not_less v n low e =
    elim (int_cmp n v) as (λ o. int_cmp n v ≡ o → Some (passes c.Less o) ≡ Some true → ⊥) [
      | Less ↦ λ is h. (let past : int_lt n v ≡ true = grind (arith, ints) in absurd (grind (arith, ints)))
      | Equal ↦ λ is h. absurd cc
      | Greater ↦ λ is h. absurd cc
    ] refl e

never_above : (host : Host) (m : Meeting) (v n : ℤ) (u : Value) → on_right m.adjusted u ≡ Some (Int n) → v ≤ℤ n
    → compared host.order c.Greater m (Int v) u ≡ Some true → ⊥
never_above host m v n u e low h = by (is_null u) h where
  by : (b : Bool) → (if b then None else Some (passes c.Greater (meets host.order m (Int v) u))) ≡ Some true → ⊥
  by true k = absurd cc
  by false k =
      let met = met_right m.adjusted u (Int n) (Int v) e in
      not_greater v n low ((λ i. Some (passes c.Greater (value_cmp_by (host.order m.collation) (sym met.0 i) (sym met.1 i)))) ∙ k)

never_below : (host : Host) (m : Meeting) (v n : ℤ) (u : Value) → on_left m.adjusted u ≡ Some (Int n) → v ≤ℤ n
    → compared host.order c.Less m u (Int v) ≡ Some true → ⊥
never_below host m v n u e low h = by (is_null u || is_null (Int v)) h where
  by : (b : Bool) → (if b then None else Some (passes c.Less (meets host.order m u (Int v)))) ≡ Some true → ⊥
  by true k = absurd cc
  by false k =
      let met = met_left m.adjusted u (Int n) (Int v) e in
      not_less v n low ((λ i. Some (passes c.Less (value_cmp_by (host.order m.collation) (sym met.1 i) (sym met.0 i)))) ∙ k)

-- ---- one term

pub untrue : (t : Option Bool) → (t ≡ Some true → ⊥) → queries.is_so (truth (truth_value t)) ≡ Some false
untrue (Some true) never = absurd (never refl)
untrue (Some false) never = refl
untrue None never = refl

pub then_some : {A B : Type 0} (f : A → Option B) (o : Option A) (b : B) → option_and_then f o ≡ Some b
    → (a : A) × (o ≡ Some a) × (f a ≡ Some b)
then_some f None b e = absurd cc
then_some f (Some a) b e = (a, refl, e)

module _ (host : Host) (params : List Value) (row : Row) where
  abbrev pub here : Setting
  here = queries.at_row None host params row

  abbrev pub told : Meant → Option Bool
  told m = option_and_then (λ v. queries.is_so (truth v)) (queries.value_of (and_then m (bounded None)))

  abbrev pub Misses : Layer → Type 0
  Misses y = (quiet_layer y ≡ true) × (told (layer (map-Expr Expr (When-F Expr (Unit {0})) Meaning Arm meaning arm_of y) here) ≡ Some false)

  pub two_miss : (op : Comparison) (m : Meeting) (x y : Expr) (v w : Value) → Has here x v → Has here y w → (compared host.order op m v w ≡ Some true → ⊥)
      → Misses (Compare op m x y)
  two_miss op m x y v w hx hy never = (
    λ i. hx.0 i && hy.0 i,
    (λ i. told (and_then (hx.1 i) (λ v. and_then (hy.1 i) (λ w. Ok (truth_value (compared host.order op m v w))))))
        ∙ untrue (compared host.order op m v w) never,
  )

  misses : (bytes : OrdersBytes host) (b : Beside) → StandsIn row b → (y : Layer) (at : ℕ) (w : Value) → pin_in b params at y ≡ Some w → (get_or row at Null ≡ w → w ≡ Null) → Misses y
  misses bytes b stands (Compare c.Equal m x y) at w h differs =
      let p = provided (same_bytes m.collation binary) _ w h in
      let v = get_or row at Null in
      elim (chosen (is_column at x) _ _ (Some w) p.1) [
        | inl l ↦ (
            let k = then_some (on_right m.adjusted) (known b params y) w l.1 in
            two_miss c.Equal m x y v k.0 (column_has here x at l.0) (known_has here b stands y k.0 k.1)
            (λ so. (
            let same = of_right m.adjusted v k.0 w k.2 (met host bytes m p.0 v k.0 so) in
            null_left host.order m v k.0 (same ∙ differs same) so)))
        | inr other ↦ (
            let r = provided (is_column at y) _ w other.1 in
            let k = then_some (on_left m.adjusted) (known b params x) w r.1 in
            two_miss c.Equal m x y k.0 v (known_has here b stands x k.0 k.1) (column_has here y at r.0)
            (λ so. (
            let same = of_left m.adjusted v k.0 w k.2 (met host bytes m p.0 k.0 v so) in
            null_right host.order m k.0 v (same ∙ differs same) so)))
      ]
  misses bytes b stands _ at w h differs = absurd cc

  misses_above : (y : Layer) (at : ℕ) (n v : ℤ) → bound_in params at y ≡ Some (Int n) → get_or row at Null ≡ Int v → v ≤ℤ n → Misses y
  misses_above (Compare c.Greater m x y) at n v h is low =
      let b = provided (is_column at x) _ (Int n) h in
      let k = then_some (on_right m.adjusted) (constant params y) (Int n) b.1 in
      two_miss c.Greater m x y (get_or row at Null) k.0 (column_has here x at b.0) ((says y here).1 k.0 k.1)
      (λ so. never_above host m v n k.0 k.2 low (ap (λ u. compared host.order c.Greater m u k.0) (sym is) ∙ so))
  misses_above (Compare c.Less m x y) at n v h is low =
      let b = provided (is_column at y) _ (Int n) h in
      let k = then_some (on_left m.adjusted) (constant params x) (Int n) b.1 in
      two_miss c.Less m x y k.0 (get_or row at Null) ((says x here).1 k.0 k.1) (column_has here y at b.0)
      (λ so. never_below host m v n k.0 k.2 low (ap (compared host.order c.Less m k.0) (sym is) ∙ so))
  misses_above _ at n v h is low = absurd cc

  module _ (regard : queries.Regard) where
    abbrev m : Meant_by Ordered
    m = queries.regarded regard host params

    term_misses : (bytes : OrdersBytes host) (b : Beside) → StandsIn row b → (e : Expr) (at : ℕ) (w : Value) → pin b params at e ≡ Some w → (get_or row at Null ≡ w → w ≡ Null)
        → (quiet e ≡ true) × (is_true m (view.plain e) row ≡ Some false)
    term_misses bytes b stands e at w h differs =
        let k = misses bytes b stands (out-Expr e) at w h differs in
        let so : Meant → Option Bool = λ m. option_and_then (λ v. queries.so_taken regard.truth (truth v)) (queries.taken regard.value m) in
        (k.0, ap (λ b. so (eval_of (queries.at_row (cond b None regard.most) host params row) e)) k.0 ∙ ap so (one_node here e) ∙ known_so regard _ false k.1)

    -- ---- all terms

    abbrev pub is_missed : Ordered → Bool
    is_missed e = m.quiet e && is_false (is_true m e row)

    abbrev pub any_missed : List Expr → Bool
    any_missed terms = list_any is_missed (map view.plain terms)

    some_miss : (bytes : OrdersBytes host) (b : Beside) → StandsIn row b → (terms : List Expr) (at : ℕ) (w : Value) → pinned b params terms at ≡ Some w → (get_or row at Null ≡ w → w ≡ Null)
        → any_missed terms ≡ true
    some_miss bytes b stands [] at w h differs = absurd cc
    some_miss bytes b stands (e ∷ es) at w h differs =
        elim (pin b params at e) as (λ o. pin b params at e ≡ o → option_or o (pinned b params es at) ≡ Some w → any_missed (e ∷ es) ≡ true) [
          | None ↦ λ is k. or_right _ _ (some_miss bytes b stands es at w k differs)
          | Some u ↦ λ is k. (let t = term_misses bytes b stands e at w (is ∙ k) differs in or_left _ _ (λ i. t.0 i && is_false (t.1 i)))
        ] refl h

    -- some term is not true where the terms pin a column to another value than the combination has there
    pub differing : (bytes : OrdersBytes host) (b : Beside) → StandsIn row b → (terms : List Expr) → Differs (pinned b params terms) row → any_missed terms ≡ true
    differing bytes b stands terms d = some_miss bytes b stands terms d.at d.wanted d.tells d.differs

    term_misses_above : (e : Expr) (at : ℕ) (n v : ℤ) → bound params at e ≡ Some (Int n) → get_or row at Null ≡ Int v → v ≤ℤ n
        → (quiet e ≡ true) × (is_true m (view.plain e) row ≡ Some false)
    term_misses_above e at n v h is low =
        let k = misses_above (out-Expr e) at n v h is low in
        let so : Meant → Option Bool = λ m. option_and_then (λ v. queries.so_taken regard.truth (truth v)) (queries.taken regard.value m) in
        (k.0, ap (λ b. so (eval_of (queries.at_row (cond b None regard.most) host params row) e)) k.0 ∙ ap so (one_node here e) ∙ known_so regard _ false k.1)

    some_miss_above : (terms : List Expr) (at : ℕ) (n v : ℤ) → lower_bound params terms at ≡ Some n → get_or row at Null ≡ Int v → v ≤ℤ n
        → any_missed terms ≡ true
    some_miss_above [] at n v h is low = absurd cc
    some_miss_above (e ∷ es) at n v h is low =
        elim (option_and_then integer (bound params at e)) as (λ o. option_and_then integer (bound params at e) ≡ o → option_or o (lower_bound params es at) ≡ Some n → any_missed (e ∷ es) ≡ true) [
          | None ↦ λ none k. or_right _ _ (some_miss_above es at n v k is low)
          | Some u ↦ λ some k. (
              let b = then_some integer (bound params at e) u some in
              let t = term_misses_above e at n v (b.1 ∙ ap Some (integer_is b.0 u b.2 ∙ ap Int (some_is u n k))) is low in
              or_left _ _ (λ i. t.0 i && is_false (t.1 i)))
        ] refl h

    -- the same but for the order of values and aggregates, which no term asks for
    abbrev like : Meant_by Ordered
    like = record m { over = λ e g. None; order = λ e. value_cmp }

    -- terms of which some is not true are not all true, and do not fault
    pub missed_rejects : (terms : List Ordered) → list_any is_missed terms ≡ true → holds m terms row ≡ Some false
    missed_rejects terms h =
        rejected like (record { order_total = λ e. value_total; over_bag = λ e k cs ds s. refl }) (safe regard host params) terms row h

    -- terms that pin a column to another value than the row has there are not all true on it, and do not fault
    pub rejects : (bytes : OrdersBytes host) (front : List Ordered) (terms : List Expr) → Differs (pinned alone params terms) row
        → holds m (front ++ map view.plain terms) row ≡ Some false
    rejects bytes front terms d =
        missed_rejects (front ++ map view.plain terms)
        (list_any-append is_missed front (map view.plain terms) ∙ or_right _ _ (differing bytes alone (alone_stands row) terms d))

    -- so it is with terms that want a column above an integer, where the row has one there that is not
    pub rejects_below : (front : List Ordered) (terms : List Expr) (at : ℕ) (n v : ℤ) → lower_bound params terms at ≡ Some n
        → get_or row at Null ≡ Int v → v ≤ℤ n → holds m (front ++ map view.plain terms) row ≡ Some false
    rejects_below front terms at n v h is low =
        missed_rejects (front ++ map view.plain terms)
        (list_any-append is_missed front (map view.plain terms) ∙ or_right _ _ (some_miss_above terms at n v h is low))
