-- A term that asks for a value is quiet, and not true on a row that has another one, whatever stands behind the row.
use Rattle.std.proofs.Common.{◌≡◌, ◌⊎◌, inl, inr, ℕ, ◌+◌, ◌<◌, ◌≤◌, Bool, true, false, not, ◌&&◌, ◌||◌, if◌then◌else◌, cond, List, [], ◌∷◌, ◌++◌, length, length-append, append_assoc, get_or, drop, map, Option, Some, None, Ok, refl, sym, ap, subst, ◌∙◌, arith, Ordering, Less, Equal, Greater}
use Rattle.std.specs.Prelude.{◌-◌, filter, nat_le}
use Rattle.std.specs.List.{list_any}
use Rattle.std.specs.Option.{option_map, option_and_then, option_or}
use Rattle.std.specs.Ordering.{is_eq}
use Rattle.std.specs.FinSet.{int_cmp-IsAntisymmetric}
use Rattle.std.proofs.lemmas.Bool.{ltb-true, leb-true}
use Rattle.std.proofs.lemmas.Cmp.{tied_itself}
use Rattle.std.proofs.lemmas.List.{get_or-append-add, get_or_append_left}
use Rattle.std.proofs.lemmas.List.Folds.{list_any-append}
use Rattle.cr_value.specs.declared.value.Value.{Value}
use Rattle.cr_value.specs.declared.value.Value.TheVariants.{Null, Int, Text, Blob}
use Rattle.cr_value.specs.declared.affinity.Affinity.{Affinity}
use Rattle.cr_value.specs.Bytes.{bytes_cmp}
use Rattle.cr_value.specs.Order.{value_cmp}
use Rattle.cr_value.specs.OrderLaws.{bytes_exact, value_total}
use Rattle.cr_value.proofs.Fields.{provided, some_is}
use Rattle.cr_lattice.specs.Check.{same_bytes}
use Rattle.cr_lattice.proofs.Tested.{or_left, or_right, or_true}
use Rattle.cr_term.specs.declared.expr.When.{When}
use Rattle.cr_term.specs.declared.operator.Comparison.TheVariants as op
use Rattle.cr_term.specs.declared.operator.Adjusted.{Adjusted}
use Rattle.cr_term.specs.declared.operator.Adjusted.TheVariants.{Neither, Left, Right}
use Rattle.cr_term.specs.declared.operator.Meeting.{Meeting}
use Rattle.cr_term.specs.declared.expr.Expr.{Expr, out-Expr, roll-Expr, map-Expr}
use Rattle.cr_term.specs.declared.expr.Expr.TheOpen.{Expr-F, When-F, Literal, Param, Column, Compare, Collate}
use Rattle.cr_term.specs.declared.expr.Expr.TheFolds.{fold-Expr, fold-When, fold-roll-Expr, ind-Expr}
use Rattle.cr_term.specs.Operands.{binary}
use Rattle.cr_term.specs.Same.{Layer}
use Rattle.cr_term.specs.Terms.{plain as is_plain, plain_layer, plain_arm, quiet_layer, quiet}
use Rattle.cr_scalar.specs.Compare.{value_cmp_by, adjusted_left, adjusted_right, meets, passes, compared}
use Rattle.cr_scalar.specs.Host.{Host}
use Rattle.cr_scalar.specs.Meaning.{Meant, and_then, bounded}
use Rattle.cr_scalar.specs.Numbers.{truth, truth_value, is_null}
use Rattle.cr_expr.specs.Setting.{Setting}
use Rattle.cr_expr.specs.Eval.{Meaning as Sense, Arm, node, arm, layer, meaning as meaning-of, arm_of, eval_of}
use Rattle.cr_expr.proofs.Nodes.{one_node}
use Rattle.cr_query.specs.Query.{Row, Meaning, is_true, all_true}
use Rattle.cr_query.specs.Plans.{is_false}
use Rattle.cr_query.proofs.PlanLaws.{rejected}
use Rattle.cr_meaning.specs.View.{Ordered}
use Rattle.cr_meaning.specs.Meaning.{Regard, at_row, is_so, regarded, so_taken, taken, value_of}
use Rattle.cr_meaning.proofs.Limits.{known_so, safe}
use Rattle.cr_exec.specs.Equalities.{Sought, OrdersBytes, own_layer, own_place, known_layer, is_known, no_arm, right_takes, left_takes, side, equality_in, equality, taken_on, is_equal}
use Rattle.cr_exec.specs.LookUps.{IsQuietFirst, Wants, asked, cell, is_wide, where_wide}
use Rattle.cr_exec.specs.Scopes.{there}
use Rattle.cr_exec.specs.Tails.{of_kind}
use Rattle.cr_exec.specs.Values.{HasValue}
use Rattle.cr_exec.proofs.Loops.{rest_at}
use Rattle.std.specs.Borrow.{Bor}

-- ---- what operands are

module _ (host : Host) (params : List Value) where
  abbrev over : Row → Setting
  over row = at_row None host params row

  -- a column of the table has its value there, and what is known to the left keeps its value
  abbrev Says : Expr → Type 0
  Says e = (c more : Row)
      → ((start p : ℕ) → own_place start e ≡ Some p → (is_plain e ≡ true) × (eval_of (over c) e ≡ Ok (get_or c (start + p) Null)))
      × ((start : ℕ) → is_known start e ≡ true → start ≤ length c → (is_plain e ≡ true) × (eval_of (over (c ++ more)) e ≡ eval_of (over c) e))

  abbrev Any : When → Type 0
  Any w = Unit {0}

  -- a fold of a node's parts, by a layer that takes nothing of arms
  abbrev parts : {A : Type 0} → (Expr-F A (Unit {0}) → A) → Expr-F Expr When → Expr-F A (Unit {0})
  parts {A} f x = map-Expr Expr When A (Unit {0}) (fold-Expr A (Unit {0}) f no_arm) (fold-When A (Unit {0}) f no_arm) x

  abbrev plain_node : Expr-F Expr When → Bool
  plain_node x = plain_layer (map-Expr Expr When Bool (Unit {0}) is_plain (fold-When Bool (Unit {0}) plain_layer plain_arm) x)

  abbrev meant_node : Expr-F Expr When → Setting → Meant
  meant_node x s = node (map-Expr Expr When Sense Arm meaning-of arm_of x) s

  abbrev NodeSays : Expr-F Expr When → Type 0
  NodeSays x = (c more : Row)
      → ((start p : ℕ) → own_layer start (parts (own_layer start) x) ≡ Some p → (plain_node x ≡ true) × (meant_node x (over c) ≡ Ok (get_or c (start + p) Null)))
      × ((start : ℕ) → known_layer start (parts (known_layer start) x) ≡ true → start ≤ length c → (plain_node x ≡ true) × (meant_node x (over (c ++ more)) ≡ meant_node x (over c)))

  rolls : (x : Expr-F Expr When) → NodeSays x → Says (roll-Expr x)
  rolls x says c more = (
    λ start p h. (let k = (says c more).0 start p (sym (fold-roll-Expr (Option ℕ) (Unit {0}) (own_layer start) no_arm x) ∙ h) in (is_plain_node ∙ k.0, means c ∙ k.1)),
    λ start h far. (let k = (says c more).1 start (sym (fold-roll-Expr Bool (Unit {0}) (known_layer start) no_arm x) ∙ h) far in (is_plain_node ∙ k.0, means (c ++ more) ∙ k.1 ∙ sym (means c))),
  ) where
    is_plain_node : is_plain (roll-Expr x) ≡ plain_node x
    is_plain_node = fold-roll-Expr Bool (Unit {0}) plain_layer plain_arm x

    means : (row : Row) → eval_of (over row) (roll-Expr x) ≡ meant_node x (over row)
    means row = ap (λ (m : Sense). m (over row)) (fold-roll-Expr Sense Arm node arm x)

  own_is : (start at p : ℕ) → cond (nat_le start at) (Some (at - start)) None ≡ Some p → at ≡ start + p
  own_is start at p h =
      let k = provided (nat_le start at) (Some (at - start)) p h in
      let le = leb-true start at k.0 in
      let is = some_is (at - start) p k.1 in
      omega (arith, le, is)

  step : (y : Expr-F ((e : Expr) × Says e) ((w : When) × Any w))
      → NodeSays (map-Expr ((e : Expr) × Says e) ((w : When) × Any w) Expr When (λ e. e.0) (λ w. w.0) y)
  step (Literal v) c more = (λ start p h. absurd cc, λ start h far. (refl, refl))
  step (Param n) c more = (λ start p h. absurd cc, λ start h far. (refl, refl))
  step (Column k) c more = (
    λ start p h. (refl, ap (λ (n : ℕ). Ok (get_or c n Null)) (own_is start k.at p h)),
    λ start h far. (refl, (let near = ltb-true k.at start h in ap (λ (v : Value). Ok v) (get_or_append_left c more Null k.at (omega (arith, near, far))))),
  )
  step (Collate x name) c more = (
    λ start p h. (let k = (x.1 c more).0 start p h in (k.0, ap (λ m. and_then m (bounded None)) k.1)),
    λ start h far. (let k = (x.1 c more).1 start h far in (k.0, ap (λ m. and_then m (bounded None)) k.1)),
  )
  step _ c more = (λ start p h. absurd cc, λ start h far. absurd cc)

  says : (e : Expr) → Says e
  says = ind-Expr Says Any (λ x y is. rolls x (subst NodeSays is (step y))) (λ w v is. tt)

-- ---- what ties

tied_is : (order : List ℕ → List ℕ → Ordering) → ((s t : List ℕ) → order s t ≡ Equal → s ≡ t) → (a b : Value)
    → value_cmp_by order a b ≡ Equal → a ≡ b
tied_is order exact Null Null e = refl
tied_is order exact (Int m) (Int n) e = ap Int (int_cmp-IsAntisymmetric m n e)
tied_is order exact (Text s) (Text t) e = ap Text (exact s t e)
tied_is order exact (Blob s) (Blob t) e = ap Blob (bytes_exact s t e)
tied_is order exact _ _ e = absurd cc

same_is : (x y : List ℕ) → same_bytes x y ≡ true → x ≡ y
same_is x y e = bytes_exact x y (tied (bytes_cmp x y) e) where
  tied : (o : Ordering) → is_eq o ≡ true → o ≡ Equal
  tied Less e = absurd cc
  tied Equal e = refl
  tied Greater e = absurd cc

of_right : (a : Adjusted) (v u : Value) (t : Option Affinity) → right_takes a ≡ Some t → adjusted_left a v ≡ adjusted_right a u → v ≡ taken_on t u
of_right Neither v u t e h = h ∙ ap (λ t. taken_on t u) (some_is None t e)
of_right (Left a) v u t e h = absurd cc
of_right (Right a) v u t e h = h ∙ ap (λ t. taken_on t u) (some_is (Some a) t e)

of_left : (a : Adjusted) (v u : Value) (t : Option Affinity) → left_takes a ≡ Some t → adjusted_left a u ≡ adjusted_right a v → v ≡ taken_on t u
of_left Neither v u t e h = sym h ∙ ap (λ t. taken_on t u) (some_is None t e)
of_left (Left a) v u t e h = sym h ∙ ap (λ t. taken_on t u) (some_is (Some a) t e)
of_left (Right a) v u t e h = absurd cc

-- a value is equal to itself, unless it is NULL
equal_if : (v w : Value) → w ≡ v → is_null w ≡ false → is_equal v w ≡ true
equal_if v w same there = ap (λ x. is_equal x w) (sym same) ∙ (λ i. not (there i) && is_eq (tied_itself value_total w i))

untrue : (t : Option Bool) → (t ≡ Some true → ⊥) → is_so (truth (truth_value t)) ≡ Some false
untrue (Some true) never = absurd (never refl)
untrue (Some false) never = refl
untrue None never = refl

record Met (m : Meeting) (v w : Value) : Type 0 where
  same : adjusted_left m.adjusted v ≡ adjusted_right m.adjusted w
  left : is_null v ≡ false
  right : is_null w ≡ false

module _ (host : Host) (bytes : OrdersBytes host) (m : Meeting) (is : same_bytes m.collation binary ≡ true) where
  exact : (s t : List ℕ) → host.order m.collation s t ≡ Equal → s ≡ t
  exact s t e = bytes_exact s t (sym (bytes s t) ∙ ap (λ name. host.order name s t) (sym (same_is m.collation binary is)) ∙ e)

  passes_is : (o : Ordering) → Some (passes op.Equal o) ≡ Some true → o ≡ Equal
  passes_is Less e = absurd cc
  passes_is Equal e = refl
  passes_is Greater e = absurd cc

  -- where two operands are equal, what the comparison makes of them is the same, and neither is NULL
  met : (v w : Value) → compared host.order op.Equal m v w ≡ Some true → Met m v w
  met v w e = by (is_null v) (is_null w) refl refl e where
    by : (a b : Bool) → is_null v ≡ a → is_null w ≡ b → (if a || b then None else Some (passes op.Equal (meets host.order m v w))) ≡ Some true → Met m v w
    by true b p q h = absurd cc
    by false true p q h = absurd cc
    by false false p q h = record {
      same = tied_is (host.order m.collation) exact (adjusted_left m.adjusted v) (adjusted_right m.adjusted w) (passes_is (meets host.order m v w) h);
      left = p;
      right = q;
    }

-- ---- one term

or_some : {A : Type 0} (o p : Option A) (q : A) → option_or o p ≡ Some q → (o ≡ Some q) ⊎ (p ≡ Some q)
or_some None p q e = inr e
or_some (Some a) p q e = inl e

record IsSide (start : ℕ) (x y : Expr) (takes : Option (Option Affinity)) (q : Sought) : Type 0 where
  known : is_known start y ≡ true
  own : own_place start x ≡ Some q.place
  wanted : q.wanted ≡ y
  taken : takes ≡ Some q.takes

is_side : (start : ℕ) (x y : Expr) (takes : Option (Option Affinity)) (q : Sought) → side start x y takes ≡ Some q → IsSide start x y takes q
is_side start x y takes q e =
    let k = provided (is_known start y) _ q e in
    by (own_place start x) takes refl refl k.0 k.1 where
      by : (o : Option ℕ) (t : Option (Option Affinity)) → own_place start x ≡ o → takes ≡ t → is_known start y ≡ true
          → option_and_then (λ p. option_map (λ a. record { place = p; wanted = y; takes = a }) t) o ≡ Some q → IsSide start x y takes q
      by None t a b known h = absurd cc
      by (Some p) None a b known h = absurd cc
      by (Some p) (Some t) a b known h =
          let is : record { place = p; wanted = y; takes = t } ≡ q = some_is (record { place = p; wanted = y; takes = t }) q h in
          record {
            known = known;
            own = a ∙ ap (λ (s : Sought). Some s.place) is;
            wanted = ap (λ (s : Sought). s.wanted) (sym is);
            taken = b ∙ ap (λ (s : Sought). Some s.takes) is;
          }

module _ (host : Host) (bytes : OrdersBytes host) (params : List Value) (c r more : Row) where
  -- a combination with a row, and what stands behind it
  abbrev row : Row
  row = (c ++ r) ++ more

  abbrev here : Setting
  here = at_row None host params row

  abbrev told : Meant → Option Bool
  told m = option_and_then (λ v. is_so (truth v)) (value_of (and_then m (bounded None)))

  abbrev Misses : Layer → Type 0
  Misses y = (quiet_layer y ≡ true) × (told (layer (map-Expr Expr (When-F Expr (Unit {0})) Sense Arm meaning-of arm_of y) here) ≡ Some false)

  abbrev Has : Expr → Value → Type 0
  Has e v = (is_plain e ≡ true) × (eval_of here e ≡ Ok v)

  two_miss : (m : Meeting) (x y : Expr) (v w : Value) → Has x v → Has y w → (compared host.order op.Equal m v w ≡ Some true → ⊥)
      → Misses (Compare op.Equal m x y)
  two_miss m x y v w hx hy never = (
    λ i. hx.0 i && hy.0 i,
    (λ i. told (and_then (hx.1 i) (λ v. and_then (hy.1 i) (λ w. Ok (truth_value (compared host.order op.Equal m v w))))))
        ∙ untrue (compared host.order op.Equal m v w) never,
  )

  module _ (start : ℕ) (q : Sought) (v : Value) (beside : length c ≡ start) (near : q.place < length r) (w : Wants params c q.wanted q.takes v) (other : is_equal v (cell q.place r) ≡ false) where
    column_has : (x : Expr) → own_place start x ≡ Some q.place → Has x (cell q.place r)
    column_has x own =
        let k = (says host params x row []).0 start q.place own in
        (k.0, k.1 ∙ ap (λ (u : Value). Ok u) placed) where
          placed : get_or row (start + q.place) Null ≡ cell q.place r
          placed =
              (λ i. get_or row (sym beside i + q.place) Null)
              ∙ get_or_append_left (c ++ r) more Null (length c + q.place) (omega (arith, near, length-append c r))
              ∙ get_or-append-add c r q.place Null

    known_has : (y : Expr) → is_known start y ≡ true → q.wanted ≡ y → Has y w.own
    known_has y known is =
        let k = (says host params y c (r ++ more)).1 start known (omega (arith, beside)) in
        (k.0, ap (λ (l : Row). eval_of (at_row None host params l) y) (append_assoc c r more) ∙ k.1 ∙ ap (eval_of (at_row None host params c)) (sym is) ∙ (w.value host).value)

    -- the column's value is not the wanted one
    differs : cell q.place r ≡ taken_on q.takes w.own → is_null (cell q.place r) ≡ false → ⊥
    differs same there = let e : true ≡ false = sym (equal_if v (cell q.place r) (same ∙ sym w.taken) there) ∙ other in cc

    misses : (y : Layer) → equality_in start y ≡ Some q → Misses y
    misses (Compare op.Equal m x y) h =
        let b = provided (same_bytes m.collation binary) _ q h in
        elim (or_some (side start x y (right_takes m.adjusted)) (side start y x (left_takes m.adjusted)) q b.1) [
          | inl l ↦ (
              let s = is_side start x y (right_takes m.adjusted) q l in
              two_miss m x y (cell q.place r) w.own (column_has x s.own) (known_has y s.known s.wanted)
              (λ so. (let k = met host bytes m b.0 (cell q.place r) w.own so in differs (of_right m.adjusted (cell q.place r) w.own q.takes s.taken k.same) k.left)))
          | inr l ↦ (
              let s = is_side start y x (left_takes m.adjusted) q l in
              two_miss m x y w.own (cell q.place r) (known_has x s.known s.wanted) (column_has y s.own)
              (λ so. (let k = met host bytes m b.0 w.own (cell q.place r) so in differs (of_left m.adjusted (cell q.place r) w.own q.takes s.taken k.same) k.right)))
        ]
    misses _ h = absurd cc

    module _ (regard : Regard) where
      abbrev m : Meaning Ordered
      m = regarded regard host params

      term_misses : (e : Ordered) → equality start e.expr ≡ Some q → (quiet e.expr ≡ true) × (is_true m e row ≡ Some false)
      term_misses e h =
          let k = misses (out-Expr e.expr) h in
          let so : Meant → Option Bool = λ m. option_and_then (λ v. so_taken regard.truth (truth v)) (taken regard.value m) in
          (k.0, ap (λ b. so (eval_of (at_row (cond b None regard.most) host params row) e.expr)) k.0 ∙ ap so (one_node here e.expr) ∙ known_so regard _ false k.1)

      -- ---- all terms

      abbrev is_missed : Ordered → Bool
      is_missed e = m.quiet e && is_false (is_true m e row)

      some_miss : (rows : List Row) (terms : List Ordered) → asked start rows terms ≡ Some q → list_any is_missed terms ≡ true
      some_miss rows [] h = absurd cc
      some_miss rows (e ∷ es) h =
          elim (or_some (option_and_then (where_wide rows) (equality start e.expr)) (asked start rows es) q h) [
            | inl l ↦ or_left _ _ (let t = term_misses e (asks (equality start e.expr) refl l) in λ i. t.0 i && is_false (t.1 i))
            | inr l ↦ or_right _ _ (some_miss rows es l)
          ] where
            asks : (o : Option Sought) → equality start e.expr ≡ o → option_and_then (where_wide rows) o ≡ Some q → equality start e.expr ≡ Some q
            asks None a l = absurd cc
            asks (Some s) a l = a ∙ (provided (is_wide s.place rows) (Some s) q l).1

      among : (p : Ordered → Bool) (es : List Ordered) → list_any is_missed (filter p es) ≡ true → list_any is_missed es ≡ true
      among p [] h = absurd cc
      among p (e ∷ es) h =
          elim (p e) as (λ b. list_any is_missed (cond b (e ∷ filter p es) (filter p es)) ≡ true → list_any is_missed (e ∷ es) ≡ true) [
            | true ↦ λ h. elim (or_true (is_missed e) (list_any is_missed (filter p es)) h) [
              | inl l ↦ or_left _ _ l
              | inr l ↦ or_right _ _ (among p es l)
            ]
            | false ↦ λ h. or_right _ _ (among p es h)
          ] h

      -- the same but for the order of values and aggregates, which no term asks for
      abbrev like : Meaning Ordered
      like = record m { over = λ e g. None; order = λ e. value_cmp }

      -- the terms are not all true, and do not fault
      pub not_all_true : (rows : List Row) (terms : List Ordered) → IsQuietFirst terms → asked start rows terms ≡ Some q → all_true m terms row ≡ Some false
      not_all_true rows terms f h =
          let some : list_any is_missed (filter (of_kind true) f.of ++ filter (of_kind false) f.of) ≡ true =
          ap (list_any is_missed) (sym f.are) ∙ some_miss rows terms h in
          let parts = or_true (list_any is_missed (filter (of_kind true) f.of)) (list_any is_missed (filter (of_kind false) f.of))
          (sym (list_any-append is_missed (filter (of_kind true) f.of) (filter (of_kind false) f.of)) ∙ some) in
          let of_all : list_any is_missed f.of ≡ true = elim parts [
            | inl l ↦ among (of_kind true) f.of l
            | inr l ↦ among (of_kind false) f.of l
          ] in
          ap (λ es. all_true m es row) f.are
          ∙ rejected like (record { order_total = λ e. value_total; over_bag = λ e k cs ds s. refl }) (safe regard host params) f.of row of_all

-- the first term that asks for a value asks it of rows that have one there
pub asked_wide : (start : ℕ) (rows : List Row) (terms : List Ordered) (q : Sought) → asked start rows terms ≡ Some q → is_wide q.place rows ≡ true
asked_wide start rows [] q h = absurd cc
asked_wide start rows (e ∷ es) q h =
    elim (or_some (option_and_then (where_wide rows) (equality start e.expr)) (asked start rows es) q h) [
      | inl l ↦ by (equality start e.expr) l
      | inr l ↦ asked_wide start rows es q l
    ] where
      by : (o : Option Sought) → option_and_then (where_wide rows) o ≡ Some q → is_wide q.place rows ≡ true
      by None l = absurd cc
      by (Some s) l = let k = provided (is_wide s.place rows) (Some s) q l in ap (λ (t : Sought). is_wide t.place rows) (sym (some_is s q k.1)) ∙ k.0

-- an operand that takes on nothing
pub wants_own : (params : List Value) (c : Row) (e : Expr) (takes : Option Affinity) (v w : Value) → takes ≡ None → w ≡ v → ((host : Host) → HasValue is_plain (at_row None host params c) e v) → Wants params c e takes w
wants_own params c e takes v w none same h = record { own = v; taken = same ∙ ap (λ t. taken_on t v) (sym none); value = h }

-- ---- one term after another

module _ (start : ℕ) (rows : List Row) (ts : List (Bor Expr)) (i : ℕ) (x : Bor Expr) (whole : Option Sought) (within : i < length ts) (is : x ≡ get_or ts i x) (so_far : asked start rows (map there (drop i ts)) ≡ whole) where
  asked_first : option_or (option_and_then (where_wide rows) (equality start x.now)) (asked start rows (map there (drop (i + 1) ts))) ≡ whole
  asked_first = ap (λ (l : List (Bor Expr)). asked start rows (map there l)) (sym (rest_at ts i x within is)) ∙ so_far

  pub asks_it : (q : Sought) → equality start x.now ≡ Some q → is_wide q.place rows ≡ true → Some q ≡ whole
  asks_it q e wide =
      ap (λ b. option_or (cond b (Some q) None) (asked start rows (map there (drop (i + 1) ts)))) (sym wide)
      ∙ ap (λ o. option_or (option_and_then (where_wide rows) o) (asked start rows (map there (drop (i + 1) ts)))) (sym e)
      ∙ asked_first

  pub narrow_next : (q : Sought) → equality start x.now ≡ Some q → is_wide q.place rows ≡ false → asked start rows (map there (drop (i + 1) ts)) ≡ whole
  narrow_next q e narrow =
      ap (λ b. option_or (cond b (Some q) None) (asked start rows (map there (drop (i + 1) ts)))) (sym narrow)
      ∙ ap (λ o. option_or (option_and_then (where_wide rows) o) (asked start rows (map there (drop (i + 1) ts)))) (sym e)
      ∙ asked_first

  pub none_next : equality start x.now ≡ None → asked start rows (map there (drop (i + 1) ts)) ≡ whole
  none_next e = ap (λ o. option_or (option_and_then (where_wide rows) o) (asked start rows (map there (drop (i + 1) ts)))) (sym e) ∙ asked_first
