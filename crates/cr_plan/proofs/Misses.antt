-- A term that is offered is quiet, and not true on a row that does not meet its constraint.
use Rattle.std.proofs.Common.{◌≡◌, ◌⊎◌, inl, inr, ℕ, zero, suc, ◌+◌, ◌<◌, ◌≤◌, arith, length, length-append, Bool, true, false, ◌&&◌, cond, List, [], ◌∷◌, ◌++◌, map, get_or, slice_get, Option, Some, None, refl, sym, ap, subst, ◌∙◌}
use Rattle.std.proofs.lemmas.Option.{slice_get-map, unwrap_or-slice_get}
use Rattle.std.proofs.lemmas.Bool.{ltb-false, ltb-true}
use Rattle.std.proofs.lemmas.List.{get_or-append-add, get_or_append_left}
use Rattle.std.specs.Prelude.{◌-◌, nat_lt}
use Rattle.std.specs.List.{cons_option}
use Rattle.std.specs.Option.{option_and_then, option_map, option_map_or, option_or}
use Rattle.cr_value.specs.declared.value.Value.{Value}
use Rattle.cr_value.specs.declared.value.Value.TheVariants.{Null}
use Rattle.cr_value.proofs.Fields.{provided, some_is}
use Rattle.cr_lattice.specs.Check.{same_bytes}
use Rattle.cr_lattice.proofs.Tested.{or_left, or_right}
use Rattle.cr_term.specs.declared.expr.Column.{Column as Field}
use Rattle.cr_term.specs.declared.operator.Comparison.{Comparison as Relation}
use Rattle.cr_term.specs.declared.operator.Meeting.{Meeting}
use Rattle.cr_term.specs.declared.expr.Expr.{Expr, out-Expr}
use Rattle.cr_term.specs.declared.expr.Expr.TheOpen.{Compare}
use Rattle.cr_term.specs.Operands.{binary}
use Rattle.cr_term.specs.Same.{Layer}
use Rattle.cr_term.specs.Terms.{quiet}
use Rattle.cr_scalar.specs.Host.{Host}
use Rattle.cr_scalar.specs.Meaning.{Meant}
use Rattle.cr_scalar.specs.Numbers.{truth}
use Rattle.cr_expr.specs.Setting.{Setting}
use Rattle.cr_expr.specs.Eval.{eval_of}
use Rattle.cr_expr.proofs.Nodes.{one_node}
use Rattle.cr_query.specs.Query.{Row, Meaning as Meant_by, is_true}
use Rattle.cr_query.specs.Plans.{is_false}
use Rattle.cr_meaning.specs.View.{Ordered}
use Rattle.cr_meaning.specs.View as view
use Rattle.cr_meaning.specs.Meaning as queries
use Rattle.cr_exec.specs.Equalities.{OrdersBytes}
use Rattle.cr_module.specs.declared.plan.Argument.{Argument}
use Rattle.cr_module.specs.declared.plan.Comparison.{Comparison}
use Rattle.cr_module.specs.Lawful.{compares, meets_all, meets_one, value_at}
use Rattle.cr_sought.specs.Sought.{column_under, constant, on_left, on_right}
use Rattle.cr_sought.proofs.Pins.{Has, says, Misses, any_missed, here, two_miss, then_some}
use Rattle.cr_plan.specs.declared.offer.Columns.{Columns}
use Rattle.cr_plan.specs.declared.offer.Offer.{Offer}
use Rattle.cr_plan.specs.Offers.{argument_of, constraints, never_null, offer, offer_in, offered, offers, of_left, of_right, op_of, place_in, place_under, turned}
use Rattle.cr_plan.proofs.Compared.{known, meets_left, meets_right}

-- ---- what an offer is made of

one_of : {A : Type 0} (a b : Option A) (x : A) → option_or a b ≡ Some x → (a ≡ Some x) ⊎ (b ≡ Some x)
one_of None b x e = inr e
one_of (Some y) b x e = inl e

record Made (at : Option ℕ) (op : Option Comparison) (argument : Option Value) (o : Offer) : Type 0 where
  pub column : at ≡ Some o.constraint.column
  pub stands : op ≡ Some o.constraint.op
  pub beside : argument ≡ Some o.argument

made : (at : Option ℕ) (op : Option Comparison) (argument : Option Value) (o : Offer) → offered at op argument ≡ Some o
    → Made at op argument o
made (Some i) (Some k) (Some v) o e =
    let same = some_is _ o e in
    record {
      column = ap (λ p. Some p.constraint.column) same;
      stands = ap (λ p. Some p.constraint.op) same;
      beside = ap (λ p. Some p.argument) same;
    }
made _ _ _ o e = absurd cc

mapped : {A B : Type 0} (f : A → B) (o : Option A) (b : B) → option_map f o ≡ Some b → (a : A) × (o ≡ Some a) × (f a ≡ b)
mapped f None b e = absurd cc
mapped f (Some a) b e = (a, refl, some_is (f a) b e)

-- what stands at a place of a combination stands at the place of the row that it is
module _ (cs : Columns) (f r more : Row) (long : length f ≡ cs.start) (wide : length r ≡ cs.count) where
  at_place : (at place : ℕ) → place_in cs at ≡ Some place → get_or ((f ++ r) ++ more) at Null ≡ value_at place r
  at_place at place e = by (nat_lt at cs.start) refl e where
    there : cs.start ≤ at → at - cs.start < cs.count → at - cs.start ≡ place → get_or ((f ++ r) ++ more) at Null ≡ value_at place r
    there far near is =
        let whole : at ≡ length f + place = omega (arith, long, far, is) in
        let within : place < length r = omega (arith, wide, near, is) in
        ap (λ (n : ℕ). get_or ((f ++ r) ++ more) n Null) whole
        ∙ get_or_append_left (f ++ r) more Null (length f + place) (omega (arith, within, length-append f r))
        ∙ get_or-append-add f r place Null
        ∙ sym (unwrap_or-slice_get r place Null)

    by_count : cs.start ≤ at → (b : Bool) → nat_lt (at - cs.start) cs.count ≡ b → cond b (Some (at - cs.start)) None ≡ Some place
        → get_or ((f ++ r) ++ more) at Null ≡ value_at place r
    by_count far true near k = (let is : at - cs.start ≡ place = cc in there far (ltb-true (at - cs.start) cs.count near) is)
    by_count far false near k = absurd cc

    by : (b : Bool) → nat_lt at cs.start ≡ b → cond b None (cond (nat_lt (at - cs.start) cs.count) (Some (at - cs.start)) None) ≡ Some place
        → get_or ((f ++ r) ++ more) at Null ≡ value_at place r
    by true before k = absurd cc
    by false behind k = by_count (ltb-false at cs.start behind) (nat_lt (at - cs.start) cs.count) refl k

  place_has : (s : Setting) (x : Expr) (place : ℕ) → s.row ≡ (f ++ r) ++ more → place_under cs x ≡ Some place → Has s x (value_at place r)
  place_has s x place here e =
      let c = then_some (λ (c : Field). place_in cs c.at) (column_under x) place e in
      subst (Has s x) (ap (λ (row : Row). get_or row c.0.at Null) here ∙ at_place c.0.at place c.2) ((says x s).0 c.0 c.1)

differ : (b : Bool) → b ≡ true → b ≡ false → ⊥
differ b t f = absurd cc

-- ---- the row does not meet it

abbrev pub is_met : Offer → Row → Bool
is_met o row = compares o.constraint.op (value_at o.constraint.column row) o.argument

module _ (host : Host) (bytes : OrdersBytes host) (params : List Value) (cs : Columns) (f r more : Row) (long : length f ≡ cs.start)
    (wide : length r ≡ cs.count) where
  abbrev row : Row
  row = (f ++ r) ++ more

  abbrev seen : Setting
  seen = here host params row

  has_there : (x : Expr) (place : ℕ) → place_under cs x ≡ Some place → Has seen x (value_at place r)
  has_there x place e = place_has cs f r more long wide seen x place refl e

  left_misses : (op : Relation) (m : Meeting) (x y : Expr) (o : Offer) → same_bytes m.collation binary ≡ true
      → of_left cs params op m.adjusted x y ≡ Some o → is_met o r ≡ false → Misses host params row (Compare op m x y)
  left_misses op m x y o binary_is e unmet =
      let p = made (place_under cs x) (op_of op y) (option_and_then (on_right m.adjusted) (constant params y)) o e in
      let k = then_some (on_right m.adjusted) (constant params y) o.argument p.beside in
      let at = o.constraint.column in
      let v = value_at at r in
      let some = λ (never : never_null y ≡ true). known y params k.0 never k.1 in
      two_miss host params row op m x y v k.0 (has_there x at p.column) ((says y seen).1 k.0 k.1)
      (λ so. differ (compares o.constraint.op v o.argument)
      (meets_left host bytes m binary_is op y o.constraint.op v k.0 o.argument p.stands some k.2 so)
      unmet)

  right_misses : (op : Relation) (m : Meeting) (x y : Expr) (o : Offer) → same_bytes m.collation binary ≡ true
      → of_right cs params op m.adjusted x y ≡ Some o → is_met o r ≡ false → Misses host params row (Compare op m x y)
  right_misses op m x y o binary_is e unmet =
      let p = made (place_under cs y) (option_map turned (op_of op x)) (option_and_then (on_left m.adjusted) (constant params x)) o e in
      let k = then_some (on_left m.adjusted) (constant params x) o.argument p.beside in
      let t = mapped turned (op_of op x) o.constraint.op p.stands in
      let at = o.constraint.column in
      let v = value_at at r in
      let some = λ (never : never_null x ≡ true). known x params k.0 never k.1 in
      two_miss host params row op m x y k.0 v ((says x seen).1 k.0 k.1) (has_there y at p.column)
      (λ so. differ (compares (turned t.0) v o.argument)
      (meets_right host bytes m binary_is op x t.0 v k.0 o.argument t.1 some k.2 so)
      ((λ i. compares (t.2 i) v o.argument) ∙ unmet))

  misses : (y : Layer) (o : Offer) → offer_in cs params y ≡ Some o → is_met o r ≡ false → Misses host params row y
  misses (Compare op m x y) o e unmet =
      let b = provided (same_bytes m.collation binary) _ o e in
      elim (one_of (of_left cs params op m.adjusted x y) (of_right cs params op m.adjusted x y) o b.1) [
        | inl l ↦ left_misses op m x y o b.0 l unmet
        | inr other ↦ right_misses op m x y o b.0 other unmet
      ]
  misses _ o e unmet = absurd cc

  module _ (most : Option ℕ) where
    abbrev m : Meant_by Ordered
    m = queries.meaning most host params

    term_misses : (e : Expr) (o : Offer) → offer cs params e ≡ Some o → is_met o r ≡ false
        → (quiet e ≡ true) × (is_true m (view.plain e) row ≡ Some false)
    term_misses e o h unmet =
        let k = misses (out-Expr e) o h unmet in
        let so : Meant → Option Bool = λ m. option_and_then (λ v. queries.is_so (truth v)) (queries.value_of m) in
        (k.0, ap (λ b. so (eval_of (queries.at_row (cond b None most) host params row) e)) k.0 ∙ ap so (one_node seen e) ∙ k.1)

    -- ---- all terms

    -- of terms one of whose constraints the row does not meet some one is quiet and not true on what is made of it
    pub some_miss : (terms : List Expr) (i : ℕ) (o : Offer) → slice_get (offers cs params terms) i ≡ Some o → is_met o r ≡ false
        → any_missed host params row (queries.strict most) terms ≡ true
    some_miss [] i o there unmet = absurd cc
    some_miss (e ∷ es) i o there unmet = by (λ k h. some_miss es k o h unmet) (offer cs params e) refl i there where
      by : ((k : ℕ) → slice_get (offers cs params es) k ≡ Some o → any_missed host params row (queries.strict most) es ≡ true) → (p : Option Offer) → offer cs params e ≡ p
          → (k : ℕ) → slice_get (cons_option p (offers cs params es)) k ≡ Some o → any_missed host params row (queries.strict most) (e ∷ es) ≡ true
      by later None is k h = or_right _ _ (later k h)
      by later (Some p) is zero h = (let t = term_misses e o (is ∙ h) unmet in or_left _ _ (λ i. t.0 i && is_false (t.1 i)))
      by later (Some p) is (suc k) h = or_right _ _ (later k h)

-- ---- what is passed

-- a constraint that was chosen and is not met
pub record Unmet (offers : List Offer) (row : Row) : Type 0 where
  pub place : ℕ
  pub offer : Offer
  pub there : slice_get offers place ≡ Some offer
  pub unmet : is_met offer row ≡ false

one_false : (a b : Bool) → (a && b) ≡ false → (a ≡ false) ⊎ (b ≡ false)
one_false true b e = inr e
one_false false b e = inl refl

-- an offer that is there is met
abbrev told : Row → Option Offer → Bool
told row o =
    option_map_or (λ c. compares c.op (value_at c.column row) (option_map_or (λ o. o.argument) o Null))
    (option_map (λ (o : Offer). o.constraint) o) true

one_is : (offers : List Offer) (a : Argument) (row : Row)
    → told row (slice_get offers a.constraint) ≡ meets_one (constraints offers) a (argument_of offers a) row
one_is offers a row =
    ap (λ c. option_map_or (λ c. compares c.op (value_at c.column row) (argument_of offers a)) c true)
    (sym (slice_get-map (λ (o : Offer). o.constraint) offers a.constraint))

unmet_at : (offers : List Offer) (place : ℕ) (row : Row) (o : Option Offer) → slice_get offers place ≡ o → told row o ≡ false
    → Unmet offers row
unmet_at offers place row None is e = absurd cc
unmet_at offers place row (Some o) is e = record { place = place; offer = o; there = is; unmet = e }

-- where the constraints that were chosen are not all met, one of them is not
pub unmet_one : (offers : List Offer) (args : List Argument) (row : Row)
    → meets_all (constraints offers) args (map (argument_of offers) args) row ≡ false → Unmet offers row
unmet_one offers [] row e = absurd cc
unmet_one offers (a ∷ rest) row e =
    elim (one_false (meets_one (constraints offers) a (argument_of offers a) row) _ e) [
      | inl first ↦ unmet_at offers a.constraint row (slice_get offers a.constraint) refl (one_is offers a row ∙ first)
      | inr later ↦ unmet_one offers rest row later
    ]
