-- A SELECT answers the same over what a lawful module gives by the terms that it is told as over all that the module has.
use Rattle.std.proofs.Common.{◌≡◌, inl, inr, ◌∙◌, ℕ, zero, suc, Bool, true, false, not, ◌&&◌, ◌||◌, cond, List, [], ◌∷◌, ◌++◌, map, length, Option, Some, refl, sym, ap, subst}
use Rattle.std.specs.Prelude.{filter, slice_get}
use Rattle.std.specs.List.{flat_map, list_any, list_all}
use Rattle.std.proofs.lemmas.List.{map-append}
use Rattle.cr_value.specs.declared.value.Value.{Value}
use Rattle.cr_lattice.proofs.Tested.{or_false, split}
use Rattle.cr_delta.proofs.Among.{Among}
use Rattle.cr_term.specs.declared.expr.Expr.{Expr}
use Rattle.cr_term.specs.declared.query.Joined.{Joined}
use Rattle.cr_term.specs.declared.query.Query.{Query}
use Rattle.cr_term.specs.Terms.{quiet}
use Rattle.cr_scalar.specs.Host.{Host}
use Rattle.cr_bags.specs.Bags.{SameBag}
use Rattle.cr_bags.proofs.BagLaws.{bag-refl, bag-sym}
use Rattle.cr_query.specs.Query.{Row, SameTables, answer}
use Rattle.cr_query.proofs.QueryLaws.{answer_same}
use Rattle.cr_meaning.specs.View.{Ordered}
use Rattle.cr_meaning.specs.View as view
use Rattle.cr_meaning.specs.Meaning.{meaning, strict}
use Rattle.cr_meaning.proofs.BagLaw.{lawful}
use Rattle.cr_exec.specs.Equalities.{OrdersBytes}
use Rattle.cr_module.specs.declared.plan.Argument.{Argument}
use Rattle.cr_module.specs.declared.plan.Choice.{Choice}
use Rattle.cr_module.specs.declared.plan.Order.{Order}
use Rattle.cr_module.specs.Lawful.{IsRead, meets_all}
use Rattle.cr_sought.specs.Joins.{AreWide, is_safe, width, widths}
use Rattle.cr_sought.proofs.LeftOut.{LeavesOut, Made, inner_leaves_out, left_leaves_out, made_long, member_holds}
use Rattle.cr_sought.proofs.Pins.{any_missed, is_missed}
use Rattle.cr_plan.specs.declared.offer.Columns.{Columns}
use Rattle.cr_plan.specs.declared.offer.Offer.{Offer}
use Rattle.cr_plan.specs.Offers.{argument_of, arguments, constraints, offers}
use Rattle.cr_plan.specs.Laws.{AnswersByPlan, AreOf, offers_behind}
use Rattle.cr_plan.specs.Told.{is_brought, told_terms}
use Rattle.cr_plan.proofs.Placing.{ons, told_is}
use Rattle.cr_plan.proofs.Misses.{Unmet, some_miss, unmet_one}

-- ---- a query without a LEFT JOIN

none_behind : (p : Joined → Bool) (before : List Joined) (j : Joined) (after : List Joined) → list_any p (before ++ (j ∷ after)) ≡ false
    → list_any p after ≡ false
none_behind p [] j after h = (or_false (p j) (list_any p after) h).1
none_behind p (k ∷ before) j after h = none_behind p before j after (or_false (p k) (list_any p (before ++ (j ∷ after))) h).1

all_safe : (js : List Joined) → list_any is_brought js ≡ false → list_all is_safe js ≡ true
all_safe [] h = refl
all_safe (j ∷ js) h =
    let none = or_false j.is_left (list_any is_brought js) h in
    ap (λ (b : Bool). (not b || list_all quiet j.on) && list_all is_safe js) none.0 ∙ all_safe js none.1

-- all its terms are told each of its tables
inner_terms_are : (js : List Joined) → list_any is_brought js ≡ false → flat_map view.inner_terms js ≡ map view.plain (ons js)
inner_terms_are [] h = refl
inner_terms_are (j ∷ js) h =
    let none = or_false j.is_left (list_any is_brought js) h in
    (λ i. cond (none.0 i) [] (map view.plain j.on) ++ inner_terms_are js none.1 i)
    ∙ sym (map-append view.plain j.on (ons js))

told_all : (q : Query) (j : Joined) → j.is_left ≡ false → list_any is_brought q.joined ≡ false → map view.plain (told_terms q j) ≡ view.terms q
told_all q j inner none =
    ap (map view.plain) (told_is q j inner none)
    ∙ map-append view.plain (ons q.joined) q.filter
    ∙ ap (λ (es : List Ordered). es ++ map view.plain q.filter) (sym (inner_terms_are q.joined none))

-- ---- lists

filter_all : {A : Type 0} (p : A → Bool) (xs : List A) → ((x : A) → p x ≡ true) → filter p xs ≡ xs
filter_all p [] all = refl
filter_all p (x ∷ xs) all = ap (λ b. cond b (x ∷ filter p xs) (filter p xs)) (all x) ∙ ap (λ ys. x ∷ ys) (filter_all p xs all)

none_at : {A : Type 0} (n : ℕ) (x : A) → slice_get [] n ≡ Some x → ⊥
none_at zero x e = absurd (let z : ⊥ = cc in z)
none_at (suc n) x e = absurd (let z : ⊥ = cc in z)

same_tables : (ts : List (List Row)) → SameTables ts ts
same_tables [] = tt
same_tables (t ∷ ts) = (bag-refl t, same_tables ts)

pub one_alike : (front : List (List Row)) (t u : List Row) (back : List (List Row)) → SameBag t u → SameTables (front ++ (t ∷ back)) (front ++ (u ∷ back))
one_alike [] t u back same = (same, same_tables back)
one_alike (f ∷ front) t u back same = (bag-refl f, one_alike front t u back same)

-- ---- no offers

none_unmet : (row : Row) → Unmet [] row → ⊥
none_unmet row u = none_at u.place u.offer u.there

all_met : (args : List Argument) (row : Row) (b : Bool) → meets_all (constraints []) args (map (argument_of []) args) row ≡ b → b ≡ true
all_met args row true e = refl
all_met args row false e = absurd (none_unmet row (unmet_one [] args row e))

-- a module to which nothing is offered gives all its rows
pub all_given : (rows got : List Row) (os : List Order) (choice : Choice) → IsRead rows (constraints []) os choice (arguments choice []) got → SameBag rows got
all_given rows got os choice read =
    let met : (row : Row) → meets_all (constraints []) choice.args (arguments choice []) row ≡ true = λ row. all_met choice.args row _ refl in
    subst (λ (xs : List Row). SameBag xs got) (filter_all _ rows met)
    (subst (λ (xs : List Row). SameBag (filter (meets_all (constraints []) choice.args (arguments choice [])) rows) xs) (filter_all _ got met) (bag-sym read.gives.omits_none))

-- ---- the law

module _ (host : Host) (bytes : OrdersBytes host) (params : List Value) (most : Option ℕ) (q : Query) (before : List Joined) (j : Joined)
    (after : List Joined) (front : List (List Row)) (back : List (List Row)) (choice : Choice)
    (is : q.joined ≡ before ++ (j ∷ after)) (wide : AreWide before front) where
  abbrev columns : Columns
  columns = record { start = widths before; count = width j }

  abbrev told : List Offer
  told = offers_behind params q before j

  abbrev meets : Row → Bool
  meets = meets_all (constraints told) choice.args (arguments choice told)

  module _ (there : List Row) (of : AreOf j there) where
    abbrev Leaves : Type 0
    Leaves = LeavesOut host params (strict most) q before j after front there meets back is wide

    misses : (terms : List Expr) → told_terms q j ≡ terms → (f : Row) → Made before front [] f → (r : Row) → Among there r → meets r ≡ false → (more : Row)
        → any_missed host params ((f ++ r) ++ more) (strict most) terms ≡ true
    misses terms same f made r among out more =
        let u = unmet_one told choice.args r out in
        subst (λ es. any_missed host params ((f ++ r) ++ more) (strict most) es ≡ true) same
        (some_miss host bytes params columns f r more (made_long before front f wide made) (member_holds (λ r. length r ≡ width j) there of r among) most
        (told_terms q j) u.place u.offer u.there u.unmet)

    by_its_on : j.is_left ≡ true → Leaves
    by_its_on brought =
        left_leaves_out host params (strict most) q before j after front there meets back is wide brought
        (misses j.on (ap (λ (b : Bool). cond b j.on (cond (list_any is_brought q.joined) [] (ons q.joined ++ q.filter))) brought))

    by_all_terms : j.is_left ≡ false → list_any is_brought q.joined ≡ false → Leaves
    by_all_terms inner none =
        inner_leaves_out host params (strict most) q before j after front there meets back is wide inner
        (all_safe after (none_behind is_brought before j after (ap (list_any is_brought) (sym is) ∙ none)))
        (λ f made r among out more.
        ap (list_any (is_missed host params ((f ++ r) ++ more) (strict most))) (sym (told_all q j inner none))
        ∙ misses (told_terms q j) refl f made r among out more)

    -- nothing is told, so nothing is left out
    by_nothing : told_terms q j ≡ [] → Leaves
    by_nothing none =
        ap (λ (rows : List Row). answer (meaning most host params) (view.query q) (front ++ (rows ∷ back)))
        (sym (filter_all meets there
        (λ r. ap (λ (es : List Expr). meets_all (constraints (offers columns params es)) choice.args (arguments choice (offers columns params es)) r) none
        ∙ all_met choice.args r _ refl)))

    leaves : Leaves
    leaves = elim (split j.is_left) [
      | inl brought ↦ by_its_on brought
      | inr inner ↦ elim (split (list_any is_brought q.joined)) [
        | inl some ↦ by_nothing (
            ap (λ (b : Bool). cond b j.on (cond (list_any is_brought q.joined) [] (ons q.joined ++ q.filter))) inner
            ∙ ap (λ (b : Bool). cond b [] (ons q.joined ++ q.filter)) some)
        | inr none ↦ by_all_terms inner none
      ]
    ]

pub answers_by_plan : AnswersByPlan
answers_by_plan host params most q before j after front rows got back os choice bytes total is wide of got_of read =
    leaves host bytes params most q before j after front back choice is wide rows of
    ∙ answer_same (meaning most host params) (lawful host total most params) (view.query q) _ _
    (one_alike front _ _ back (bag-sym read.gives.omits_none))
    ∙ sym (leaves host bytes params most q before j after front back choice is wide got got_of)
