-- What was found so far of the tables of a name, and the terms that are told so far.
use Rattle.std.proofs.Common.{◌≡◌, ◌∙◌, ℕ, ◌+◌, ◌<◌, Bool, false, cond, take, length, get_or, List, [], ◌∷◌, ◌++◌, append-nil, Option, Some, None, sym, ap}
use Rattle.std.specs.Borrow.{Bor}
use Rattle.std.specs.List.{flat_map, list_any}
use Rattle.std.proofs.lemmas.List.{take_more}
use Rattle.std.proofs.lemmas.List.Concat.{flat_map-append}
use Rattle.std.proofs.lemmas.List.Elements.{filter_map-append}
use Rattle.cr_value.specs.declared.value.Value.{Value}
use Rattle.cr_term.specs.declared.expr.Expr.{Expr}
use Rattle.cr_term.specs.declared.query.Joined.{Joined}
use Rattle.cr_term.specs.declared.query.Query.{Query}
use Rattle.cr_plan.specs.declared.offer.Columns.{Columns}
use Rattle.cr_plan.specs.declared.offer.Offer.{Offer}
use Rattle.cr_plan.specs.Offers.{offer, offers}
use Rattle.cr_plan.specs.Told.{Placed, is_brought, placed, told_terms}

-- a table that was found, if one was
abbrev pub found_list : Option (Bor Joined × Columns) → List Placed
found_list None = []
found_list (Some t) = placed t ∷ []

pub offers_more : (cs : Columns) (params : List Value) (xs ys : List Expr) → offers cs params (xs ++ ys) ≡ offers cs params xs ++ offers cs params ys
offers_more cs params xs ys = filter_map-append (offer cs params) xs ys

abbrev pub ons : List Joined → List Expr
ons js = flat_map (λ j. j.on) js

-- with the ON of one table more
pub one_more : (cs : Columns) (params : List Value) (js : List Joined) (i : ℕ) (j : Joined) (old new : List Offer) → i < length js → j ≡ get_or js i j
    → new ≡ old ++ offers cs params j.on → old ≡ offers cs params (ons (take i js)) → new ≡ offers cs params (ons (take (i + 1) js))
one_more cs params js i j old new within at is so_far =
    is
    ∙ ap (λ (os : List Offer). os ++ offers cs params j.on) so_far
    ∙ sym (offers_more cs params (ons (take i js)) j.on)
    ∙ ap (λ (es : List Expr). offers cs params (ons (take i js) ++ es)) (sym (append-nil j.on))
    ∙ ap (offers cs params) (sym (flat_map-append (λ k. k.on) (take i js) (j ∷ [])))
    ∙ ap (λ (k : Joined). offers cs params (ons (take i js ++ k ∷ []))) at
    ∙ ap (λ (ks : List Joined). offers cs params (ons ks)) (sym (take_more js i j within))

-- a table of a query without a LEFT JOIN is told all
pub told_is : (q : Query) (j : Joined) → j.is_left ≡ false → list_any is_brought q.joined ≡ false → told_terms q j ≡ ons q.joined ++ q.filter
told_is q j inner none =
    ap (λ (b : Bool). cond b j.on (cond (list_any is_brought q.joined) [] (ons q.joined ++ q.filter))) inner
    ∙ ap (λ (b : Bool). cond b [] (ons q.joined ++ q.filter)) none
