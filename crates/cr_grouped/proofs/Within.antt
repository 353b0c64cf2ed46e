-- An expression of a query, and a term of its ORDER BY, over groups or none.
use Rattle.std.proofs.Common.{◌≡◌, ◌∙◌, ℕ, Bool, true, false, List, [], ◌∷◌, Option, None, refl, sym, ap}
use Rattle.std.specs.Option.{option_or}
use Rattle.std.specs.List.{position}
use Rattle.cr_term.specs.declared.expr.Expr.{Expr}
use Rattle.cr_term.specs.declared.query.GroupTerm.{GroupTerm}
use Rattle.cr_term.specs.declared.query.OrderTerm.{OrderTerm}
use Rattle.cr_term.specs.declared.query.ResultColumn.{ResultColumn}
use Rattle.cr_term.specs.Operands.{collation_of}
use Rattle.cr_term.specs.Same.{same}
use Rattle.cr_questions.specs.Questions.{Name}
use Rattle.cr_resolve.specs.Queries.{found_result}
use Rattle.cr_select.specs.Placed.{exprs_of, made}
use Rattle.cr_select.proofs.Collated.{position_mapped}
use Rattle.cr_grouped.specs.Grouping.{exprs_shown, ordered_in, within}

pub in_groups : (ts : List GroupTerm) (x : Expr) → made (exprs_of ts) x ≡ within true ts x
unfolding made within
in_groups ts x = refl

pub in_no_groups : (ts : List GroupTerm) (x : Expr) → x ≡ within false ts x
unfolding within
in_no_groups ts x = refl

pub ordered : (distinct grouped : Bool) (ts : List GroupTerm) (cs : List ResultColumn) (t : OrderTerm) (x : Expr) (found : Option ℕ) (name : Name)
    → x ≡ within grouped ts t.expr → found ≡ found_result distinct (exprs_shown cs) x → name ≡ collation_of (x ∷ [])
    → record { result = option_or t.result found; expr = x; collation = name; is_descending = t.is_descending } ≡ ordered_in distinct grouped ts cs t
unfolding within ordered_in
ordered distinct grouped ts cs t x found name is at by =
    let sees : Option ℕ → OrderTerm = λ f. record { result = option_or t.result f; expr = x; collation = name; is_descending = t.is_descending } in
    let sorts : Name → OrderTerm = λ n. record { result = option_or t.result (found_result distinct (exprs_shown cs) x); expr = x; collation = n; is_descending = t.is_descending } in
    let whole : Expr → OrderTerm = λ y. record { result = option_or t.result (found_result distinct (exprs_shown cs) y); expr = y; collation = collation_of (y ∷ []); is_descending = t.is_descending } in
    ap sees at ∙ ap sorts by ∙ ap whole is

pub beside_distinct : (cs : List ResultColumn) (x : Expr) → position (λ c. same x c.expr) cs ≡ found_result true (exprs_shown cs) x
beside_distinct cs x = sym (position_mapped (λ (c : ResultColumn). c.expr) (λ r. same x r) cs)

pub without_distinct : (cs : List ResultColumn) (x : Expr) → None ≡ found_result false (exprs_shown cs) x
without_distinct cs x = refl
