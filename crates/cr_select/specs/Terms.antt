-- Terms of GROUP BY and ORDER BY on the way to their collations, which are kept closed, since how one is found is long.
use Rattle.std.specs.Prelude.{◌≡◌, Bool, true, List, [], ◌∷◌, Result, Ok, Err}
use Rattle.cr_tree.specs.declared.expr.Expr.{Expr as Tree}
use Rattle.cr_term.specs.declared.expr.Expr.{Expr}
use Rattle.cr_term.specs.declared.query.GroupTerm.{GroupTerm}
use Rattle.cr_term.specs.declared.query.OrderTerm.{OrderTerm}
use Rattle.cr_term.specs.Operands.{collation_of}
use Rattle.cr_questions.specs.Questions.{Name}
use Rattle.cr_resolve.specs.declared.refusal.Refusal.{Refusal}
use Rattle.cr_resolve.specs.declared.reading.Made.{Made}
use Rattle.cr_resolve.specs.Known.{Known, collation}
use Rattle.cr_resolve.specs.Reading.{Read, with, also}
use Rattle.cr_resolve.specs.declared.scope.Source.{Source}
use Rattle.cr_resolve.specs.Expressions.{expr}
use Rattle.cr_resolve.specs.Queries.{Result as ResultOf, Term', alias_at, aliased_or, grouped_term, integer_of, name_of, numbered_or, other}
use Rattle.cr_resolve.specs.Told.{told, Refuses, Reads}
use Rattle.cr_select.specs.declared.terms.Term.{Term}

abbrev pub as_term : Term → Term'
as_term t = record { result = t.result; expr = t.expr }

abbrev pub as_made : Made Term → Made Term'
as_made m = record { made = as_term m.made; is_misplaced = m.is_misplaced }

abbrev pub as_terms : Result (Made Term) Refusal → Result (Made Term') Refusal
as_terms (Ok m) = Ok (as_made m)
as_terms (Err f) = Err f

-- a term of ORDER BY before its collation is known
abbrev pub order_start : Known → List Source → List ResultOf → Tree → Read Term'
order_start known sources results t = numbered_or results (integer_of t) (aliased_or results (alias_at results (name_of t)) (other (expr known sources true t)))

-- with its collation
abbrev pub ordered_term : Known → Bool → Read Term' → Read OrderTerm
ordered_term known descending t =
    with (λ x. record { result = x.result; expr = x.expr; collation = collation_of (x.expr ∷ []); is_descending = descending })
    (also (λ x. collation known (collation_of (x.expr ∷ []))) t)

-- the collation of an expression, which is there
unfoldable pub Collates : Known → Expr → Result Name Refusal → Type 0
Collates known x (Ok n) = (collation_of (x ∷ []) ≡ n) × (collation known n ≡ [])
Collates known x (Err f) = Refuses (collation known (collation_of (x ∷ []))) f

unfoldable pub Groups : Known → Made Term → Result (Made GroupTerm) Refusal → Type 0
Groups known m r = Reads (grouped_term known (told (as_made m))) r

unfoldable pub Orders : Known → Bool → Made Term → Result (Made OrderTerm) Refusal → Type 0
Orders known descending m r = Reads (ordered_term known descending (told (as_made m))) r
