-- Terms of GROUP BY and ORDER BY by their collations.
use Rattle.std.proofs.Common.{◌≡◌, ◌∙◌, ℕ, ◌+◌, Bool, not, ◌||◌, List, [], ◌∷◌, map, Result, Ok, Err, refl, sym, ap, subst}
use Rattle.std.specs.Prelude.{cond}
use Rattle.std.specs.List.{position, position_or_len}
use Rattle.std.proofs.lemmas.List.{length-map}
use Rattle.cr_term.specs.declared.expr.Expr.{Expr}
use Rattle.cr_term.specs.declared.query.GroupTerm.{GroupTerm}
use Rattle.cr_term.specs.declared.query.OrderTerm.{OrderTerm}
use Rattle.cr_term.specs.Operands.{collation_of}
use Rattle.cr_questions.specs.Questions.{Name}
use Rattle.cr_resolve.specs.declared.refusal.Refusal.{Refusal}
use Rattle.cr_resolve.specs.declared.refusal.Refusal.TheVariants.{Memory}
use Rattle.cr_resolve.specs.declared.reading.Made.{Made}
use Rattle.cr_resolve.specs.Known.{Known, collation}
use Rattle.cr_resolve.specs.Reading.{Read}
use Rattle.cr_resolve.specs.Queries.{Term', grouped_term, has_aggregate_in}
use Rattle.cr_resolve.specs.Told.{told, Refuses, Reads}
use Rattle.cr_resolve.proofs.Refusals.{ahead}
use Rattle.cr_select.specs.declared.terms.Term.{Term}
use Rattle.cr_select.specs.Terms.{as_made, ordered_term, Collates, Groups, Orders}

-- ---- collations

pub no_memory : (known : Known) (x : Expr) → Collates known x (Err Memory)
unfolding Collates
no_memory known x = tt

pub no_collation : (known : Known) (x : Expr) (n : Name) (f : Refusal) → n ≡ collation_of (x ∷ []) → Refuses (collation known n) f → Collates known x (Err f)
unfolding Collates
no_collation known x n f is h = subst (λ (m : Name). Refuses (collation known m) f) is h

pub collated : (known : Known) (x : Expr) (n : Name) → n ≡ collation_of (x ∷ []) → collation known n ≡ [] → Collates known x (Ok n)
unfolding Collates
collated known x n is h = (sym is, h)

-- ---- GROUP BY

pub group_fails : (known : Known) (m : Made Term) (f : Refusal) → Collates known m.made.expr (Err f) → Groups known m (Err f)
unfolding Collates Groups
group_fails known m f h = h

pub group_made : (known : Known) (m : Made Term) (n : Name) (b : Bool) (r : Made GroupTerm) → Collates known m.made.expr (Ok n) → b ≡ has_aggregate_in (m.made.expr ∷ [])
    → r ≡ record { made = record { expr = m.made.expr; collation = n }; is_misplaced = b || m.is_misplaced } → Groups known m (Ok r)
unfolding Collates Groups
group_made known m n b r h a is =
    let x : Expr = m.made.expr in
    let bad : List Refusal → Read GroupTerm = λ fs. record { bad = fs; misplaced = has_aggregate_in (x ∷ []) || m.is_misplaced; made = record { expr = x; collation = collation_of (x ∷ []) } } in
    let flag : Bool → Read GroupTerm = λ c. record { bad = []; misplaced = c || m.is_misplaced; made = record { expr = x; collation = collation_of (x ∷ []) } } in
    let name : Name → Read GroupTerm = λ c. record { bad = []; misplaced = b || m.is_misplaced; made = record { expr = x; collation = c } } in
    ap bad (ap (collation known) h.0 ∙ h.1) ∙ ap flag (sym a) ∙ ap name h.0 ∙ ap (λ (g : Made GroupTerm). told g) (sym is)

pub group_starts : (known : Known) (r : Read Term') (m : Made Term) (g : Result (Made GroupTerm) Refusal) → r ≡ told (as_made m) → Groups known m g → Reads (grouped_term known r) g
unfolding Groups
group_starts known r m g is h = subst (λ (s : Read Term'). Reads (grouped_term known s) g) (sym is) h

pub group_ends : (known : Known) (r : Read Term') (f : Refusal) → Refuses r.bad f → Refuses (grouped_term known r).bad f
group_ends known r f h = ahead r.bad (collation known (collation_of (r.made.expr ∷ []))) f h

-- ---- ORDER BY

pub order_fails : (known : Known) (d : Bool) (m : Made Term) (f : Refusal) → Collates known m.made.expr (Err f) → Orders known d m (Err f)
unfolding Collates Orders
order_fails known d m f h = h

pub order_made : (known : Known) (d : Bool) (m : Made Term) (n : Name) (r : Made OrderTerm) → Collates known m.made.expr (Ok n)
    → r ≡ record { made = record { result = m.made.result; expr = m.made.expr; collation = n; is_descending = d }; is_misplaced = m.is_misplaced } → Orders known d m (Ok r)
unfolding Collates Orders
order_made known d m n r h is =
    let x : Expr = m.made.expr in
    let bad : List Refusal → Read OrderTerm = λ fs. record { bad = fs; misplaced = m.is_misplaced; made = record { result = m.made.result; expr = x; collation = collation_of (x ∷ []); is_descending = d } } in
    let name : Name → Read OrderTerm = λ c. record { bad = []; misplaced = m.is_misplaced; made = record { result = m.made.result; expr = x; collation = c; is_descending = d } } in
    ap bad (ap (collation known) h.0 ∙ h.1) ∙ ap name h.0 ∙ ap (λ (g : Made OrderTerm). told g) (sym is)

pub order_starts : (known : Known) (d : Bool) (r : Read Term') (m : Made Term) (g : Result (Made OrderTerm) Refusal) → r ≡ told (as_made m) → Orders known d m g → Reads (ordered_term known d r) g
unfolding Orders
order_starts known d r m g is h = subst (λ (s : Read Term'). Reads (ordered_term known d s) g) (sym is) h

pub order_ends : (known : Known) (d : Bool) (r : Read Term') (f : Refusal) → Refuses r.bad f → Refuses (ordered_term known d r).bad f
order_ends known d r f h = ahead r.bad (collation known (collation_of (r.made.expr ∷ []))) f h

-- ---- a place in a list that is mapped

first_mapped : {A B : Type 0} (f : A → B) (p : B → Bool) (xs : List A) → position_or_len p (map f xs) ≡ position_or_len (λ x. p (f x)) xs
first_mapped f p [] = refl
first_mapped f p (x ∷ xs) = ap (λ (n : ℕ). cond (not (p (f x))) (1 + n) 0) (first_mapped f p xs)

pub position_mapped : {A B : Type 0} (f : A → B) (p : B → Bool) (xs : List A) → position p (map f xs) ≡ position (λ x. p (f x)) xs
position_mapped f p xs = rw (first_mapped f p xs, length-map xs f) refl
