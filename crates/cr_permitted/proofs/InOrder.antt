-- The questions of a write, one kind after another.
use Rattle.std.proofs.Common.{◌≡◌, ◌∙◌, List, [], ◌∷◌, ◌++◌, map, Option, None, refl, ap, sym, append_assoc}
use Rattle.std.specs.Prelude.{codes}
use Rattle.std.specs.List.{flat_map}
use Rattle.std.proofs.lemmas.Grind.{flat_map-append}
use Rattle.std.proofs.lemmas.List.Concat.{flat_map_single}
use Rattle.std.proofs.lemmas.List.Folds.{flat_map-map}
use Rattle.cr_host.specs.declared.meaning.Action.TheVariants as action
use Rattle.cr_term.specs.declared.expr.Expr.{Expr}
use Rattle.cr_term.specs.declared.query.Insert.{Insert}
use Rattle.cr_term.specs.declared.query.Delete.{Delete}
use Rattle.cr_term.specs.declared.query.MarkReplicated.{MarkReplicated}
use Rattle.cr_term.specs.declared.query.Update.{Update}
use Rattle.cr_term.specs.declared.query.Resolved.TheVariants as r
use Rattle.cr_questions.specs.declared.question.Question.{Question}
use Rattle.cr_questions.specs.Questions.{Answers, ask, asked, asked_all, call_of, first_denied, questions, update_of}
use Rattle.cr_questions.specs.Asked.{or_first_denied}
use Rattle.cr_questions.proofs.Denials.{denied_more}
use Rattle.cr_questions.proofs.Collected.{two_acts, three_acts}

pub from_nothing : (answers : Answers) (qs : List Question) → or_first_denied answers None qs ≡ first_denied answers qs
unfolding or_first_denied
from_nothing answers qs = refl

-- two kinds
pub both_from : (answers : Answers) (xs ys qs : List Question) (s1 s2 : Option Question) → qs ≡ xs ++ ys → s1 ≡ or_first_denied answers None xs → s2 ≡ or_first_denied answers s1 ys → s2 ≡ first_denied answers qs
both_from answers xs ys qs s1 s2 is h k = two_acts (or_first_denied answers) (denied_more answers) xs ys qs None s1 s2 is h k ∙ from_nothing answers qs

rows_are : (rows : List (List Expr)) → asked_all [] (flat_map (λ row. row) rows) ≡ flat_map (asked_all []) rows
rows_are [] = refl
rows_are (row ∷ rows) = flat_map-append (asked []) row (flat_map (λ row. row) rows) ∙ ap (λ qs. asked_all [] row ++ qs) (rows_are rows)

pub insert_from : (answers : Answers) (i : Insert) (s1 s2 : Option Question) → s1 ≡ or_first_denied answers None (ask action.Insert i.relation.definition.name [] ∷ [])
    → s2 ≡ or_first_denied answers s1 (flat_map (asked_all []) i.rows) → s2 ≡ first_denied answers (questions (r.Insert i))
insert_from answers i s1 s2 h k =
    let own : Question = ask action.Insert i.relation.definition.name [] in
    both_from answers (own ∷ []) (flat_map (asked_all []) i.rows) (questions (r.Insert i)) s1 s2 (ap (λ qs. own ∷ qs) (rows_are i.rows)) h k

pub delete_from : (answers : Answers) (d : Delete) (s1 s2 : Option Question) → s1 ≡ or_first_denied answers None (ask action.Delete d.relation.definition.name [] ∷ [])
    → s2 ≡ or_first_denied answers s1 (asked_all (d.relation ∷ []) d.filter) → s2 ≡ first_denied answers (questions (r.Delete d))
delete_from answers d s1 s2 h k =
    both_from answers (ask action.Delete d.relation.definition.name [] ∷ []) (asked_all (d.relation ∷ []) d.filter) (questions (r.Delete d)) s1 s2 refl h k

pub mark_from : (answers : Answers) (m : MarkReplicated) (s1 s2 : Option Question) → s1 ≡ or_first_denied answers None (ask action.Select [] [] ∷ [])
    → s2 ≡ or_first_denied answers s1 (call_of (codes "crsql_as_crr") ∷ []) → s2 ≡ first_denied answers (questions (r.MarkReplicated m))
mark_from answers m s1 s2 h k = both_from answers (ask action.Select [] [] ∷ []) (call_of (codes "crsql_as_crr") ∷ []) (questions (r.MarkReplicated m)) s1 s2 refl h k

-- ---- UPDATE

module _ (u : Update) where
  abbrev assigned : List Question
  assigned = flat_map (λ a. update_of u.relation a.column ∷ []) u.assignments

  abbrev valued : List Question
  valued = flat_map (λ a. asked (u.relation ∷ []) a.value) u.assignments

  abbrev filtered : List Question
  filtered = asked_all (u.relation ∷ []) u.filter

  values_are : asked_all (u.relation ∷ []) (map (λ a. a.value) u.assignments ++ u.filter) ≡ valued ++ filtered
  values_are = flat_map-append (asked (u.relation ∷ [])) (map (λ a. a.value) u.assignments) u.filter
      ∙ ap (λ qs. qs ++ filtered) (flat_map-map (asked (u.relation ∷ [])) (λ a. a.value) u.assignments)

  update_is : questions (r.Update u) ≡ (assigned ++ valued) ++ filtered
  update_is =
      ap (λ qs. qs ++ asked_all (u.relation ∷ []) (map (λ a. a.value) u.assignments ++ u.filter)) (sym (flat_map_single (λ a. update_of u.relation a.column) u.assignments))
      ∙ ap (λ qs. assigned ++ qs) values_are ∙ sym (append_assoc assigned valued filtered)

  pub update_from : (answers : Answers) (s1 s2 s3 : Option Question) → s1 ≡ or_first_denied answers None assigned → s2 ≡ or_first_denied answers s1 valued
      → s3 ≡ or_first_denied answers s2 filtered → s3 ≡ first_denied answers (questions (r.Update u))
  update_from answers s1 s2 s3 h k is =
      three_acts (or_first_denied answers) (denied_more answers) assigned valued filtered (questions (r.Update u)) None s1 s2 s3 update_is h k is
      ∙ from_nothing answers (questions (r.Update u))
