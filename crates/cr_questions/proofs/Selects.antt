-- The questions of a SELECT, one kind after another.
use Rattle.std.proofs.Common.{◌≡◌, ◌∙◌, Bool, true, false, not, List, [], ◌∷◌, ◌++◌, map, filter, Option, None, refl, ap, sym}
use Rattle.std.specs.List.{flat_map}
use Rattle.cr_host.specs.declared.meaning.Action.TheVariants.{Read, Select}
use Rattle.cr_term.specs.declared.query.Joined.{Joined}
use Rattle.cr_term.specs.declared.query.Query.{Query}
use Rattle.cr_term.specs.declared.query.Relation.{Relation}
use Rattle.cr_term.specs.Parts.{columns}
use Rattle.cr_questions.specs.declared.question.Question.{Question}
use Rattle.cr_questions.specs.Questions.{Answers, ask, asked_all, exprs_of, relations_of, is_read, select_questions, first_denied}
use Rattle.cr_questions.specs.Asked.{bare_read_of, bare_read_in, or_first_denied}
use Rattle.cr_questions.proofs.Denials.{denied_more}
use Rattle.cr_questions.proofs.Collected.{three_acts}

module _ (p : Relation → Bool) where
  abbrev read : Relation → Question
  read r = ask Read r.definition.name []

  kept : (b : Bool) (r : Relation) (rs : List Relation) → p r ≡ b → map read (filter (λ r. not (p r)) (r ∷ rs)) ≡ bare_read_of b r ++ map read (filter (λ r. not (p r)) rs)
  kept true r rs is = rw is refl
  kept false r rs is = rw is refl

  bares : (js : List Joined) → flat_map (λ j. bare_read_of (p j.relation) j.relation) js ≡ map read (filter (λ r. not (p r)) (map (λ j. j.relation) js))
  bares [] = refl
  bares (j ∷ js) = ap (λ qs. bare_read_of (p j.relation) j.relation ++ qs) (bares js) ∙ sym (kept (p j.relation) j.relation (map (λ j. j.relation) js) refl)

from_nothing : (answers : Answers) (qs : List Question) → or_first_denied answers None qs ≡ first_denied answers qs
unfolding or_first_denied
from_nothing answers qs = refl

pub select_from : (answers : Answers) (q : Query) (s1 s2 s3 : Option Question) → s1 ≡ or_first_denied answers None (ask Select [] [] ∷ []) → s2 ≡ or_first_denied answers s1 (asked_all (relations_of q) (exprs_of q))
    → s3 ≡ or_first_denied answers s2 (flat_map (bare_read_in q) q.joined) → s3 ≡ first_denied answers (select_questions q)
select_from answers q s1 s2 s3 h k is =
    three_acts (or_first_denied answers) (denied_more answers) (ask Select [] [] ∷ []) (asked_all (relations_of q) (exprs_of q)) (flat_map (bare_read_in q) q.joined) (select_questions q) None s1 s2 s3
    (ap (λ qs. ask Select [] [] ∷ asked_all (relations_of q) (exprs_of q) ++ qs) (sym (bares (λ r. is_read (relations_of q) (flat_map columns (exprs_of q)) r.definition.name) q.joined))) h k is
    ∙ from_nothing answers (select_questions q)
