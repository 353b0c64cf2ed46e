-- What is left of the assignments of an UPDATE.
use Rattle.std.specs.Prelude.{not, List, [], ◌∷◌, filter, map}
use Rattle.cr_term.specs.declared.query.Assignment.{Assignment}
use Rattle.cr_term.specs.declared.query.Relation.{Relation}
use Rattle.cr_questions.specs.Questions.{Answers, ignored, left, update_of}

-- without those to columns that are ignored
abbrev pub left_assignments : Answers → Relation → List Assignment → List Assignment
left_assignments answers r assignments =
    map (λ a. record { column = a.column; value = left answers (r ∷ []) a.value }) (filter (λ a. not (ignored answers (update_of r a.column))) assignments)
