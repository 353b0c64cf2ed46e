-- Assignments that are left, one after another.
use Rattle.std.proofs.Common.{◌≡◌, ◌∙◌, ℕ, ◌+◌, ◌<◌, Bool, true, false, List, [], ◌∷◌, ◌++◌, length, drop, get_or, refl, ap, sym, append_assoc}
use Rattle.cr_term.specs.declared.query.Assignment.{Assignment}
use Rattle.cr_term.specs.declared.query.Relation.{Relation}
use Rattle.cr_questions.specs.Questions.{Answers, ignored, left, update_of}
use Rattle.cr_questions.proofs.Folds.{rest_at}
use Rattle.cr_permitted.specs.Assigned.{left_assignments}

module _ (answers : Answers) (r : Relation) where
  abbrev is_out : Assignment → Bool
  is_out a = ignored answers (update_of r a.column)

  abbrev left_one : Assignment → Assignment
  left_one a = record { column = a.column; value = left answers (r ∷ []) a.value }

  one_kept : (a : Assignment) (xs : List Assignment) → is_out a ≡ false → left_assignments answers r (a ∷ xs) ≡ left_one a ∷ left_assignments answers r xs
  one_kept a xs is = rw is refl

  one_out : (a : Assignment) (xs : List Assignment) → is_out a ≡ true → left_assignments answers r (a ∷ xs) ≡ left_assignments answers r xs
  one_out a xs is = rw is refl

  pub next_kept : (xs : List Assignment) (i : ℕ) (a made : Assignment) (held whole : List Assignment) → i < length xs → a ≡ get_or xs i a → is_out a ≡ false → made ≡ left_one a
      → held ++ left_assignments answers r (drop i xs) ≡ whole → (held ++ made ∷ []) ++ left_assignments answers r (drop (i + 1) xs) ≡ whole
  next_kept xs i a made held whole h e is m k =
      append_assoc held (made ∷ []) (left_assignments answers r (drop (i + 1) xs))
      ∙ ap (λ (ys : List Assignment). held ++ ys)
      (ap (λ (x : Assignment). x ∷ left_assignments answers r (drop (i + 1) xs)) m ∙ sym (one_kept a (drop (i + 1) xs) is) ∙ ap (left_assignments answers r) (sym (rest_at xs i a h e)))
      ∙ k

  pub next_out : (xs : List Assignment) (i : ℕ) (a : Assignment) (held whole : List Assignment) → i < length xs → a ≡ get_or xs i a → is_out a ≡ true
      → held ++ left_assignments answers r (drop i xs) ≡ whole → held ++ left_assignments answers r (drop (i + 1) xs) ≡ whole
  next_out xs i a held whole h e is k =
      ap (λ (ys : List Assignment). held ++ ys) (sym (one_out a (drop (i + 1) xs) is) ∙ ap (left_assignments answers r) (sym (rest_at xs i a h e))) ∙ k
