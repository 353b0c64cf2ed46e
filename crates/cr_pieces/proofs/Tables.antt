-- The words and signs of a table, ASCII case ignored.
use Rattle.std.proofs.Common.{◌≡◌, inl, inr, ℕ, Bool, true, false, not, List, [], ◌∷◌, length, map, get_or, drop, Some, refl, sym, ap, ◌∙◌, arith}
use Rattle.std.specs.List.{list_all}
use Rattle.std.specs.Map.{lookup}
use Rattle.std.specs.Char.{is_ascii_alphabetic, is_ascii_uppercase, to_ascii_lowercase}
use Rattle.std.specs.Cmp.Lexicographic.{same_text}
use Rattle.std.proofs.lemmas.Bool.Decides.{nat_tests}
use Rattle.cr_lex.specs.Texts.{is_start}
use Rattle.cr_lex.proofs.Parts.{told, both}
use Rattle.cr_tree.specs.declared.symbol.Mark.{Mark}
use Rattle.cr_lex.specs.Marks.{marked}
use Rattle.cr_pieces.proofs.Follows.{not_true}

among : (test good : List ℕ → Bool) (table : List (List ℕ × Mark)) (mark : Mark) → list_all (λ e. good e.0) table ≡ true → lookup test table ≡ Some mark
    → (w : List ℕ) × (good w ≡ true) × (test w ≡ true)
among test good [] mark all e = absurd cc
among test good (x ∷ xs) mark all e =
    let parts = both (good x.0) (list_all (λ y. good y.0) xs) all in
    elim (told (test x.0)) [
      | inl found ↦ (x.0, parts.0, found)
      | inr missed ↦ among test good xs mark parts.1 (rw missed at e)
    ]

-- what is marked is written as a word of the table, but for case
pub as_written : (good : List ℕ → Bool) (table : List (List ℕ × Mark)) (w : List ℕ) (mark : Mark) → list_all (λ e. good e.0) table ≡ true → marked table w ≡ Some mark
    → (entry : List ℕ) × (good entry ≡ true) × (map to_ascii_lowercase entry ≡ map to_ascii_lowercase w)
as_written good table w mark all e =
    let a = among _ good table mark all e in
    (a.0, a.1, same_text (map to_ascii_lowercase a.0) (map to_ascii_lowercase w) (sym a.2))

-- ---- a byte but for case

letter : (x c : ℕ) → is_ascii_uppercase x ≡ true → to_ascii_lowercase x ≡ to_ascii_lowercase c → is_ascii_alphabetic c ≡ true
letter x c e l = grind (arith, nat_tests)

no_letter : (x c : ℕ) → is_ascii_alphabetic x ≡ false → to_ascii_lowercase x ≡ to_ascii_lowercase c → c ≡ x
no_letter x c e l = grind (arith, nat_tests)

-- what is a word in upper case, but for case
pub letters : (a w : List ℕ) → list_all is_ascii_uppercase a ≡ true → map to_ascii_lowercase a ≡ map to_ascii_lowercase w → (list_all is_start w ≡ true) × (length w ≡ length a)
letters [] [] e l = (refl, refl)
letters [] (c ∷ cs) e l = absurd cc
letters (x ∷ xs) [] e l = absurd cc
letters (x ∷ xs) (c ∷ cs) e l =
    let parts = both (is_ascii_uppercase x) (list_all is_ascii_uppercase xs) e in
    let more = letters xs cs parts.1 (ap (drop 1) l) in
    let one = letter x c parts.0 (ap (λ (t : List ℕ). get_or t 0 0) l) in
    (rw one more.0, omega (arith, more.1))

-- what has no letters, but for case
pub no_letters : (a w : List ℕ) → list_all (λ c. not (is_ascii_alphabetic c)) a ≡ true → map to_ascii_lowercase a ≡ map to_ascii_lowercase w → w ≡ a
no_letters [] [] e l = refl
no_letters [] (c ∷ cs) e l = absurd cc
no_letters (x ∷ xs) [] e l = absurd cc
no_letters (x ∷ xs) (c ∷ cs) e l =
    let parts = both (not (is_ascii_alphabetic x)) (list_all (λ d. not (is_ascii_alphabetic d)) xs) e in
    let more = no_letters xs cs parts.1 (ap (drop 1) l) in
    let one = no_letter x c (not_true (is_ascii_alphabetic x) parts.0) (ap (λ (t : List ℕ). get_or t 0 0) l) in
    ap (λ (d : ℕ). d ∷ cs) one ∙ ap (λ (t : List ℕ). x ∷ t) more
