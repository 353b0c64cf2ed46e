-- What is read of a source, table by table.
use Rattle.std.proofs.Common.{◌≡◌, ℕ, suc, ◌+◌, ◌-◌, ◌<◌, arith, Bool, true, false, ◌||◌, List, [], ◌∷◌, ◌++◌, refl, sym, ap, ◌∙◌, append_assoc}
use Rattle.cr_query.specs.Query.{Row}
use Rattle.cr_module.specs.Reading.{tables_between}

-- no failure more
pub or_none : (b : Bool) → (b || false) ≡ b
or_none true = refl
or_none false = refl

first_of : (rows : ℕ → List Row) (n count left : ℕ) → left ≡ suc count → tables_between rows n left ≡ rows n ∷ tables_between rows (n + 1) count
first_of rows n count left is =
    ap (λ (k : ℕ). tables_between rows n k) is ∙ (let one : suc n ≡ n + 1 = omega arith in ap (λ (k : ℕ). rows n ∷ tables_between rows k count) one)

-- one table more
pub next_table : (rows : ℕ → List Row) (done whole : List (List Row)) (n end : ℕ) → n < end → done ++ tables_between rows n (end - n) ≡ whole
    → (done ++ rows n ∷ []) ++ tables_between rows (n + 1) (end - (n + 1)) ≡ whole
next_table rows done whole n end few is =
    let rest : List (List Row) = tables_between rows (n + 1) (end - (n + 1)) in
    append_assoc done (rows n ∷ []) rest ∙ ap (λ (ts : List (List Row)). done ++ ts) (sym (first_of rows n (end - (n + 1)) (end - n) (omega (arith, few)))) ∙ is
