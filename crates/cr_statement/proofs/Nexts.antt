-- What is told of the next statement of a script, from an answer about the tokens behind the `;` at its front.
use Rattle.std.proofs.Common.{◌≡◌, ℕ, ◌-◌, ◌==◌, false, List, [], ◌∷◌, length, take, drop, None, Result, Ok, Err, refl, sym, ap, ◌∙◌}
use Rattle.std.proofs.Math.Seq.{take-length}
use Rattle.std.proofs.lemmas.List.{length-drop}
use Rattle.cr_lex.specs.declared.token.Token.{Token}
use Rattle.cr_tree.specs.declared.statement.Statement.{Statement}
use Rattle.cr_statement.specs.declared.error.SqlError.{SqlError}
use Rattle.cr_statement.specs.Sql.{Refusal, judged, told, answers}
use Rattle.cr_statement.specs.Laws.{SaysJudged}
use Rattle.cr_statement.specs.Scripts.{semicolons, behind, next_at, next}

module _ (source : List ℕ) (tokens : List Token) where
  next_told : (n : ℕ) (rest : List Token) → (length rest == 0) ≡ false → next_at source n rest ≡ behind n (told source rest (judged source rest))
  next_told n [] e = absurd (cc)
  next_told n (t ∷ ts) e = refl

  -- all that stands behind so many tokens
  all_behind : (n : ℕ) → take (length tokens - n) (drop n tokens) ≡ drop n tokens
  all_behind n = ap (λ k. take k (drop n tokens)) (sym (length-drop n tokens)) ∙ take-length (drop n tokens)

  pub next_is : (n : ℕ) → n ≡ semicolons source tokens → (length (take (length tokens - n) (drop n tokens)) == 0) ≡ false
      → (r : Result (Statement × ℕ) SqlError) → SaysJudged source (take (length tokens - n) (drop n tokens)) r → behind n (answers r) ≡ next source tokens
  next_is n i e r a =
      let rest = take (length tokens - n) (drop n tokens) in
      ap (behind n) a ∙ (sym (next_told n rest e) ∙ (ap (next_at source n) (all_behind n) ∙ ap (λ k. next_at source k (drop k tokens)) i))

  not_none : (n : ℕ) (r : Result (Statement × ℕ) Refusal) → behind n r ≡ Ok None → ⊥
  not_none n (Ok x) e = let q : ⊥ = cc in q
  not_none n (Err r) e = let q : ⊥ = cc in q

  -- where another token than `;` is left, so is a statement, or why it is not read
  pub some_left : (n : ℕ) → n ≡ semicolons source tokens → (length (take (length tokens - n) (drop n tokens)) == 0) ≡ false → next source tokens ≡ Ok None → ⊥
  some_left n i e none =
      let rest = take (length tokens - n) (drop n tokens) in
      let at : next_at source n rest ≡ next source tokens = ap (next_at source n) (all_behind n) ∙ ap (λ k. next_at source k (drop k tokens)) i in
      not_none n (told source rest (judged source rest)) (sym (next_told n rest e) ∙ (at ∙ none))
