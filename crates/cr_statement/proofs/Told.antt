-- What an answer says of the statement's symbols, and what it says if it is true of them.
use Rattle.std.proofs.Common.{◌≡◌, ◌≢◌, ℕ, List, length, Option, Some, None, Result, Ok, Err, IfOk, refl, sym, ap, ◌∙◌, subst}
use Rattle.std.specs.Borrow.{Bor}
use Rattle.std.specs.Option.{option_map_or}
use Rattle.cr_lex.specs.declared.token.Token.{Token}
use Rattle.cr_tree.specs.declared.limits.LimitKind.{LimitKind}
use Rattle.cr_tree.specs.Judging.{IsRead, IsBadPlace, MeetsLimit}
use Rattle.cr_tree.specs.Laws.{Read, BadPlace, Meets}
use Rattle.cr_parse.proofs.Judged.{judged_read, judged_syntax, judged_limit, true_is_judged}
use Rattle.cr_parse.specs.declared.error.ParseError.{ParseError}
use Rattle.cr_parse.specs.declared.error.ParseError.TheVariants as p
use Rattle.cr_tree.specs.declared.statement.Statement.{Statement}
use Rattle.cr_statement.specs.Statements as language
use Rattle.cr_statement.specs.Whole as reading
use Rattle.cr_statement.proofs.Whole.{statement_of}
use Rattle.cr_statement.specs.Laws.{IsTrueAnswer, SaysJudged}
use Rattle.cr_statement.specs.declared.error.SqlError.{SqlError}
use Rattle.cr_statement.specs.declared.error.SqlError.TheVariants as s
use Rattle.cr_statement.specs.Sql as d
use Rattle.cr_statement.specs.Sql.{Refusal, statement_tokens, statement_symbols, place_of, word_of, refused, judged, told, answers, IsStatement, IsSyntaxAt, IsOutOfProfile}

module _ (source : List ℕ) (tokens : List Token) where
  -- memory was wanted in the reading or nowhere
  memory : (read : Result Statement ParseError) (r : Result (Statement × ℕ) SqlError) → answers r ≡ told source tokens read → r ≢ Err s.Memory → read ≢ Err p.Memory
  memory read (Ok x) a m e = absurd (cc)
  memory read (Err s.Memory) a m e = m refl
  memory read (Err (s.Syntax place)) a m e = absurd (cc)
  memory read (Err (s.OutOfProfile word)) a m e = absurd (cc)
  memory read (Err (s.Limit which)) a m e = absurd (cc)

  pub told_only : (read : Result Statement ParseError) (r : Result (Statement × ℕ) SqlError) (x : Statement) (n : ℕ) → answers r ≡ told source tokens read → r ≢ Err s.Memory
      → (read ≢ Err p.Memory → read ≡ Ok x) → n ≡ length (statement_tokens source tokens) → r ≡ Ok (x, n)
  told_only read r x n a m h e = at r (a ∙ ap (told source tokens) (h (memory read r a m)))
    where
      at : (r : Result (Statement × ℕ) SqlError) → answers r ≡ Ok (x, length (statement_tokens source tokens)) → r ≡ Ok (x, n)
      at (Ok y) a = cc
      at (Err e) a = absurd (cc)

  -- of a statement that goes wrong there
  syntax_at : (at place : ℕ) (o : Option (List ℕ)) → word_of source tokens at ≡ o → option_map_or d.OutOfProfile o (d.Syntax (place_of tokens at)) ≡ d.Syntax place
      → IsBadPlace language.statement (statement_symbols source tokens) at → IsSyntaxAt source tokens place
  syntax_at at place None is same bad = record { at = at; bad = bad; no_word = is; stands = cc }
  syntax_at at place (Some word) is same bad = absurd (cc)

  pub told_syntax : (read : Result Statement ParseError) (r : Result (Statement × ℕ) SqlError) (place : ℕ) → answers r ≡ told source tokens read
      → ((n : ℕ) → read ≡ Err (p.Syntax n) → IsBadPlace language.statement (statement_symbols source tokens) n) → r ≡ Err (s.Syntax place) → IsSyntaxAt source tokens place
  told_syntax read r place a h e = at read (sym a ∙ ap answers e) h
    where
      at : (read : Result Statement ParseError) → told source tokens read ≡ Err (d.Syntax place) → ((n : ℕ) → read ≡ Err (p.Syntax n) → IsBadPlace language.statement (statement_symbols source tokens) n)
          → IsSyntaxAt source tokens place
      at (Ok tree) a h = absurd (cc)
      at (Err (p.Syntax n)) a h = syntax_at n place (word_of source tokens n) refl (cc) (h n refl)
      at (Err (p.Limit which)) a h = absurd (cc)
      at (Err p.Memory) a h = absurd (cc)

  named_at : (at : ℕ) (word : List ℕ) (o : Option (List ℕ)) → word_of source tokens at ≡ o → option_map_or d.OutOfProfile o (d.Syntax (place_of tokens at)) ≡ d.OutOfProfile word
      → IsBadPlace language.statement (statement_symbols source tokens) at → IsOutOfProfile source tokens word
  named_at at word None is same bad = absurd (cc)
  named_at at word (Some w) is same bad = record { at = at; bad = bad; named = let e : w ≡ word = cc in is ∙ ap Some e }

  pub told_outside : (read : Result Statement ParseError) (r : Result (Statement × ℕ) SqlError) (word : Bor (List ℕ)) → answers r ≡ told source tokens read
      → ((n : ℕ) → read ≡ Err (p.Syntax n) → IsBadPlace language.statement (statement_symbols source tokens) n) → r ≡ Err (s.OutOfProfile word) → IsOutOfProfile source tokens word.now
  told_outside read r word a h e = at read (sym a ∙ ap answers e) h
    where
      at : (read : Result Statement ParseError) → told source tokens read ≡ Err (d.OutOfProfile word.now) → ((n : ℕ) → read ≡ Err (p.Syntax n) → IsBadPlace language.statement (statement_symbols source tokens) n)
          → IsOutOfProfile source tokens word.now
      at (Ok tree) a h = absurd (cc)
      at (Err (p.Syntax n)) a h = named_at n word.now (word_of source tokens n) refl (cc) (h n refl)
      at (Err (p.Limit which)) a h = absurd (cc)
      at (Err p.Memory) a h = absurd (cc)

  -- ---- what is true is what is judged

  says_read : (x : Statement × ℕ) → IsStatement source tokens x.0 x.1 → SaysJudged source tokens (Ok x)
  says_read x (r, e) =
      let here : judged source tokens ≡ Ok x.0 = sym (true_is_judged language.statement reading.statement statement_of (statement_symbols source tokens) (Read x.0) r) in
      let long : ◌≡◌ {A = Result (Statement × ℕ) Refusal} (Ok x) (Ok (x.0, length (statement_tokens source tokens))) = ap (λ n. Ok (x.0, n)) e in
      long ∙ ap (told source tokens) (sym here)

  -- of a statement that goes wrong there
  says_refused : (at : ℕ) → IsBadPlace language.statement (statement_symbols source tokens) at → Err (refused source tokens at) ≡ told source tokens (judged source tokens)
  says_refused at bad = ap (told source tokens) (true_is_judged language.statement reading.statement statement_of (statement_symbols source tokens) (BadPlace at) bad)

  says_syntax : (place : ℕ) → IsSyntaxAt source tokens place → SaysJudged source tokens (Err (s.Syntax place))
  says_syntax place i =
      let by : d.Syntax place ≡ refused source tokens i.at = ap d.Syntax i.stands ∙ ap (λ o. option_map_or d.OutOfProfile o (d.Syntax (place_of tokens i.at))) (sym i.no_word) in
      let same : ◌≡◌ {A = Result (Statement × ℕ) Refusal} (Err (d.Syntax place)) (Err (refused source tokens i.at)) = ap Err by in
      same ∙ says_refused i.at i.bad

  says_outside : (word : Bor (List ℕ)) → IsOutOfProfile source tokens word.now → SaysJudged source tokens (Err (s.OutOfProfile word))
  says_outside word i =
      let by : d.OutOfProfile word.now ≡ refused source tokens i.at = ap (λ o. option_map_or d.OutOfProfile o (d.Syntax (place_of tokens i.at))) (sym i.named) in
      let same : ◌≡◌ {A = Result (Statement × ℕ) Refusal} (Err (d.OutOfProfile word.now)) (Err (refused source tokens i.at)) = ap Err by in
      same ∙ says_refused i.at i.bad

  says_limit : (which : LimitKind) → MeetsLimit which language.statement (statement_symbols source tokens) → SaysJudged source tokens (Err (s.Limit which))
  says_limit which i = ap (told source tokens) (true_is_judged language.statement reading.statement statement_of (statement_symbols source tokens) (Meets which) i)

  pub told_is : (r : Result (Statement × ℕ) SqlError) → r ≢ Err s.Memory → IfOk r (λ x. IsStatement source tokens x.0 x.1)
      → ((at : ℕ) → r ≡ Err (s.Syntax at) → IsSyntaxAt source tokens at)
      → ((word : Bor (List ℕ)) → r ≡ Err (s.OutOfProfile word) → IsOutOfProfile source tokens word.now)
      → ((which : LimitKind) → r ≡ Err (s.Limit which) → MeetsLimit which language.statement (statement_symbols source tokens)) → SaysJudged source tokens r
  told_is (Ok x) m read syntax outside limit = says_read x read
  told_is (Err s.Memory) m read syntax outside limit = absurd (m refl)
  told_is (Err (s.Syntax at)) m read syntax outside limit = says_syntax at (syntax at refl)
  told_is (Err (s.OutOfProfile word)) m read syntax outside limit = says_outside word (outside word refl)
  told_is (Err (s.Limit which)) m read syntax outside limit = says_limit which (limit which refl)

  -- ---- and what is judged is true

  judged_statement : (read : Result Statement ParseError) → IfOk read (λ x. IsRead language.statement (statement_symbols source tokens) x) → (r : Result (Statement × ℕ) SqlError)
      → answers r ≡ told source tokens read → IfOk r (λ x. IsStatement source tokens x.0 x.1)
  judged_statement read h (Err e) a = tt
  judged_statement (Ok tree) h (Ok x) a =
      let same : tree ≡ x.0 = cc in
      (subst (λ z. IsRead language.statement (statement_symbols source tokens) z) same h, cc)
  judged_statement (Err p.Memory) h (Ok x) a = absurd (cc)
  judged_statement (Err (p.Syntax at)) h (Ok x) a = absurd (cc)
  judged_statement (Err (p.Limit which)) h (Ok x) a = absurd (cc)

  limit_judged : (which : LimitKind) (read : Result Statement ParseError) → told source tokens read ≡ Err (d.Limit which) → read ≡ Err (p.Limit which)
  limit_judged which (Ok tree) a = absurd (cc)
  limit_judged which (Err p.Memory) a = absurd (cc)
  limit_judged which (Err (p.Syntax at)) a = at_refused (word_of source tokens at) a
    where
      at_refused : (o : Option (List ℕ)) → ◌≡◌ {A = Result (Statement × ℕ) Refusal} (Err (option_map_or d.OutOfProfile o (d.Syntax (place_of tokens at)))) (Err (d.Limit which)) → ◌≡◌ {A = Result Statement ParseError} (Err (p.Syntax at)) (Err (p.Limit which))
      at_refused None a = absurd (cc)
      at_refused (Some word) a = absurd (cc)
  limit_judged which (Err (p.Limit other)) a = let same : other ≡ which = cc in ap (λ z. Err (p.Limit z)) same

  pub judged_is_true : (r : Result (Statement × ℕ) SqlError) → SaysJudged source tokens r → IsTrueAnswer source tokens r
  judged_is_true r a =
      let ts = statement_symbols source tokens in
      let bad : (n : ℕ) → judged source tokens ≡ Err (p.Syntax n) → IsBadPlace language.statement ts n = judged_syntax language.statement reading.statement statement_of ts in
      record {
        read = judged_statement (judged source tokens) (judged_read language.statement reading.statement statement_of ts) r a;
        syntax = λ at e. told_syntax (judged source tokens) r at a bad e;
        outside = λ word e. told_outside (judged source tokens) r word a bad e;
        limit = λ which e. judged_limit language.statement reading.statement statement_of ts which (limit_judged which (judged source tokens) (sym a ∙ ap answers e));
      }
