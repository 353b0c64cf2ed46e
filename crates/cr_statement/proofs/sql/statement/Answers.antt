use Rattle.std.proofs.Common.{◌≡◌, ap, sym, ◌∙◌, subst}
use Rattle.cr_lex.specs.Symbols.{symbols_of}
use Rattle.cr_tree.specs.Judging.{IsRead, IsBadPlace}
use Rattle.cr_statement.specs.Statements as language
use Rattle.cr_statement.specs.Sql.{statement_symbols}
use Rattle.cr_statement.proofs.Told.{told_only, told_syntax, told_outside}
use Rattle.cr_statement.proofs.sql.statement.Goals as goal

pub returns-clause-only : goal.returns-clause-only
returns-clause-only c x n (r, e) m =
    let same : c.deref.result.now ≡ statement_symbols c.args.source.now c.args.tokens.now = c.deref.ensures.value ∙ c.in_ok-symbols.ensures ∙ ap (symbols_of c.args.source.now) c.statement_tokens.ensures in
    told_only c.args.source.now c.args.tokens.now c.statement.result c.answer.result x n c.answer.ensures m (c.statement.ensures.only x (subst (λ ts. IsRead language.statement ts x) (sym same) r)) e

pub returns-clause-syntax : goal.returns-clause-syntax
returns-clause-syntax c at e =
    let same : c.deref.result.now ≡ statement_symbols c.args.source.now c.args.tokens.now = c.deref.ensures.value ∙ c.in_ok-symbols.ensures ∙ ap (symbols_of c.args.source.now) c.statement_tokens.ensures in
    told_syntax c.args.source.now c.args.tokens.now c.statement.result c.answer.result at c.answer.ensures (λ n i. subst (λ ts. IsBadPlace language.statement ts n) same (c.statement.ensures.syntax n i)) e

pub returns-clause-outside : goal.returns-clause-outside
returns-clause-outside c word e =
    let same : c.deref.result.now ≡ statement_symbols c.args.source.now c.args.tokens.now = c.deref.ensures.value ∙ c.in_ok-symbols.ensures ∙ ap (symbols_of c.args.source.now) c.statement_tokens.ensures in
    told_outside c.args.source.now c.args.tokens.now c.statement.result c.answer.result word c.answer.ensures (λ n i. subst (λ ts. IsBadPlace language.statement ts n) same (c.statement.ensures.syntax n i)) e
