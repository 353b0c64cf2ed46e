use Rattle.std.proofs.Common.{◌≡◌, ◌≢◌, Result, Ok, Err, IfOk, sym, ◌∙◌, subst}
use Rattle.cr_tree.specs.declared.expr.Expr.{Expr}
use Rattle.cr_tree.specs.declared.limits.TheConstants.{LIMITS}
use Rattle.cr_tree.specs.Reading.{whole}
use Rattle.cr_tree.specs.Language as language
use Rattle.cr_tree.specs.Judging.{IsRead}
use Rattle.cr_tree.proofs.Judged.{expressions}
use Rattle.cr_parse.specs.declared.error.ParseError.{ParseError}
use Rattle.cr_parse.specs.declared.error.ParseError.TheVariants as p
use Rattle.cr_parse.specs.Judge.{judge}
use Rattle.cr_parse.proofs.Judged.{judged_read, judged_only, judged_syntax, judged_limit}
use Rattle.cr_parse.proofs.expression.expression.Goals as goal

pub returns-clause-read : goal.returns-clause-read
returns-clause-read c = at c.read.result c.read.ensures
  where
    at : (res : Result Expr ParseError) → (res ≢ Err p.Memory → res ≡ judge c.args.symbols.now (whole LIMITS c.args.symbols.now)) → IfOk res (λ x. IsRead language.expr c.args.symbols.now x)
    at (Err e) h = tt
    at (Ok x) h = subst (λ y. IfOk y (λ x. IsRead language.expr c.args.symbols.now x)) (sym (h (λ e. cc))) (judged_read language.expr whole expressions c.args.symbols.now)

pub returns-clause-only : goal.returns-clause-only
returns-clause-only c x r m = c.read.ensures m ∙ judged_only language.expr whole expressions c.args.symbols.now x r

pub returns-clause-syntax : goal.returns-clause-syntax
returns-clause-syntax c n e = judged_syntax language.expr whole expressions c.args.symbols.now n (sym (c.read.ensures (λ m. cc)) ∙ e)

pub returns-clause-limit : goal.returns-clause-limit
returns-clause-limit c which e = judged_limit language.expr whole expressions c.args.symbols.now which (sym (c.read.ensures (λ m. cc)) ∙ e)
