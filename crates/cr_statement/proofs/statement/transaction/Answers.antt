use Rattle.std.proofs.Common.{◌≡◌, false, sym, subst}
use Rattle.cr_tree.specs.declared.symbol.Mark.TheVariants as m
use Rattle.cr_tree.specs.Reading.{sees}
use Rattle.cr_parse.specs.Given.{Tells}
use Rattle.cr_statement.proofs.Choices.{transaction_last}
use Rattle.cr_statement.proofs.statement.transaction.Goals as goal

pub returns : goal.returns
returns c =
    let begin : sees m.Begin c.args.tokens.now ≡ false = cc (c.sees.ensures, c.if-sees.false) in
    let commit : sees m.Commit c.args.tokens.now ≡ false = cc (c.sees-2.ensures, c.if-sees-2.false) in
    let end : sees m.End c.args.tokens.now ≡ false = cc (c.sees-3.ensures, c.if-sees-3.false) in
    subst (λ o. Tells (λ x. x) o c.ended-2.result c.ended-2.new.tokens) (sym (transaction_last c.args.tokens.now begin commit end)) c.ended-2.ensures
