use Rattle.std.proofs.Common.{◌≡◌, false, sym, subst}
use Rattle.cr_tree.specs.declared.limits.TheConstants.{LIMITS}
use Rattle.cr_tree.specs.declared.symbol.Mark.TheVariants as m
use Rattle.cr_tree.specs.Reading.{sees}
use Rattle.cr_parse.specs.Given.{Gives}
use Rattle.cr_statement.proofs.Choices.{statement_last}
use Rattle.cr_statement.proofs.statement.any.Goals as goal

pub returns : goal.returns
returns c =
    let select : sees m.Select c.args.tokens.now ≡ false = cc (c.sees.ensures, c.if-sees.false) in
    let create : sees m.Create c.args.tokens.now ≡ false = cc (c.sees-2.ensures, c.if-sees-2.false) in
    let alter : sees m.Alter c.args.tokens.now ≡ false = cc (c.sees-3.ensures, c.if-sees-3.false) in
    subst (λ o. Gives (λ x. x) o c.command.result c.command.new.tokens) (sym (statement_last LIMITS c.args.tokens.now select create alter)) c.command.ensures
