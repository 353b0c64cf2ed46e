use Rattle.std.proofs.Common.{◌≡◌, false, sym, subst}
use Rattle.cr_tree.specs.declared.limits.TheConstants.{LIMITS}
use Rattle.cr_tree.specs.declared.symbol.Mark.TheVariants as m
use Rattle.cr_tree.specs.Reading.{sees}
use Rattle.cr_parse.specs.Given.{Gives}
use Rattle.cr_statement.proofs.Choices.{command_last}
use Rattle.cr_statement.proofs.Turns.{told_gives}
use Rattle.cr_statement.proofs.statement.command.Goals as goal

pub returns : goal.returns
returns c =
    let insert : sees m.Insert c.args.tokens.now ≡ false = cc (c.sees.ensures, c.if-sees.false) in
    let update : sees m.Update c.args.tokens.now ≡ false = cc (c.sees-2.ensures, c.if-sees-2.false) in
    let delete : sees m.Delete c.args.tokens.now ≡ false = cc (c.sees-3.ensures, c.if-sees-3.false) in
    subst (λ o. Gives (λ x. x) o c.transaction.result c.transaction.new.tokens) (sym (command_last LIMITS c.args.tokens.now insert update delete)) (told_gives _ _ _ c.transaction.ensures)
