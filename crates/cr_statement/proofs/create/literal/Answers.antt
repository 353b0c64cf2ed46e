use Rattle.std.proofs.Common.{◌≡◌, false, sym, subst}
use Rattle.cr_tree.specs.declared.symbol.Mark.TheVariants as m
use Rattle.cr_tree.specs.Reading.{sees}
use Rattle.cr_parse.specs.Given.{Gives}
use Rattle.cr_statement.proofs.Choices.{literal_last}
use Rattle.cr_statement.proofs.create.literal.Goals as goal

pub returns : goal.returns
returns c =
    let minus : sees m.Minus c.args.tokens.now ≡ false = cc (c.sees.ensures, c.if-sees.false) in
    let plus : sees m.Plus c.args.tokens.now ≡ false = cc (c.sees-2.ensures, c.if-sees-2.false) in
    subst (λ o. Gives (λ x. x) o c.plain.result c.plain.new.tokens) (sym (literal_last c.args.tokens.now minus plus)) c.plain.ensures
