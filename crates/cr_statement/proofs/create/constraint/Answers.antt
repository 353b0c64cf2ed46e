use Rattle.std.proofs.Common.{◌≡◌, false, sym, subst}
use Rattle.cr_tree.specs.declared.symbol.Mark.TheVariants as m
use Rattle.cr_tree.specs.Reading.{sees}
use Rattle.cr_parse.specs.Given.{Gives}
use Rattle.cr_statement.proofs.Choices.{constraint_last}
use Rattle.cr_statement.proofs.create.constraint.Goals as goal

pub returns : goal.returns
returns c =
    let primary : sees m.Primary c.args.tokens.now ≡ false = cc (c.sees.ensures, c.if-sees.false) in
    let not : sees m.Not c.args.tokens.now ≡ false = cc (c.sees-2.ensures, c.if-sees-2.false) in
    let default : sees m.Default c.args.tokens.now ≡ false = cc (c.sees-3.ensures, c.if-sees-3.false) in
    subst (λ o. Gives (λ x. x) o c.collate.result c.collate.new.tokens) (sym (constraint_last c.args.tokens.now primary not default)) c.collate.ensures
