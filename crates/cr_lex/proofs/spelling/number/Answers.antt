use Rattle.std.proofs.Common.{sym, ◌∙◌}
use Rattle.cr_lex.proofs.Numerals.{is_text, number_is}
use Rattle.cr_lex.proofs.spelling.number.Goals as goal

pub returns-in_default : goal.returns-in_default
returns-in_default c = absurd (c.in_default.ensures.cases.0 (is_text c.args.radix c.args.digits.now c.requires.most (sym c.is_numeral.ensures ∙ c.if-not-is_numeral.false)))

pub returns : goal.returns
returns c = rw c.unwrap_or.ensures (number_is c.args.radix c.args.digits.now c.in-Ok.text.now c.from_str_radix.result c.requires.most (sym c.is_numeral.ensures ∙ c.if-not-is_numeral.false) c.in-Ok.ensures.cases.0 c.from_str_radix.ensures.value)
