use Rattle.std.proofs.Common.{◌*◌, ◌≤◌, suc, arith, subst, sym}
use Rattle.cr_tree.specs.Grammar.{height, opened}
use Rattle.cr_roundtrip.specs.Printed.{printed}
use Rattle.cr_roundtrip.proofs.Back.{expression_spelled}
use Rattle.cr_roundtrip.proofs.Printed.{means, proper, high, few, short}
use Rattle.cr_roundtrip.proofs.laws.printed_is_a_phrase.Goals as goal

pub returns-clause-phrase : goal.returns-clause-phrase
returns-clause-phrase c = λ p i a. (means p i, (proper p i a, (high p, (few p, short p))))

pub returns-clause-spelled : goal.returns-clause-spelled
returns-clause-spelled c = λ p i a found h. expression_spelled p i a found h

pub returns-clause-within : goal.returns-clause-within
returns-clause-within c = λ p w a.
    let low : height p ≤ 99 = w.low in
    let opens : opened (printed p) ≤ suc (2 * height p) = few p in
    record {
      proper = proper p w.proper a;
      low = subst (λ n. n ≤ 99) (sym (high p)) low;
      few = omega (arith, opens, low);
      short = subst (λ n. n ≤ 99) (sym (short p)) w.short;
    }
