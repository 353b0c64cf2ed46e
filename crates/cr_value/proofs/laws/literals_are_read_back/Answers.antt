use Rattle.cr_value.proofs.ValueLaws.{one_literal, written, read_back}
use Rattle.cr_value.proofs.laws.literals_are_read_back.Goals as goal

pub returns : goal.returns
returns c = record { one_literal = one_literal; written = written; read_back = read_back }
