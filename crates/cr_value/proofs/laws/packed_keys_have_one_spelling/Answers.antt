use Rattle.cr_value.proofs.ValueLaws.{one_spelling, one_meaning}
use Rattle.cr_value.proofs.laws.packed_keys_have_one_spelling.Goals as goal

pub returns : goal.returns
returns c = record { one_spelling = one_spelling; one_meaning = one_meaning }
