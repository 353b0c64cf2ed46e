use Rattle.cr_layout.proofs.Columns.{one_definition, read_again}
use Rattle.cr_layout.proofs.laws.definitions_are_read_back.Goals as goal

pub returns : goal.returns
returns c = record { one_definition = one_definition; read_back = read_again }
