-- What is written of definitions is read back.
use Rattle.cr_layout.specs.Laws.{AreReadBack}
use Rattle.cr_layout.proofs.Columns.{read_again}

pub read_back : AreReadBack
read_back = read_again
