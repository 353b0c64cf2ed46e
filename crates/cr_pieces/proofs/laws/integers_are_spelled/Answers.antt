use Rattle.cr_pieces.proofs.Integers.{spells_integer}
use Rattle.cr_pieces.proofs.laws.integers_are_spelled.Goals as goal

pub returns : goal.returns
returns c = spells_integer
