use Rattle.cr_cells.proofs.ColumnLemmas.{sound_with_added}
use Rattle.cr_cells.proofs.laws.added_columns_are_sound.Goals as goal

pub returns : goal.returns
returns c = sound_with_added
