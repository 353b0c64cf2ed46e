use Rattle.cr_cells.proofs.SoundLemmas.{sound_committed}
use Rattle.cr_cells.proofs.laws.commits_are_sound.Goals as goal

pub returns : goal.returns
returns c = sound_committed
