use Rattle.cr_taken.proofs.Tables.{sound_kept, joined_kept}
use Rattle.cr_taken.proofs.laws.sound_stores_keep.Goals as goal

pub returns : goal.returns
returns c = record {
  store = sound_kept;
  transaction = joined_kept;
}
