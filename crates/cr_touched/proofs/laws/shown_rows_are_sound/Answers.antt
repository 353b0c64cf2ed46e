use Rattle.cr_touched.proofs.Shown.{soundly_shown}
use Rattle.cr_touched.proofs.laws.shown_rows_are_sound.Goals as goal

pub returns : goal.returns
returns c = λ def kept keyed defaults are. soundly_shown def keyed kept are defaults
