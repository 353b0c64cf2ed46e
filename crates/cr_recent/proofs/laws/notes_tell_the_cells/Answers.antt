use Rattle.cr_recent.proofs.NoteLemmas.{notes_tell, nothing_above, commits_noted}
use Rattle.cr_recent.proofs.laws.notes_tell_the_cells.Goals as goal

pub returns : goal.returns
returns c = record { told = notes_tell; begun = nothing_above; noted = commits_noted }
