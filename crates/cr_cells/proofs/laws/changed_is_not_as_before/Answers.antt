use Rattle.cr_cells.proofs.CommitLemmas.{changed_kept, unchanged_kept, unchanged_cells}
use Rattle.cr_cells.proofs.LawLemmas.{repeat_changes_nothing}
use Rattle.cr_cells.proofs.laws.changed_is_not_as_before.Goals as goal

pub returns : goal.returns
returns c = record { changed = changed_kept; unchanged = unchanged_kept; cells = unchanged_cells; repeated = repeat_changes_nothing }
