use Rattle.cr_guard.proofs.HeardLaws as lemmas
use Rattle.cr_guard.proofs.laws.same_rows_are_equal.Goals as goal

pub returns : goal.returns
returns c = lemmas.same_rows_are_equal
