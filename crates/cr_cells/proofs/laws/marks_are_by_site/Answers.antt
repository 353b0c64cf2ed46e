use Rattle.cr_cells.proofs.LawLemmas.{seen-with_mark, seen-other_site}
use Rattle.cr_cells.proofs.laws.marks_are_by_site.Goals as goal

pub returns : goal.returns
returns c = record { set = seen-with_mark; others = seen-other_site }
