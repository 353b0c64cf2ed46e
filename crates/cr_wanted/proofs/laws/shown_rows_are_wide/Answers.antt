use Rattle.cr_wanted.proofs.Widths.{shown_wide}
use Rattle.cr_wanted.proofs.laws.shown_rows_are_wide.Goals as goal

pub returns : goal.returns
returns c = λ kept def. shown_wide kept def
