use Rattle.cr_wanted.proofs.Widths.{insert_wide, update_wide, delete_wide}
use Rattle.cr_wanted.proofs.laws.wanted_rows_are_wide.Goals as goal

pub returns : goal.returns
returns g c = record {
  insert = λ m cols w rows out wide h. insert_wide m cols w rows out wide h;
  update = λ m cols w rows out wide h. update_wide m cols w rows out wide h;
  delete = λ m cols w rows out wide h. delete_wide m cols w rows out wide h;
}
