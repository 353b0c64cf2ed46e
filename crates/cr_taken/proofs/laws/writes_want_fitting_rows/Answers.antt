use Rattle.cr_taken.proofs.Held.{insert_fitting, update_fitting, delete_fitting}
use Rattle.cr_taken.proofs.Shown.{shown_fit}
use Rattle.cr_taken.proofs.laws.writes_want_fitting_rows.Goals as goal

pub returns : goal.returns
returns g c = record {
  shown = λ tables kept def are there. shown_fit tables kept def are there;
  insert = λ tables kept def m w out are there k. insert_fitting tables kept def are there m w out k;
  update = λ tables kept def m w out are there k. update_fitting tables kept def are there m w out k;
  delete = λ tables kept def m w out are there k. delete_fitting tables kept def are there m w out k;
}
