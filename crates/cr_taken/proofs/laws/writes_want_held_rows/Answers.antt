use Rattle.cr_taken.proofs.Held.{shown_held, insert_held, update_held, delete_held}
use Rattle.cr_taken.proofs.laws.writes_want_held_rows.Goals as goal

pub returns : goal.returns
returns c = record {
  shown = λ tables kept def are there bits. shown_held tables kept def are there bits;
  insert = λ tables kept def host params w out are there bits given k. insert_held tables kept def are there bits host params w out given k;
  update = λ tables kept def host params w out are there bits given k. update_held tables kept def are there bits host params w out given k;
  delete = λ tables kept def host params w out are there bits k. delete_held tables kept def are there bits host params w out k;
}
