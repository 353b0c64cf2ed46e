use Rattle.cr_query.proofs.RefiningWrites.{rows_refine, insert_refines, update_refines, delete_refines}
use Rattle.cr_taken.proofs.laws.limits_refine_writes.Goals as goal

pub returns : goal.returns
returns g c = record {
  rows = λ m n r cols w. rows_refine m n r cols w;
  insert = λ m n r cols w shown. insert_refines m n r cols w shown;
  update = λ m n r cols w shown. update_refines m n r cols w shown;
  delete = λ m n r w shown. delete_refines m n r w shown;
}
