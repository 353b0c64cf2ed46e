use Rattle.cr_delta.proofs.Runs.{Bounds, start_le_end, run_of_row}
use Rattle.cr_delta.proofs.run.row_bounds.Goals as goal

pub returns : goal.returns
returns c =
    let start = c.row_start.ensures in
    let end = c.row_end.ensures in
    let bounds : Bounds c.args.table.now c.args.pk.now c.args.kept.now c.row_start.result c.row_end.result = record {
      before = start.point.0;
      from_start = start.point.1;
      to_end = end.point.0;
      after = end.point.1;
      start_within = start.bound;
      end_within = end.bound;
    } in
    record {
      rising = start_le_end _ _ _ _ _ bounds;
      within = end.bound;
      run = run_of_row _ _ _ _ _ bounds;
    }
