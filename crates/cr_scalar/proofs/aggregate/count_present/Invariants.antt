use Rattle.std.proofs.Common.{◌≡◌, ◌+◌, ◌≤◌, length, drop}
use Rattle.cr_scalar.specs.Aggregates.{values}
use Rattle.cr_scalar.proofs.aggregate.count_present.Given as goal

abbrev pub invariant-loop-row : goal.invariant-loop-row
invariant-loop-row l = record {
  counted : l.count + length (values (drop l.row-index l.rows)) ≡ length (values l.rows);
  most : l.count ≤ l.row-index;
}
