use Rattle.std.proofs.Common.{◌≡◌, ◌*◌, ◌+ℤ◌, ◌≤ℤ◌, neg_ℤ, pos, drop, Ok}
use Rattle.cr_scalar.specs.Meaning.{and_then}
use Rattle.cr_scalar.specs.Aggregates.{values, total}
use Rattle.cr_scalar.proofs.aggregate.total.Given as goal

abbrev pub invariant-loop-row : goal.invariant-loop-row
invariant-loop-row l = record {
  summed : total (values l.rows) ≡ and_then (total (values (drop l.row-index l.rows))) (λ z. Ok (l.total +ℤ z));
  low : neg_ℤ (pos (9223372036854775808 * l.row-index)) ≤ℤ l.total;
  high : l.total ≤ℤ pos (9223372036854775808 * l.row-index);
}
