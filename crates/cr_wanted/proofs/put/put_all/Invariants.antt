use Rattle.std.proofs.Common.{◌≡◌}
use Rattle.cr_delta.proofs.Zips.{left_of}
use Rattle.cr_query.specs.Writes.{put_all}
use Rattle.cr_wanted.proofs.Puts.{put_pairs}
use Rattle.cr_wanted.proofs.put.put_all.Given as goal

abbrev pub invariant-loop-place : goal.invariant-loop-place
invariant-loop-place l = put_pairs l.columns (left_of l.place-iterator) l.row.items ≡ put_all l.columns l.places l.values l.initial.row.items
