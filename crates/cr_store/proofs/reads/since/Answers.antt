use Rattle.std.proofs.Common.{filter, sym, ◌∙◌, w64}
use Rattle.std.specs.Prelude.{int_lt}
use Rattle.std.proofs.lemmas.Int.{to_z-of_z}
use Rattle.cr_cells.specs.Holding.{since}
use Rattle.cr_cells.proofs.CellLemmas.{stamp_total, stamp_exact}
use Rattle.cr_store.proofs.ReadSets.{same_sets}
use Rattle.cr_store.proofs.reads.since.Goals as goal

pub returns-in_ok-by_stamp-in-Ok-clause-found : goal.returns-in_ok-by_stamp-in-Ok-clause-found
unfolding since
returns-in_ok-by_stamp-in-Ok-clause-found g c clean a b o d ss it =
    let same = simp (to_z-of_z w64 c.args.version c.ranges.version) at (c.in-Ok.ensures.found clean a b o d ss it) in
    c.in_ok-by_stamp-in-Ok.ensures ∙ sym (same_sets stamp_total stamp_exact (filter (λ s. int_lt c.args.version s.version) ss) c.in-Ok.cells.items same.to same.from)
