use Rattle.std.proofs.Common.{[], rules}
use Rattle.std.proofs.lemmas.Fn.{always_returns_same, dedup_same}
use Rattle.std.proofs.lemmas.List.Sorted.{ranks_by}
use Rattle.cr_lattice.specs.Merge.{comes_before, goes_after}
use Rattle.cr_lattice.proofs.MergeLemmas.{merge_total, merged}
use Rattle.cr_lattice.proofs.merge.keep.Goals as goal

pub returns : goal.returns
returns c =
    let sorted = c.in_ok-sort_by.ensures.sorted comes_before (ranks_by merge_total (λ x. x)) (always_returns_same _ _ _ (λ a r f' called. search rules)) in
    let left = dedup_same _ goes_after _ (λ x y b f' x' y' called. search rules) c.sort_by.new.self.items c.dedup_by.new.self.items c.dedup_by.ensures.filtered in
    merged [] c.args.changes.items c.sort_by.new.self.items c.dedup_by.new.self.items c.in_ok-sort_by.ensures.permutation sorted left
