use Rattle.std.proofs.Common.{rules}
use Rattle.std.specs.Ordering.{eq_by_cmp}
use Rattle.std.proofs.lemmas.Fn.{dedup_same}
use Rattle.cr_cells.specs.Holding.{stamp_cmp}
use Rattle.cr_cells.proofs.CellLemmas.{stamp_total, stamp_exact}
use Rattle.cr_cells.proofs.MemberLemmas.{sorted_by}
use Rattle.cr_cells.proofs.SortLemmas.{sorted_dedup}
use Rattle.cr_cells.proofs.stamps.by_stamp.Goals as goal

pub returns : goal.returns
returns c =
    let sorted = sorted_by stamp_total c.sort_by.new.self.items c.in_ok-sort_by.ensures.sorted (λ a r f k. search rules) in
    let left = dedup_same _ (eq_by_cmp stamp_cmp) _ (λ x y b f x' y' k. search rules) c.sort_by.new.self.items c.dedup_by.new.self.items c.dedup_by.ensures.filtered in
    sorted_dedup stamp_total stamp_exact _ c.sort_by.new.self.items c.dedup_by.new.self.items c.in_ok-sort_by.ensures.permutation sorted left
