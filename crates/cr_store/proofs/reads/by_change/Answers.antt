use Rattle.std.proofs.Common.{rules}
use Rattle.std.specs.Ordering.{eq_by_cmp}
use Rattle.std.proofs.lemmas.Fn.{dedup_same}
use Rattle.cr_cells.specs.Holding.{cell_cmp}
use Rattle.cr_cells.proofs.CellLemmas.{cell_total, cell_exact}
use Rattle.cr_cells.proofs.MemberLemmas.{sorted_by}
use Rattle.cr_cells.proofs.SortLemmas.{sorted_dedup}
use Rattle.cr_store.proofs.reads.by_change.Goals as goal

pub returns : goal.returns
returns c =
    let sorted = sorted_by cell_total c.sort_by.new.self.items c.in_ok-sort_by.ensures.sorted (λ a r f k. search rules) in
    let left = dedup_same _ (eq_by_cmp cell_cmp) _ (λ x y b f x' y' k. search rules) c.sort_by.new.self.items c.dedup_by.new.self.items c.dedup_by.ensures.filtered in
    sorted_dedup cell_total cell_exact _ c.sort_by.new.self.items c.dedup_by.new.self.items c.in_ok-sort_by.ensures.permutation sorted left
