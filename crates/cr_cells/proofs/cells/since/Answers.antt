use Rattle.std.proofs.Common.{rules, SFits, w64, to_z-of_z}
use Rattle.cr_cells.proofs.MemberLemmas.{sorted_by}
use Rattle.cr_cells.proofs.CellLemmas.{stamp_total, since_is}
use Rattle.cr_cells.proofs.cells.since.Goals as goal

pub returns : goal.returns
returns c =
    let fits : SFits w64 c.args.version = c.ranges.version in
    since_is c.args.cells.now c.args.version c.in_ok-found.found.items c.sort_by.new.self.items c.requires (simp to_z-of_z at c.in_ok-found.ensures) c.in_ok-sort_by.ensures.permutation
    (sorted_by stamp_total c.sort_by.new.self.items c.in_ok-sort_by.ensures.sorted (λ a r f k. search rules))
