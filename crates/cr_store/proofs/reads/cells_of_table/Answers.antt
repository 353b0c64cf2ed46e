use Rattle.std.proofs.Common.{filter, sym, ◌∙◌}
use Rattle.std.proofs.lemmas.List.Kept.{IsStrictlySortedBy-filter}
use Rattle.cr_cells.specs.Holding.{is_of_table, cells_of_table}
use Rattle.cr_cells.proofs.CellLemmas.{cell_total, cell_exact}
use Rattle.cr_store.proofs.ReadSets.{same_sets, set_of_sorted}
use Rattle.cr_store.proofs.reads.cells_of_table.Goals as goal

pub returns-in_ok-by_change-in-Ok-clause-found : goal.returns-in_ok-by_change-in-Ok-clause-found
unfolding cells_of_table
returns-in_ok-by_change-in-Ok-clause-found g c clean a b o d ss it up =
    let same = c.in-Ok.ensures.found clean a b o d ss it in
    c.in_ok-by_change-in-Ok.ensures
    ∙ sym (same_sets cell_total cell_exact (filter (λ s. is_of_table c.args.table.now s.change) ss) c.in-Ok.cells.items same.to same.from)
    ∙ set_of_sorted cell_total cell_exact _ (IsStrictlySortedBy-filter _ _ ss up)
