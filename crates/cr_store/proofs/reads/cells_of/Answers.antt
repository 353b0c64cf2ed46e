use Rattle.std.proofs.Common.{filter, sym, ◌∙◌}
use Rattle.std.proofs.lemmas.List.Kept.{IsStrictlySortedBy-filter}
use Rattle.cr_lattice.specs.Rows.{is_of_row}
use Rattle.cr_cells.specs.Holding.{cells_of}
use Rattle.cr_cells.proofs.CellLemmas.{cell_total, cell_exact}
use Rattle.cr_store.proofs.ReadSets.{same_sets, set_of_sorted}
use Rattle.cr_store.proofs.reads.cells_of.Goals as goal

pub returns-in_ok-by_change-in-Ok-clause-found : goal.returns-in_ok-by_change-in-Ok-clause-found
unfolding cells_of
returns-in_ok-by_change-in-Ok-clause-found g c clean a b o d ss it up =
    let same = c.in-Ok.ensures.found clean a b o d ss it in
    c.in_ok-by_change-in-Ok.ensures
    ∙ sym (same_sets cell_total cell_exact (filter (λ s. is_of_row c.args.table.now c.args.pk.now s.change) ss) c.in-Ok.cells.items same.to same.from)
    ∙ set_of_sorted cell_total cell_exact _ (IsStrictlySortedBy-filter _ _ ss up)
