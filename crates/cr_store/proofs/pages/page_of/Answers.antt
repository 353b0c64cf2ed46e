use Rattle.std.proofs.Common.{ℕ, List, Option, filter, refl, sym, subst, ◌∙◌}
use Rattle.std.proofs.lemmas.List.Kept.{IsStrictlySortedBy-filter}
use Rattle.std.specs.Option.{option_copied}
use Rattle.cr_cells.specs.Pages.{between, is_at}
use Rattle.cr_cells.proofs.CellLemmas.{cell_total, cell_exact}
use Rattle.cr_store.proofs.ReadSets.{same_sets, set_of_sorted}
use Rattle.cr_store.specs.Words.{SameCells}
use Rattle.cr_store.proofs.pages.page_of.Goals as goal

pub returns-in_ok-by_change-in-Ok-clause-found : goal.returns-in_ok-by_change-in-Ok-clause-found
returns-in_ok-by_change-in-Ok-clause-found g c clean a b o d ss it up =
    let part = filter (is_at c.args.table.now (between (option_copied c.args.after) c.args.range)) ss in
    let same : SameCells part c.in-Ok.cells.items =
    subst (λ (range : Option (List ℕ)). SameCells (filter (is_at c.args.table.now (between (option_copied c.args.after) range)) ss) c.in-Ok.cells.items) c.lent.ensures
    (c.in-Ok.ensures.found clean a b o d ss it) in (
      c.in_ok-by_change-in-Ok.ensures ∙ sym (same_sets cell_total cell_exact part c.in-Ok.cells.items same.to same.from)
          ∙ set_of_sorted cell_total cell_exact part (IsStrictlySortedBy-filter _ _ ss up),
      refl,
    )
