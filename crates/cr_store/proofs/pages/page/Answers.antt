use Rattle.std.proofs.Common.{not, ap, sym, subst, rules, ◌∙◌}
use Rattle.std.specs.Option.{option_copied}
use Rattle.cr_cells.specs.Pages.{IsPage}
use Rattle.cr_store.specs.Shows.{HasCells}
use Rattle.cr_store.proofs.StoreLemmas.{match_then}
use Rattle.cr_store.proofs.pages.page.Goals as goal

pub returns-in_err-page-clause-found : goal.returns-in_err-page-clause-found
returns-in_err-page-clause-found g c = λ clean it a b o d ss held sorted.
    let read = c.page_within.ensures in
    let same = c.loop-turn.invariant.same (read.clean clean) held.held.schema (read.was_open clean it) in
    let held_now = subst (λ db. HasCells db c.args.tables.now a b o d ss) (sym same) held in
    let refused = c.in_err-page.ensures.found clean it a b o d ss held_now sorted in
    search rules

pub returns-in-Some-clause-found : goal.returns-in-Some-clause-found
returns-in-Some-clause-found g c = λ clean it a b o d ss held sorted.
    let read = c.page_within.ensures in
    let same = c.loop-turn.invariant.same (read.clean clean) held.held.schema (read.was_open clean it) in
    let held_now = subst (λ db. HasCells db c.args.tables.now a b o d ss) (sym same) held in
    c.in_ok-page.ensures.found clean it a b o d ss held_now sorted c.in-Some.page c.in-Some.is

pub returns-clause-found : goal.returns-clause-found
returns-clause-found g c = λ clean it a b o d ss held sorted.
    let read = c.page_of.ensures in
    let before = read.clean clean in
    let open_before = read.was_open clean it in
    let settled = c.is_autocommit.ensures.settled (c.is_autocommit.ensures.value ∙ ap not c.loop-turn.invariant.mode) open_before in
    let same = c.loop-turn.invariant.same before held.held.schema open_before in
    let held_now = subst (λ db. HasCells db c.args.tables.now a b o d ss) (sym same) held in
    match_then c.page_of.result _ (IsPage ss c.args.table.now (option_copied c.args.after) c.args.limit) _ (λ page found. record {
      cells_are = found.0;
      keys = λ end is. let none = found.1 in absurd cc;
    }) (read.found clean a b o d ss held_now sorted)
