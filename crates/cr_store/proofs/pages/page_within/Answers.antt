use Rattle.std.proofs.Common.{not, ap, sym, subst, rules, ◌∙◌, Option}
use Rattle.std.specs.Prelude.{unwrap_or}
use Rattle.std.specs.Option.{option_copied}
use Rattle.cr_cells.specs.declared.page.Page.{Page}
use Rattle.cr_cells.specs.Pages.{IsPage}
use Rattle.cr_store.specs.Shows.{HasCells}
use Rattle.cr_store.proofs.pages.page_within.Goals as goal

pub returns-in_err-page-clause-found : goal.returns-in_err-page-clause-found
returns-in_err-page-clause-found g c = λ clean it a b o d ss held sorted.
    let read = c.page_of.ensures in
    let before = read.clean clean in
    let open_before = read.was_open clean it in
    let early = c.in-Ok.ensures.clean before in
    let settled = c.is_autocommit.ensures.settled (c.is_autocommit.ensures.value ∙ ap not c.requires.mode) (c.in-Ok.ensures.was_open before open_before) in
    let same = c.in-Ok.ensures.same before held.held.schema settled open_before in
    let held_now = subst (λ db. HasCells db c.args.tables.now a b o d ss) (sym same) held in
    let refused = c.in_err-page.ensures.found clean a b o d ss held_now sorted in
    search rules

pub returns-then-branch-clause-found : goal.returns-then-branch-clause-found
returns-then-branch-clause-found g c = λ clean it a b o d ss held sorted x e.
    let read = c.page_of.ensures in
    let before = read.clean clean in
    let open_before = read.was_open clean it in
    let early = c.in-Ok.ensures.clean before in
    let settled = c.is_autocommit.ensures.settled (c.is_autocommit.ensures.value ∙ ap not c.requires.mode) (c.in-Ok.ensures.was_open before open_before) in
    let same = c.in-Ok.ensures.same before held.held.schema settled open_before in
    let held_now = subst (λ db. HasCells db c.args.tables.now a b o d ss) (sym same) held in
    let page : IsPage ss c.args.table.now (option_copied c.args.after) c.args.limit c.in_ok-page.page =
    record {
      cells_are = (c.in_ok-page.ensures.found clean a b o d ss held_now sorted).0;
      keys = c.in_ok-lacks_nothing.ensures c.if-branch.true;
    } in
    subst (IsPage ss c.args.table.now (option_copied c.args.after) c.args.limit) (ap (λ (p : Option Page). unwrap_or p c.in_ok-page.page) e) page
