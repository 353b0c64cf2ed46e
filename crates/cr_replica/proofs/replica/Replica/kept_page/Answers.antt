use Rattle.std.proofs.Common.{◌∙◌, ap, refl, subst}
use Rattle.cr_cells.specs.Pages.{IsPage}
use Rattle.std.specs.Option.{option_copied}
use Rattle.cr_replica.proofs.Shown.{kept_page_is}
use Rattle.cr_replica.proofs.replica.Replica.kept_page.Goals as goal

pub returns-clause-reads : goal.returns-clause-reads
returns-clause-reads g c clean =
    let read = c.in-Ok.ensures.reads clean in
    let page = subst (λ s. IsPage (g.C.Cells.holding s).cells c.args.table.now (option_copied c.args.after) c.args.limit c.in-Ok.page) c.self.view_is read.answers in
    record { same = read.same ∙ ap g.C.Cells.holding c.self.view_is; answers = kept_page_is _ _ _ _ c.in-Ok.page _ page c.in_ok-kept.ensures refl }
