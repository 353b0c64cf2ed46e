use Rattle.std.proofs.Common.{◌≡◌, ◌∙◌, None, Some, ap, false, refl, rules, sym, true, true≢false}
use Rattle.std.specs.Prelude.{filter}
use Rattle.std.specs.Option.{is_some, option_copied}
use Rattle.cr_cells.specs.Pages.{above, between, is_at}
use Rattle.cr_cells.proofs.PageLemmas.{open_ended, page_of_cut}
use Rattle.cr_cells.proofs.plain.PlainCellsCells.page.Goals as goal

pub returns-then-is_some-clause-reads : goal.returns-then-is_some-clause-reads
returns-then-is_some-clause-reads c clean =
    let cells = c.args.self.now.cells in
    let after = option_copied c.args.after in
    let end = c.in-Some.end.now in
    let near : c.in_ok-near.near.items ≡ filter (is_at c.args.table.now (between after (Some end))) cells = search rules in
    let told : is_some c.in_ok-page.page.bound ≡ true = search rules in
    record {
      same = refl;
      answers = page_of_cut c.args.table.now after (Some end) cells c.in_ok-near.near.items c.args.limit c.in_ok-page.page near c.in_ok-page.ensures
          (λ none. absurd (let no : true ≡ false = sym told ∙ ap is_some none in true≢false no));
    }

pub returns-clause-reads : goal.returns-clause-reads
returns-clause-reads c clean =
    let cells = c.args.self.now.cells in
    let after = option_copied c.args.after in
    let found : c.in_ok-found.found.items ≡ filter (is_at c.args.table.now (above after)) cells = search rules in
    record {
      same = refl;
      answers = page_of_cut c.args.table.now after None cells c.in_ok-found.found.items c.args.limit c.in_ok-cut.field-0 (found ∙ open_ended c.args.table.now after cells) c.in_ok-cut.ensures (λ e. refl);
    }
