use Rattle.std.proofs.Common.{◌++◌, [], ◌∷◌, take, sym, ap, ◌∙◌, subst, All}
use Rattle.std.specs.List.{flat_map}
use Rattle.std.proofs.lemmas.List.{flat_map_more, take_more, take_all}
use Rattle.std.proofs.lemmas.List.Elements.{All-more, recursion_from_All}
use Rattle.cr_layout.specs.Definition.{column_bytes}
use Rattle.cr_layout.specs.Written.{FitsColumn}
use Rattle.cr_layout.proofs.definition.push_columns.Goals as goal

pub loop-column-preserved : goal.loop-column-preserved
loop-column-preserved c =
    let columns = c.args.columns.now in
    let i = c.loop-column.column-index in
    let column = c.column-item.result in
    record {
      spelled =
          c.in_ok-push_column.ensures.ok
          ∙ ap (λ l. l ++ column_bytes column) c.loop-column.invariant.spelled
          ∙ flat_map_more column_bytes c.args.out.now.items (take i columns) column
          ∙ ap (λ l. c.args.out.now.items ++ flat_map column_bytes l)
          (ap (λ v. take i columns ++ v ∷ []) c.column-item.is ∙ sym (take_more columns i column c.loop-column-test.true));
      fits = All-more FitsColumn columns i column c.loop-column-test.true c.loop-column.invariant.fits (subst FitsColumn c.column-item.is c.in_ok-push_column.ensures.fits);
    }

pub returns-clause-fits : goal.returns-clause-fits
returns-clause-fits c =
    let columns = c.args.columns.now in
    let whole = take_all c.loop-column.column-index columns c.loop-column-test.false in
    recursion_from_All FitsColumn columns (subst (All FitsColumn) whole c.loop-column.invariant.fits)
