use Rattle.std.proofs.Common.{◌≡◌, ◌∙◌, ◌++◌, false, List, sym, ap}
use Rattle.std.specs.List.{list_any}
use Rattle.std.proofs.lemmas.List.{take_all}
use Rattle.cr_term.specs.declared.expr.Expr.{Expr}
use Rattle.cr_term.specs.declared.query.Joined.{Joined}
use Rattle.cr_plan.specs.Offers.{offers}
use Rattle.cr_plan.specs.Told.{is_brought}
use Rattle.cr_plan.proofs.Placing.{offers_more, one_more, ons, told_is}
use Rattle.cr_plan.proofs.told.offers_of.Goals as goal

pub loop-table-preserved : goal.loop-table-preserved
loop-table-preserved c =
    let cs = c.args.columns in
    let params = c.args.params.now in
    let old = c.loop-table.offers.items in
    one_more cs params c.as_slice-tables.result.now c.loop-table.table-index c.table-item.result old c.push_offers-in-loop-table.new.out.items
    c.loop-table-test.true c.table-item.is
    (c.in_ok-push_offers-2.ensures ∙ ap (λ (es : List Expr). old ++ offers cs params es) c.as_slice-in-loop-table.ensures)
    c.loop-table.invariant

pub returns : goal.returns
returns c =
    let cs = c.args.columns in
    let params = c.args.params.now in
    let q = c.args.query.now in
    let none : list_any is_brought q.joined ≡ false =
    ap (list_any is_brought) (sym c.as_slice-tables.ensures) ∙ sym c.has_brought.ensures ∙ c.if-has_brought.false in
    c.in_ok-push_offers-3.ensures
    ∙ (λ i. c.loop-table.invariant i ++ offers cs params (c.as_slice-2.ensures i))
    ∙ ap (λ (js : List Joined). offers cs params (ons js) ++ offers cs params q.filter)
    (take_all c.loop-table.table-index c.as_slice-tables.result.now c.loop-table-test.false ∙ c.as_slice-tables.ensures)
    ∙ sym (offers_more cs params (ons q.joined) q.filter)
    ∙ ap (offers cs params) (sym (told_is q c.args.joined.now c.if-joined.false none))
