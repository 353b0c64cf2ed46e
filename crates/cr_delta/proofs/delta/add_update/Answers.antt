use Rattle.std.proofs.Common.{◌≡◌, ◌++◌, sym, ap, subst, rules, ◌∙◌}
use Rattle.std.proofs.lemmas.Result.{err_from_is_err_and}
use Rattle.cr_delta.specs.Delta.{passes_limit}
use Rattle.cr_delta.specs.Key.{cells_of}
use Rattle.cr_delta.specs.Steps.{changed_cell}
use Rattle.cr_delta.proofs.Additions.{stop_adds}
use Rattle.cr_delta.proofs.Remains.{Remains, remains_all, remains_step, remains_stop, remains_none}
use Rattle.cr_delta.proofs.Wholes.{update_is}
use Rattle.cr_delta.proofs.Zips.{left_of, left_step, left_over}
use Rattle.cr_delta.proofs.delta.add_update.Goals as goal

pub loop-column-init : goal.loop-column-init
loop-column-init c =
    let f = changed_cell c.args.def.now c.args.site.now c.args.kept.now c.args.pk.now in
    let cells = cells_of c.args.def.now c.args.row.now in
    let first : left_of c.into_iter-column-iterator.result ≡ cells = search rules in
    subst (λ xs. Remains f c.args.out.now.items xs c.args.out.now.items cells) (sym first) (remains_all f c.args.out.now.items cells)

pub loop-column-preserved : goal.loop-column-preserved
loop-column-preserved c =
    let f = changed_cell c.args.def.now c.args.site.now c.args.kept.now c.args.pk.now in
    let step = left_step c.loop-column.column-iterator c.next.new.self c.next.result (c.in-Some.column, c.in-Some.value) c.in-Some.is c.next.ensures.steps in
    remains_step f _ _ _ _ _ _ _ step c.in_ok-add_changed_column.ensures.0 c.in_ok-add_changed_column.ensures.1 c.loop-column.invariant

pub returns-in_err-add_changed_column : goal.returns-in_err-add_changed_column
returns-in_err-add_changed_column c =
    let f = changed_cell c.args.def.now c.args.site.now c.args.kept.now c.args.pk.now in
    let step = left_step c.loop-column.column-iterator c.next.new.self c.next.result (c.in-Some.column, c.in-Some.value) c.in-Some.is c.next.ensures.steps in
    let whole = update_is c.args.def.now c.args.site.now c.args.kept.now c.args.pk.now c.args.row.now in
    let p = err_from_is_err_and c.from_residual.result c.from_residual.ensures.1 in
    rw (p.1, p.2)
    (stop_adds c.in_err-add_changed_column.field-0.0 _ _ _ _ _ _ c.in_err-add_changed_column.ensures
    (λ past. ap passes_limit (sym whole) ∙ remains_stop f _ _ _ _ _ _ step past c.loop-column.invariant))

pub returns : goal.returns
returns c =
    let f = changed_cell c.args.def.now c.args.site.now c.args.kept.now c.args.pk.now in
    let over = left_over c.loop-column.column-iterator c.next.new.self c.next.result c.in-None.is c.next.ensures.steps in
    let whole = update_is c.args.def.now c.args.site.now c.args.kept.now c.args.pk.now c.args.row.now in
    let all = remains_none f _ _ _ _ over c.loop-column.invariant in
    (all.0 ∙ ap (λ cs. c.args.out.now.items ++ cs) whole, ap passes_limit (sym whole) ∙ all.1)
