use Rattle.std.proofs.Common.{◌++◌, ap, ◌∙◌, w64, to_z, of_z}
use Rattle.std.specs.List.{flat_map}
use Rattle.std.proofs.lemmas.Int.{to_z-of_z}
use Rattle.cr_delta.specs.Key.{cells_of}
use Rattle.cr_delta.specs.Steps.{new_cell}
use Rattle.cr_delta.proofs.Remains.{added_step, added_all}
use Rattle.cr_delta.proofs.Zips.{left_of, left_step, left_over}
use Rattle.cr_delta.proofs.delta.add_new_columns.Goals as goal

pub loop-column-preserved : goal.loop-column-preserved
loop-column-preserved c =
    let f = new_cell c.args.def.now c.args.site.now c.args.pk.now (to_z w64 (of_z w64 c.args.cl)) in
    let step = left_step c.loop-column.column-iterator c.next.new.self c.next.result (c.in-Some.column, c.in-Some.value) c.in-Some.is c.next.ensures.steps in
    ap (λ cs. cs ++ flat_map f (left_of c.next.new.self)) c.in_ok-add_new_column.ensures ∙ added_step f _ _ _ _ _ step c.loop-column.invariant

pub returns : goal.returns
returns c =
    let f = new_cell c.args.def.now c.args.site.now c.args.pk.now (to_z w64 (of_z w64 c.args.cl)) in
    let over = left_over c.loop-column.column-iterator c.next.new.self c.next.result c.in-None.is c.next.ensures.steps in
    added_all f _ _ _ over c.loop-column.invariant
    ∙ ap (λ n. c.args.out.now.items ++ flat_map (new_cell c.args.def.now c.args.site.now c.args.pk.now n) (cells_of c.args.def.now c.args.row.now)) (to_z-of_z w64 c.args.cl c.ranges.cl)
