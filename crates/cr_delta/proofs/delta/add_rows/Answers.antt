use Rattle.std.proofs.Common.{◌++◌, sym, ap, ◌∙◌}
use Rattle.std.specs.List.{flat_map, zip}
use Rattle.std.proofs.lemmas.Result.{err_from_is_err_and}
use Rattle.cr_delta.specs.Delta.{row_delta, passes_limit}
use Rattle.cr_delta.proofs.Additions.{stop_adds}
use Rattle.cr_delta.proofs.Remains.{remains_step, remains_stop, remains_none}
use Rattle.cr_delta.proofs.Wholes.{keyed, rows_are}
use Rattle.cr_delta.proofs.Zips.{left_step, left_over}
use Rattle.cr_delta.proofs.delta.add_rows.Goals as goal

pub loop-pk-preserved : goal.loop-pk-preserved
loop-pk-preserved c =
    let f = keyed c.args.def.now c.args.site.now c.args.kept.now in
    let step = left_step c.loop-pk.pk-iterator c.next.new.self c.next.result (c.in-Some.pk, c.in-Some.row) c.in-Some.is c.next.ensures.steps in
    let one = ap (λ pk. row_delta c.args.def.now c.args.site.now c.args.kept.now pk c.as_slice-in-loop-pk.result.now) c.as_slice.ensures ∙ ap (row_delta c.args.def.now c.args.site.now c.args.kept.now c.in-Some.pk.now) c.as_slice-in-loop-pk.ensures in
    remains_step f _ _ _ _ _ _ _ step (c.in_ok-add_row.ensures.0 ∙ ap (λ cs. c.loop-pk.out.items ++ cs) one) (ap passes_limit (sym one) ∙ c.in_ok-add_row.ensures.1) c.loop-pk.invariant

pub returns-in_err-add_row : goal.returns-in_err-add_row
returns-in_err-add_row c =
    let f = keyed c.args.def.now c.args.site.now c.args.kept.now in
    let step = left_step c.loop-pk.pk-iterator c.next.new.self c.next.result (c.in-Some.pk, c.in-Some.row) c.in-Some.is c.next.ensures.steps in
    let one = ap (λ pk. row_delta c.args.def.now c.args.site.now c.args.kept.now pk c.as_slice-in-loop-pk.result.now) c.as_slice.ensures ∙ ap (row_delta c.args.def.now c.args.site.now c.args.kept.now c.in-Some.pk.now) c.as_slice-in-loop-pk.ensures in
    let whole = ap (λ ks. flat_map f (zip ks c.args.wanted.now)) c.requires.keys ∙ rows_are c.args.def.now c.args.site.now c.args.kept.now c.args.wanted.now in
    let p = err_from_is_err_and c.from_residual.result c.from_residual.ensures.1 in
    rw (p.1, p.2)
    (stop_adds c.in_err-add_row.field-0.0 _ _ _ _ _ _ c.in_err-add_row.ensures
    (λ past. ap passes_limit (sym whole) ∙ remains_stop f _ _ _ _ _ _ step (ap passes_limit (sym one) ∙ past) c.loop-pk.invariant))

pub returns : goal.returns
returns c =
    let f = keyed c.args.def.now c.args.site.now c.args.kept.now in
    let over = left_over c.loop-pk.pk-iterator c.next.new.self c.next.result c.in-None.is c.next.ensures.steps in
    let whole = ap (λ ks. flat_map f (zip ks c.args.wanted.now)) c.requires.keys ∙ rows_are c.args.def.now c.args.site.now c.args.kept.now c.args.wanted.now in
    let all = remains_none f _ _ _ _ over c.loop-pk.invariant in
    (all.0 ∙ ap (λ cs. c.args.out.now.items ++ cs) whole, ap passes_limit (sym whole) ∙ all.1)
