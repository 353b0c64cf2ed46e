use Rattle.std.proofs.Common.{◌∙◌, sym, ap, rules}
use Rattle.cr_delta.proofs.Zips.{left_of, left_step, left_over}
use Rattle.cr_wanted.proofs.Puts.{put_pairs, by_pairs}
use Rattle.cr_wanted.proofs.put.put_all.Goals as goal

pub loop-place-init : goal.loop-place-init
loop-place-init c = search (rules, by_pairs)

pub loop-place-preserved : goal.loop-place-preserved
loop-place-preserved c =
    let step = left_step c.loop-place.place-iterator c.next.new.self c.next.result (c.in-Some.place, c.in-Some.value) c.in-Some.is c.next.ensures.steps in
    ap (put_pairs c.args.columns.now (left_of c.next.new.self)) c.in_ok-put.ensures
    ∙ sym (ap (λ ps. put_pairs c.args.columns.now ps c.loop-place.row.items) step) ∙ c.loop-place.invariant

pub returns : goal.returns
returns c =
    let over = left_over c.loop-place.place-iterator c.next.new.self c.next.result c.in-None.is c.next.ensures.steps in
    sym (ap (λ ps. put_pairs c.args.columns.now ps c.loop-place.row.items) over) ∙ c.loop-place.invariant
