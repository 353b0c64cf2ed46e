use Rattle.std.proofs.Common.{◌≡◌, ◌<◌, drop, sym, ap, ◌∙◌, arith}
use Rattle.std.proofs.lemmas.List.{take_rest}
use Rattle.cr_lex.specs.Reading.{blank_len}
use Rattle.cr_lex.proofs.Places.{gap_more, gap_done}
use Rattle.cr_lex.proofs.scan.gap_end.Goals as goal

pub returns-then-len-eq0 : goal.returns-then-len-eq0
returns-then-len-eq0 c =
    let text = c.args.bytes.now in
    let to = c.loop-from.to in
    let none : blank_len (drop to text) ≡ 0 = sym (c.blank_len-len.ensures.value ∙ ap blank_len (take_rest text to)) ∙ c.if-len-eq0.true in
    record { value = gap_done text c.args.from to c.loop-from.invariant.0 none c.loop-from.invariant.1 }

pub loop-from-preserved : goal.loop-from-preserved
loop-from-preserved c =
    let text = c.args.bytes.now in
    let to = c.loop-from.to in
    let same : c.blank_len-len.result ≡ blank_len (drop to text) = c.blank_len-len.ensures.value ∙ ap blank_len (take_rest text to) in
    let some : 0 < blank_len (drop to text) = omega (arith, same) in
    rw same (gap_more text c.args.from to c.loop-from.invariant.0 some c.loop-from.invariant.1)
