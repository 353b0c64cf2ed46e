use Rattle.std.proofs.Common.{inl, inr, arith}
use Rattle.cr_lex.proofs.Undoubling.{at_second, at_other, no_second, left_end}
use Rattle.cr_lex.proofs.spelling.undoubled.Goals as goal
use Rattle.cr_lex.proofs.spelling.undoubled.Goals.{then-after_quote+then-c-quote, else-after_quote+in_ok-push, else-after_quote-via-then-after_quote+else-c-quote, else-after_quote-via-else-after_quote}

pub loop-c-preserved : goal.loop-c-preserved
loop-c-preserved c =
    let bytes = c.args.bytes.now in
    let i = c.loop-c.c-index in
    let after = c.loop-c.after_quote in
    elim c.if-after_quote.branch [
      | then-after_quote+then-c-quote w ↦ rw (w.once-is, w.after_quote-is) (at_second c.loop-c.once.items bytes _ i after c.args.quote (omega arith) w.if-after_quote.true w.if-c-quote.true c.loop-c.invariant)
      | else-after_quote+in_ok-push w ↦ elim w.else-after_quote.branch [
        | else-after_quote-via-then-after_quote+else-c-quote w' ↦ rw (w.once-is, w.after_quote-is, w.in_ok-push.ensures.items) (at_other c.loop-c.once.items bytes _ i after c.args.quote (omega arith) (no_second after c.args.quote _ (inr w'.if-c-quote.false)) c.loop-c.invariant)
        | else-after_quote-via-else-after_quote w' ↦ rw (w.once-is, w.after_quote-is, w.in_ok-push.ensures.items) (at_other c.loop-c.once.items bytes _ i after c.args.quote (omega arith) (no_second after c.args.quote _ (inl w'.if-after_quote.false)) c.loop-c.invariant)
      ]
    ]

pub returns : goal.returns
returns c = left_end c.loop-c.once.items c.args.bytes.now c.args.bytes.now c.loop-c.c-index c.loop-c.after_quote c.args.quote (omega arith) c.loop-c.invariant
