use Rattle.std.proofs.Common.{ap, ◌∙◌, arith, max}
use Rattle.cr_lex.proofs.Turns.{one_more}
use Rattle.cr_lex.proofs.symbols.symbols.Goals as goal

pub loop-token-preserved : goal.loop-token-preserved
loop-token-preserved c =
    rw c.in_ok-push.ensures.items (one_more c.as_bytes-source.result.now c.loop-token.found.items _ c.args.tokens.now c.loop-token.token-index _ c.loop-token.greatest c.max-greatest.result c.in_ok-symbol.symbol (omega arith) c.in_ok-symbol.ensures (c.max-greatest.ensures ∙ ap (max c.loop-token.greatest) c.param_number.ensures) c.loop-token.invariant)
