use Rattle.std.proofs.Common.{◌≡◌, ◌+◌, ◌-◌, ◌<◌, ℕ, List, length, drop, sym, ap, subst, ◌∙◌, arith}
use Rattle.std.proofs.lemmas.List.{take_rest}
use Rattle.cr_lex.specs.declared.token.TokenKind.{TokenKind}
use Rattle.cr_lex.specs.Tokens.{IsNext, IsTokens}
use Rattle.cr_lex.specs.Reading.{token_at}
use Rattle.cr_lex.proofs.Places.{next_token, gap_in_order, one_more, ended}
use Rattle.cr_lex.proofs.scan.tokens.Goals as goal

next_is : (text : List ℕ) (from : ℕ) (t : TokenKind × ℕ) → from < length text → t ≡ token_at (drop from text) → (0 < t.1) × IsNext text t.0 from (from + t.1)
next_is text from t lt e = subst (λ (x : TokenKind × ℕ). (0 < x.1) × IsNext text x.0 from (from + x.1)) (sym e) (next_token text from lt)

pub loop-from-smaller : goal.loop-from-smaller
loop-from-smaller c =
    let text = c.as_bytes-bytes.result.now in
    let from = c.loop-from.from in
    let next = next_is text from c.token_at-kind.result c.loop-from-test.true (c.token_at-kind.ensures.value ∙ ap token_at (take_rest text from)) in
    let order = gap_in_order text (from + c.token_at-kind.result.1) c.gap_end-from-in-loop-from.result c.gap_end-from-in-loop-from.ensures.value in
    let fact : length text - c.gap_end-from-in-loop-from.result < length text - from = omega (arith, next.0, order, c.loop-from-test.true) in
    fact

pub loop-from-preserved : goal.loop-from-preserved
loop-from-preserved c =
    let text = c.as_bytes-bytes.result.now in
    let from = c.loop-from.from in
    let next = next_is text from c.token_at-kind.result c.loop-from-test.true (c.token_at-kind.ensures.value ∙ ap token_at (take_rest text from)) in
    let gap = c.gap_end-from-in-loop-from.ensures.value in
    (gap.in_text, rw c.in_ok-push.ensures.items (one_more text c.loop-from.found.items _ c.gap_end-from-in-loop-from.result next.1 gap c.loop-from.invariant.1))

pub returns-clause-tokens : goal.returns-clause-tokens
returns-clause-tokens c =
    let text = c.as_bytes-bytes.result.now in
    let end : c.loop-from.from ≡ length text = omega (arith, c.loop-from.invariant.0, c.loop-from-test.false) in
    subst (λ (t : List ℕ). IsTokens t 0 c.loop-from.found.items) c.as_bytes-bytes.ensures.value (ended text c.loop-from.found.items c.loop-from.from end c.loop-from.invariant.1)
