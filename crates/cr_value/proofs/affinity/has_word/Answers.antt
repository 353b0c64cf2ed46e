use Rattle.std.proofs.Common.{◌≡◌, true, false, take, drop, length, ◌-◌, sym, ◌∙◌}
use Rattle.std.proofs.lemmas.List.{at_drop_all, take_rest}
use Rattle.cr_value.specs.Affinity.{begins_with_word, has_word}
use Rattle.cr_value.proofs.Words.{found, not_here}
use Rattle.cr_value.proofs.affinity.has_word.Goals as goal

pub returns-then-begins_with_word : goal.returns-then-begins_with_word
returns-then-begins_with_word c =
    let text = c.args.text.now in
    let here : begins_with_word c.as_bytes.result.now (take (length text - c.loop-at.at) (drop c.loop-at.at text)) ≡ true = sym c.begins_with_word.ensures ∙ c.if-begins_with_word.true in
    sym (c.loop-at.invariant ∙ found c.args.word.now text c.loop-at.at c.loop-at-test.true (rw (take_rest text c.loop-at.at, c.as_bytes.ensures.value) at here))

pub loop-at-preserved : goal.loop-at-preserved
loop-at-preserved c =
    let text = c.args.text.now in
    let not_yet : begins_with_word c.as_bytes.result.now (take (length text - c.loop-at.at) (drop c.loop-at.at text)) ≡ false = sym c.begins_with_word.ensures ∙ c.if-begins_with_word.false in
    c.loop-at.invariant ∙ not_here c.args.word.now text c.loop-at.at c.loop-at-test.true (rw (take_rest text c.loop-at.at, c.as_bytes.ensures.value) at not_yet)

pub returns : goal.returns
unfolding has_word
returns c = sym (c.loop-at.invariant ∙ at_drop_all (has_word c.args.word.now) c.args.text.now c.loop-at.at c.loop-at-test.false)
