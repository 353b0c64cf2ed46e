use Rattle.std.proofs.Common.{◌≡◌, ℕ, true, false, List, drop, Some, sym, ap, ◌∙◌}
use Rattle.std.proofs.lemmas.Bool.{eq-eqb}
use Rattle.std.proofs.lemmas.List.{take_rest}
use Rattle.cr_value.specs.Reading.{closed_at}
use Rattle.cr_value.proofs.Quotes.{differs, with_front, at_quote, at_second_quote, at_byte, at_control, at_end_of_text, at_end_of_input, never_closed}
use Rattle.cr_value.proofs.literal.closed_at.Goals as goal
use Rattle.cr_value.proofs.literal.closed_at.Goals.{then-c-eq39, then-after_quote+in_ok-push, else-after_quote, else-c-eq39+else-after_quote-2+else-is_control+in_ok-push-2}

pub returns-then-after_quote-2 : goal.returns-then-after_quote-2
returns-then-after_quote-2 c =
    let bytes = c.args.bytes.now in
    let i = c.loop-at.at in
    let quoted : with_front c.loop-at.text.items (closed_at true (drop i bytes)) ≡ closed_at false bytes = rw c.if-after_quote-2.true at c.loop-at.invariant in
    at_end_of_text c.loop-at.text.items bytes i _ c.loop-at-test.true (differs _ c.if-c-eq39.false) quoted ∙ ap (λ (t : List ℕ). Some (c.loop-at.text.items, t)) (sym (take_rest bytes i))

pub returns-then-is_control : goal.returns-then-is_control
returns-then-is_control c =
    let bytes = c.args.bytes.now in
    let open_so_far : with_front c.loop-at.text.items (closed_at false (drop c.loop-at.at bytes)) ≡ closed_at false bytes = rw c.if-after_quote-2.false at c.loop-at.invariant in
    at_control c.loop-at.text.items bytes c.loop-at.at _ c.loop-at-test.true (differs _ c.if-c-eq39.false) (sym c.is_control.ensures ∙ c.if-is_control.true) open_so_far

pub loop-at-preserved : goal.loop-at-preserved
loop-at-preserved c =
    let bytes = c.args.bytes.now in
    let i = c.loop-at.at in
    let front = c.loop-at.text.items in
    elim c.if-c-eq39.branch [
      | then-c-eq39 w ↦ elim w.if-after_quote.branch [
        | then-after_quote+in_ok-push w' ↦ (
            let quoted : with_front front (closed_at true (drop i bytes)) ≡ closed_at false bytes = rw w'.if-after_quote.true at c.loop-at.invariant in
            rw (w.text-is, w'.text-is, w.after_quote-is, w'.if-after_quote.true, w'.in_ok-push.ensures.items) (at_second_quote front bytes i _ c.loop-at-test.true (eq-eqb _ _ w.if-c-eq39.true) quoted))
        | else-after_quote w' ↦ (
            let open_so_far : with_front front (closed_at false (drop i bytes)) ≡ closed_at false bytes = rw w'.if-after_quote.false at c.loop-at.invariant in
            rw (w.text-is, w'.text-is, w.after_quote-is, w'.if-after_quote.false) (at_quote front bytes i _ c.loop-at-test.true (eq-eqb _ _ w.if-c-eq39.true) open_so_far))
      ]
      | else-c-eq39+else-after_quote-2+else-is_control+in_ok-push-2 w ↦ (
          let open_so_far : with_front front (closed_at false (drop i bytes)) ≡ closed_at false bytes = rw w.if-after_quote-2.false at c.loop-at.invariant in
          rw (w.text-is, w.after_quote-is, w.if-after_quote-2.false, w.in_ok-push-2.ensures.items) (at_byte front bytes i _ c.loop-at-test.true (differs _ w.if-c-eq39.false) (sym w.is_control.ensures ∙ w.if-is_control.false) open_so_far))
    ]

pub returns-then-not-after_quote : goal.returns-then-not-after_quote
returns-then-not-after_quote c =
    let bytes = c.args.bytes.now in
    let open_so_far : with_front c.loop-at.text.items (closed_at false (drop c.loop-at.at bytes)) ≡ closed_at false bytes = rw c.if-not-after_quote.true at c.loop-at.invariant in
    never_closed c.loop-at.text.items bytes c.loop-at.at _ c.loop-at-test.false open_so_far

pub returns : goal.returns
returns c =
    let bytes = c.args.bytes.now in
    let quoted : with_front c.loop-at.text.items (closed_at true (drop c.loop-at.at bytes)) ≡ closed_at false bytes = rw c.if-not-after_quote.false at c.loop-at.invariant in
    at_end_of_input c.loop-at.text.items bytes c.loop-at.at _ c.loop-at-test.false quoted
