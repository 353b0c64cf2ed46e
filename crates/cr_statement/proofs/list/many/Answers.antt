use Rattle.std.proofs.Common.{rules, arith, ◌≡◌, ◌-◌, ◌+◌, None, Some, Err, sym, ◌∙◌, ap, subst}
use Rattle.std.proofs.lemmas.Grind.{common_steps}
use Rattle.cr_tree.specs.Reading as spec
use Rattle.cr_parse.specs.Given.{Gives}
use Rattle.cr_statement.specs.Reading.{by_option, found_from}
use Rattle.cr_statement.proofs.Turns.{found_turn, found_end, gives_read, gives_refused}
use Rattle.cr_statement.proofs.list.many.Goals.{else-loop-turn-test, then-loop-turn-test+in_ok-next+in-None}
use Rattle.cr_statement.proofs.list.many.Goals as goal

pub returns-in_err-next : goal.returns-in_err-next
returns-in_err-next g c p r =
    let left = c.len-turn-end.result - (c.loop-turn._turn + 1) in
    let e = found_turn p (c.len-turn-end.result - c.loop-turn._turn) left c.loop-turn.all c.loop-turn.tokens (omega (arith, c.loop-turn-test.true)) in
    let refused : c.from_residual.result ≡ Err c.in_err-next.field-0.0 = first_of (search rules, grind (arith, common_steps)) in
    subst (λ o. Gives (λ x. x) o c.from_residual.result c.item.new.arg3) (sym e ∙ c.loop-turn.invariant.same p r)
    (gives_refused (p c.loop-turn.tokens) (by_option (spec.pure c.loop-turn.all) (λ x. found_from p left (spec.listed c.loop-turn.all x))) c.in_err-next.field-0.0 c.item.result c.from_residual.result c.item.new.arg3 c.in_err-next.was refused (r _ _ _ _ c.item.ensures))

pub loop-turn-preserved : goal.loop-turn-preserved
loop-turn-preserved g c =
    let pushed : c.push.new.self ≡ spec.listed c.loop-turn.all c.in-Some.next = c.in_ok-push-in-Some.ensures.ok in
    record {
      same = λ p r.
          let left = c.len-turn-end.result - (c.loop-turn._turn + 1) in
          let e = found_turn p (c.len-turn-end.result - c.loop-turn._turn) left c.loop-turn.all c.loop-turn.tokens (omega (arith, c.loop-turn-test.true)) in
          let read = gives_read (p c.loop-turn.tokens) (Some c.in-Some.next) c.item.result c.item.new.arg3 (cc (c.in_ok-next.was, c.in-Some.is)) (r _ _ _ _ c.item.ensures) in
          ap (λ z. found_from p left z c.item.new.arg3) pushed ∙ (sym (ap (λ o. spec.and_then o (by_option (spec.pure c.loop-turn.all) (λ x. found_from p left (spec.listed c.loop-turn.all x)))) read) ∙ (sym e ∙ c.loop-turn.invariant.same p r));
    }

pub returns : goal.returns
returns g c p r = sym (c.loop-turn.invariant.same p r) ∙ elim c.loop-turn-test.branch [
  | else-loop-turn-test w ↦ subst (λ z. found_from p (c.len-turn-end.result - c.loop-turn._turn) c.loop-turn.all c.loop-turn.tokens ≡ spec.Reads c.loop-turn.all z) (sym w.tokens-is)
      (found_end p (c.len-turn-end.result - c.loop-turn._turn) c.loop-turn.all c.loop-turn.tokens (omega (arith, w.loop-turn-test)))
  | then-loop-turn-test+in_ok-next+in-None w ↦
      let left = c.len-turn-end.result - (c.loop-turn._turn + 1) in
      let e = found_turn p (c.len-turn-end.result - c.loop-turn._turn) left c.loop-turn.all c.loop-turn.tokens (omega (arith, w.loop-turn-test)) in
      let read = gives_read (p c.loop-turn.tokens) None w.item.result w.item.new.arg3 (cc (w.in_ok-next.was, w.in-None.is)) (r _ _ _ _ w.item.ensures) in
      subst (λ z. found_from p (c.len-turn-end.result - c.loop-turn._turn) c.loop-turn.all c.loop-turn.tokens ≡ spec.Reads c.loop-turn.all z) (sym w.tokens-is)
      (e ∙ ap (λ o. spec.and_then o (by_option (spec.pure c.loop-turn.all) (λ x. found_from p left (spec.listed c.loop-turn.all x)))) read)
]
