use Rattle.std.proofs.Common.{rules, arith, ◌≡◌, ◌-◌, ◌+◌, [], ◌∷◌, ◌++◌, true, length, Err, sym, ◌∙◌, ap, subst}
use Rattle.std.proofs.lemmas.Grind.{common_steps}
use Rattle.cr_tree.specs.declared.symbol.Mark.TheVariants as m
use Rattle.cr_tree.specs.Reading as spec
use Rattle.cr_parse.specs.Given.{Gives}
use Rattle.cr_statement.proofs.Turns.{more, commas_start, commas_turn, commas_stop, commas_end, gives_read, gives_refused}
use Rattle.cr_statement.proofs.list.commas.Goals.{else-loop-turn-test, then-loop-turn-test+then-not-sees}
use Rattle.cr_statement.proofs.list.commas.Goals as goal

pub loop-turn-init : goal.loop-turn-init
loop-turn-init g c =
    let pushed : c.push.new.self ≡ c.in_ok-first.first ∷ [] = c.in_ok-push.ensures.ok ∙ ap (λ z. z ++ c.in_ok-first.first ∷ []) c.new-all.ensures in
    let turns : c.len-turn-end.result - 0 ≡ length c.item.new.arg3 = omega (arith, c.len-turn-end.ensures) in
    record {
      same = λ p r. commas_start p (c.len-turn-end.result - 0) c.in_ok-first.first c.push.new.self c.args.tokens.now c.item.new.arg3
          (gives_read (p c.args.tokens.now) c.in_ok-first.first c.item.result c.item.new.arg3 c.in_ok-first.was (r _ _ _ _ c.item.ensures)) turns pushed;
    }

pub returns-in_err-next : goal.returns-in_err-next
returns-in_err-next g c p r =
    let comma : spec.sees m.Comma c.loop-turn.tokens ≡ true = cc in
    let e = commas_turn p (c.len-turn-end.result - c.loop-turn._turn) (c.len-turn-end.result - (c.loop-turn._turn + 1)) c.loop-turn.all c.loop-turn.tokens (omega (arith, c.loop-turn-test.true)) comma in
    let given : Gives (λ x. x) (p (spec.rest_of c.loop-turn.tokens)) c.item-in-loop-turn.result c.item-in-loop-turn.new.arg3 = subst (λ ts. Gives (λ x. x) (p ts) c.item-in-loop-turn.result c.item-in-loop-turn.new.arg3) c.take.ensures (r _ _ _ _ c.item-in-loop-turn.ensures) in
    let refused : c.from_residual-in_err-next.result ≡ Err c.in_err-next.field-0.0 = first_of (search rules, grind (arith, common_steps)) in
    subst (λ o. Gives (λ x. x) o c.from_residual-in_err-next.result c.item-in-loop-turn.new.arg3) (sym e ∙ c.loop-turn.invariant.same p r)
    (gives_refused (p (spec.rest_of c.loop-turn.tokens)) (λ x. more p (c.len-turn-end.result - (c.loop-turn._turn + 1)) (spec.listed c.loop-turn.all x)) c.in_err-next.field-0.0
    c.item-in-loop-turn.result c.from_residual-in_err-next.result c.item-in-loop-turn.new.arg3 c.in_err-next.was refused given)

pub loop-turn-preserved : goal.loop-turn-preserved
loop-turn-preserved g c =
    let comma : spec.sees m.Comma c.loop-turn.tokens ≡ true = cc in
    let pushed : c.push-in-loop-turn.new.self ≡ spec.listed c.loop-turn.all c.in_ok-next.next = c.in_ok-push-2.ensures.ok in
    record {
      same = λ p r.
          let e = commas_turn p (c.len-turn-end.result - c.loop-turn._turn) (c.len-turn-end.result - (c.loop-turn._turn + 1)) c.loop-turn.all c.loop-turn.tokens (omega (arith, c.loop-turn-test.true)) comma in
          let read = gives_read (p (spec.rest_of c.loop-turn.tokens)) c.in_ok-next.next c.item-in-loop-turn.result c.item-in-loop-turn.new.arg3 c.in_ok-next.was
          (subst (λ ts. Gives (λ x. x) (p ts) c.item-in-loop-turn.result c.item-in-loop-turn.new.arg3) c.take.ensures (r _ _ _ _ c.item-in-loop-turn.ensures)) in
          ap (λ z. more p (c.len-turn-end.result - (c.loop-turn._turn + 1)) z c.item-in-loop-turn.new.arg3) pushed
          ∙ (sym (ap (λ z. spec.and_then z (λ x. more p (c.len-turn-end.result - (c.loop-turn._turn + 1)) (spec.listed c.loop-turn.all x))) read) ∙ (sym e ∙ c.loop-turn.invariant.same p r));
    }

pub returns : goal.returns
returns g c p r = sym (c.loop-turn.invariant.same p r) ∙ elim c.loop-turn-test.branch [
  | else-loop-turn-test w ↦ commas_end p (c.len-turn-end.result - c.loop-turn._turn) c.loop-turn.all c.loop-turn.tokens (omega (arith, w.loop-turn-test))
  | then-loop-turn-test+then-not-sees w ↦ commas_stop p (c.len-turn-end.result - c.loop-turn._turn) c.loop-turn.all c.loop-turn.tokens (cc (w.sees.ensures, w.if-not-sees.true))
]
