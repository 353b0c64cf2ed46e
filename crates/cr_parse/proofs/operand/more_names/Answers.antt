use Rattle.std.proofs.Common.{rules, arith, ◌≡◌, ◌-◌, ◌+◌, true, sym, ◌∙◌, ap, subst}
use Rattle.std.proofs.lemmas.Grind.{common_steps}
use Rattle.cr_tree.specs.Reading as spec
use Rattle.cr_parse.specs.Given.{Gives}
use Rattle.cr_parse.proofs.Turns.{names_turn, names_stop, many_ends}
use Rattle.cr_parse.proofs.operand.more_names.Goals.{else-loop-turn-test, then-loop-turn-test+then-not-sees_name}
use Rattle.cr_parse.proofs.operand.more_names.Goals as goal

pub returns-in_err-name : goal.returns-in_err-name
returns-in_err-name c =
    let next : spec.sees_name c.loop-turn.tokens ≡ true = cc in
    let e = names_turn (c.len-turn-end.result - c.loop-turn._turn) (c.len-turn-end.result - (c.loop-turn._turn + 1)) c.loop-turn.all c.loop-turn.tokens (omega (arith, c.loop-turn-test.true)) next in
    subst (λ o. Gives (λ x. x) o c.from_residual-in_err-name.result c.name.new.self) (sym e ∙ c.loop-turn.invariant.same) (first_of (search rules, grind (arith, common_steps)))

pub loop-turn-preserved : goal.loop-turn-preserved
loop-turn-preserved c =
    let next : spec.sees_name c.loop-turn.tokens ≡ true = cc in
    let e = names_turn (c.len-turn-end.result - c.loop-turn._turn) (c.len-turn-end.result - (c.loop-turn._turn + 1)) c.loop-turn.all c.loop-turn.tokens (omega (arith, c.loop-turn-test.true)) next in
    let read : spec.name c.loop-turn.tokens ≡ spec.Reads c.in_ok-name.name c.name.new.self = cc (c.in_ok-name.ensures) in
    let pushed : c.push-in-loop-turn.new.self ≡ spec.listed c.loop-turn.all c.in_ok-name.name = cc (c.in_ok-push-2.ensures.ok) in
    let r = ap (λ z. spec.and_then z (λ x. spec.many_from spec.is_name spec.name spec.listed (c.len-turn-end.result - (c.loop-turn._turn + 1)) (spec.listed c.loop-turn.all x))) read in
    record { same = ap (λ z. spec.many_from spec.is_name spec.name spec.listed (c.len-turn-end.result - (c.loop-turn._turn + 1)) z c.name.new.self) pushed ∙ (sym r ∙ (sym e ∙ c.loop-turn.invariant.same)) }

pub returns : goal.returns
returns c = sym c.loop-turn.invariant.same ∙ elim c.loop-turn-test.branch [
  | else-loop-turn-test w ↦ many_ends spec.is_name spec.name spec.listed (c.len-turn-end.result - c.loop-turn._turn) c.loop-turn.all c.loop-turn.tokens (omega (arith, w.loop-turn-test))
  | then-loop-turn-test+then-not-sees_name w ↦ names_stop (c.len-turn-end.result - c.loop-turn._turn) c.loop-turn.all c.loop-turn.tokens (cc (w.sees_name.ensures, w.if-not-sees_name.true))
]
