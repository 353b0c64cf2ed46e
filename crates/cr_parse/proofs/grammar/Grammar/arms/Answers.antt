use Rattle.std.proofs.Common.{rules, arith, ◌≡◌, ◌-◌, ◌+◌, ◌++◌, [], ◌∷◌, max, true, length, sym, ◌∙◌, ap, subst}
use Rattle.std.proofs.lemmas.Grind.{common_steps}
use Rattle.cr_tree.specs.declared.symbol.Mark.TheVariants as m
use Rattle.cr_tree.specs.Reading as spec
use Rattle.cr_parse.specs.Given.{Gives}
use Rattle.cr_parse.proofs.Loops.{the_arm, more_arms, arms_start, arms_turn, arms_stop, arms_end}
use Rattle.cr_parse.proofs.grammar.Grammar.arms.Goals.{else-loop-turn-test, then-loop-turn-test+then-not-sees}
use Rattle.cr_parse.proofs.grammar.Grammar.arms.Goals as goal

pub loop-turn-init : goal.loop-turn-init
loop-turn-init g c =
    let read : the_arm c.args.self.now.limits c.args.tokens.now ≡ spec.Reads (c.in_ok-first.first, c.in_ok-first.height) c.arm.new.tokens = cc (c.in_ok-first.ensures.reads) in
    let pushed : c.push.new.self ≡ c.in_ok-first.first ∷ [] = c.in_ok-push.ensures.ok ∙ ap (λ z. z ++ c.in_ok-first.first ∷ []) c.new-all.ensures in
    let turns : c.len-turn-end.result - 0 ≡ length c.arm.new.tokens = omega (arith, c.len-turn-end.ensures) in
    record {
      low = omega (arith, c.in_ok-first.ensures.low);
      same = arms_start c.args.self.now.limits (c.len-turn-end.result - 0) c.in_ok-first.height c.in_ok-first.first c.push.new.self c.args.tokens.now c.arm.new.tokens read turns pushed;
    }

pub returns-in_err-next-clause-reads : goal.returns-in_err-next-clause-reads
returns-in_err-next-clause-reads g c =
    let when : spec.sees m.When c.loop-turn.tokens ≡ true = cc in
    let e = arms_turn c.args.self.now.limits (c.len-turn-end.result - c.loop-turn._turn) (c.len-turn-end.result - (c.loop-turn._turn + 1)) c.loop-turn.height c.loop-turn.all c.loop-turn.tokens (omega (arith, c.loop-turn-test.true)) when in
    subst (λ o. Gives (λ x. x) o c.from_residual-in_err-next.result c.arm-in-loop-turn.new.tokens) (sym e ∙ c.loop-turn.invariant.same) (first_of (search rules, grind (arith, common_steps)))

pub loop-turn-preserved : goal.loop-turn-preserved
loop-turn-preserved g c =
    let when : spec.sees m.When c.loop-turn.tokens ≡ true = cc in
    let e = arms_turn c.args.self.now.limits (c.len-turn-end.result - c.loop-turn._turn) (c.len-turn-end.result - (c.loop-turn._turn + 1)) c.loop-turn.height c.loop-turn.all c.loop-turn.tokens (omega (arith, c.loop-turn-test.true)) when in
    let read : the_arm c.args.self.now.limits c.loop-turn.tokens ≡ spec.Reads (c.in_ok-next.next, c.in_ok-next.more) c.arm-in-loop-turn.new.tokens = cc (c.in_ok-next.ensures.reads) in
    let pushed : c.push-in-loop-turn.new.self ≡ c.loop-turn.all ++ c.in_ok-next.next ∷ [] = cc (c.in_ok-push-2.ensures.ok) in
    let r = ap (λ z. spec.and_then z (λ x. more_arms c.args.self.now.limits (c.len-turn-end.result - (c.loop-turn._turn + 1)) (spec.add_arm (c.loop-turn.all, c.loop-turn.height) x))) read in
    let high : c.max-height.result ≡ max c.loop-turn.height c.in_ok-next.more = c.max-height.ensures in
    record {
      low = omega (arith, c.in_ok-next.ensures.low, c.max-height.ensures, c.loop-turn.invariant.low);
      same = ap (λ z. more_arms c.args.self.now.limits (c.len-turn-end.result - (c.loop-turn._turn + 1)) (z, c.max-height.result) c.arm-in-loop-turn.new.tokens) pushed
          ∙ (ap (λ n. more_arms c.args.self.now.limits (c.len-turn-end.result - (c.loop-turn._turn + 1)) (c.loop-turn.all ++ c.in_ok-next.next ∷ [], n) c.arm-in-loop-turn.new.tokens) high
          ∙ (sym r ∙ (sym e ∙ c.loop-turn.invariant.same)));
    }

pub returns-clause-reads : goal.returns-clause-reads
returns-clause-reads g c = sym c.loop-turn.invariant.same ∙ elim c.loop-turn-test.branch [
  | else-loop-turn-test w ↦ arms_end c.args.self.now.limits (c.len-turn-end.result - c.loop-turn._turn) (c.loop-turn.all, c.loop-turn.height) c.loop-turn.tokens (omega (arith, w.loop-turn-test))
  | then-loop-turn-test+then-not-sees w ↦ arms_stop c.args.self.now.limits (c.len-turn-end.result - c.loop-turn._turn) (c.loop-turn.all, c.loop-turn.height) c.loop-turn.tokens (cc (w.sees.ensures, w.if-not-sees.true))
]
