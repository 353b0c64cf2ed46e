use Rattle.std.proofs.Common.{rules, arith, ◌≡◌, ◌-◌, ◌+◌, ◌++◌, [], ◌∷◌, max, true, length, sym, ◌∙◌, ap, subst}
use Rattle.std.proofs.lemmas.Grind.{common_steps}
use Rattle.cr_tree.specs.declared.symbol.Mark.TheVariants as m
use Rattle.cr_tree.specs.Reading as spec
use Rattle.cr_parse.specs.Given.{Gives}
use Rattle.cr_parse.proofs.Loops.{more_items, items_start, items_turn, items_stop, items_end}
use Rattle.cr_parse.proofs.grammar.Grammar.items.Goals.{else-loop-turn-test, then-loop-turn-test+then-not-sees}
use Rattle.cr_parse.proofs.grammar.Grammar.items.Goals as goal

pub loop-turn-init : goal.loop-turn-init
loop-turn-init g c =
    let read : (spec.rules_of c.args.self.now.limits).argument c.args.tokens.now ≡ spec.Reads (c.in_ok-first.first, c.in_ok-first.height) c.argument.new.tokens = cc (c.in_ok-first.ensures.reads) in
    let pushed : c.push.new.self ≡ c.in_ok-first.first ∷ [] = c.in_ok-push.ensures.ok ∙ ap (λ z. z ++ c.in_ok-first.first ∷ []) c.new-all.ensures in
    let turns : c.len-turn-end.result - 0 ≡ length c.argument.new.tokens = omega (arith, c.len-turn-end.ensures) in
    record {
      low = omega (arith, c.in_ok-first.ensures.low);
      same = items_start c.args.self.now.limits (c.len-turn-end.result - 0) c.in_ok-first.height c.in_ok-first.first c.push.new.self c.args.tokens.now c.argument.new.tokens read turns pushed;
    }

pub returns-in_err-next-clause-reads : goal.returns-in_err-next-clause-reads
returns-in_err-next-clause-reads g c =
    let comma : spec.sees m.Comma c.loop-turn.tokens ≡ true = cc in
    let e = items_turn c.args.self.now.limits (c.len-turn-end.result - c.loop-turn._turn) (c.len-turn-end.result - (c.loop-turn._turn + 1)) c.loop-turn.height c.loop-turn.all c.loop-turn.tokens (omega (arith, c.loop-turn-test.true)) comma in
    subst (λ o. Gives (λ x. x) o c.from_residual-in_err-next.result c.argument-in-loop-turn.new.tokens) (sym e ∙ c.loop-turn.invariant.same) (rw (← c.take.ensures) (first_of (search rules, grind (arith, common_steps))))

pub loop-turn-preserved : goal.loop-turn-preserved
loop-turn-preserved g c =
    let comma : spec.sees m.Comma c.loop-turn.tokens ≡ true = cc in
    let e = items_turn c.args.self.now.limits (c.len-turn-end.result - c.loop-turn._turn) (c.len-turn-end.result - (c.loop-turn._turn + 1)) c.loop-turn.height c.loop-turn.all c.loop-turn.tokens (omega (arith, c.loop-turn-test.true)) comma in
    let read : (spec.rules_of c.args.self.now.limits).argument (spec.rest_of c.loop-turn.tokens) ≡ spec.Reads (c.in_ok-next.next, c.in_ok-next.more) c.argument-in-loop-turn.new.tokens = cc (c.in_ok-next.ensures.reads, c.take.ensures) in
    let pushed : c.push-in-loop-turn.new.self ≡ c.loop-turn.all ++ c.in_ok-next.next ∷ [] = cc (c.in_ok-push-2.ensures.ok) in
    let r = ap (λ z. spec.and_then z (λ x. more_items c.args.self.now.limits (c.len-turn-end.result - (c.loop-turn._turn + 1)) (spec.add_item (c.loop-turn.all, c.loop-turn.height) x))) read in
    let high : c.max-height.result ≡ max c.loop-turn.height c.in_ok-next.more = c.max-height.ensures in
    record {
      low = omega (arith, c.in_ok-next.ensures.low, c.max-height.ensures, c.loop-turn.invariant.low);
      same = ap (λ z. more_items c.args.self.now.limits (c.len-turn-end.result - (c.loop-turn._turn + 1)) (z, c.max-height.result) c.argument-in-loop-turn.new.tokens) pushed
          ∙ (ap (λ n. more_items c.args.self.now.limits (c.len-turn-end.result - (c.loop-turn._turn + 1)) (c.loop-turn.all ++ c.in_ok-next.next ∷ [], n) c.argument-in-loop-turn.new.tokens) high
          ∙ (sym r ∙ (sym e ∙ c.loop-turn.invariant.same)));
    }

pub returns-clause-reads : goal.returns-clause-reads
returns-clause-reads g c = sym c.loop-turn.invariant.same ∙ elim c.loop-turn-test.branch [
  | else-loop-turn-test w ↦ items_end c.args.self.now.limits (c.len-turn-end.result - c.loop-turn._turn) (c.loop-turn.all, c.loop-turn.height) c.loop-turn.tokens (omega (arith, w.loop-turn-test))
  | then-loop-turn-test+then-not-sees w ↦ items_stop c.args.self.now.limits (c.len-turn-end.result - c.loop-turn._turn) (c.loop-turn.all, c.loop-turn.height) c.loop-turn.tokens (cc (w.sees.ensures, w.if-not-sees.true))
]
