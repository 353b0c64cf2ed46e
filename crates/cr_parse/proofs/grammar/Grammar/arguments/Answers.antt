use Rattle.std.proofs.Common.{rules, arith, ◌≡◌, ◌-◌, ◌+◌, ◌++◌, [], ◌∷◌, max, true, false, sym, ◌∙◌, ap, subst}
use Rattle.std.proofs.lemmas.Grind.{common_steps}
use Rattle.cr_tree.specs.declared.symbol.Mark.TheVariants as m
use Rattle.cr_tree.specs.Reading as spec
use Rattle.cr_parse.specs.Given.{Gives}
use Rattle.cr_parse.proofs.Loops.{more_arguments, arguments_start, arguments_turn, arguments_stop, arguments_out}
use Rattle.cr_parse.proofs.grammar.Grammar.arguments.Goals as goal

pub loop-turn-init : goal.loop-turn-init
loop-turn-init g c =
    let read : (spec.rules_of c.args.self.now.limits).argument c.args.tokens.now ≡ spec.Reads (c.in_ok-first.first, c.in_ok-first.height) c.argument.new.tokens = cc (c.in_ok-first.ensures.reads) in
    let pushed : c.push.new.self ≡ c.in_ok-first.first ∷ [] = c.in_ok-push.ensures.ok ∙ ap (λ z. z ++ c.in_ok-first.first ∷ []) c.new-all.ensures in
    record {
      low = omega (arith, c.in_ok-first.ensures.low);
      same = arguments_start c.args.self.now.limits (c.args.self.now.limits.commas - 0) c.in_ok-first.height c.in_ok-first.first c.push.new.self c.args.tokens.now c.argument.new.tokens read (omega arith) pushed;
    }

pub returns-in_err-next-clause-reads : goal.returns-in_err-next-clause-reads
returns-in_err-next-clause-reads g c =
    let comma : spec.sees m.Comma c.loop-turn.tokens ≡ true = cc in
    let e = arguments_turn c.args.self.now.limits (c.args.self.now.limits.commas - c.loop-turn._turn) (c.args.self.now.limits.commas - (c.loop-turn._turn + 1)) c.loop-turn.height c.loop-turn.all c.loop-turn.tokens (omega (arith, c.loop-turn-test.true)) comma in
    subst (λ o. Gives (λ x. x) o c.from_residual-in_err-next.result c.argument-in-loop-turn.new.tokens) (sym e ∙ c.loop-turn.invariant.same) (rw (← c.take.ensures) (first_of (search rules, grind (arith, common_steps))))

pub loop-turn-preserved : goal.loop-turn-preserved
loop-turn-preserved g c =
    let comma : spec.sees m.Comma c.loop-turn.tokens ≡ true = cc in
    let e = arguments_turn c.args.self.now.limits (c.args.self.now.limits.commas - c.loop-turn._turn) (c.args.self.now.limits.commas - (c.loop-turn._turn + 1)) c.loop-turn.height c.loop-turn.all c.loop-turn.tokens (omega (arith, c.loop-turn-test.true)) comma in
    let read : (spec.rules_of c.args.self.now.limits).argument (spec.rest_of c.loop-turn.tokens) ≡ spec.Reads (c.in_ok-next.next, c.in_ok-next.more) c.argument-in-loop-turn.new.tokens = cc (c.in_ok-next.ensures.reads, c.take.ensures) in
    let pushed : c.push-in-loop-turn.new.self ≡ c.loop-turn.all ++ c.in_ok-next.next ∷ [] = cc (c.in_ok-push-2.ensures.ok) in
    let r = ap (λ z. spec.and_then z (λ x. more_arguments c.args.self.now.limits (c.args.self.now.limits.commas - (c.loop-turn._turn + 1)) (spec.add_item (c.loop-turn.all, c.loop-turn.height) x))) read in
    let high : c.max-height.result ≡ max c.loop-turn.height c.in_ok-next.more = c.max-height.ensures in
    record {
      low = omega (arith, c.in_ok-next.ensures.low, c.max-height.ensures, c.loop-turn.invariant.low);
      same = ap (λ z. more_arguments c.args.self.now.limits (c.args.self.now.limits.commas - (c.loop-turn._turn + 1)) (z, c.max-height.result) c.argument-in-loop-turn.new.tokens) pushed
          ∙ (ap (λ n. more_arguments c.args.self.now.limits (c.args.self.now.limits.commas - (c.loop-turn._turn + 1)) (c.loop-turn.all ++ c.in_ok-next.next ∷ [], n) c.argument-in-loop-turn.new.tokens) high
          ∙ (sym r ∙ (sym e ∙ c.loop-turn.invariant.same)));
    }

pub returns-then-not-sees-clause-reads : goal.returns-then-not-sees-clause-reads
returns-then-not-sees-clause-reads g c =
    let stops : spec.sees m.Comma c.loop-turn.tokens ≡ false = cc (c.sees.ensures, c.if-not-sees.true) in
    sym c.loop-turn.invariant.same ∙ arguments_stop c.args.self.now.limits (c.args.self.now.limits.commas - c.loop-turn._turn) (c.loop-turn.all, c.loop-turn.height) c.loop-turn.tokens stops

pub returns-then-sees-clause-reads : goal.returns-then-sees-clause-reads
returns-then-sees-clause-reads g c =
    let comma : spec.sees m.Comma c.loop-turn.tokens ≡ true = cc (c.sees-2.ensures, c.if-sees.true) in
    sym c.loop-turn.invariant.same ∙ arguments_out c.args.self.now.limits (c.args.self.now.limits.commas - c.loop-turn._turn) (c.loop-turn.all, c.loop-turn.height) c.loop-turn.tokens (omega (arith, c.loop-turn-test.false)) comma

pub returns-clause-reads : goal.returns-clause-reads
returns-clause-reads g c =
    let stops : spec.sees m.Comma c.loop-turn.tokens ≡ false = cc (c.sees-2.ensures, c.if-sees.false) in
    sym c.loop-turn.invariant.same ∙ arguments_stop c.args.self.now.limits (c.args.self.now.limits.commas - c.loop-turn._turn) (c.loop-turn.all, c.loop-turn.height) c.loop-turn.tokens stops
