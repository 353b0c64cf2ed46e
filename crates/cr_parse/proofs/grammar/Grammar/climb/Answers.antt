use Rattle.std.proofs.Common.{rules, arith, ◌≡◌, ◌-◌, ◌+◌, Some, sym, ◌∙◌, ap, subst}
use Rattle.std.proofs.lemmas.Grind.{common_steps}
use Rattle.cr_tree.specs.Reading as spec
use Rattle.cr_tree.proofs.Climb.{turn_loose, turn_tight, turn_deep, turn_on}
use Rattle.cr_parse.specs.Given.{Gives}
use Rattle.cr_parse.proofs.grammar.Grammar.climb.Goals.{then-binds-least-via-then-binds-least, then-binds-least-via-else-binds-least+then-binds-bound}
use Rattle.cr_parse.proofs.grammar.Grammar.climb.Goals as goal

pub returns-then-binds-least-clause-reads : goal.returns-then-binds-least-clause-reads
returns-then-binds-least-clause-reads g c =
    let next : spec.head c.loop-turn.tokens ≡ Some c.in-Some.symbol.now = cc in
    sym c.loop-turn.invariant.same ∙ elim c.then-binds-least.branch [
      | then-binds-least-via-then-binds-least w ↦ turn_loose c.args.self.now.limits (spec.rules_of c.args.self.now.limits) (c.args.self.now.limits.room - c.loop-turn._turn) c.args.least c.loop-turn.bound (c.loop-turn.tree, c.loop-turn.height) c.in-Some.symbol.now c.loop-turn.tokens next (omega (arith, c.binding-binds.ensures.value, w.if-binds-least))
      | then-binds-least-via-else-binds-least+then-binds-bound w ↦ turn_tight c.args.self.now.limits (spec.rules_of c.args.self.now.limits) (c.args.self.now.limits.room - c.loop-turn._turn) c.args.least c.loop-turn.bound (c.loop-turn.tree, c.loop-turn.height) c.in-Some.symbol.now c.loop-turn.tokens next (omega (arith, c.binding-binds.ensures.value, w.if-binds-bound))
    ]

pub returns-then-height-self-clause-reads : goal.returns-then-height-self-clause-reads
returns-then-height-self-clause-reads g c =
    let next : spec.head c.loop-turn.tokens ≡ Some c.in-Some.symbol.now = cc in
    sym c.loop-turn.invariant.same ∙ turn_deep c.args.self.now.limits (spec.rules_of c.args.self.now.limits) (c.args.self.now.limits.room - c.loop-turn._turn) (c.args.self.now.limits.room - (c.loop-turn._turn + 1)) c.args.least c.loop-turn.bound (c.loop-turn.tree, c.loop-turn.height) c.in-Some.symbol.now c.loop-turn.tokens
    (omega (arith, c.loop-turn-test.true)) next (omega (arith, c.binding-binds.ensures.value, c.if-binds-least.false)) (omega (arith, c.binding-binds.ensures.value, c.if-binds-bound.false)) (omega (arith, c.if-height-self.true))

pub returns-in_err-tree-clause-reads : goal.returns-in_err-tree-clause-reads
returns-in_err-tree-clause-reads g c =
    let next : spec.head c.loop-turn.tokens ≡ Some c.in-Some.symbol.now = cc in
    let e = turn_on c.args.self.now.limits (spec.rules_of c.args.self.now.limits) (c.args.self.now.limits.room - c.loop-turn._turn) (c.args.self.now.limits.room - (c.loop-turn._turn + 1)) c.args.least c.loop-turn.bound (c.loop-turn.tree, c.loop-turn.height) c.in-Some.symbol.now c.loop-turn.tokens
    (omega (arith, c.loop-turn-test.true)) next (omega (arith, c.binding-binds.ensures.value, c.if-binds-least.false)) (omega (arith, c.binding-binds.ensures.value, c.if-binds-bound.false)) (omega (arith, c.if-height-self.false)) in
    subst (λ o. Gives (λ x. x) o c.from_residual.result c.tail.new.tokens) (sym e ∙ c.loop-turn.invariant.same) (first_of (search rules, grind (arith, common_steps)))

pub loop-turn-preserved : goal.loop-turn-preserved
loop-turn-preserved g c =
    let next : spec.head c.loop-turn.tokens ≡ Some c.in-Some.symbol.now = cc in
    let e = turn_on c.args.self.now.limits (spec.rules_of c.args.self.now.limits) (c.args.self.now.limits.room - c.loop-turn._turn) (c.args.self.now.limits.room - (c.loop-turn._turn + 1)) c.args.least c.loop-turn.bound (c.loop-turn.tree, c.loop-turn.height) c.in-Some.symbol.now c.loop-turn.tokens
    (omega (arith, c.loop-turn-test.true)) next (omega (arith, c.binding-binds.ensures.value, c.if-binds-least.false)) (omega (arith, c.binding-binds.ensures.value, c.if-binds-bound.false)) (omega (arith, c.if-height-self.false)) in
    let read : spec.tail_by c.args.self.now.limits (spec.rules_of c.args.self.now.limits) (c.loop-turn.tree, c.loop-turn.height) c.in-Some.symbol.now c.loop-turn.tokens ≡ spec.Reads (c.in_ok-tree.field-0-0, c.in_ok-tree.field-0-1) c.tail.new.tokens = cc (c.in_ok-tree.ensures.reads) in
    let r = ap (λ z. spec.and_then z (spec.climb c.args.self.now.limits (spec.rules_of c.args.self.now.limits) (c.args.self.now.limits.room - (c.loop-turn._turn + 1)) c.args.least (spec.binding c.in-Some.symbol.now))) read in
    record {
      low = c.in_ok-tree.ensures.low;
      same = ap (λ n. spec.climb c.args.self.now.limits (spec.rules_of c.args.self.now.limits) (c.args.self.now.limits.room - (c.loop-turn._turn + 1)) c.args.least n (c.in_ok-tree.field-0-0, c.in_ok-tree.field-0-1) c.tail.new.tokens) c.binding-binds.ensures.value
          ∙ (sym r ∙ (sym e ∙ c.loop-turn.invariant.same));
    }
