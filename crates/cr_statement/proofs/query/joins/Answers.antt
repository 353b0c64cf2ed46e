use Rattle.std.proofs.Common.{rules, arith, ◌≡◌, ◌-◌, ◌+◌, true, false, sym, ◌∙◌, ap, subst}
use Rattle.std.proofs.lemmas.Grind.{common_steps}
use Rattle.cr_tree.specs.declared.limits.TheConstants.{LIMITS}
use Rattle.cr_tree.specs.Reading as spec
use Rattle.cr_parse.specs.Given.{Gives}
use Rattle.cr_statement.specs.Queries.{sees_join, join}
use Rattle.cr_statement.proofs.Turns.{more_joins, joins_turn, joins_stop, joins_out}
use Rattle.cr_statement.proofs.query.joins.Goals as goal

pub loop-turn-init : goal.loop-turn-init
loop-turn-init c = ap (λ z. more_joins LIMITS.joins z c.args.tokens.now) c.new-all.ensures

pub returns-then-not-sees_join : goal.returns-then-not-sees_join
returns-then-not-sees_join c =
    let stops : sees_join c.loop-turn.tokens ≡ false = cc (c.sees_join.ensures, c.if-not-sees_join.true) in
    sym c.loop-turn.invariant ∙ joins_stop (LIMITS.joins - c.loop-turn._turn) c.loop-turn.all c.loop-turn.tokens stops

pub returns-in_err-next : goal.returns-in_err-next
returns-in_err-next c =
    let seen : sees_join c.loop-turn.tokens ≡ true = cc (c.sees_join.ensures, c.if-not-sees_join.false) in
    let e = joins_turn (LIMITS.joins - c.loop-turn._turn) (LIMITS.joins - (c.loop-turn._turn + 1)) c.loop-turn.all c.loop-turn.tokens (omega (arith, c.loop-turn-test.true)) seen in
    subst (λ o. Gives (λ x. x) o c.from_residual.result c.join.new.tokens) (sym e ∙ c.loop-turn.invariant) (first_of (search rules, grind (arith, common_steps)))

pub loop-turn-preserved : goal.loop-turn-preserved
loop-turn-preserved c =
    let seen : sees_join c.loop-turn.tokens ≡ true = cc (c.sees_join.ensures, c.if-not-sees_join.false) in
    let e = joins_turn (LIMITS.joins - c.loop-turn._turn) (LIMITS.joins - (c.loop-turn._turn + 1)) c.loop-turn.all c.loop-turn.tokens (omega (arith, c.loop-turn-test.true)) seen in
    let read : join LIMITS c.loop-turn.tokens ≡ spec.Reads c.in_ok-next.next c.join.new.tokens = cc (c.in_ok-next.ensures) in
    let pushed : c.push.new.self ≡ spec.listed c.loop-turn.all c.in_ok-next.next = c.in_ok-push.ensures.ok in
    ap (λ z. more_joins (LIMITS.joins - (c.loop-turn._turn + 1)) z c.join.new.tokens) pushed
    ∙ (sym (ap (λ z. spec.and_then z (λ x. more_joins (LIMITS.joins - (c.loop-turn._turn + 1)) (spec.listed c.loop-turn.all x))) read) ∙ (sym e ∙ c.loop-turn.invariant))

pub returns-then-sees_join : goal.returns-then-sees_join
returns-then-sees_join c =
    let seen : sees_join c.loop-turn.tokens ≡ true = cc (c.sees_join-2.ensures, c.if-sees_join.true) in
    sym c.loop-turn.invariant ∙ joins_out (LIMITS.joins - c.loop-turn._turn) c.loop-turn.all c.loop-turn.tokens (omega (arith, c.loop-turn-test.false)) seen

pub returns : goal.returns
returns c =
    let stops : sees_join c.loop-turn.tokens ≡ false = cc (c.sees_join-2.ensures, c.if-sees_join.false) in
    sym c.loop-turn.invariant ∙ joins_stop (LIMITS.joins - c.loop-turn._turn) c.loop-turn.all c.loop-turn.tokens stops
