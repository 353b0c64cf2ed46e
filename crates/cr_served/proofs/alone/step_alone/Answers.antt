use Rattle.std.proofs.Common.{rules, ◌≡◌, ◌∙◌, sym, true}
use Rattle.cr_world.specs.declared.refusal.Refusal.TheVariants.{NoReplica}
use Rattle.cr_script.specs.Speaking.{HasHeard, closures, host_under, spoken}
use Rattle.cr_script.proofs.Staying.{same_closures}
use Rattle.cr_session.specs.Sessions.{clean, honest, is_own, standing}
use Rattle.cr_served.specs.Running.{watch, policy_of, hears}
use Rattle.cr_served.proofs.Ruling.{own_rules, refused_rules}
use Rattle.cr_served.proofs.Steps.{own_ran}
use Rattle.cr_served.proofs.Watching.{own_over}
use Rattle.cr_served.proofs.alone.step_alone.Goals as goal

pub returns-then-is_own-clause-ran : goal.returns-then-is_own-clause-ran
returns-then-is_own-clause-ran g c = λ has names.
    let language = spoken (g.F.Functions.function_of c.args.functions.now) (g.F.Functions.scalar c.args.functions.now) (g.F.Functions.step c.args.functions.now) (g.F.Functions.finish c.args.functions.now) (g.F.Functions.order_of c.args.functions.now) (g.F.Functions.orders_total c.args.functions.now) has in
    let k = closures (g.G.Guarding.allows c.args.guard.now) (g.G.Guarding.refuses c.args.guard.now) in
    let own : is_own c.args.command.now ≡ true = search rules in
    own_ran policy_of hears language k (honest g.C.Cells.is_honest) (clean g.C.Cells.is_clean) (standing g.C.Cells.holding) c.args.session.now c.step.new.self
    (watch g.G.Guarding.rules g.G.Guarding.noted g.G.Guarding.noting c.args.guard.now) (watch g.G.Guarding.rules g.G.Guarding.noted g.G.Guarding.noting c.step.new.guard) c.args.command.now c.step.result c.step.ensures.guard.same_rules own (c.step.ensures.does has names)
    (λ clean. own_over language (watch g.G.Guarding.rules g.G.Guarding.noted g.G.Guarding.noting) (HasHeard g.G.Guarding.noted g.G.Guarding.noting) hears (λ from to events heard. heard) (host_under k (g.G.Guarding.rules c.args.guard.now)) c.args.guard.now (standing g.C.Cells.holding c.args.session.now) c.args.command.now c.step.result (standing g.C.Cells.holding c.step.new.self) c.step.new.guard
    (c.step.ensures.heard has names clean))

pub returns-then-is_own-clause-closures : goal.returns-then-is_own-clause-closures
returns-then-is_own-clause-closures g c = same_closures g.G.Guarding.is_faithful g.G.Guarding.rules g.G.Guarding.allows g.G.Guarding.refuses g.G.Guarding.noting _ _ c.step.ensures.guard

pub returns-then-is_own-clause-rules : goal.returns-then-is_own-clause-rules
returns-then-is_own-clause-rules g c =
    let own : is_own c.args.command.now ≡ true = search rules in
    c.step.ensures.guard.same_rules ∙ sym (own_rules c.args.command.now c.step.result (g.G.Guarding.rules c.args.guard.now) own)

pub returns-in_default-clause-rules : goal.returns-in_default-clause-rules
returns-in_default-clause-rules g c = sym (refused_rules c.args.command.now NoReplica (g.G.Guarding.rules c.args.guard.now))
