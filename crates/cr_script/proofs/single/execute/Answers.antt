use Rattle.std.proofs.Common.{◌≡◌, ◌∙◌, ◌<◌, length, Ok, Err, sym, ap}
use Rattle.cr_lex.specs.declared.token.LexError.TheVariants.{Limit}
use Rattle.cr_lex.specs.Tokens.{IsTokens}
use Rattle.cr_script.specs.Speaking.{closures, host_under, HasHeard}
use Rattle.cr_script.proofs.Executions.{executes_whole, hears_whole, refuses_long_text}
use Rattle.cr_script.proofs.single.execute.Goals as goal

pub returns-in-Ok-clause-executes : goal.returns-in-Ok-clause-executes
returns-in-Ok-clause-executes g c = λ has names.
    let short : 1000000 < length c.args.source.now → ⊥ = λ long. let q : c.tokens.result ≡ Err Limit = c.tokens.ensures.limit.1 long in let n : Ok c.in-Ok.tokens ≡ Err Limit = sym c.in-Ok.is ∙ q in let z : ⊥ = cc in z in
    let are : IsTokens c.args.source.now 0 c.deref.result.now = rw c.deref.ensures.value c.in-Ok.ensures.tokens in
    executes_whole _ _ _ _ _ _ has _ g.E.Executor.is_honest g.E.Executor.is_clean g.E.Executor.stands c.args.source.now c.args.params.now c.args.executor.now c.single.new.executor c.deref.result.now c.single.result short are (c.single.ensures.executes has names)

pub returns-in-Err-Limit-clause-executes : goal.returns-in-Err-Limit-clause-executes
returns-in-Err-Limit-clause-executes g c = λ has names.
    refuses_long_text _ _ _ _ _ _ has _ g.E.Executor.is_honest g.E.Executor.is_clean g.E.Executor.stands c.args.source.now c.args.params.now c.args.executor.now c.args.executor.now (c.tokens.ensures.limit.0 (c.in-Err-Limit.is ∙ ap Err c.in-Err-Limit.field-0-is))

pub returns-in-Ok-clause-heard : goal.returns-in-Ok-clause-heard
returns-in-Ok-clause-heard g c = λ has names clean.
    let short : 1000000 < length c.args.source.now → ⊥ = λ long. let q : c.tokens.result ≡ Err Limit = c.tokens.ensures.limit.1 long in let n : Ok c.in-Ok.tokens ≡ Err Limit = sym c.in-Ok.is ∙ q in let z : ⊥ = cc in z in
    let are : IsTokens c.args.source.now 0 c.deref.result.now = rw c.deref.ensures.value c.in-Ok.ensures.tokens in
    hears_whole (g.F.Functions.function_of c.args.functions.now) (g.F.Functions.scalar c.args.functions.now) (g.F.Functions.step c.args.functions.now) (g.F.Functions.finish c.args.functions.now) (g.F.Functions.order_of c.args.functions.now) (g.F.Functions.orders_total c.args.functions.now) has (host_under (closures (g.G.Guarding.allows c.args.guard.now) (g.G.Guarding.refuses c.args.guard.now)) (g.G.Guarding.rules c.args.guard.now)) g.E.Executor.is_honest g.E.Executor.is_clean g.E.Executor.stands c.args.source.now c.args.params.now c.args.executor.now c.single.new.executor (λ events. HasHeard g.G.Guarding.noted g.G.Guarding.noting c.args.guard.now c.single.new.guard events) c.deref.result.now (g.E.Executor.stands c.single.new.executor) c.single.result short are (c.single.ensures.heard clean)
