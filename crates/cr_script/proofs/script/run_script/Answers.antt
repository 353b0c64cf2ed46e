use Rattle.std.proofs.Common.{◌≡◌, ◌∙◌, ◌<◌, inl, inr, length, Ok, Err, refl, sym, ap}
use Rattle.cr_lex.specs.declared.token.LexError.TheVariants.{Limit}
use Rattle.cr_lex.specs.Tokens.{IsTokens}
use Rattle.cr_script.specs.Speaking.{closures, host_under, spoken, HasHeard}
use Rattle.cr_script.proofs.Heeding.{refuses}
use Rattle.cr_script.proofs.Scripting.{carries_whole, heard_whole, refuses_long, wants_at_once}
use Rattle.cr_script.proofs.script.run_script.Goals.{in-Ok, in-Err-Limit, in-Err-Memory}
use Rattle.cr_script.proofs.script.run_script.Goals as goal

pub returns-clause-carries : goal.returns-clause-carries
returns-clause-carries g c = λ has names. elim c.match-tokens.branch [
  | in-Ok w ↦
      let short : 1000000 < length c.args.source.now → ⊥ = λ long. let q : c.tokens.result ≡ Err Limit = c.tokens.ensures.limit.1 long in let n : Ok w.in-Ok.tokens ≡ Err Limit = sym w.in-Ok.is ∙ q in let z : ⊥ = cc in z in
      let are : IsTokens c.args.source.now 0 w.deref.result.now = rw w.deref.ensures.value w.in-Ok.ensures.tokens in
      rw c.new.ensures (rw w.replies-is (rw w.refusal-is (rw w.executor-is (carries_whole _ _ _ _ _ _ has _ g.E.Executor.is_honest g.E.Executor.is_clean g.E.Executor.stands _ _ _ w.deref.result.now _ _ short are (w.turns-refusal.ensures.carries has names)))))
  | in-Err-Limit w ↦ rw c.new.ensures (rw w.replies-is (rw w.refusal-is (rw w.executor-is (rw c.new-replies.ensures.items (refuses_long _ _ _ _ _ _ has _ g.E.Executor.is_honest g.E.Executor.is_clean g.E.Executor.stands _ _ c.args.executor.now (c.tokens.ensures.limit.0 (w.in-Err-Limit.is ∙ ap Err w.in-Err-Limit.field-0-is)))))))
  | in-Err-Memory w ↦ rw c.new.ensures (rw w.replies-is (rw w.refusal-is (rw w.executor-is (rw c.new-replies.ensures.items (wants_at_once _ _ _ _ _ _ has _ g.E.Executor.is_honest g.E.Executor.is_clean g.E.Executor.stands _ _ c.args.executor.now)))))
]

pub returns-clause-heard : goal.returns-clause-heard
returns-clause-heard g c = λ has names. elim c.match-tokens.branch [
  | in-Ok w ↦
      let short : 1000000 < length c.args.source.now → ⊥ = λ long. let q : c.tokens.result ≡ Err Limit = c.tokens.ensures.limit.1 long in let n : Ok w.in-Ok.tokens ≡ Err Limit = sym w.in-Ok.is ∙ q in let z : ⊥ = cc in z in
      let are : IsTokens c.args.source.now 0 w.deref.result.now = rw w.deref.ensures.value w.in-Ok.ensures.tokens in
      rw c.new.ensures (rw w.replies-is (rw w.refusal-is (rw w.executor-is (rw w.guard-is (λ clean. heard_whole (g.F.Functions.function_of c.args.functions.now) (g.F.Functions.scalar c.args.functions.now) (g.F.Functions.step c.args.functions.now) (g.F.Functions.finish c.args.functions.now) (g.F.Functions.order_of c.args.functions.now) (g.F.Functions.orders_total c.args.functions.now) has (host_under (closures (g.G.Guarding.allows c.args.guard.now) (g.G.Guarding.refuses c.args.guard.now)) (g.G.Guarding.rules c.args.guard.now)) g.E.Executor.is_honest g.E.Executor.is_clean g.E.Executor.stands c.args.source.now c.args.executor.now c.args.executor.now (λ from to events. HasHeard g.G.Guarding.noted g.G.Guarding.noting from to events) _ _ w.deref.result.now _ _ short are (w.turns-refusal.ensures.heard has names clean))))))
  | in-Err-Limit w ↦ rw c.new.ensures (rw w.replies-is (rw w.refusal-is (rw w.executor-is (rw w.guard-is (rw c.new-replies.ensures.items (λ clean. refuses (spoken (g.F.Functions.function_of c.args.functions.now) (g.F.Functions.scalar c.args.functions.now) (g.F.Functions.step c.args.functions.now) (g.F.Functions.finish c.args.functions.now) (g.F.Functions.order_of c.args.functions.now) (g.F.Functions.orders_total c.args.functions.now) has) (host_under (closures (g.G.Guarding.allows c.args.guard.now) (g.G.Guarding.refuses c.args.guard.now)) (g.G.Guarding.rules c.args.guard.now)) (λ from to events. HasHeard g.G.Guarding.noted g.G.Guarding.noting from to events) _ _ _ _ _ (inr (refl, refl))))))))
  | in-Err-Memory w ↦ rw c.new.ensures (rw w.replies-is (rw w.refusal-is (rw w.executor-is (rw w.guard-is (rw c.new-replies.ensures.items (λ clean. refuses (spoken (g.F.Functions.function_of c.args.functions.now) (g.F.Functions.scalar c.args.functions.now) (g.F.Functions.step c.args.functions.now) (g.F.Functions.finish c.args.functions.now) (g.F.Functions.order_of c.args.functions.now) (g.F.Functions.orders_total c.args.functions.now) has) (host_under (closures (g.G.Guarding.allows c.args.guard.now) (g.G.Guarding.refuses c.args.guard.now)) (g.G.Guarding.rules c.args.guard.now)) (λ from to events. HasHeard g.G.Guarding.noted g.G.Guarding.noting from to events) _ _ _ _ _ (inl (inl refl))))))))
]
