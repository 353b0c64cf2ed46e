use Rattle.std.proofs.Common.{rules, ◌≡◌, ℕ, Bool, List, subst}
use Rattle.cr_tree.specs.declared.statement.Statement.{Statement}
use Rattle.cr_meaning.specs.View.{Ordered}
use Rattle.cr_world.specs.Language.{Language}
use Rattle.cr_world.specs.World.{Closures}
use Rattle.cr_script.specs.Speaking.{closures, spoken}
use Rattle.cr_shell.specs.Serving.{AtEnd, Hears}
use Rattle.cr_served.specs.Running.{watch}
use Rattle.cr_shell.specs.Running.{RanAs}
use Rattle.cr_shell.proofs.RanLaws.{RanLaws, laws_as}
use Rattle.cr_shell.proofs.ServeLemmas.{end_heard, ends_input, ends_failed, ends_at_line, ends_by_quit}
use Rattle.cr_shell.proofs.serving.hear_last.Goals as goal

pub returns-in-Quits-clause-ends : goal.returns-in-Quits-clause-ends
returns-in-Quits-clause-ends g c = λ b kept.
    let names : (List ℕ → Bool) → Type 0 = λ has. has ≡ g.F.Functions.names_function c.args.functions.now in
    let language : (List ℕ → Bool) → Language Statement Ordered = λ has. spoken (g.F.Functions.function_of c.args.functions.now) (g.F.Functions.scalar c.args.functions.now) (g.F.Functions.step c.args.functions.now) (g.F.Functions.finish c.args.functions.now) (g.F.Functions.order_of c.args.functions.now) (g.F.Functions.orders_total c.args.functions.now) has in
    let k : Closures = closures (g.G.Guarding.allows c.args.guard.now) (g.G.Guarding.refuses c.args.guard.now) in
    let laws : RanLaws (RanAs g.T.Served.ran names language k) = laws_as g.T.Served.ran g.met.T.Served.ran_none g.met.T.Served.ran_more names language k in
    ends_by_quit g.W.Write.contents (RanAs g.T.Served.ran names language k) laws c.args.writer.now c.hear_unfinished.new.writer (c.args.served.now, watch g.G.Guarding.rules g.G.Guarding.noted g.G.Guarding.noting c.args.guard.now, c.args.input.now.gathered) (c.hear_unfinished.new.served, watch g.G.Guarding.rules g.G.Guarding.noted g.G.Guarding.noting c.hear_unfinished.new.guard, c.hear_unfinished.new.input.gathered) b (c.in-Quits.ensures.hears b kept)

pub returns-in-Fails-clause-ends : goal.returns-in-Fails-clause-ends
returns-in-Fails-clause-ends g c = λ b kept.
    let names : (List ℕ → Bool) → Type 0 = λ has. has ≡ g.F.Functions.names_function c.args.functions.now in
    let language : (List ℕ → Bool) → Language Statement Ordered = λ has. spoken (g.F.Functions.function_of c.args.functions.now) (g.F.Functions.scalar c.args.functions.now) (g.F.Functions.step c.args.functions.now) (g.F.Functions.finish c.args.functions.now) (g.F.Functions.order_of c.args.functions.now) (g.F.Functions.orders_total c.args.functions.now) has in
    let k : Closures = closures (g.G.Guarding.allows c.args.guard.now) (g.G.Guarding.refuses c.args.guard.now) in
    let laws : RanLaws (RanAs g.T.Served.ran names language k) = laws_as g.T.Served.ran g.met.T.Served.ran_none g.met.T.Served.ran_more names language k in
    ends_at_line g.W.Write.contents (RanAs g.T.Served.ran names language k) laws c.args.writer.now c.hear_unfinished.new.writer (c.args.served.now, watch g.G.Guarding.rules g.G.Guarding.noted g.G.Guarding.noting c.args.guard.now, c.args.input.now.gathered) (c.hear_unfinished.new.served, watch g.G.Guarding.rules g.G.Guarding.noted g.G.Guarding.noting c.hear_unfinished.new.guard, c.hear_unfinished.new.input.gathered) b (c.in-Fails.ensures.hears b kept)

pub returns-then-failed-clause-ends : goal.returns-then-failed-clause-ends
returns-then-failed-clause-ends g c = λ b kept.
    let names : (List ℕ → Bool) → Type 0 = λ has. has ≡ g.F.Functions.names_function c.args.functions.now in
    let language : (List ℕ → Bool) → Language Statement Ordered = λ has. spoken (g.F.Functions.function_of c.args.functions.now) (g.F.Functions.scalar c.args.functions.now) (g.F.Functions.step c.args.functions.now) (g.F.Functions.finish c.args.functions.now) (g.F.Functions.order_of c.args.functions.now) (g.F.Functions.orders_total c.args.functions.now) has in
    let k : Closures = closures (g.G.Guarding.allows c.args.guard.now) (g.G.Guarding.refuses c.args.guard.now) in
    let laws : RanLaws (RanAs g.T.Served.ran names language k) = laws_as g.T.Served.ran g.met.T.Served.ran_none g.met.T.Served.ran_more names language k in
    let heard = end_heard g.W.Write.contents (RanAs g.T.Served.ran names language k) laws c.hear_unfinished.new.writer c.hear.new.writer (c.hear_unfinished.new.served, watch g.G.Guarding.rules g.G.Guarding.noted g.G.Guarding.noting c.hear_unfinished.new.guard, c.hear_unfinished.new.input.gathered) (c.hear.new.served, watch g.G.Guarding.rules g.G.Guarding.noted g.G.Guarding.noting c.hear.new.guard, c.hear.new.gathered) c.hear.result
    (subst (λ (x : Closures). Hears g.W.Write.contents (RanAs g.T.Served.ran names language x) c.hear_unfinished.new.writer c.hear.new.writer (c.hear_unfinished.new.served, watch g.G.Guarding.rules g.G.Guarding.noted g.G.Guarding.noting c.hear_unfinished.new.guard, c.hear_unfinished.new.input.gathered) (c.hear.new.served, watch g.G.Guarding.rules g.G.Guarding.noted g.G.Guarding.noting c.hear.new.guard, c.hear.new.gathered) AtEnd c.hear.result) c.hear_unfinished.ensures.closures (c.hear.ensures.hears AtEnd c.hear_unfinished.new.input.gathered c.ask_rest-request.ensures.value)) in
    ends_failed g.W.Write.contents (RanAs g.T.Served.ran names language k) laws c.args.writer.now c.hear_unfinished.new.writer c.hear.new.writer (c.args.served.now, watch g.G.Guarding.rules g.G.Guarding.noted g.G.Guarding.noting c.args.guard.now, c.args.input.now.gathered) (c.hear_unfinished.new.served, watch g.G.Guarding.rules g.G.Guarding.noted g.G.Guarding.noting c.hear_unfinished.new.guard, c.hear_unfinished.new.input.gathered) (c.hear.new.served, watch g.G.Guarding.rules g.G.Guarding.noted g.G.Guarding.noting c.hear.new.guard, c.hear.new.gathered) b (c.in-Goes.ensures.hears b kept) heard (search rules)

pub returns-clause-ends : goal.returns-clause-ends
returns-clause-ends g c = λ b kept.
    let names : (List ℕ → Bool) → Type 0 = λ has. has ≡ g.F.Functions.names_function c.args.functions.now in
    let language : (List ℕ → Bool) → Language Statement Ordered = λ has. spoken (g.F.Functions.function_of c.args.functions.now) (g.F.Functions.scalar c.args.functions.now) (g.F.Functions.step c.args.functions.now) (g.F.Functions.finish c.args.functions.now) (g.F.Functions.order_of c.args.functions.now) (g.F.Functions.orders_total c.args.functions.now) has in
    let k : Closures = closures (g.G.Guarding.allows c.args.guard.now) (g.G.Guarding.refuses c.args.guard.now) in
    let laws : RanLaws (RanAs g.T.Served.ran names language k) = laws_as g.T.Served.ran g.met.T.Served.ran_none g.met.T.Served.ran_more names language k in
    let heard = end_heard g.W.Write.contents (RanAs g.T.Served.ran names language k) laws c.hear_unfinished.new.writer c.hear.new.writer (c.hear_unfinished.new.served, watch g.G.Guarding.rules g.G.Guarding.noted g.G.Guarding.noting c.hear_unfinished.new.guard, c.hear_unfinished.new.input.gathered) (c.hear.new.served, watch g.G.Guarding.rules g.G.Guarding.noted g.G.Guarding.noting c.hear.new.guard, c.hear.new.gathered) c.hear.result
    (subst (λ (x : Closures). Hears g.W.Write.contents (RanAs g.T.Served.ran names language x) c.hear_unfinished.new.writer c.hear.new.writer (c.hear_unfinished.new.served, watch g.G.Guarding.rules g.G.Guarding.noted g.G.Guarding.noting c.hear_unfinished.new.guard, c.hear_unfinished.new.input.gathered) (c.hear.new.served, watch g.G.Guarding.rules g.G.Guarding.noted g.G.Guarding.noting c.hear.new.guard, c.hear.new.gathered) AtEnd c.hear.result) c.hear_unfinished.ensures.closures (c.hear.ensures.hears AtEnd c.hear_unfinished.new.input.gathered c.ask_rest-request.ensures.value)) in
    ends_input g.W.Write.contents (RanAs g.T.Served.ran names language k) laws c.args.writer.now c.hear_unfinished.new.writer c.hear.new.writer (c.args.served.now, watch g.G.Guarding.rules g.G.Guarding.noted g.G.Guarding.noting c.args.guard.now, c.args.input.now.gathered) (c.hear_unfinished.new.served, watch g.G.Guarding.rules g.G.Guarding.noted g.G.Guarding.noting c.hear_unfinished.new.guard, c.hear_unfinished.new.input.gathered) (c.hear.new.served, watch g.G.Guarding.rules g.G.Guarding.noted g.G.Guarding.noting c.hear.new.guard, c.hear.new.gathered) b (c.in-Goes.ensures.hears b kept) heard (search rules)
