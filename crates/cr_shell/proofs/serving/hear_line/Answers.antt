use Rattle.std.proofs.Common.{rules, ◌≡◌, ℕ, Bool, List}
use Rattle.cr_tree.specs.declared.statement.Statement.{Statement}
use Rattle.cr_meaning.specs.View.{Ordered}
use Rattle.cr_world.specs.Language.{Language}
use Rattle.cr_world.specs.World.{Closures}
use Rattle.cr_script.specs.Speaking.{closures, spoken}
use Rattle.cr_shell.specs.Serving.{AtLine}
use Rattle.cr_served.specs.Running.{watch}
use Rattle.cr_shell.specs.Running.{RanAs}
use Rattle.cr_shell.proofs.RanLaws.{RanLaws, laws_as}
use Rattle.cr_shell.proofs.ServeLemmas.{asked_of_kept, line_quits, line_heard}
use Rattle.cr_shell.proofs.serving.hear_line.Goals as goal

pub returns-then-not-hear-clause-hears : goal.returns-then-not-hear-clause-hears
returns-then-not-hear-clause-hears g c = λ b kept.
    let names : (List ℕ → Bool) → Type 0 = λ has. has ≡ g.F.Functions.names_function c.args.functions.now in
    let language : (List ℕ → Bool) → Language Statement Ordered = λ has. spoken (g.F.Functions.function_of c.args.functions.now) (g.F.Functions.scalar c.args.functions.now) (g.F.Functions.step c.args.functions.now) (g.F.Functions.finish c.args.functions.now) (g.F.Functions.order_of c.args.functions.now) (g.F.Functions.orders_total c.args.functions.now) has in
    let k : Closures = closures (g.G.Guarding.allows c.args.guard.now) (g.G.Guarding.refuses c.args.guard.now) in
    let laws : RanLaws (RanAs g.T.Served.ran names language k) = laws_as g.T.Served.ran g.met.T.Served.ran_none g.met.T.Served.ran_more names language k in
    line_quits g.W.Write.contents (RanAs g.T.Served.ran names language k) laws c.args.writer.now c.hear.new.writer (c.args.served.now, watch g.G.Guarding.rules g.G.Guarding.noted g.G.Guarding.noting c.args.guard.now, c.args.input.now.gathered) (c.hear.new.served, watch g.G.Guarding.rules g.G.Guarding.noted g.G.Guarding.noting c.hear.new.guard, c.hear.new.gathered) b c.hear.result (c.hear.ensures.hears (AtLine b) c.args.input.now.gathered (asked_of_kept c.ask-request.result c.args.input.now.line b c.args.input.now.gathered c.ask-request.new.self.gathered kept c.ask-request.ensures.value)) c.if-not-hear.true

pub returns-then-failed-clause-hears : goal.returns-then-failed-clause-hears
returns-then-failed-clause-hears g c = λ b kept.
    let names : (List ℕ → Bool) → Type 0 = λ has. has ≡ g.F.Functions.names_function c.args.functions.now in
    let language : (List ℕ → Bool) → Language Statement Ordered = λ has. spoken (g.F.Functions.function_of c.args.functions.now) (g.F.Functions.scalar c.args.functions.now) (g.F.Functions.step c.args.functions.now) (g.F.Functions.finish c.args.functions.now) (g.F.Functions.order_of c.args.functions.now) (g.F.Functions.orders_total c.args.functions.now) has in
    let k : Closures = closures (g.G.Guarding.allows c.args.guard.now) (g.G.Guarding.refuses c.args.guard.now) in
    let laws : RanLaws (RanAs g.T.Served.ran names language k) = laws_as g.T.Served.ran g.met.T.Served.ran_none g.met.T.Served.ran_more names language k in
    (line_heard g.W.Write.contents (RanAs g.T.Served.ran names language k) laws c.args.writer.now c.hear.new.writer (c.args.served.now, watch g.G.Guarding.rules g.G.Guarding.noted g.G.Guarding.noting c.args.guard.now, c.args.input.now.gathered) (c.hear.new.served, watch g.G.Guarding.rules g.G.Guarding.noted g.G.Guarding.noting c.hear.new.guard, c.hear.new.gathered) b c.hear.result (c.hear.ensures.hears (AtLine b) c.args.input.now.gathered (asked_of_kept c.ask-request.result c.args.input.now.line b c.args.input.now.gathered c.ask-request.new.self.gathered kept c.ask-request.ensures.value)) c.if-not-hear.false, search rules)

pub returns-clause-hears : goal.returns-clause-hears
returns-clause-hears g c = λ b kept.
    let names : (List ℕ → Bool) → Type 0 = λ has. has ≡ g.F.Functions.names_function c.args.functions.now in
    let language : (List ℕ → Bool) → Language Statement Ordered = λ has. spoken (g.F.Functions.function_of c.args.functions.now) (g.F.Functions.scalar c.args.functions.now) (g.F.Functions.step c.args.functions.now) (g.F.Functions.finish c.args.functions.now) (g.F.Functions.order_of c.args.functions.now) (g.F.Functions.orders_total c.args.functions.now) has in
    let k : Closures = closures (g.G.Guarding.allows c.args.guard.now) (g.G.Guarding.refuses c.args.guard.now) in
    let laws : RanLaws (RanAs g.T.Served.ran names language k) = laws_as g.T.Served.ran g.met.T.Served.ran_none g.met.T.Served.ran_more names language k in
    (line_heard g.W.Write.contents (RanAs g.T.Served.ran names language k) laws c.args.writer.now c.hear.new.writer (c.args.served.now, watch g.G.Guarding.rules g.G.Guarding.noted g.G.Guarding.noting c.args.guard.now, c.args.input.now.gathered) (c.hear.new.served, watch g.G.Guarding.rules g.G.Guarding.noted g.G.Guarding.noting c.hear.new.guard, c.hear.new.gathered) b c.hear.result (c.hear.ensures.hears (AtLine b) c.args.input.now.gathered (asked_of_kept c.ask-request.result c.args.input.now.line b c.args.input.now.gathered c.ask-request.new.self.gathered kept c.ask-request.ensures.value)) c.if-not-hear.false, search rules)
