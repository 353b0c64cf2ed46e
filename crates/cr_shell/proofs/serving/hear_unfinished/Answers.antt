use Rattle.std.proofs.Common.{◌≡◌, ℕ, Bool, List, subst}
use Rattle.cr_tree.specs.declared.statement.Statement.{Statement}
use Rattle.cr_meaning.specs.View.{Ordered}
use Rattle.cr_world.specs.Language.{Language}
use Rattle.cr_world.specs.World.{Closures}
use Rattle.cr_script.specs.Speaking.{closures, spoken}
use Rattle.cr_shell.specs.Serving.{IsEmpty}
use Rattle.cr_served.specs.Running.{watch}
use Rattle.cr_shell.specs.Running.{RanAs}
use Rattle.cr_shell.proofs.RanLaws.{RanLaws, laws_as}
use Rattle.cr_shell.proofs.ServeLemmas.{unfinished_heard, none_unfinished}
use Rattle.cr_shell.proofs.serving.hear_unfinished.Goals as goal

pub returns-then-is_empty-clause-hears : goal.returns-then-is_empty-clause-hears
returns-then-is_empty-clause-hears g c = λ b kept.
    let names : (List ℕ → Bool) → Type 0 = λ has. has ≡ g.F.Functions.names_function c.args.functions.now in
    let language : (List ℕ → Bool) → Language Statement Ordered = λ has. spoken (g.F.Functions.function_of c.args.functions.now) (g.F.Functions.scalar c.args.functions.now) (g.F.Functions.step c.args.functions.now) (g.F.Functions.finish c.args.functions.now) (g.F.Functions.order_of c.args.functions.now) (g.F.Functions.orders_total c.args.functions.now) has in
    let k : Closures = closures (g.G.Guarding.allows c.args.guard.now) (g.G.Guarding.refuses c.args.guard.now) in
    let laws : RanLaws (RanAs g.T.Served.ran names language k) = laws_as g.T.Served.ran g.met.T.Served.ran_none g.met.T.Served.ran_more names language k in
    none_unfinished g.W.Write.contents (RanAs g.T.Served.ran names language k) laws c.args.writer.now c.args.served.now (watch g.G.Guarding.rules g.G.Guarding.noted g.G.Guarding.noting c.args.guard.now) c.args.input.now.gathered b (subst (IsEmpty b) c.if-is_empty.true (c.is_empty.ensures b kept)) c.requires.writer

pub returns-clause-hears : goal.returns-clause-hears
returns-clause-hears g c = λ b kept.
    let names : (List ℕ → Bool) → Type 0 = λ has. has ≡ g.F.Functions.names_function c.args.functions.now in
    let language : (List ℕ → Bool) → Language Statement Ordered = λ has. spoken (g.F.Functions.function_of c.args.functions.now) (g.F.Functions.scalar c.args.functions.now) (g.F.Functions.step c.args.functions.now) (g.F.Functions.finish c.args.functions.now) (g.F.Functions.order_of c.args.functions.now) (g.F.Functions.orders_total c.args.functions.now) has in
    let k : Closures = closures (g.G.Guarding.allows c.args.guard.now) (g.G.Guarding.refuses c.args.guard.now) in
    let laws : RanLaws (RanAs g.T.Served.ran names language k) = laws_as g.T.Served.ran g.met.T.Served.ran_none g.met.T.Served.ran_more names language k in
    unfinished_heard g.W.Write.contents (RanAs g.T.Served.ran names language k) laws c.args.writer.now c.hear_line.new.writer (c.args.served.now, watch g.G.Guarding.rules g.G.Guarding.noted g.G.Guarding.noting c.args.guard.now, c.args.input.now.gathered) (c.hear_line.new.served, watch g.G.Guarding.rules g.G.Guarding.noted g.G.Guarding.noting c.hear_line.new.guard, c.hear_line.new.input.gathered) b c.hear_line.result (subst (IsEmpty b) c.if-is_empty.false (c.is_empty.ensures b kept)) (c.hear_line.ensures.hears b kept)
