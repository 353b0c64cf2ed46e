use Rattle.std.proofs.Common.{◌≡◌, ℕ, Bool, List, refl}
use Rattle.cr_tree.specs.declared.statement.Statement.{Statement}
use Rattle.cr_meaning.specs.View.{Ordered}
use Rattle.cr_world.specs.Language.{Language}
use Rattle.cr_world.specs.World.{Closures}
use Rattle.cr_script.specs.Speaking.{closures, spoken}
use Rattle.cr_served.specs.Running.{watch}
use Rattle.cr_shell.specs.Running.{RanAs}
use Rattle.cr_shell.proofs.RanLaws.{RanLaws, laws_as}
use Rattle.cr_shell.proofs.ServeLemmas.{heard_one}
use Rattle.cr_shell.proofs.serving.hear.Goals as goal

pub returns-in-Some-clause-hears : goal.returns-in-Some-clause-hears
returns-in-Some-clause-hears g c = λ entry before told.
    let names : (List ℕ → Bool) → Type 0 = λ has. has ≡ g.F.Functions.names_function c.args.functions.now in
    let language : (List ℕ → Bool) → Language Statement Ordered = λ has. spoken (g.F.Functions.function_of c.args.functions.now) (g.F.Functions.scalar c.args.functions.now) (g.F.Functions.step c.args.functions.now) (g.F.Functions.finish c.args.functions.now) (g.F.Functions.order_of c.args.functions.now) (g.F.Functions.orders_total c.args.functions.now) has in
    let k : Closures = closures (g.G.Guarding.allows c.args.guard.now) (g.G.Guarding.refuses c.args.guard.now) in
    let laws : RanLaws (RanAs g.T.Served.ran names language k) = laws_as g.T.Served.ran g.met.T.Served.ran_none g.met.T.Served.ran_more names language k in
    heard_one g.W.Write.contents (RanAs g.T.Served.ran names language k) laws c.args.writer.now c.print_answer.new.writer (c.args.served.now, (watch g.G.Guarding.rules g.G.Guarding.noted g.G.Guarding.noting c.args.guard.now), before) (c.answer.new.served, (watch g.G.Guarding.rules g.G.Guarding.noted g.G.Guarding.noting c.answer.new.guard), c.answer.new.gathered) entry c.in-Some.answered (c.in-Some.ensures.replies entry before told) c.print_answer.ensures

pub returns-in-None-clause-hears : goal.returns-in-None-clause-hears
returns-in-None-clause-hears g c = λ entry before told. (c.in-None.ensures.replies entry before told, refl)
