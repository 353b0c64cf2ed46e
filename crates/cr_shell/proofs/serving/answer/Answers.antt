use Rattle.std.proofs.Common.{rules, ◌≡◌, ℕ, Bool, List, refl}
use Rattle.cr_tree.specs.declared.statement.Statement.{Statement}
use Rattle.cr_meaning.specs.View.{Ordered}
use Rattle.cr_world.specs.Language.{Language}
use Rattle.cr_world.specs.World.{Closures}
use Rattle.cr_script.specs.Speaking.{closures, spoken}
use Rattle.cr_shell.specs.declared.asking.Asked.TheVariants.{Nothing, Quit, NoCommand, TooLong, Asks}
use Rattle.cr_served.specs.Running.{watch}
use Rattle.cr_shell.specs.Running.{RanAs}
use Rattle.cr_shell.proofs.RanLaws.{RanLaws, laws_as}
use Rattle.cr_shell.proofs.ServeLemmas.{told_ok, quit_asked, stepped, unasked, forgotten}
use Rattle.cr_shell.proofs.serving.answer.Goals as goal

pub returns-in-Ok-Nothing-clause-replies : goal.returns-in-Ok-Nothing-clause-replies
returns-in-Ok-Nothing-clause-replies g c = λ entry before told.
    let names : (List ℕ → Bool) → Type 0 = λ has. has ≡ g.F.Functions.names_function c.args.functions.now in
    let language : (List ℕ → Bool) → Language Statement Ordered = λ has. spoken (g.F.Functions.function_of c.args.functions.now) (g.F.Functions.scalar c.args.functions.now) (g.F.Functions.step c.args.functions.now) (g.F.Functions.finish c.args.functions.now) (g.F.Functions.order_of c.args.functions.now) (g.F.Functions.orders_total c.args.functions.now) has in
    let k : Closures = closures (g.G.Guarding.allows c.args.guard.now) (g.G.Guarding.refuses c.args.guard.now) in
    let laws : RanLaws (RanAs g.T.Served.ran names language k) = laws_as g.T.Served.ran g.met.T.Served.ran_none g.met.T.Served.ran_more names language k in
    unasked (RanAs g.T.Served.ran names language k) laws c.args.served.now (watch g.G.Guarding.rules g.G.Guarding.noted g.G.Guarding.noting c.args.guard.now) before c.args.gathered.now entry Nothing _ refl (told_ok c.args.request Nothing c.args.gathered.now before entry (search rules) told)

pub returns-in-Ok-NoCommand-clause-replies : goal.returns-in-Ok-NoCommand-clause-replies
returns-in-Ok-NoCommand-clause-replies g c = λ entry before told.
    let names : (List ℕ → Bool) → Type 0 = λ has. has ≡ g.F.Functions.names_function c.args.functions.now in
    let language : (List ℕ → Bool) → Language Statement Ordered = λ has. spoken (g.F.Functions.function_of c.args.functions.now) (g.F.Functions.scalar c.args.functions.now) (g.F.Functions.step c.args.functions.now) (g.F.Functions.finish c.args.functions.now) (g.F.Functions.order_of c.args.functions.now) (g.F.Functions.orders_total c.args.functions.now) has in
    let k : Closures = closures (g.G.Guarding.allows c.args.guard.now) (g.G.Guarding.refuses c.args.guard.now) in
    let laws : RanLaws (RanAs g.T.Served.ran names language k) = laws_as g.T.Served.ran g.met.T.Served.ran_none g.met.T.Served.ran_more names language k in
    unasked (RanAs g.T.Served.ran names language k) laws c.args.served.now (watch g.G.Guarding.rules g.G.Guarding.noted g.G.Guarding.noting c.args.guard.now) before c.args.gathered.now entry NoCommand _ refl (told_ok c.args.request NoCommand c.args.gathered.now before entry (search rules) told)

pub returns-in-Ok-TooLong-clause-replies : goal.returns-in-Ok-TooLong-clause-replies
returns-in-Ok-TooLong-clause-replies g c = λ entry before told.
    let names : (List ℕ → Bool) → Type 0 = λ has. has ≡ g.F.Functions.names_function c.args.functions.now in
    let language : (List ℕ → Bool) → Language Statement Ordered = λ has. spoken (g.F.Functions.function_of c.args.functions.now) (g.F.Functions.scalar c.args.functions.now) (g.F.Functions.step c.args.functions.now) (g.F.Functions.finish c.args.functions.now) (g.F.Functions.order_of c.args.functions.now) (g.F.Functions.orders_total c.args.functions.now) has in
    let k : Closures = closures (g.G.Guarding.allows c.args.guard.now) (g.G.Guarding.refuses c.args.guard.now) in
    let laws : RanLaws (RanAs g.T.Served.ran names language k) = laws_as g.T.Served.ran g.met.T.Served.ran_none g.met.T.Served.ran_more names language k in
    unasked (RanAs g.T.Served.ran names language k) laws c.args.served.now (watch g.G.Guarding.rules g.G.Guarding.noted g.G.Guarding.noting c.args.guard.now) before c.args.gathered.now entry TooLong _ refl (told_ok c.args.request TooLong c.args.gathered.now before entry (search rules) told)

pub returns-in-Ok-Quit-clause-replies : goal.returns-in-Ok-Quit-clause-replies
returns-in-Ok-Quit-clause-replies g c = λ entry before told.
    let names : (List ℕ → Bool) → Type 0 = λ has. has ≡ g.F.Functions.names_function c.args.functions.now in
    let language : (List ℕ → Bool) → Language Statement Ordered = λ has. spoken (g.F.Functions.function_of c.args.functions.now) (g.F.Functions.scalar c.args.functions.now) (g.F.Functions.step c.args.functions.now) (g.F.Functions.finish c.args.functions.now) (g.F.Functions.order_of c.args.functions.now) (g.F.Functions.orders_total c.args.functions.now) has in
    let k : Closures = closures (g.G.Guarding.allows c.args.guard.now) (g.G.Guarding.refuses c.args.guard.now) in
    let laws : RanLaws (RanAs g.T.Served.ran names language k) = laws_as g.T.Served.ran g.met.T.Served.ran_none g.met.T.Served.ran_more names language k in
    quit_asked (RanAs g.T.Served.ran names language k) laws c.args.served.now (watch g.G.Guarding.rules g.G.Guarding.noted g.G.Guarding.noting c.args.guard.now) before c.args.gathered.now entry (told_ok c.args.request Quit c.args.gathered.now before entry (search rules) told)

pub returns-in-Ok-Asks-clause-replies : goal.returns-in-Ok-Asks-clause-replies
returns-in-Ok-Asks-clause-replies g c = λ entry before told.
    let names : (List ℕ → Bool) → Type 0 = λ has. has ≡ g.F.Functions.names_function c.args.functions.now in
    let language : (List ℕ → Bool) → Language Statement Ordered = λ has. spoken (g.F.Functions.function_of c.args.functions.now) (g.F.Functions.scalar c.args.functions.now) (g.F.Functions.step c.args.functions.now) (g.F.Functions.finish c.args.functions.now) (g.F.Functions.order_of c.args.functions.now) (g.F.Functions.orders_total c.args.functions.now) has in
    let k : Closures = closures (g.G.Guarding.allows c.args.guard.now) (g.G.Guarding.refuses c.args.guard.now) in
    let laws : RanLaws (RanAs g.T.Served.ran names language k) = laws_as g.T.Served.ran g.met.T.Served.ran_none g.met.T.Served.ran_more names language k in
    stepped (RanAs g.T.Served.ran names language k) laws c.args.served.now c.carry_out-reply.new.self (watch g.G.Guarding.rules g.G.Guarding.noted g.G.Guarding.noting c.args.guard.now) (watch g.G.Guarding.rules g.G.Guarding.noted g.G.Guarding.noting c.carry_out-reply.new.guard) before c.args.gathered.now entry c.in-Ok-Asks.command c.carry_out-reply.result (told_ok c.args.request (Asks c.in-Ok-Asks.command) c.args.gathered.now before entry (search rules) told) c.carry_out-reply.ensures.ran

pub returns-in-Err-clause-replies : goal.returns-in-Err-clause-replies
returns-in-Err-clause-replies g c = λ entry before told.
    let names : (List ℕ → Bool) → Type 0 = λ has. has ≡ g.F.Functions.names_function c.args.functions.now in
    let language : (List ℕ → Bool) → Language Statement Ordered = λ has. spoken (g.F.Functions.function_of c.args.functions.now) (g.F.Functions.scalar c.args.functions.now) (g.F.Functions.step c.args.functions.now) (g.F.Functions.finish c.args.functions.now) (g.F.Functions.order_of c.args.functions.now) (g.F.Functions.orders_total c.args.functions.now) has in
    let k : Closures = closures (g.G.Guarding.allows c.args.guard.now) (g.G.Guarding.refuses c.args.guard.now) in
    let laws : RanLaws (RanAs g.T.Served.ran names language k) = laws_as g.T.Served.ran g.met.T.Served.ran_none g.met.T.Served.ran_more names language k in
    forgotten (RanAs g.T.Served.ran names language k) laws c.args.served.now (watch g.G.Guarding.rules g.G.Guarding.noted g.G.Guarding.noting c.args.guard.now) before c.clear.new.self entry c.clear.ensures
