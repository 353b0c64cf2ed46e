use Rattle.std.proofs.Common.{rules, ◌≡◌, ◌++◌, List, [], ◌∷◌, ap, subst, ◌∙◌, arith, take, get_or}
use Rattle.std.proofs.lemmas.List.{take_more, take_all}
use Rattle.cr_world.specs.declared.command.Command.{Command}
use Rattle.cr_world.specs.World.{Closures}
use Rattle.cr_world.specs.Run.{Run, world_after}
use Rattle.cr_world.proofs.Running.{rows_converge}
use Rattle.cr_world.specs.Language.{Language}
use Rattle.cr_fleet.specs.Fleets.{Steps, Shows}
use Rattle.cr_fleet.specs.Between.{Between}
use Rattle.cr_fleet.specs.Hearing.{HearsRun, HearsStep}
use Rattle.cr_fleet.specs.Running.{InTurn, IsStep}
use Rattle.cr_script.specs.Speaking.{closures, HasHeard}
use Rattle.cr_session.specs.Sessions.{clean, honest, standing}
use Rattle.cr_tree.specs.declared.statement.Statement.{Statement}
use Rattle.cr_meaning.specs.View.{Ordered}
use Rattle.cr_script.specs.Speaking.{spoken}
use Rattle.cr_fleet.proofs.Converging.{spoken_converges}
use Rattle.cr_fleet.proofs.Hearing.{hears_on}
use Rattle.cr_fleet.proofs.Running.{goes_on, clean_after_run, answered_more, turns_on}
use Rattle.cr_fleet.proofs.fleet.Fleet.run.Goals as goal

pub loop-command-preserved : goal.loop-command-preserved
loop-command-preserved g c =
    let k : Closures = closures (g.G.Guarding.allows c.args.guard.now) (g.G.Guarding.refuses c.args.guard.now) in
    let told : c.push.new.self.items ≡ c.loop-command.replies.items ++ c.step-reply.result ∷ [] = search rules in
    let item : get_or c.args.commands.now c.loop-command.command-index c.command-item.result ≡ c.command-item.result = search rules in
    let i = c.loop-command.invariant in
    let s = c.step-reply.ensures in
    record {
      was_clean = λ has names clean. i.was_clean has names ((s.steps has names).was_clean clean);
      stays_clean = λ has names clean answered.
          let both = answered_more c.loop-command.replies.items c.push.new.self.items c.step-reply.result told answered in
          (s.steps has names).stays_clean (i.stays_clean has names clean both.0) both.1;
      ran = λ has names.
          let l : Language Statement Ordered = spoken (g.F.Functions.function_of c.args.functions.now) (g.F.Functions.scalar c.args.functions.now) (g.F.Functions.step c.args.functions.now) (g.F.Functions.finish c.args.functions.now) (g.F.Functions.order_of c.args.functions.now) (g.F.Functions.orders_total c.args.functions.now) has in
          goes_on l k (clean g.C.Cells.is_clean) (standing g.C.Cells.holding) _ _ _ _ c.loop-command.self c.step-reply.new.self _ _ _ _ _ c.step-reply.result
          (take_more c.args.commands.now c.loop-command.command-index c.command-item.result c.loop-command-test.true ∙ ap (λ (x : Command). take c.loop-command.command-index c.args.commands.now ++ x ∷ []) item) told (i.ran has names)
          (subst (λ (x : Closures). Steps l x (clean g.C.Cells.is_clean) (standing g.C.Cells.holding) (g.G.Guarding.rules c.loop-command.guard) c.loop-command.self c.command-item.result c.step-reply.result (g.G.Guarding.rules c.step-reply.new.guard) c.step-reply.new.self) i.closures (s.steps has names));
      heard = λ has names.
          let l : Language Statement Ordered = spoken (g.F.Functions.function_of c.args.functions.now) (g.F.Functions.scalar c.args.functions.now) (g.F.Functions.step c.args.functions.now) (g.F.Functions.finish c.args.functions.now) (g.F.Functions.order_of c.args.functions.now) (g.F.Functions.orders_total c.args.functions.now) has in
          hears_on l k (λ from to events. HasHeard g.G.Guarding.noted g.G.Guarding.noting from to events) (clean g.C.Cells.is_clean) (standing g.C.Cells.holding) _ _ _ c.loop-command.self c.step-reply.new.self _ _ _ _ _ c.step-reply.result _ _ _
          (take_more c.args.commands.now c.loop-command.command-index c.command-item.result c.loop-command-test.true ∙ ap (λ (x : Command). take c.loop-command.command-index c.args.commands.now ++ x ∷ []) item) told (s.steps has names).was_clean (i.ran has names) (i.heard has names)
          (subst (λ (x : Closures). HearsStep l x (λ from to events. HasHeard g.G.Guarding.noted g.G.Guarding.noting from to events) (clean g.C.Cells.is_clean) (standing g.C.Cells.holding) c.loop-command.guard (g.G.Guarding.rules c.loop-command.guard) c.loop-command.self c.command-item.result c.step-reply.result c.step-reply.new.self c.step-reply.new.guard) i.closures (s.heard has names));
      steps = λ has names.
          let l : Language Statement Ordered = spoken (g.F.Functions.function_of c.args.functions.now) (g.F.Functions.scalar c.args.functions.now) (g.F.Functions.step c.args.functions.now) (g.F.Functions.finish c.args.functions.now) (g.F.Functions.order_of c.args.functions.now) (g.F.Functions.orders_total c.args.functions.now) has in
          turns_on (IsStep l k (λ from to events. HasHeard g.G.Guarding.noted g.G.Guarding.noting from to events) (honest g.C.Cells.is_honest) (clean g.C.Cells.is_clean) (standing g.C.Cells.holding) g.G.Guarding.rules) _ (c.loop-command.self, c.loop-command.guard) (c.step-reply.new.self, c.step-reply.new.guard) _ _ _ _ c.command-item.result c.step-reply.result
          (take_more c.args.commands.now c.loop-command.command-index c.command-item.result c.loop-command-test.true ∙ ap (λ (x : Command). take c.loop-command.command-index c.args.commands.now ++ x ∷ []) item) told (i.steps has names) (record {
            steps = subst (λ (x : Closures). Steps l x (clean g.C.Cells.is_clean) (standing g.C.Cells.holding) (g.G.Guarding.rules c.loop-command.guard) c.loop-command.self c.command-item.result c.step-reply.result (g.G.Guarding.rules c.step-reply.new.guard) c.step-reply.new.self) i.closures (s.steps has names);
            heard = subst (λ (x : Closures). HearsStep l x (λ from to events. HasHeard g.G.Guarding.noted g.G.Guarding.noting from to events) (clean g.C.Cells.is_clean) (standing g.C.Cells.holding) c.loop-command.guard (g.G.Guarding.rules c.loop-command.guard) c.loop-command.self c.command-item.result c.step-reply.result c.step-reply.new.self c.step-reply.new.guard) i.closures (s.heard has names);
            between = subst (λ (x : Closures). Between x (λ from to events. HasHeard g.G.Guarding.noted g.G.Guarding.noting from to events) (honest g.C.Cells.is_honest) (clean g.C.Cells.is_clean) (standing g.C.Cells.holding) c.loop-command.guard (g.G.Guarding.rules c.loop-command.guard) c.loop-command.self c.step-reply.result c.step-reply.new.self c.step-reply.new.guard l c.command-item.result) i.closures (s.between has names);
            policy = s.rules;
          });
      closures = s.closures ∙ i.closures;
      noting = s.noting ∙ i.noting;
      faithful = s.faithful;
      count = search rules;
      room = search rules;
    }

pub returns-clause-converges : goal.returns-clause-converges
returns-clause-converges g c = λ has names harm w s.
    let l : Language Statement Ordered = spoken (g.F.Functions.function_of c.args.functions.now) (g.F.Functions.scalar c.args.functions.now) (g.F.Functions.step c.args.functions.now) (g.F.Functions.finish c.args.functions.now) (g.F.Functions.order_of c.args.functions.now) (g.F.Functions.orders_total c.args.functions.now) has in
    let k : Closures = closures (g.G.Guarding.allows c.args.guard.now) (g.G.Guarding.refuses c.args.guard.now) in
    let all : take c.loop-command.command-index c.args.commands.now ≡ c.args.commands.now = take_all _ _ (omega arith) in
    let unharmed = clean_after_run (clean g.C.Cells.is_clean) c.args.self.now c.loop-command.self c.loop-command.replies.items (c.loop-command.invariant.stays_clean has names) harm in
    rows_converge l k w _ _ (subst (λ (x : List Command). Run l k w x c.loop-command.replies.items) all (c.loop-command.invariant.ran has names unharmed w s).0)

pub returns-clause-selects_converge : goal.returns-clause-selects_converge
returns-clause-selects_converge g c = λ has names harm w s.
    let l : Language Statement Ordered = spoken (g.F.Functions.function_of c.args.functions.now) (g.F.Functions.scalar c.args.functions.now) (g.F.Functions.step c.args.functions.now) (g.F.Functions.finish c.args.functions.now) (g.F.Functions.order_of c.args.functions.now) (g.F.Functions.orders_total c.args.functions.now) has in
    let k : Closures = closures (g.G.Guarding.allows c.args.guard.now) (g.G.Guarding.refuses c.args.guard.now) in
    let all : take c.loop-command.command-index c.args.commands.now ≡ c.args.commands.now = take_all _ _ (omega arith) in
    let unharmed = clean_after_run (clean g.C.Cells.is_clean) c.args.self.now c.loop-command.self c.loop-command.replies.items (c.loop-command.invariant.stays_clean has names) harm in
    spoken_converges _ _ _ _ _ _ has k w _ _ (subst (λ (x : List Command). Run l k w x c.loop-command.replies.items) all (c.loop-command.invariant.ran has names unharmed w s).0)

pub returns-clause-runs : goal.returns-clause-runs
returns-clause-runs g c = λ has names harm w s.
    let l : Language Statement Ordered = spoken (g.F.Functions.function_of c.args.functions.now) (g.F.Functions.scalar c.args.functions.now) (g.F.Functions.step c.args.functions.now) (g.F.Functions.finish c.args.functions.now) (g.F.Functions.order_of c.args.functions.now) (g.F.Functions.orders_total c.args.functions.now) has in
    let k : Closures = closures (g.G.Guarding.allows c.args.guard.now) (g.G.Guarding.refuses c.args.guard.now) in
    let all : take c.loop-command.command-index c.args.commands.now ≡ c.args.commands.now = take_all _ _ (omega arith) in
    let unharmed = clean_after_run (clean g.C.Cells.is_clean) c.args.self.now c.loop-command.self c.loop-command.replies.items (c.loop-command.invariant.stays_clean has names) harm in
    subst (λ (x : List Command). Run l k w x c.loop-command.replies.items × Shows (standing g.C.Cells.holding) (world_after l k w x c.loop-command.replies.items) (g.G.Guarding.rules c.loop-command.guard) c.loop-command.self) all
    (c.loop-command.invariant.ran has names unharmed w s)

pub returns-clause-heard : goal.returns-clause-heard
returns-clause-heard g c = λ has names harm w s.
    let l : Language Statement Ordered = spoken (g.F.Functions.function_of c.args.functions.now) (g.F.Functions.scalar c.args.functions.now) (g.F.Functions.step c.args.functions.now) (g.F.Functions.finish c.args.functions.now) (g.F.Functions.order_of c.args.functions.now) (g.F.Functions.orders_total c.args.functions.now) has in
    let k : Closures = closures (g.G.Guarding.allows c.args.guard.now) (g.G.Guarding.refuses c.args.guard.now) in
    let all : take c.loop-command.command-index c.args.commands.now ≡ c.args.commands.now = take_all _ _ (omega arith) in
    let unharmed = clean_after_run (clean g.C.Cells.is_clean) c.args.self.now c.loop-command.self c.loop-command.replies.items (c.loop-command.invariant.stays_clean has names) harm in
    subst (λ (x : List Command). HearsRun l k (λ from to events. HasHeard g.G.Guarding.noted g.G.Guarding.noting from to events) c.args.guard.now w x c.loop-command.replies.items c.loop-command.guard) all
    (c.loop-command.invariant.heard has names unharmed w s)

pub returns-clause-steps : goal.returns-clause-steps
returns-clause-steps g c = λ has names.
    let l : Language Statement Ordered = spoken (g.F.Functions.function_of c.args.functions.now) (g.F.Functions.scalar c.args.functions.now) (g.F.Functions.step c.args.functions.now) (g.F.Functions.finish c.args.functions.now) (g.F.Functions.order_of c.args.functions.now) (g.F.Functions.orders_total c.args.functions.now) has in
    let k : Closures = closures (g.G.Guarding.allows c.args.guard.now) (g.G.Guarding.refuses c.args.guard.now) in
    let all : take c.loop-command.command-index c.args.commands.now ≡ c.args.commands.now = take_all _ _ (omega arith) in
    subst (λ (x : List Command). InTurn (IsStep l k (λ from to events. HasHeard g.G.Guarding.noted g.G.Guarding.noting from to events) (honest g.C.Cells.is_honest) (clean g.C.Cells.is_clean) (standing g.C.Cells.holding) g.G.Guarding.rules) (c.args.self.now, c.args.guard.now) x c.loop-command.replies.items (c.loop-command.self, c.loop-command.guard)) all
    (c.loop-command.invariant.steps has names)
