use Rattle.std.proofs.Common.{◌≡◌, ◌∙◌, true, false, List, ℕ, map, sym, ap}
use Rattle.std.specs.Prelude.{is_some}
use Rattle.cr_world.specs.Language.{Language}
use Rattle.cr_world.specs.State.{ModuleState}
use Rattle.cr_meaning.specs.View.{Ordered}
use Rattle.cr_tree.specs.declared.statement.Statement.{Statement}
use Rattle.cr_modules.specs.States.{made, module_in}
use Rattle.cr_script.specs.Speaking.{spoken}
use Rattle.cr_session.specs.Sessions.{standing}
use Rattle.cr_hosted.proofs.Defining.{done_beside, left_beside, told}
use Rattle.cr_hosted.proofs.session.HostedSession.define.Goals as goal

pub returns-then-has-clause-does : goal.returns-then-has-clause-does
returns-then-has-clause-does g c = λ has host.
    let ms : List ModuleState = map (λ r. made r.name (g.M.Module.columns_of r.host) (g.M.Module.rows_of r.host) (g.M.Module.updated r.host)) c.args.self.now.modules.list.items in
    let l : Language Statement Ordered = spoken (g.F.Functions.function_of c.args.functions.now) (g.F.Functions.scalar c.args.functions.now) (g.F.Functions.step c.args.functions.now) (g.F.Functions.finish c.args.functions.now) (g.F.Functions.order_of c.args.functions.now) (g.F.Functions.orders_total c.args.functions.now) has in
    let taken : is_some (module_in ms c.args.def.now.name) ≡ true = ap (λ (n : List ℕ). is_some (module_in ms n)) (sym c.as_str.ensures.value) ∙ sym c.has.ensures ∙ c.if-has.true in
    record {
      was_honest = λ h. h;
      was_clean = λ h. h;
      stays_clean = λ h k w. k;
      answers = λ clean. told l.has_collation (g.C.Cells.holding c.args.self.now.session.0) c.args.self.now.session.1 ms c.args.def.now c.of_taken_name.result taken c.of_taken_name.ensures.told;
      leaves = λ clean m e. e;
    }

pub returns-clause-does : goal.returns-clause-does
returns-clause-does g c = λ has host.
    let ms : List ModuleState = map (λ r. made r.name (g.M.Module.columns_of r.host) (g.M.Module.rows_of r.host) (g.M.Module.updated r.host)) c.args.self.now.modules.list.items in
    let l : Language Statement Ordered = spoken (g.F.Functions.function_of c.args.functions.now) (g.F.Functions.scalar c.args.functions.now) (g.F.Functions.step c.args.functions.now) (g.F.Functions.finish c.args.functions.now) (g.F.Functions.order_of c.args.functions.now) (g.F.Functions.orders_total c.args.functions.now) has in
    let free : is_some (module_in ms c.args.def.now.name) ≡ false = ap (λ (n : List ℕ). is_some (module_in ms n)) (sym c.as_str.ensures.value) ∙ sym c.has.ensures ∙ c.if-has.false in
    let d = c.define.ensures.does has host in
    record {
      was_honest = d.was_honest;
      was_clean = d.was_clean;
      stays_clean = d.stays_clean;
      answers = λ clean. done_beside l.has_collation (g.C.Cells.holding c.args.self.now.session.0) c.args.self.now.session.1 ms c.args.def.now _ free (d.answers clean);
      leaves = λ clean. left_beside l host ms (standing g.C.Cells.holding c.args.self.now.session) (standing g.C.Cells.holding c.define.new.self) c.args.def.now c.define.result (d.leaves clean);
    }
