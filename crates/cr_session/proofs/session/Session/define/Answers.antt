use Rattle.std.proofs.Common.{◌≡◌, ◌∙◌, List, Option, false, sym, ap, option_map}
use Rattle.std.specs.Prelude.{is_some}
use Rattle.cr_lattice.specs.declared.change.Change.{Change}
use Rattle.cr_session.specs.Sessions.{SessionOf}
use Rattle.cr_session.proofs.Defining.{define_done, define_refused}
use Rattle.cr_session.proofs.Scripting.{collations_are}
use Rattle.cr_session.proofs.session.Session.define.Goals.{in-Ok, in-Err}
use Rattle.cr_session.proofs.session.Session.define.Goals as goal

pub returns-clause-does : goal.returns-clause-does
returns-clause-does g c = λ has host.
    let pending : Option (List Change) = option_map (λ p. p.1) c.self.inside.pending in
    let none : is_some pending ≡ false = ap (λ (s : SessionOf g.row.C.Denot). is_some s.1) c.self.view_is ∙ sym c.in_transaction.ensures ∙ c.if-in_transaction.false in
    let known = collations_are (g.F.Functions.function_of c.args.functions.now) (g.F.Functions.scalar c.args.functions.now) (g.F.Functions.step c.args.functions.now) (g.F.Functions.finish c.args.functions.now)
    (g.F.Functions.order_of c.args.functions.now) (g.F.Functions.orders_total c.args.functions.now) has in
    elim c.match-define.branch [
      | in-Ok w ↦ rw w.result-is (rw (← c.self.view_is)
          (define_done _ host g.C.Cells.is_honest g.C.Cells.is_clean g.C.Cells.holding c.self.inside.replica c.define.new.self pending c.args.def.now _ known c.define.ensures.device.was_honest c.define.ensures.device.was_clean none
          (λ honest clean. w.in-Ok.ensures.device.stays_clean honest clean) w.in-Ok.ensures.defines))
      | in-Err w ↦ rw w.result-is (rw (← c.self.view_is)
          (define_refused _ host g.C.Cells.is_honest g.C.Cells.is_clean g.C.Cells.holding c.self.inside.replica c.define.new.self pending c.args.def.now _ known c.define.ensures.device.was_honest c.define.ensures.device.was_clean none
          w.in-Err.error w.of_definition.result (λ honest clean. w.in-Err.ensures.device.stays_clean honest clean) w.in-Err.ensures.defines w.of_definition.ensures.told))
    ]
