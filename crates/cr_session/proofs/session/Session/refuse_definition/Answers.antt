use Rattle.std.proofs.Common.{◌≡◌, ◌∙◌, List, Option, true, sym, ap, option_map}
use Rattle.std.specs.Prelude.{is_some}
use Rattle.cr_lattice.specs.declared.change.Change.{Change}
use Rattle.cr_session.specs.Sessions.{SessionOf}
use Rattle.cr_session.proofs.Defining.{define_forbidden, define_forbidden_first, define_against}
use Rattle.cr_session.proofs.Scripting.{collations_are}
use Rattle.cr_session.proofs.session.Session.refuse_definition.Goals as goal

pub returns-in-Ok-accept-clause-does : goal.returns-in-Ok-accept-clause-does
returns-in-Ok-accept-clause-does g c = λ has host.
    let pending : Option (List Change) = option_map (λ p. p.1) c.self.inside.pending in
    let some : is_some pending ≡ true = ap (λ (s : SessionOf g.row.C.Denot). is_some s.1) c.self.view_is ∙ c.requires in
    let known = collations_are (g.F.Functions.function_of c.args.functions.now) (g.F.Functions.scalar c.args.functions.now) (g.F.Functions.step c.args.functions.now) (g.F.Functions.finish c.args.functions.now)
    (g.F.Functions.order_of c.args.functions.now) (g.F.Functions.orders_total c.args.functions.now) has in
    rw (← c.self.view_is)
    (define_forbidden _ host g.C.Cells.is_honest g.C.Cells.is_clean g.C.Cells.holding c.self.inside.replica c.names.new.self pending c.args.def.now _ known c.names.ensures.device.was_honest c.names.ensures.device.was_clean some
    (λ honest clean. c.in-Ok.ensures.device.stays_clean honest clean) (λ clean. (c.in-Ok.ensures.reads clean).same) c.as_slice.result.now (λ clean. c.as_slice.ensures ∙ (c.in-Ok.ensures.reads clean).answers.tables)
    c.in-Ok-accept.ensures)

pub returns-clause-does : goal.returns-clause-does
returns-clause-does g c = λ has host.
    let pending : Option (List Change) = option_map (λ p. p.1) c.self.inside.pending in
    let some : is_some pending ≡ true = ap (λ (s : SessionOf g.row.C.Denot). is_some s.1) c.self.view_is ∙ c.requires in
    let known = collations_are (g.F.Functions.function_of c.args.functions.now) (g.F.Functions.scalar c.args.functions.now) (g.F.Functions.step c.args.functions.now) (g.F.Functions.finish c.args.functions.now)
    (g.F.Functions.order_of c.args.functions.now) (g.F.Functions.orders_total c.args.functions.now) has in
    rw (← c.self.view_is)
    (define_forbidden_first _ host g.C.Cells.is_honest g.C.Cells.is_clean g.C.Cells.holding c.self.inside.replica c.names.new.self pending c.args.def.now _ known c.names.ensures.device.was_honest c.names.ensures.device.was_clean some
    (λ honest clean. c.in-Ok.ensures.device.stays_clean honest clean) (λ clean. (c.in-Ok.ensures.reads clean).same) c.as_slice.result.now (λ clean. c.as_slice.ensures ∙ (c.in-Ok.ensures.reads clean).answers.tables)
    c.in-Err-accept.error (sym c.is_early.ensures ∙ c.if-is_early.false) c.in-Err-accept.ensures.1)

pub returns-then-is_early-clause-does : goal.returns-then-is_early-clause-does
returns-then-is_early-clause-does g c = λ has host.
    let pending : Option (List Change) = option_map (λ p. p.1) c.self.inside.pending in
    let some : is_some pending ≡ true = ap (λ (s : SessionOf g.row.C.Denot). is_some s.1) c.self.view_is ∙ c.requires in
    let known = collations_are (g.F.Functions.function_of c.args.functions.now) (g.F.Functions.scalar c.args.functions.now) (g.F.Functions.step c.args.functions.now) (g.F.Functions.finish c.args.functions.now)
    (g.F.Functions.order_of c.args.functions.now) (g.F.Functions.orders_total c.args.functions.now) has in
    rw (← c.self.view_is)
    (define_against _ host g.C.Cells.is_honest g.C.Cells.is_clean g.C.Cells.holding c.self.inside.replica c.names.new.self pending c.args.def.now _ known c.names.ensures.device.was_honest c.names.ensures.device.was_clean some
    (λ honest clean. c.in-Ok.ensures.device.stays_clean honest clean) (λ clean. (c.in-Ok.ensures.reads clean).same) c.as_slice.result.now (λ clean. c.as_slice.ensures ∙ (c.in-Ok.ensures.reads clean).answers.tables)
    c.in-Err-accept.error c.of_definition.result (sym c.is_early.ensures ∙ c.if-is_early.true) c.in-Err-accept.ensures.1 c.of_definition.ensures.told)
