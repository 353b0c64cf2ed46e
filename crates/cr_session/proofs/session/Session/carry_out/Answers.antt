use Rattle.std.proofs.Common.{rules, []}
use Rattle.cr_guard.specs.Guard.{asked}
use Rattle.cr_answer.specs.Allowing.{known_by}
use Rattle.cr_fit.proofs.Suiting.{resolved_suit}
use Rattle.cr_session.specs.Sessions.{clean, honest, standing}
use Rattle.cr_session.proofs.Carrying.{carries_performed, form_is, performed_alone, refuses_allowed, unread_refuses}
use Rattle.cr_session.proofs.session.Session.carry_out.Goals as goal

pub returns-in-Err-allowed-clause-carries : goal.returns-in-Err-allowed-clause-carries
returns-in-Err-allowed-clause-carries g c = λ has names.
    refuses_allowed _ _ _ _ _ _ has _ names _ (honest g.C.Cells.is_honest) (clean g.C.Cells.is_clean) (standing g.C.Cells.holding) c.args.params.now _ _ c.args.statement.now c.in-Ok.names c.in-Err-allowed.refusal
    c.in-Ok.ensures.device.was_honest c.in-Ok.ensures.device.was_clean c.in-Ok.ensures.device.stays_clean c.in-Ok.ensures.names c.in-Err-allowed.ensures

pub perform-reply-requires-clause-suits : goal.perform-reply-requires-clause-suits
perform-reply-requires-clause-suits g c =
    resolved_suit (known_by (g.F.Functions.function_of c.args.functions.now) (g.F.Functions.names_function c.args.functions.now) (g.F.Functions.order_of c.args.functions.now) c.in-Ok.names)
    (asked (g.G.Guarding.rules c.args.guard.now) (g.G.Guarding.allows c.args.guard.now)) c.args.statement.now c.in-Ok-allowed.resolved c.requires.folded c.in-Ok-allowed.ensures.0

pub perform-reply-requires-clause-form : goal.perform-reply-requires-clause-form
perform-reply-requires-clause-form g c =
    form_is (known_by (g.F.Functions.function_of c.args.functions.now) (g.F.Functions.names_function c.args.functions.now) (g.F.Functions.order_of c.args.functions.now) c.in-Ok.names)
    (asked (g.G.Guarding.rules c.args.guard.now) (g.G.Guarding.allows c.args.guard.now)) c.args.statement.now c.in-Ok-allowed.resolved (search rules) c.in-Ok-allowed.ensures.0

pub returns-in-Err-clause-carries : goal.returns-in-Err-clause-carries
returns-in-Err-clause-carries g c = λ has names.
    unread_refuses _ _ _ _ _ _ has _ names _ (honest g.C.Cells.is_honest) (clean g.C.Cells.is_clean) (standing g.C.Cells.holding) c.args.params.now c.args.self.now c.names.new.self c.args.statement.now c.in-Err.error c.from.result c.from.ensures (search rules)
    c.names.ensures.device.was_honest c.names.ensures.device.was_clean c.in-Err.ensures.device.stays_clean c.in-Err.ensures.names

pub returns-then-is_transaction-clause-carries : goal.returns-then-is_transaction-clause-carries
returns-then-is_transaction-clause-carries g c = λ has names. c.transact.ensures.carries [] has names

pub returns-clause-carries : goal.returns-clause-carries
returns-clause-carries g c = λ has names.
    carries_performed _ _ _ _ _ _ has _ names _ (honest g.C.Cells.is_honest) (clean g.C.Cells.is_clean) (standing g.C.Cells.holding) c.args.params.now c.args.self.now c.names.new.self c.perform-reply.new.self c.args.statement.now c.in-Ok.names c.in-Ok-allowed.resolved c.perform-reply.result
    c.in-Ok.ensures.names c.in-Ok-allowed.ensures (performed_alone _ _ _ g.C.Cells.is_honest g.C.Cells.is_clean g.C.Cells.holding _ _ _ _ c.perform-reply.ensures.performs) c.in-Ok.ensures.device.was_honest c.in-Ok.ensures.device.was_clean c.in-Ok.ensures.device.stays_clean
