use Rattle.std.proofs.Common.{List, Ok, map, refl, subst}
use Rattle.cr_term.specs.declared.query.Resolved.TheVariants as r
use Rattle.cr_query.specs.Query.{Row}
use Rattle.cr_scalar.specs.Host.{Host as Means, host}
use Rattle.cr_meaning.specs.Meaning.{strict}
use Rattle.cr_language.specs.Sql.{view}
use Rattle.cr_snapshot.specs.Seen.{name_of}
use Rattle.cr_world.specs.State.{tables_named}
use Rattle.cr_session.specs.Scans.{Serves}
use Rattle.cr_session.specs.Sessions.{standing}
use Rattle.cr_session.proofs.Looking.{looks, unseen}
use Rattle.cr_session.proofs.Selecting.{performs_select, said_found}
use Rattle.cr_session.proofs.session.Session.select.Goals as goal

pub returns-in-Ok-Kept : goal.returns-in-Ok-Kept
returns-in-Ok-Kept g c = λ for.
    let by : Means = host (g.F.Functions.function_of c.args.functions.now) (g.F.Functions.scalar c.args.functions.now) (g.F.Functions.step c.args.functions.now) (g.F.Functions.finish c.args.functions.now) (g.F.Functions.order_of c.args.functions.now) in
    let st = standing g.C.Cells.holding c.args.self.now in
    looks by c.args.params.now for g.C.Cells.is_honest g.C.Cells.is_clean g.C.Cells.holding c.args.self.now c.look_for_query.new.self (r.Select c.args.query.now) c.look_for_query.ensures.device.was_honest c.look_for_query.ensures.device.was_clean (λ clean. (c.in-Ok-Kept.ensures.finds clean).same)
    c.answered.result c.in-Ok-Kept.ensures.device.stays_clean
    (λ clean.
    let served = subst (Serves by c.args.params.now c.args.query.now st) c.in-Ok-Kept.field-0-is (c.in-Ok-Kept.ensures.finds clean).finds in
    said_found by c.args.params.now for st (view (r.Select c.args.query.now)) c.answered.result st (c.answered.ensures.says for st (λ most limit. served (strict most) limit)) (c.answered.ensures.finds for st served))

pub returns-in-Ok-Rows : goal.returns-in-Ok-Rows
returns-in-Ok-Rows g c = λ for.
    let by : Means = host (g.F.Functions.function_of c.args.functions.now) (g.F.Functions.scalar c.args.functions.now) (g.F.Functions.step c.args.functions.now) (g.F.Functions.finish c.args.functions.now) (g.F.Functions.order_of c.args.functions.now) in
    let st = standing g.C.Cells.holding c.args.self.now in
    looks by c.args.params.now for g.C.Cells.is_honest g.C.Cells.is_clean g.C.Cells.holding c.args.self.now c.look_for_query.new.self (r.Select c.args.query.now) c.look_for_query.ensures.device.was_honest c.look_for_query.ensures.device.was_clean (λ clean. (c.in-Ok-Rows.ensures.finds clean).same)
    c.answered_of.result c.in-Ok-Rows.ensures.device.stays_clean
    (λ clean.
    let served = subst (Serves by c.args.params.now c.args.query.now st) c.in-Ok-Rows.field-0-is (c.in-Ok-Rows.ensures.finds clean).finds in
    c.answered_of.ensures for _ served.0 served.1)

pub returns-in-Ok-Answer : goal.returns-in-Ok-Answer
returns-in-Ok-Answer g c = λ for.
    let by : Means = host (g.F.Functions.function_of c.args.functions.now) (g.F.Functions.scalar c.args.functions.now) (g.F.Functions.step c.args.functions.now) (g.F.Functions.finish c.args.functions.now) (g.F.Functions.order_of c.args.functions.now) in
    let st = standing g.C.Cells.holding c.args.self.now in
    let tables : List (List Row) = tables_named st (map name_of c.args.query.now.joined) in
    looks by c.args.params.now for g.C.Cells.is_honest g.C.Cells.is_clean g.C.Cells.holding c.args.self.now c.look_for_query.new.self (r.Select c.args.query.now) c.look_for_query.ensures.device.was_honest c.look_for_query.ensures.device.was_clean (λ clean. (c.in-Ok-Answer.ensures.finds clean).same)
    _ c.in-Ok-Answer.ensures.device.stays_clean
    (λ clean. performs_select by c.args.params.now for st tables c.args.query.now (λ regard limit. refl) (Ok c.in-Ok-Answer.answer) _
    (subst (Serves by c.args.params.now c.args.query.now st) c.in-Ok-Answer.field-0-is (c.in-Ok-Answer.ensures.finds clean).finds) refl)

pub returns-in-Err : goal.returns-in-Err
returns-in-Err g c = λ for.
    let by : Means = host (g.F.Functions.function_of c.args.functions.now) (g.F.Functions.scalar c.args.functions.now) (g.F.Functions.step c.args.functions.now) (g.F.Functions.finish c.args.functions.now) (g.F.Functions.order_of c.args.functions.now) in
    let st = standing g.C.Cells.holding c.args.self.now in
    unseen by c.args.params.now for g.C.Cells.is_honest g.C.Cells.is_clean g.C.Cells.holding c.args.self.now c.look_for_query.new.self (r.Select c.args.query.now) c.look_for_query.ensures.device.was_honest c.look_for_query.ensures.device.was_clean (λ clean. (c.in-Err.ensures.finds clean).same)
    c.in-Err.error c.from.result c.from.ensures refl c.in-Err.ensures.device.stays_clean (λ clean. (c.in-Err.ensures.finds clean).finds)
