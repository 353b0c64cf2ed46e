use Rattle.std.proofs.Common.{◌∙◌, ℕ, List, subst}
use Rattle.cr_term.specs.declared.expr.Expr.{Expr}
use Rattle.cr_scalar.specs.Host.{Host as Means, host}
use Rattle.cr_session.specs.declared.filtering.Seen.TheVariants as seen
use Rattle.cr_session.specs.Lookup.{IsLook, IsSeenAt, Looks}
use Rattle.cr_session.specs.Scans.{IsQueryLook, IsScan}
use Rattle.cr_session.specs.Sessions.{standing}
use Rattle.cr_session.proofs.ByKey.{looked_at, retabled, sought_within}
use Rattle.cr_session.proofs.Joins.{finds_for}
use Rattle.cr_session.proofs.Scanning.{scan_looked, seen_as}
use Rattle.cr_session.proofs.session.Session.look_once.Goals as goal

pub returns-in-Some-clause-finds : goal.returns-in-Some-clause-finds
returns-in-Some-clause-finds g c = λ clean.
    let by : Means = host (g.F.Functions.function_of c.args.functions.now) (g.F.Functions.scalar c.args.functions.now) (g.F.Functions.step c.args.functions.now) (g.F.Functions.finish c.args.functions.now) (g.F.Functions.order_of c.args.functions.now) in
    let st = standing g.C.Cells.holding c.args.self.now in
    let new = standing g.C.Cells.holding c.see_at.new.self in
    let terms = c.as_slice-2.result.now in
    let was = c.see_at.ensures.device.was_clean clean in
    let looked = looked_at by c.args.params.now st new c.args.name.now terms c.in-Some.keys.items c.see_at.result
    (sought_within by c.args.params.now (g.C.Cells.holding c.args.self.now.0) (c.requires.sound was) c.args.self.now.1 c.args.name.now terms c.in-Some.keys.items
    (retabled by c.args.params.now _ _ _ c.args.name.now terms c.in-Some.keys.items (c.as_slice.ensures ∙ (c.requires.named was).tables) (c.in_ok-keys.ensures c.in-Some.keys c.in-Some.is)))
    (subst (λ (keys : List (List ℕ)). Looks (IsSeenAt st c.args.name.now keys) st new c.see_at.result) c.deref.ensures.value (c.see_at.ensures.sees clean)) in
    seen_as seen.Kept (IsLook by c.args.params.now st c.args.name.now terms) (IsQueryLook by c.args.params.now st c.args.name.now c.args.query.now) st new c.see_at.result c.map.result c.map.ensures.cases
    (λ s look. subst (λ (ts : List Expr). IsLook by c.args.params.now st c.args.name.now ts s) c.as_slice-2.ensures look) looked.same looked.looks

pub returns-in-None-clause-finds : goal.returns-in-None-clause-finds
returns-in-None-clause-finds g c = λ clean.
    let by : Means = host (g.F.Functions.function_of c.args.functions.now) (g.F.Functions.scalar c.args.functions.now) (g.F.Functions.step c.args.functions.now) (g.F.Functions.finish c.args.functions.now) (g.F.Functions.order_of c.args.functions.now) in
    let st = standing g.C.Cells.holding c.args.self.now in
    finds_for (IsScan by c.args.params.now st c.args.name.now c.args.query.now) (IsQueryLook by c.args.params.now st c.args.name.now c.args.query.now) _ _ c.look_filtered.result
    (scan_looked by c.args.params.now st c.args.name.now c.args.query.now) (c.look_filtered.ensures.finds clean)
