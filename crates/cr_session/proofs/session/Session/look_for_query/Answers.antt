use Rattle.std.proofs.Common.{rules, ◌∙◌, ℤ, sym, subst, map, w64, to_z-of_z}
use Rattle.cr_scalar.specs.Host.{Host as Means, host}
use Rattle.cr_snapshot.specs.Seen.{name_of}
use Rattle.cr_session.specs.declared.filtering.Seen.TheVariants as seen
use Rattle.cr_session.specs.Lookup.{IsSeenAbove, Looks, ShowsTables, in_order}
use Rattle.cr_session.specs.Scans.{IsQueryLook, Serves}
use Rattle.cr_session.specs.Sessions.{standing}
use Rattle.cr_session.proofs.ByKey.{empty_is, one_of, query_joined}
use Rattle.cr_session.proofs.Joins.{finds_for}
use Rattle.cr_session.proofs.Newest.{query_above, renewed}
use Rattle.cr_session.proofs.Scanning.{query_served, seen_as}
use Rattle.cr_session.proofs.session.Session.look_for_query.Goals as goal

pub returns-in_default-clause-finds : goal.returns-in_default-clause-finds
returns-in_default-clause-finds g c = λ clean.
    let by : Means = host (g.F.Functions.function_of c.args.functions.now) (g.F.Functions.scalar c.args.functions.now) (g.F.Functions.step c.args.functions.now) (g.F.Functions.finish c.args.functions.now) (g.F.Functions.order_of c.args.functions.now) in
    let st = standing g.C.Cells.holding c.args.self.now in
    let looked = c.see_joined.ensures.looks clean in
    seen_as seen.Kept (ShowsTables st (in_order (map name_of c.as_slice-in_default.result.now))) (Serves by c.args.params.now c.args.query.now st) st (standing g.C.Cells.holding c.see_joined.new.self) c.see_joined.result c.map.result c.map.ensures.cases
    (λ s l. query_joined by c.args.params.now (g.C.Cells.holding c.args.self.now.0) (c.requires.sound (c.see_joined.ensures.device.was_clean clean)) c.args.self.now.1 s c.args.query.now c.as_slice-in_default.result.now c.as_slice-in_default.ensures l)
    looked.same looked.looks

pub returns-then-joined-clause-finds : goal.returns-then-joined-clause-finds
returns-then-joined-clause-finds g c = λ clean.
    let by : Means = host (g.F.Functions.function_of c.args.functions.now) (g.F.Functions.scalar c.args.functions.now) (g.F.Functions.step c.args.functions.now) (g.F.Functions.finish c.args.functions.now) (g.F.Functions.order_of c.args.functions.now) in
    let st = standing g.C.Cells.holding c.args.self.now in
    let looked = c.see_joined-then-joined.ensures.looks clean in
    seen_as seen.Kept (ShowsTables st (in_order (map name_of c.as_slice-then-joined.result.now))) (Serves by c.args.params.now c.args.query.now st) st (standing g.C.Cells.holding c.see_joined-then-joined.new.self) c.see_joined-then-joined.result c.map-then-joined.result c.map-then-joined.ensures.cases
    (λ s l. query_joined by c.args.params.now (g.C.Cells.holding c.args.self.now.0) (c.requires.sound (c.see_joined-then-joined.ensures.device.was_clean clean)) c.args.self.now.1 s c.args.query.now c.as_slice-then-joined.result.now c.as_slice-then-joined.ensures l)
    looked.same looked.looks

pub returns-in-Some-clause-finds : goal.returns-in-Some-clause-finds
returns-in-Some-clause-finds g c = λ clean.
    let by : Means = host (g.F.Functions.function_of c.args.functions.now) (g.F.Functions.scalar c.args.functions.now) (g.F.Functions.step c.args.functions.now) (g.F.Functions.finish c.args.functions.now) (g.F.Functions.order_of c.args.functions.now) in
    let st = standing g.C.Cells.holding c.args.self.now in
    let was = c.see_above.ensures.device.was_clean clean in
    let new = standing g.C.Cells.holding c.see_above.new.self in
    let looked = subst (λ (v : ℤ). Looks (IsSeenAbove st v) st new c.see_above.result) (to_z-of_z {w = w64} {z = c.in-Some.version} (search rules)) (c.see_above.ensures.sees clean) in
    seen_as seen.Kept (IsSeenAbove st c.in-Some.version) (Serves by c.args.params.now c.args.query.now st) st new c.see_above.result c.map-in-Some.result c.map-in-Some.ensures.cases
    (λ s l. query_above by c.args.params.now st c.as_str-name.result.now c.as_slice-terms.result.now c.in-Some.version
    (renewed c.args.params.now _ _ c.as_str-name.result.now c.as_slice-terms.result.now c.in-Some.version (c.as_slice-tables.ensures ∙ (c.requires.named was).tables) (c.in_ok-version.ensures c.in-Some.version c.in-Some.is)) s l c.args.query.now c.joined-item.result
    (sym c.as_slice.ensures ∙ one_of c.as_slice.result.now c.joined-item.result c.in-len1.len_at_least c.in-len1.len_below c.joined-item.is) c.if-joined.false (sym c.as_str-name.ensures.value) (sym c.as_slice-terms.ensures))
    looked.same looked.looks

pub returns-in-None-clause-finds : goal.returns-in-None-clause-finds
returns-in-None-clause-finds g c = λ clean.
    let by : Means = host (g.F.Functions.function_of c.args.functions.now) (g.F.Functions.scalar c.args.functions.now) (g.F.Functions.step c.args.functions.now) (g.F.Functions.finish c.args.functions.now) (g.F.Functions.order_of c.args.functions.now) in
    let st = standing g.C.Cells.holding c.args.self.now in
    let was = c.look_once.ensures.device.was_clean clean in
    finds_for (IsQueryLook by c.args.params.now st c.as_str-name.result.now c.args.query.now) (Serves by c.args.params.now c.args.query.now st) _ _ c.look_once.result
    (λ x look. query_served by c.args.params.now (g.C.Cells.holding c.args.self.now.0) (c.requires.sound was) c.args.self.now.1 x c.args.query.now c.joined-item.result c.as_str-name.result.now
    (sym c.as_slice.ensures ∙ one_of c.as_slice.result.now c.joined-item.result c.in-len1.len_at_least c.in-len1.len_below c.joined-item.is) c.if-joined.false
    (sym c.as_slice-else-joined.ensures ∙ empty_is c.as_slice-else-joined.result.now (sym c.is_empty.ensures ∙ c.if-not-is_empty.false)) c.as_str-name.ensures.value look)
    (c.look_once.ensures.finds clean)
