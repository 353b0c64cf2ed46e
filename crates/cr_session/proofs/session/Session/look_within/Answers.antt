use Rattle.std.proofs.Common.{◌∷◌, [], ℕ, List, subst}
use Rattle.cr_scalar.specs.Host.{Host as Means, host}
use Rattle.cr_session.specs.Lookup.{IsSeenAt, Looks, ShowsTables}
use Rattle.cr_session.specs.Sessions.{standing}
use Rattle.cr_session.proofs.ByKey.{looked_at, looked_in, looks_from}
use Rattle.cr_session.proofs.session.Session.look_within.Goals as goal

pub returns-in-Ok-Some-clause-looks : goal.returns-in-Ok-Some-clause-looks
returns-in-Ok-Some-clause-looks g c = λ clean.
    let by : Means = host (g.F.Functions.function_of c.args.functions.now) (g.F.Functions.scalar c.args.functions.now) (g.F.Functions.step c.args.functions.now) (g.F.Functions.finish c.args.functions.now) (g.F.Functions.order_of c.args.functions.now) in
    let st = standing g.C.Cells.holding c.args.self.now in
    let new = standing g.C.Cells.holding c.see_at.new.self in
    let found = c.in-Ok-Some.ensures.finds (c.see_at.ensures.device.was_clean clean) in
    looked_at by c.args.params.now st new c.args.name.now c.args.terms.now c.in-Ok-Some.keys.items c.see_at.result (found.finds c.in-Ok-Some.keys c.in-Ok-Some.field-0-is)
    (looks_from (λ at. IsSeenAt at c.args.name.now c.in-Ok-Some.keys.items) st (standing g.C.Cells.holding c.passing_keys.new.self) new c.see_at.result found.same
    (subst (λ (keys : List (List ℕ)). Looks (IsSeenAt (standing g.C.Cells.holding c.passing_keys.new.self) c.args.name.now keys) (standing g.C.Cells.holding c.passing_keys.new.self) new c.see_at.result) c.deref.ensures.value (c.see_at.ensures.sees clean)))

pub returns-in-Ok-None-clause-looks : goal.returns-in-Ok-None-clause-looks
returns-in-Ok-None-clause-looks g c = λ clean.
    let by : Means = host (g.F.Functions.function_of c.args.functions.now) (g.F.Functions.scalar c.args.functions.now) (g.F.Functions.step c.args.functions.now) (g.F.Functions.finish c.args.functions.now) (g.F.Functions.order_of c.args.functions.now) in
    let st = standing g.C.Cells.holding c.args.self.now in
    let new = standing g.C.Cells.holding c.see_table.new.self in
    let found = c.in-Ok-None.ensures.finds (c.see_table.ensures.device.was_clean clean) in
    looked_in by c.args.params.now st new c.args.name.now c.args.terms.now c.see_table.result
    (looks_from (λ at. ShowsTables at (c.args.name.now ∷ [])) st (standing g.C.Cells.holding c.passing_keys.new.self) new c.see_table.result found.same (c.see_table.ensures.looks clean))
