use Rattle.std.proofs.Common.{◌∙◌, ℕ, List, subst}
use Rattle.cr_session.specs.Lookup.{IsSeenAt, Looks}
use Rattle.cr_session.specs.Sessions.{standing}
use Rattle.cr_session.proofs.ByKey.{looked_at, retabled, sought_within}
use Rattle.cr_session.proofs.session.Session.look.Goals as goal

pub returns-in-Some-clause-looks : goal.returns-in-Some-clause-looks
returns-in-Some-clause-looks g c = λ clean.
    let was = c.see_at.ensures.device.was_clean clean in
    looked_at _ c.args.params.now (standing g.C.Cells.holding c.args.self.now) (standing g.C.Cells.holding c.see_at.new.self) c.args.name.now c.args.terms.now c.in-Some.keys.items c.see_at.result
    (sought_within _ c.args.params.now (g.C.Cells.holding c.args.self.now.0) (c.requires.sound was) c.args.self.now.1 c.args.name.now c.args.terms.now c.in-Some.keys.items
    (retabled _ c.args.params.now _ _ _ c.args.name.now c.args.terms.now c.in-Some.keys.items (c.as_slice.ensures ∙ (c.requires.named was).tables) (c.in_ok-keys.ensures c.in-Some.keys c.in-Some.is)))
    (subst (λ (keys : List (List ℕ)). Looks (IsSeenAt (standing g.C.Cells.holding c.args.self.now) c.args.name.now keys) (standing g.C.Cells.holding c.args.self.now) (standing g.C.Cells.holding c.see_at.new.self) c.see_at.result)
    c.deref.ensures.value (c.see_at.ensures.sees clean))
