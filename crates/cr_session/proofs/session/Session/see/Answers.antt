use Rattle.std.proofs.Common.{◌∙◌, ap, option_map}
use Rattle.cr_lattice.specs.Keep.{join}
use Rattle.cr_session.proofs.Seeing.{kept_joined, sees_inside, sees_outside}
use Rattle.cr_session.proofs.session.Session.see.Goals as goal

pub returns-in_default-clause-sees : goal.returns-in_default-clause-sees
returns-in_default-clause-sees g c = λ clean.
    sees_outside g.C.Cells.holding c.args.self.now c.self.inside.replica c.complete.new.self (option_map (λ p. p.1) c.self.inside.pending) c.self.view_is c.args.names c.in-Ok.snapshot
    (c.requires.named (rw (← c.self.view_is) (c.in-Ok.ensures.device.was_clean clean))) c.in-Ok.ensures.names (c.in-Ok.ensures.reads clean) (ap (option_map (λ p. p.1)) c.in_default.is)

pub returns-clause-sees : goal.returns-clause-sees
returns-clause-sees g c = λ clean.
    sees_inside g.C.Cells.holding c.args.self.now c.self.inside.replica c.complete.new.self (option_map (λ p. p.1) c.self.inside.pending) c.self.view_is c.args.names c.in-Ok.snapshot
    (c.requires.named (rw (← c.self.view_is) (c.in-Ok.ensures.device.was_clean clean))) c.in-Ok.ensures.names (c.in-Ok.ensures.reads clean)
    c.in-Some.pending.1 c.new.result (ap (option_map (λ p. p.1)) c.in-Some.is) (c.new.ensures ∙ c.in_ok-kept.ensures ∙ (λ i. join (c.as_slice.ensures i) (c.changes.ensures i)))

pub returns-clause-kept : goal.returns-clause-kept
returns-clause-kept g c =
    kept_joined c.in-Ok.snapshot.kept c.in-Some.pending.1 c.new.result (c.new.ensures ∙ c.in_ok-kept.ensures ∙ (λ i. join (c.as_slice.ensures i) (c.changes.ensures i)))
