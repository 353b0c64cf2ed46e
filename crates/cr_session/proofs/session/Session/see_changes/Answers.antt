use Rattle.std.proofs.Common.{◌∙◌, ap, option_map}
use Rattle.cr_lattice.specs.Keep.{join}
use Rattle.cr_session.proofs.OfTables.{tables_seen_inside, tables_seen_outside}
use Rattle.cr_session.proofs.Seeing.{kept_joined}
use Rattle.cr_session.proofs.session.Session.see_changes.Goals as goal

pub returns-in_default-clause-sees : goal.returns-in_default-clause-sees
returns-in_default-clause-sees g c = λ clean.
    tables_seen_outside (λ v. v.items) g.C.Cells.holding c.args.self.now c.self.inside.replica c.kept_of_tables.new.self (option_map (λ p. p.1) c.self.inside.pending) c.self.view_is c.args.tables.now c.in-Ok.kept
    (rw (← c.self.view_is) at c.requires.sound (c.in-Ok.ensures.device.was_clean clean)) (c.in-Ok.ensures.reads clean) (ap (option_map (λ p. p.1)) c.in_default.is)

pub returns-clause-sees : goal.returns-clause-sees
returns-clause-sees g c = λ clean.
    tables_seen_inside (λ v. v.items) g.C.Cells.holding c.args.self.now c.self.inside.replica c.kept_of_tables.new.self (option_map (λ p. p.1) c.self.inside.pending) c.self.view_is c.args.tables.now c.in-Ok.kept _
    c.in-Some.pending.1 (rw (← c.self.view_is) at c.requires.sound (c.in-Ok.ensures.device.was_clean clean)) (c.in-Ok.ensures.reads clean) (ap (option_map (λ p. p.1)) c.in-Some.is)
    (c.in_ok-merge.ensures ∙ (λ i. join (c.deref.ensures.value i) ((c.deref-2.ensures.value ∙ c.in_ok-more.ensures) i)))

pub returns-clause-kept : goal.returns-clause-kept
returns-clause-kept g c = kept_joined c.deref.result.now c.deref-2.result.now c.in_ok-merge.field-0.items c.in_ok-merge.ensures
