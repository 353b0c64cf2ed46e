use Rattle.std.proofs.Common.{◌∙◌, Some, sym, ap}
use Rattle.cr_lattice.specs.Check.{same_bytes}
use Rattle.cr_session.specs.Sessions.{standing, unless}
use Rattle.cr_session.proofs.Takings.{at_once_inside, at_once_outside, own_is}
use Rattle.cr_session.proofs.session.Session.check_peer.Goals as goal

pub returns-then-in_transaction-clause-told : goal.returns-then-in_transaction-clause-told
returns-then-in_transaction-clause-told g c = λ version clean.
    sym (ap unless (at_once_inside (standing g.C.Cells.holding c.args.self.now) (Some (c.args.site.now, version)) (sym c.in_transaction.ensures ∙ c.if-in_transaction.true)))

pub returns-then-same_bytes-clause-told : goal.returns-then-same_bytes-clause-told
returns-then-same_bytes-clause-told g c = λ version clean.
    let st = standing g.C.Cells.holding c.args.self.now in
    sym (ap unless (at_once_outside st (Some (c.args.site.now, version)) (sym c.in_transaction.ensures ∙ c.if-in_transaction.false)
    ∙ own_is st c.args.site.now version _ (ap (same_bytes c.args.site.now) (sym (c.site_id.ensures clean)) ∙ sym c.same_bytes.ensures ∙ c.if-same_bytes.true)))

pub returns-clause-told : goal.returns-clause-told
returns-clause-told g c = λ version clean.
    let st = standing g.C.Cells.holding c.args.self.now in
    sym (ap unless (at_once_outside st (Some (c.args.site.now, version)) (sym c.in_transaction.ensures ∙ c.if-in_transaction.false)
    ∙ own_is st c.args.site.now version _ (ap (same_bytes c.args.site.now) (sym (c.site_id.ensures clean)) ∙ sym c.same_bytes.ensures ∙ c.if-same_bytes.false)))
